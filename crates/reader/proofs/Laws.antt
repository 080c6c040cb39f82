-- What the notes of a reading give: the counts fit into the lent tables, and the fills leave what is promised. By whether the file is accepted.
use Prim.Native.Nat.{ℕ, ◌≤◌, zero-le}
use mathlib.Core.Path.{◌≡◌, refl, sym, ap, subst}
use mathlib.Core.List.{List}
use native.Mathlib.Omega.{arith}
use native.Mathlib.Nat.{le_refl}
use lib.ListN.{length, replicate, length-replicate}
use Rattle.table_walks.specs.Filled.{filled_to}
use Rattle.rules.specs.Reading.{file_in}
use Rattle.layout.specs.Laid.{tables, counts_of}
use Rattle.records.specs.Bounds.{most_rows}
use Rattle.records.specs.Stored.{stored, over}
use Rattle.rules.specs.Whole.{Outcome, passed, refused, loading, texts_of}
use Rattle.records.specs.declared.Lending.{Lending}
use Rattle.records.specs.declared.Component.{Component}
use Rattle.records.specs.declared.Pin.{Pin}
use Rattle.records.specs.declared.Selector.{Selector}
use Rattle.records.specs.declared.Choice.{Choice}
use Rattle.records.specs.declared.Model.{Model}
use Rattle.records.specs.declared.Waveform.{Waveform}
use Rattle.records.specs.declared.Counts.{Counts}
use Rattle.notes.specs.Noted.{nothing_used}
use Rattle.note_words.specs.Store.{store_length}
use Rattle.from_notes.specs.Made.{component_at, pin_at, selector_at, choice_at, model_at, joined_to, waveforms_at, rows_at}
use Rattle.file_answer.specs.Answered.{answer_for, answer_in}
use Rattle.file_answer.specs.Sorted.{Sorted, LoadedFor, Loads}
use Rattle.records.specs.declared.Answer.{Answer}
use Rattle.reader.specs.Promise.{lending_in, Read}
use Rattle.reader.specs.Filling.{ModelsFit, ModelsFilled, blank_notes}
use Rattle.file_answer.proofs.Made.{file, fit, components-made, pins-made, selectors-made, choices-made, models-made, waveforms-made, rows_made, rows_fit}
use Rattle.reader.proofs.Tables.{over-filled}

abbrev FitsBy : List ℕ → List ℕ → Counts → List Component → List Pin → List Selector → List Choice → List Model → List Waveform → List ℕ → Type 0
FitsBy s ns o cs ps ss hs ms ws rs =
    (o.components ≤ length cs) × ((o.pins ≤ length ps) × ((o.selectors ≤ length ss) × ((o.choices ≤ length hs) × (ModelsFit s ns o ms ws rs))))

-- nothing is asked where nothing is used, and nothing changes
none-fit : (s ns : List ℕ) (ms : List Model) (ws : List Waveform) (rs : List ℕ) → ModelsFit s ns nothing_used ms ws rs
unfolding joined_to stored
none-fit s ns ms ws rs = record { models = zero-le; waveforms = zero-le; rows = zero-le }

none-waveforms : (s ns : List ℕ) (ws : List Waveform) → over ws (waveforms_at s ns 0) ≡ ws
unfolding joined_to over
none-waveforms s ns ws = refl

none_rows : (s ns rs : List ℕ) → over rs (stored (rows_at s ns 0)) ≡ rs
unfolding joined_to stored over
none_rows s ns rs = refl

module _ (s : List ℕ) (cs : List Component) (ps : List Pin) (ss : List Selector) (hs : List Choice) (ms : List Model) (ws : List Waveform) (rs : List ℕ) where
  abbrev l : Lending
  l = lending_in (tables cs ps ss hs ms ws rs)

  -- ---- an accepted file

  module _ (ns : List ℕ) (sorted : Sorted l.tables s ns) (enough : most_rows ≤ l.rows) where
    fits_whole : FitsBy s ns (counts_of (file l.tables s ns sorted)) cs ps ss hs ms ws rs
    fits_whole =
        let f = fit l.tables s ns sorted in
        (f.components, (f.pins, (f.selectors, (f.choices, record { models = f.models; waveforms = omega (arith, f.waveforms, ap length (waveforms-made l.tables s ns sorted)); rows = rows_fit l.tables s ns sorted rs enough }))))

  fits-for : (ns : List ℕ) (o : Outcome) → LoadedFor l s ns o → FitsBy s ns (answer_for (file_in (texts_of s)) o).counts cs ps ss hs ms ws rs
  fits-for ns (passed h) loaded = fits_whole ns loaded.0 loaded.1
  fits-for ns (refused n k c) u = (zero-le, (zero-le, (zero-le, (zero-le, none-fit s ns ms ws rs))))

  abbrev LeftBy : List ℕ → Answer → Type 0
  LeftBy n a =
      Read s cs ps ss hs ms ws rs a (filled_to (λ k. component_at s n k) a.counts.components cs) (filled_to (λ k. pin_at s n k) a.counts.pins ps) (filled_to (λ k. selector_at s n k) a.counts.selectors ss)
      (filled_to (λ k. choice_at s n k) a.counts.choices hs) (filled_to (λ k. model_at s n k) a.counts.models ms) (over ws (waveforms_at s n a.counts.models)) (over rs (stored (rows_at s n a.counts.models)))

  left-whole : (ns : List ℕ) (h : _) → loading l s ≡ passed h → Sorted l.tables s ns → LeftBy ns (answer_in l s)
  unfolding answer_in
  left-whole ns h is sorted =
      let f = fit l.tables s ns sorted in
      rw is
      record {
        answer = sym (ap (answer_for (file_in (texts_of s))) is);
        tables =
            rw is
            rw (over-filled (component_at s ns) _ cs (components-made l.tables s ns sorted) f.components)
            rw (over-filled (pin_at s ns) _ ps (pins-made l.tables s ns sorted) f.pins)
            rw (over-filled (selector_at s ns) _ ss (selectors-made l.tables s ns sorted) f.selectors)
            rw (over-filled (choice_at s ns) _ hs (choices-made l.tables s ns sorted) f.choices)
            rw (over-filled (model_at s ns) _ ms (models-made l.tables s ns sorted) f.models)
            rw (waveforms-made l.tables s ns sorted)
            rw (rows_made l.tables s ns sorted) refl;
      }

  left-none : (ns : List ℕ) (n k c : ℕ) → loading l s ≡ refused n k c → LeftBy ns (answer_in l s)
  unfolding answer_in
  left-none ns n k c is =
      rw is record { answer = sym (ap (answer_for (file_in (texts_of s))) is); tables = rw is rw (none-waveforms s ns ws) rw (none_rows s ns rs) refl }

  left-for : (ns : List ℕ) (o : Outcome) → loading l s ≡ o → LoadedFor l s ns o → LeftBy ns (answer_in l s)
  left-for ns (passed h) is loaded = left-whole ns h is loaded.0
  left-for ns (refused n k c) is u = left-none ns n k c is

  module _ (r : Answer) (ns : List ℕ) (said : Loads l s r ns) where
    pub fits : FitsBy s ns r.counts cs ps ss hs ms ws rs
    unfolding answer_in
    fits = subst (λ (z : Answer). FitsBy s ns z.counts cs ps ss hs ms ws rs) (sym said.answer) (fits-for ns (loading l s) said.sorted)

    finished : LeftBy ns r
    finished = subst (LeftBy ns) (sym said.answer) (left-for ns (loading l s) refl said.sorted)

    pub finishes : (ms' : List Model) (ws' : List Waveform) (rs' : List ℕ) → ModelsFilled s ns r.counts ms ws rs ms' ws' rs'
        → Read s cs ps ss hs ms ws rs r (filled_to (λ k. component_at s ns k) r.counts.components cs) (filled_to (λ k. pin_at s ns k) r.counts.pins ps) (filled_to (λ k. selector_at s ns k) r.counts.selectors ss)
        (filled_to (λ k. choice_at s ns k) r.counts.choices hs) ms' ws' rs'
    finishes ms' ws' rs' f = rw (f.models, f.waveforms, f.rows) finished

pub blank-is : blank_notes ≡ replicate store_length 0
unfolding blank_notes
blank-is = refl

pub long-enough : store_length ≤ length blank_notes
unfolding blank_notes
long-enough = subst (λ (n : ℕ). store_length ≤ n) (sym (length-replicate {A = ℕ} store_length 0)) (le_refl store_length)
