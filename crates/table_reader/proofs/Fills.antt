-- What the notes of a reading give: the words fit into the lent tables, and the fills leave what is promised. By whether the file is accepted.
use Prim.Native.Nat.{ℕ, zero, suc, zero-le}
use mathlib.Core.Path.{◌≡◌, refl, sym, ap, ◌∙◌, subst}
use mathlib.Core.List.{List, [], ◌∷◌, ◌++◌, flat_map, append-nil}
use native.Mathlib.Omega.{arith}
use lib.ListN.{length}
use Rattle.rules.specs.Reading.{file_in}
use Rattle.records.specs.Stored.{stored, over}
use Rattle.rules.specs.Whole.{Outcome, passed, refused, loading, texts_of}
use Rattle.records.specs.declared.Lending.{Lending}
use Rattle.records.specs.declared.Kind.TheVariants.{OfModel}
use Rattle.records.specs.declared.Waveform.{Waveform}
use Rattle.layout_by_notes.specs.Lies.{waveforms_noted}
use Rattle.layout_by_notes.proofs.Lists.{flat_append}
use Rattle.from_notes.specs.Made.{joined_to, note_by, component_at, pin_at, selector_at, choice_at, model_at, waveforms_at}
use Rattle.file_answer.specs.Answered.{answer_for, answer_in}
use Rattle.file_answer.specs.Sorted.{up_to, Sorted, LoadedFor, Loads}
use Rattle.records.specs.declared.Answer.{Answer}
use Rattle.file_answer.proofs.Made.{file, fit, components-made, pins-made, selectors-made, choices-made, models-made, waveforms-made, rows_made, rows_fit}
use Rattle.record_words.specs.Records.{component_words, pin_words, selector_words, choice_words, model_words, waveform_words}
use Rattle.section_words.proofs.Counted.{waveforms-length}
use Rattle.table_words.specs.Packed.{waveform_words_at, WordTables, Room, filled}
use Rattle.table_reader.specs.ReadInWords.{room_in, ReadInWords}

-- ---- the words of a table that is as noted

flat-up_to : {A : Type 0} (g : A → List ℕ) (f : ℕ → A) (n : ℕ) → flat_map g (up_to f n) ≡ joined_to (λ (k : ℕ). g (f k)) n
unfolding up_to joined_to flat_map
flat-up_to g f zero = refl
flat-up_to g f (suc n) =
    flat_append g (up_to f n) (f n ∷ [])
    ∙ ap (λ (l : List ℕ). flat_map g (up_to f n) ++ l) (append-nil (g (f n)))
    ∙ ap (λ (l : List ℕ). l ++ g (f n)) (flat-up_to g f n)

pub made-words : {A : Type 0} (g : A → List ℕ) (f : ℕ → A) (new : List A) → new ≡ up_to f (length new) → flat_map g new ≡ joined_to (λ (k : ℕ). g (f k)) (length new)
made-words g f new e = ap (flat_map g) e ∙ flat-up_to g f (length new)

-- those of the models' waveforms, one model after the other
flat-joined : {A : Type 0} (g : A → List ℕ) (f : ℕ → List A) (n : ℕ) → flat_map g (joined_to f n) ≡ joined_to (λ (k : ℕ). flat_map g (f k)) n
unfolding joined_to flat_map
flat-joined g f zero = refl
flat-joined g f (suc n) = flat_append g (joined_to f n) (f n) ∙ ap (λ (l : List ℕ). l ++ flat_map g (f n)) (flat-joined g f n)

waveforms-words : (s ns : List ℕ) (new : List Waveform) (n : ℕ) → new ≡ waveforms_at s ns n → flat_map waveform_words new ≡ joined_to (waveform_words_at s ns) n
waveforms-words s ns new n e = ap (flat_map waveform_words) e ∙ flat-joined waveform_words (λ k. waveforms_noted (note_by s ns OfModel k)) n

-- ---- by the outcome

module _ (s : List ℕ) (t : WordTables) (ns : List ℕ) where
  abbrev l : Lending
  l = room_in t

  fits-for : (o : Outcome) → LoadedFor l s ns o → Room s ns (answer_for (file_in (texts_of s)) o).counts t
  unfolding joined_to stored
  fits-for (passed h) loaded =
      let sorted = loaded.0 in
      let f = fit l.tables s ns sorted in
      let words = ap length (waveforms-words s ns (file l.tables s ns sorted).waveforms (length (file l.tables s ns sorted).models) (waveforms-made l.tables s ns sorted)) in
      record {
        components = omega (arith, f.components);
        pins = omega (arith, f.pins);
        selectors = omega (arith, f.selectors);
        choices = omega (arith, f.choices);
        models = omega (arith, f.models);
        waveforms = omega (arith, f.waveforms, words, waveforms-length (file l.tables s ns sorted).waveforms);
        rows = rows_fit l.tables s ns sorted t.rows loaded.1;
      }
  fits-for (refused n k c) u =
      record { components = zero-le; pins = zero-le; selectors = zero-le; choices = zero-le; models = zero-le; waveforms = zero-le; rows = zero-le }

  abbrev LeftBy : Answer → Type 0
  LeftBy a = ReadInWords s t a (filled s ns a.counts t)

  left-whole : (h : _) → loading l s ≡ passed h → Sorted l.tables s ns → LeftBy (answer_in l s)
  unfolding answer_in
  left-whole h is sorted =
      record {
        answer = refl;
        tables =
            rw is
            rw (made-words component_words (component_at s ns) _ (components-made l.tables s ns sorted))
            rw (made-words pin_words (pin_at s ns) _ (pins-made l.tables s ns sorted))
            rw (made-words selector_words (selector_at s ns) _ (selectors-made l.tables s ns sorted))
            rw (made-words choice_words (choice_at s ns) _ (choices-made l.tables s ns sorted))
            rw (made-words model_words (model_at s ns) _ (models-made l.tables s ns sorted))
            rw (waveforms-words s ns (file l.tables s ns sorted).waveforms (length (file l.tables s ns sorted).models) (waveforms-made l.tables s ns sorted))
            rw (rows_made l.tables s ns sorted) refl;
      }

  left-none : (n k c : ℕ) → loading l s ≡ refused n k c → LeftBy (answer_in l s)
  unfolding answer_in joined_to stored over
  left-none n k c is = record { answer = refl; tables = rw is refl }

  left-for : (o : Outcome) → loading l s ≡ o → LoadedFor l s ns o → LeftBy (answer_in l s)
  left-for (passed h) is loaded = left-whole h is loaded.0
  left-for (refused n k c) is u = left-none n k c is

  module _ (r : Answer) (said : Loads l s r ns) where
    pub fits : Room s ns r.counts t
    unfolding answer_in
    fits = subst (λ (z : Answer). Room s ns z.counts t) (sym said.answer) (fits-for (loading l s) said.sorted)

    pub finishes : LeftBy r
    finishes = subst LeftBy (sym said.answer) (left-for (loading l s) refl said.sorted)
