-- The words of the noted models, one model after the other: those so far lie over a table as it was, and each model's are written into the rest of it.
use Prim.Native.Nat.{ℕ, zero, suc, ◌+◌, ◌*◌, ◌-◌, ◌≤◌, ◌<◌}
use mathlib.Core.Path.{◌≡◌, refl, sym, ap, ◌∙◌, subst}
use mathlib.Core.List.{List, ◌++◌, flat_map}
use native.Mathlib.Omega.{arith}
use lib.ListN.{length, length-append}
use borrow.Rule.Slice.PartMut.{put_mid, mid_of}
use Rattle.cut_lines.specs.Cursors.{rest}
use Rattle.cut_lines.specs.declared.Cursor.{Cursor}
use Rattle.rules.specs.Reading.{TableIs}
use Rattle.layout.specs.Laid.{rows_of, waveforms_laid}
use Rattle.records.specs.Stored.{stored, over}
use Rattle.records.specs.declared.Kind.TheVariants.{OfModel}
use Rattle.note_words.specs.Store.{lies_at, section_at, name_of}
use Rattle.note_words.specs.declared.SectionNote.{SectionNote}
use Rattle.layout_by_notes.specs.Lies.{waveforms_noted, rows_noted}
use Rattle.table_rows.specs.Rows.{Lies}
use Rattle.table_rows.proofs.Stores.{over_none, over-length, over-rest, stored-append}
use Rattle.from_notes.specs.Made.{joined_to, note_by, model_at, rows_at, StandsBehind}
use Rattle.from_notes.proofs.Joined.{joined-more, joined-rise}
use Rattle.from_notes.proofs.Sections.{model-noted, tables-noted}
use Rattle.record_words.specs.Records.{waveform_words, model_size}
use Rattle.section_words.specs.Models.{model_behind, waveforms_behind, rows_behind}
use Rattle.table_words.specs.Packed.{waveform_words_at, row_words_at}
use Rattle.table_words.proofs.Laws.{words-length}

-- ---- words of f, one after the other

module _ (f : ℕ → List ℕ) where
  pub to_start : (before : List ℕ) → Lies before before 0 (joined_to f 0)
  unfolding joined_to
  to_start before = record { used = refl; store = sym (over_none before) }

  -- those of the first i are written, and there is room for those of n
  module _ {before now : List ℕ} {used i : ℕ} (p : Lies before now used (joined_to f i)) (n : ℕ) (h : length (joined_to f n) ≤ length before) where
    pub to-length : i ≤ n → length now ≡ length before
    to-length q = ap length p.store ∙ over-length before (joined_to f i) (omega (arith, joined-rise f i n q))

    module _ (q : i < n) where
      more-fit : used + length (f i) ≤ length before
      more-fit = omega (arith, p.used, ap length (joined-more f i), length-append (joined_to f i) (f i), joined-rise f (i + 1) n (omega arith))

      pub to-fit : used + length (f i) ≤ length now
      to-fit = omega (arith, more-fit, to-length (omega arith))

      pub to-turn : {part part' : List ℕ} {k : ℕ} → part ≡ mid_of used (length now - used) now → Lies part part' k (f i)
          → Lies before (put_mid used (length now - used) now part') (used + k) (joined_to f (i + 1))
      to-turn e l =
          record {
            used = omega (arith, l.used, p.used, ap length (joined-more f i), length-append (joined_to f i) (f i));
            store = rw (l.store, e) (over-rest before (joined_to f i) (f i) used p.used (omega (arith, more-fit)) now p.store ∙ ap (over before) (sym (joined-more f i)));
          }

-- ---- the records, each of model_size words

module _ (f : ℕ → List ℕ) (each : (k : ℕ) → length (f k) ≡ model_size) where
  models-room : (n : ℕ) → length (joined_to f n) ≡ model_size * n
  models-room n = words-length f model_size each n

  module _ {before now : List ℕ} {i : ℕ} (p : Lies before now (model_size * i) (joined_to f i)) (n : ℕ) (h : model_size * n ≤ length before) where
    pub models-length : i ≤ n → length now ≡ length before
    models-length q = to-length f p n (omega (arith, h, models-room n)) q

    pub models-fit : i < n → model_size * i + model_size ≤ length now
    models-fit q = omega (arith, to-fit f p n (omega (arith, h, models-room n)) q, each i)

    pub models-turn : i < n → {part part' : List ℕ} → part ≡ mid_of (model_size * i) (length now - model_size * i) now → part' ≡ over part (f i)
        → Lies before (put_mid (model_size * i) (length now - model_size * i) now part') (model_size * (i + 1)) (joined_to f (i + 1))
    models-turn q {part} {part'} e is =
        let k : model_size * i + model_size ≡ model_size * (i + 1) = omega arith in
        subst (λ (m : ℕ). Lies before (put_mid (model_size * i) (length now - model_size * i) now part') m (joined_to f (i + 1))) k
        (to-turn f p n (omega (arith, h, models-room n)) q e (record { used = sym (each i); store = is }))

-- ---- a model behind whose keyword line a cursor stands

module _ (s ns : List ℕ) (i : ℕ) {c : Cursor} (h : StandsBehind s ns (lies_at OfModel i) c) where
  abbrev x : SectionNote
  x = section_at ns (lies_at OfModel i)

  pub model-behind : {section row start : ℕ} {name : List ℕ} → section ≡ x.section → row ≡ x.row → start ≡ x.start → name ≡ name_of s ns (lies_at OfModel i)
      → model_behind section row start name (rest s c) ≡ model_at s ns i
  unfolding model_at
  model-behind d e f g = rw (d, e, f, g) (model-noted s ns (lies_at OfModel i) h)

  pub waveforms-noted : waveforms_behind x.row (rest s c) ≡ waveform_words_at s ns i
  unfolding waveforms_noted
  waveforms-noted = ap (λ (ts : List TableIs). flat_map waveform_words (waveforms_laid ts x.row)) (tables-noted s ns (lies_at OfModel i) h)

  pub rows-noted : rows_behind (rest s c) ≡ row_words_at s ns i
  unfolding rows_noted
  rows-noted = ap (λ (ts : List TableIs). stored (flat_map rows_of ts)) (tables-noted s ns (lies_at OfModel i) h)

-- ---- the rows of the first models

pub rows_words : (s ns : List ℕ) (n : ℕ) → stored (rows_at s ns n) ≡ joined_to (row_words_at s ns) n
unfolding joined_to stored
rows_words s ns zero = refl
rows_words s ns (suc n) =
    stored-append (rows_at s ns n) (rows_noted (note_by s ns OfModel n)) ∙ ap (λ (l : List ℕ). l ++ row_words_at s ns n) (rows_words s ns n)
