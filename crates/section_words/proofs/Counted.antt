-- A model's record from its first lines to the end of its keywords, where its waveforms are counted.
use Prim.Native.Nat.{ℕ, ◌+◌, ◌*◌, ◌/◌}
use mathlib.Core.Path.{◌≡◌, refl, sym, ap, ◌∙◌}
use mathlib.Core.List.{List, [], ◌∷◌, ◌++◌, flat_map}
use native.Mathlib.Omega.{arith}
use lib.ListN.{length, drop, set, length-append}
use Rattle.laws.specs.Lists.{front}
use Rattle.cut_lines.specs.Texts.{Text}
use Rattle.cut_lines.specs.Cursors.{rest}
use Rattle.cut_lines.specs.declared.Cursor.{Cursor}
use Rattle.rules.specs.Reading.{under, is_within, tables_in}
use Rattle.layout.specs.Laid.{waveforms_laid}
use Rattle.records.specs.Stored.{over, name_laid}
use Rattle.records.specs.declared.Model.{Model}
use Rattle.records.specs.declared.Waveform.{Waveform}
use Rattle.record_words.specs.Records.{model_words, model_size, waveform_words, waveform_size}
use Rattle.lines_under.specs.Under.{StopsAt}
use Rattle.model_record.specs.Firsts.{bare_lines, firsts_on, defaulted}
use Rattle.model_record.specs.Bodies.{bare_body, body_on, model_over}
use Rattle.model_record.specs.declared.Body.{Body}
use Rattle.model_record.specs.declared.FirstLines.{FirstLines}
use Rattle.model_record.proofs.BodyLaws.{model_is}
use Rattle.section_words.specs.Parts.{waveforms_from}
use Rattle.section_words.specs.Models.{uncounted, model_behind, BodyFills}
use Rattle.section_words.specs.Listed.{listed_behind}
use Rattle.section_words.specs.declared.Used.{Used}
use Rattle.section_words.proofs.Listed.{listed-bare}
use Rattle.section_words.proofs.Walks.{body-ahead}

-- so many words a waveform
pub waveforms-length : (l : List Waveform) → length (flat_map waveform_words l) ≡ waveform_size * length l
unfolding flat_map
waveforms-length [] = refl
waveforms-length (w ∷ l) =
    let e : length (flat_map waveform_words l) ≡ waveform_size * length l = waveforms-length l in
    omega (arith, length-append (waveform_words w) (flat_map waveform_words l), e)

count-is : (row : ℕ) (ts : List Text) → (body_on (bare_body row) ts).waveforms ≡ length (waveforms_laid (tables_in ts) row)
unfolding body_on
count-is row ts = omega arith

module _ (s : List ℕ) (c : Cursor) (section row start : ℕ) (name model : List ℕ) where
  -- its first lines stop at n
  abbrev lines : FirstLines
  lines = defaulted (firsts_on bare_lines (under (rest s c)))

  abbrev with-body : Body → Model
  with-body b = model_over section start (name_laid name) lines b

  bare-lies : (m : List ℕ) → m ≡ over model (model_words (listed_behind section start name (rest s c))) → m ≡ model_words (with-body (uncounted (bare_body row))) ++ drop model_size model
  unfolding over
  bare-lies m e = e ∙ ap (λ (x : Model). model_words x ++ drop model_size model) (sym (listed-bare section start name (rest s c) 0))

  pub counted-lies : {n : Cursor} → StopsAt s c n → (m m' : List ℕ) {waves waves' store store' : List ℕ} {used : Used} → m ≡ over model (model_words (listed_behind section start name (rest s c)))
      → BodyFills (rest s n) row m m' waves waves' store store' used
      → set m' (waveforms_from + 1) (used.waveforms / waveform_size) ≡ over model (model_words (model_behind section row start name (rest s c)))
  unfolding over
  counted-lies {n} h m m' {used = used} e f =
      let inside = front is_within (rest s n) in
      let b = body_on (bare_body row) inside in
      let k : used.waveforms / waveform_size ≡ b.waveforms = omega (arith, f.waveforms.used, waveforms-length (waveforms_laid (tables_in inside) row), count-is row inside) in
      ap (λ (l : List ℕ). set l (waveforms_from + 1) (used.waveforms / waveform_size)) (f.turns section start (name_laid name) lines (drop model_size model) (bare-lies m e))
      ∙ ap (λ (i : ℕ). set (model_words (with-body (uncounted b)) ++ drop model_size model) (waveforms_from + 1) i) k
      ∙ ap (λ (x : Body). model_words (with-body x) ++ drop model_size model) (sym (body-ahead h row))
      ∙ ap (λ (x : Model). model_words x ++ drop model_size model) (model_is row start section name (rest s c))
