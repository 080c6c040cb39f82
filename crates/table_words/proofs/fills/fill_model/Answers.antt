-- What stands behind the noted keyword line is what is noted: `model-behind`, `waveforms-noted`, `rows-noted`; a row's place is a word.
use Prim.Native.Nat.{ℕ}
use mathlib.Core.Path.{◌≡◌, ap, ◌∙◌}
use native.Mathlib.Omega.{arith}
use lib.ListN.{length}
use Rattle.cut_lines.specs.Cursors.{rest}
use Rattle.records.specs.Stored.{over}
use Rattle.records.specs.declared.Model.{Model}
use Rattle.record_words.specs.Records.{model_words}
use Rattle.section_words.specs.Models.{waveforms_behind}
use Rattle.table_words.specs.Packed.{waveform_words_at}
use Rattle.table_words.proofs.Models.{model-behind, waveforms-noted, rows-noted}
use Rattle.table_words.proofs.fills.fill_model.Goals as goal

pub fill_model-requires : goal.fill_model-requires
fill_model-requires c =
    let s = c.args.src.now in
    let ns = c.args.notes.now in
    let h = c.section_noted-c.ensures in
    let row = c.section_word-row in
    let w : waveforms_behind row.result (rest s c.section_noted-c.result) ≡ waveform_words_at s ns c.args.i =
    ap (λ (r : ℕ). waveforms_behind r (rest s c.section_noted-c.result)) row.ensures.value ∙ waveforms-noted s ns c.args.i h
    in
    record {
      placed = (h.placed, omega (arith, row.ensures.upper_bound));
      model_size_in_bounds = c.requires.model_size_in_bounds;
      c_in_bounds = rw w c.requires.i_in_bounds;
      c_in_bounds_2 = rw (rows-noted s ns c.args.i h) c.requires.i_in_bounds_2;
    }

pub returns : goal.returns
returns c =
    let a = c.args in
    let s = a.src.now in
    let ns = a.notes.now in
    let texts = rest s c.section_noted-c.result in
    let h = c.section_noted-c.ensures in
    let f = c.fill_model.ensures in
    let start = c.section_word-start in
    let row = c.section_word-row in
    let section = c.place_noted-section in
    let name = c.name_noted in
    let is = model-behind s ns a.i h section.ensures row.ensures.value start.ensures.value name.ensures in
    let w : waveforms_behind row.result texts ≡ waveform_words_at s ns a.i = ap (λ (r : ℕ). waveforms_behind r texts) row.ensures.value ∙ waveforms-noted s ns a.i h in
    let v = rows-noted s ns a.i h in
    record {
      model_after = f.model_after ∙ ap (λ (m : Model). over a.model.now (model_words m)) is;
      waveforms_after = f.waveforms_after ∙ ap (over a.waveforms.now) w;
      rows_after = f.rows_after ∙ ap (over a.rows.now) v;
      value = f.value ∙ (λ k. record { waveforms = length (w k); rows = length (v k) });
    }
