-- Its lines, then its tables, its ramp and its waveforms' span.
use mathlib.Core.Path.{refl}
use mathlib.Core.List.{◌++◌}
use Rattle.record_words.specs.Records.{model_first, model_split, model_levels, model_tables, ramp_words, span_words}
use Rattle.keywords.specs.declared.CurrentTable.TheVariants.{Pulldown}
use Rattle.section_words.specs.Parts.{table_from, ramp_from, waveforms_from}
use Rattle.section_words.proofs.Laws.{sets_more, sets-three}
use Rattle.section_words.proofs.puts.put_model.Goals as goal

pub returns : goal.returns
returns c =
    let a = c.args in
    let m = a.m in
    let lines = model_first m ++ model_split m ++ model_levels m in
    let span = span_words m.waveforms in
    sets_more a.out.now c.put-2.new.out c.put-3.new.out ((lines ++ model_tables m) ++ ramp_words m.ramp) span span a.at waveforms_from
    (sets-three a.out.now c.put_model_lines.new.out c.put.new.out c.put-2.new.out
    lines c.model_tables-tables.result c.ramp_words-ramp.result lines (model_tables m) (ramp_words m.ramp) a.at (table_from Pulldown) ramp_from
    c.put_model_lines.ensures c.put.ensures c.put-2.ensures
    refl c.model_tables-tables.ensures c.ramp_words-ramp.ensures refl refl)
    c.put-3.ensures refl refl
