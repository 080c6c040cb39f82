-- In three parts.
use mathlib.Core.Path.{refl}
use Rattle.record_words.specs.Records.{model_first, model_split, model_levels}
use Rattle.section_words.proofs.Laws.{sets-three}
use Rattle.section_words.proofs.puts.put_model_lines.Goals as goal

pub returns : goal.returns
returns c =
    let m = c.args.m in
    sets-three c.args.out.now c.put.new.out c.put-2.new.out c.put-3.new.out
    c.model_first-first.result c.model_split-split.result c.model_levels-levels.result (model_first m) (model_split m) (model_levels m)
    c.args.at 13 29
    c.put.ensures c.put-2.ensures c.put-3.ensures
    c.model_first-first.ensures c.model_split-split.ensures c.model_levels-levels.ensures refl refl
