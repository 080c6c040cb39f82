-- The record before the first keyword is what a listing takes: `listed-bare`.
use mathlib.Core.Path.{◌≡◌, ap, ◌∙◌}
use native.Mathlib.Omega.{arith}
use lib.Seq.{sets}
use Rattle.cut_lines.specs.Cursors.{rest}
use Rattle.records.specs.declared.Model.{Model}
use Rattle.record_words.specs.Records.{model_words}
use Rattle.section_words.specs.Listed.{listed_behind}
use Rattle.section_words.proofs.Laws.{sets-front}
use Rattle.section_words.proofs.Listed.{listed-bare}
use Rattle.section_words.proofs.models.put_firsts.Goals as goal

pub put_model-requires : goal.put_model-requires
put_model-requires c = omega (arith, c.requires.1)

pub returns : goal.returns
returns c =
    let a = c.args in
    let texts = rest a.src.now a.c in
    let listed = listed_behind a.section a.start a.name.now texts in
    let is : c.model_over-bare.result ≡ listed =
    rw (c.model_over-bare.ensures, c.name_of.ensures, c.first_lines-first.ensures.lines, c.bare_body.ensures) (listed-bare a.section a.start a.name.now texts 0)
    in
    record {
      model_after = c.put_model.ensures ∙ ap (λ (m : Model). sets a.model.now 0 (model_words m)) is ∙ sets-front a.model.now (model_words listed) c.requires.1;
      stops_at = c.first_lines-first.ensures.stops;
    }
