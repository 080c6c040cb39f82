-- The closure puts each model's row, whatever was called before: `always_returns_same`.
use mathlib.Core.Path.{ap, ◌∙◌}
use Rattle.std.proofs.Common.{rules}
use Rattle.std.proofs.lemmas.Fn.{always_returns_same}
use Rattle.text_buffer.specs.Pages.{sheet}
use Rattle.program_output.specs.Walks.{walked}
use Rattle.explain_output.specs.Capacitances.{model_row}
use Rattle.explain_output.proofs.summary.put_capacitances.Goals as goal

pub returns : goal.returns
returns c =
    let row = model_row c.args.width c.args.models.now in
    c.put_all.ensures row (always_returns_same _ _ _ (λ a r f' k. search rules))
    ∙ ap (λ n. walked row 0 n (sheet c.put_capacitance_heading.new.page)) c.records_in.ensures
    ∙ ap (walked row 0 _) c.put_capacitance_heading.ensures
