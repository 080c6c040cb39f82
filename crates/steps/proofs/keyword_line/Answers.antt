-- What `key_of` answers says what the line says; the argument by `key-argument`.
use mathlib.Core.Path.{sym, ap, ◌∙◌}
use Rattle.keywords.specs.Answers.{keyword_says}
use Rattle.keywords.proofs.Arguments.{key-argument}
use Prim.Native.Nat.{ℕ}
use Rattle.rules.specs.Going.{stop}
use Rattle.steps.proofs.keyword_line.Goals as goal

pub on_keyword-requires : goal.on_keyword-requires
on_keyword-requires c = key-argument c.args.w.now (sym c.key_of.ensures.value ∙ c.in-Ok.is)

pub returns-in-Ok : goal.returns-in-Ok
returns-in-Ok c = rw (sym c.key_of.ensures.result_value ∙ ap keyword_says c.in-Ok.is) c.on_keyword.ensures

pub returns-in-Err : goal.returns-in-Err
returns-in-Err c =
    rw (sym c.key_of.ensures.result_value ∙ ap keyword_says c.in-Err.is) (c.stopped.ensures ∙ ap (λ (n : ℕ). stop n c.args.k) c.number.ensures)
