-- By the list that is open: what closes without a fault is `passed`.
use mathlib.Core.Path.{refl, sym, ap, ◌∙◌}
use mathlib.Core.Logic.{⊎_elim}
use Rattle.rules.specs.Component.{component_shut}
use Rattle.rules.proofs.Going.{passed}
use Rattle.component_steps.proofs.Laws.{package-given}
use Rattle.component_steps.proofs.component_shut.Goals as goal

pub returns-in-ComponentFirst : goal.returns-in-ComponentFirst
returns-in-ComponentFirst c =
    c.shut.ensures ∙ sym (passed 9 0 _ refl) ∙ ⊎_elim (λ e. sym (ap (component_shut c.args.c) e)) (λ e. sym (ap (component_shut c.args.c) e)) c.in-ComponentFirst.is

pub returns-in-PackageLines : goal.returns-in-PackageLines
returns-in-PackageLines c = c.shut-in-PackageLines.ensures ∙ rw (c.all_three.ensures ∙ package-given c.in-PackageLines.given) (sym (ap (component_shut c.args.c) c.in-PackageLines.is))
