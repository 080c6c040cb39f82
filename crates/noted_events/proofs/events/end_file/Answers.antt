-- By whether there is a component, and whether the keyword's line has a fault.
use mathlib.Core.Path.{◌∙◌}
use native.Mathlib.Omega.{arith}
use borrow.Author.Tests.{eq-eqb, ne_eqb}
use Rattle.laws.proofs.Tests.{cond_yes, cond_no}
use Rattle.noted_events.proofs.EventLaws.{end_none, end-some, kept_same, names-small}
use Rattle.noted_events.proofs.events.end_file.Goals as goal

pub returns-then-c-eq0 : goal.returns-then-c-eq0
returns-then-c-eq0 c =
    let a = c.args in
    rw c.no_room.ensures record {
      f_value = end_none a.src.now a.notes.now a.l a.t a.p c.requires a.f c.if-c-eq0.true;
      kept_by = omega (arith, names-small a.t c.requires.within);
    }

pub returns-then-f-eq0 : goal.returns-then-f-eq0
returns-then-f-eq0 c =
    let a = c.args in
    record {
      f_value = end-some a.src.now a.notes.now a.l a.t a.p c.requires a.f c.if-c-eq0.false ∙ cond_yes _ _ (eq-eqb a.f.number 0 c.if-f-eq0.true);
      kept_by = kept_same a.src.now a.notes.now a.l a.t a.p c.requires;
    }

pub returns : goal.returns
returns c =
    let a = c.args in
    record {
      f_value = end-some a.src.now a.notes.now a.l a.t a.p c.requires a.f c.if-c-eq0.false ∙ cond_no _ _ (ne_eqb a.f.number 0 c.if-f-eq0.false);
      kept_by = omega (arith, names-small a.t c.requires.within);
    }
