-- The faults from this line on are those from the first on: `line_check` says how a line hands on.
use Prim.Native.Nat.{ℕ}
use mathlib.Core.Path.{sym, ap, ◌∙◌, subst}
use mathlib.Core.List.{List}
use native.Mathlib.Omega.{arith}
use lib.ListN.{drop_of_length-le}
use borrow.Author.Tests.{le-leb, lt-leb}
use Rattle.laws.proofs.Tests.{cond_yes, cond_no}
use Rattle.lines.specs.Lines.{lines_of, fault_from, bytes_fault}
use Rattle.lines.specs.Places.{checked, Goes}
use Rattle.lines.proofs.check_bytes.Goals as goal

pub returns-then-s-gt-FILE : goal.returns-then-s-gt-FILE
unfolding bytes_fault
returns-then-s-gt-FILE c = sym (cond_no _ _ (lt-leb _ 65536 c.if-s-gt-FILE.true))

pub loop-at-init : goal.loop-at-init
unfolding bytes_fault
loop-at-init c = (omega arith, omega arith, sym (cond_yes _ _ (le-leb _ 65536 c.if-s-gt-FILE.false)))

pub loop-at-smaller : goal.loop-at-smaller
loop-at-smaller c =
    let g = subst (Goes c.args.s.now c.loop-at.at) c.in-Ok.is c.line_check.ensures.goes in
    omega (arith, g.0, g.1)

pub loop-at-preserved : goal.loop-at-preserved
loop-at-preserved c =
    let s = c.args.s.now in
    let l = c.loop-at in
    let g = subst (Goes s l.at) c.in-Ok.is c.line_check.ensures.goes in
    (g.1, omega (arith, g.0, l.invariant.1), sym (c.line_check.ensures.by_index l.line ∙ ap (checked s l.line) c.in-Ok.is) ∙ l.invariant.2)

pub returns-in-Err : goal.returns-in-Err
returns-in-Err c =
    let s = c.args.s.now in
    let l = c.loop-at in
    sym (c.line_check.ensures.by_index l.line ∙ ap (checked s l.line) c.in-Err.is) ∙ l.invariant.2

pub returns : goal.returns
unfolding fault_from lines_of
returns c = sym (ap (λ (l : List ℕ). fault_from c.loop-at.line (lines_of l)) (drop_of_length-le c.args.s.now c.loop-at-test.false)) ∙ c.loop-at.invariant.2
