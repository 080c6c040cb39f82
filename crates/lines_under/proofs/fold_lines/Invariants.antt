-- What is held follows from the first line on, of every fold that the calls step.
use Prim.Native.Nat.{ℕ, ◌-◌}
use mathlib.Core.List.{List}
use lib.ListN.{length}
use Rattle.lines_under.specs.Steps.{Folds, StepsBy}
use Rattle.lines_under.proofs.Laws.{Along}
use Rattle.lines_under.proofs.Folds.{Gathers}
use Rattle.lines_under.proofs.fold_lines.Given as goal

abbrev pub invariant-loop-start : goal.invariant-loop-start
invariant-loop-start g l = record {
  callable : goal.F-IsAlwaysCallable g l.step;
  along : Along l.src l.initial.d l.d;
  gathers : (f : _ → List (List ℕ) → _) (h : _ → List ℕ → _) (k : Folds f h) → StepsBy g.F.Fn l.step h → Gathers k l.src l.initial.d l.d l.initial.x l.x;
}

abbrev pub decreases-loop-start : goal.decreases-loop-start
decreases-loop-start g l = length l.src - l.d.at
