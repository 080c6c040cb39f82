-- How the checks of one line follow each other: the first fault ends the reading.
use Rattle.std.specs.Prelude.{ℕ, List, Bool, cond, eqb, Option, Some, None, Err, Ok, Result}
use Rattle.words.specs.Words.{rest_from}
use Rattle.records.specs.Flaws.{Flaw, flaw, told, checked_at}
use Rattle.records.specs.declared.Fault.{Fault}
use Rattle.records.specs.declared.LineFault.{LineFault}
use Rattle.given.specs.Given.{has, with}
use Rattle.given.specs.declared.Given.{Given}
use Rattle.rules.specs.declared.Stage.{Stage}
use Rattle.rules.specs.declared.Event.{Event}
use Rattle.rules.specs.declared.Event.TheVariants.{Quiet}

-- a line's step: the next stage and what the line adds, or the fault
abbrev pub Went : Type 0
Went = Result (Stage × Event) Fault

-- fault n, told at line k; and a fault that has a column there
abbrev pub stop : ℕ → ℕ → Went
stop n k = Err (record { number = n; line = k; column = 0 })

abbrev pub stop_at : LineFault → ℕ → Went
stop_at f k = Err (record { number = f.number; line = k; column = f.column })

-- unless the check gives a fault, which is told at line k
unfoldable pub unless : ℕ → ℕ → Went → Went
unless n k went = cond (eqb n 0) went (stop n k)

-- unless line k by itself has a fault, which is told there
unfoldable pub passes : LineFault → ℕ → Went → Went
passes f k went = cond (eqb f.number 0) went (stop_at f k)

-- fault n at line k if so, else on
unfoldable pub refuse : Bool → ℕ → ℕ → Went → Went
refuse t n k went = cond t (stop n k) went

-- on to a stage, with nothing that is counted or named
abbrev pub quietly : Stage → Went
quietly s = Ok (s, Quiet)

-- thing i of what was given: 8 if it was given, else its own fault f, else on with it given
abbrev pub once : Given → ℕ → LineFault → ℕ → (Given → Stage) → Went
once g i f k on = refuse (has g i) 8 k (passes f k (quietly (on (with g i))))

-- what is given with thing i of line k, where the code has what the thing's own check answers
abbrev pub giving : Given → Result (Unit {0}) Fault → Result Given Fault
giving g (Ok u) = Ok g
giving g (Err x) = Err x

unfoldable pub given_once : Given → ℕ → ℕ → Result (Unit {0}) LineFault → Result Given Fault
given_once g i k own = cond (has g i) (Err (record { number = 8; line = k; column = 0 })) (giving (with g i) (checked_at k own))

-- line k, whose text is w, by the place of its name: "Where named lines may stand, a line whose name .. is none of theirs is fault 10"
abbrev pub named_line : Given → Option ℕ → Flaw → ℕ → List ℕ → (Given → Stage) → Went
named_line g None f k w on = stop_at (told w (flaw 10 (rest_from 0 w))) k
named_line g (Some i) f k w on = once g i (told w f) k on

-- what a line closes goes first, then the line itself
abbrev pub and_then : Went → (Stage → Went) → Went
and_then (Ok (s, e)) f = f s
and_then (Err x) f = Err x
