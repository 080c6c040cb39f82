-- Behind each turn the page is what the texts up to there make of it.
use Prim.Native.Nat.{ℕ}
use mathlib.Core.Path.{◌≡◌}
use denote.Param.Always.{always_mut}
use Rattle.text_buffer.specs.Put.{Sheet}
use Rattle.text_buffer.specs.Pages.{sheet}
use Rattle.program_output.specs.Walks.{walked, Puts}
use Rattle.program_output.proofs.walks.put_all.Given as goal

abbrev pub invariant-loop-i : goal.invariant-loop-i
invariant-loop-i g l =
    (always_mut g.F.FnMut l.initial.put → always_mut g.F.FnMut l.put)
    × ((text : ℕ → Sheet → Sheet) → Puts g.F.FnMut l.initial.put text → Puts g.F.FnMut l.put text × (sheet l.page ≡ walked text 0 l.i (sheet l.initial.page)))
