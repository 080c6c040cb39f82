-- Behind each turn the page is what the texts from the span's start up to there make of it.
use Prim.Native.Nat.{ℕ, ◌+◌, ◌-◌, ◌≤◌}
use mathlib.Core.Path.{◌≡◌}
use denote.Param.Always.{always_mut}
use Rattle.text_buffer.specs.Put.{Sheet}
use Rattle.text_buffer.specs.Pages.{sheet}
use Rattle.program_output.specs.Walks.{walked, Puts}
use Rattle.program_output.proofs.walks.put_span.Given as goal

abbrev pub invariant-loop-i : goal.invariant-loop-i
invariant-loop-i g l =
    (always_mut g.F.FnMut l.initial.put → always_mut g.F.FnMut l.put)
    × (l.i ≤ l.fn.span.start + (l.i-end - l.fn.span.start))
    × ((text : ℕ → Sheet → Sheet) → Puts g.F.FnMut l.initial.put text → Puts g.F.FnMut l.put text × (sheet l.page ≡ walked text l.fn.span.start (l.i - l.fn.span.start) (sheet l.initial.page)))
