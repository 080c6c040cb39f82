-- A turn puts its place's text and flushes: `walked-more`.
use mathlib.Core.Path.{refl, ap, ◌∙◌}
use native.Mathlib.Omega.{arith}
use Rattle.std.proofs.Common.{rules, of_calls}
use Rattle.program_output.specs.Walks.{walked}
use Rattle.program_output.proofs.Turns.{walked-more, puts-text, puts-on}
use Rattle.program_output.proofs.walks.put_all.Goals as goal

pub loop-i-init : goal.loop-i-init
unfolding walked
loop-i-init g c = (λ h. h, λ text p. (p, refl))

pub loop-i-preserved : goal.loop-i-preserved
loop-i-preserved g c = (
  search (rules, of_calls),
  λ text p.
      let k = c.loop-i.i in
      let i = c.loop-i.invariant.1 text p in (
        puts-on g.F.FnMut text i.0 c.put.ensures,
        walked-more text 0 k k _ _ _ (omega arith) (puts-text g.F.FnMut text i.0 c.put.ensures ∙ ap (text k) i.1) c.flush.ensures,
      ),
)
