-- A turn puts its place's text and flushes: `walked-more`. No turn is past the span's end.
use Prim.Native.Nat.{ℕ, ◌+◌, ◌-◌, min}
use mathlib.Core.Path.{◌≡◌, ap, ◌∙◌}
use native.Mathlib.Omega.{arith}
use Rattle.std.proofs.Common.{rules, of_calls}
use Rattle.text_buffer.specs.Pages.{sheet}
use Rattle.program_output.specs.Walks.{walked}
use Rattle.program_output.proofs.Turns.{walked-more, puts-text, puts-on}
use Rattle.program_output.proofs.walks.put_span.Goals as goal

pub loop-i-init : goal.loop-i-init
unfolding walked
loop-i-init g c =
    let none : 0 ≡ c.args.span.start - c.args.span.start = omega arith in
    (λ h. h, omega arith, λ text p. (p, ap (λ (n : ℕ). walked text c.args.span.start n (sheet c.args.page.now)) none))

pub loop-i-preserved : goal.loop-i-preserved
loop-i-preserved g c =
    let k = c.loop-i.i in
    let start = c.args.span.start in
    let more : (k - start) + 1 ≡ (k + 1) - start = omega (arith, c.loop-i.auto.i) in (
      search (rules, of_calls),
      omega (arith, c.loop-i.auto.i, c.loop-i-test.true),
      λ text p.
          let i = c.loop-i.invariant.2 text p in (
            puts-on g.F.FnMut text i.0 c.put.ensures,
            walked-more text start (k - start) k _ _ _ (omega (arith, c.loop-i.auto.i)) (puts-text g.F.FnMut text i.0 c.put.ensures ∙ ap (text k) i.1) c.flush.ensures
                ∙ ap (λ (n : ℕ). walked text start n (sheet c.args.page.now)) more,
          ),
    )

pub returns : goal.returns
returns g c =
    let start = c.args.span.start in
    let all : c.loop-i.i - start ≡ c.end_in-i-end.result - start = omega (arith, c.loop-i.auto.i, c.loop-i-test.false, c.loop-i.invariant.1) in
    let end : c.loop-i.i - start ≡ min (start + c.args.span.count) c.args.n - start = all ∙ ap (λ (n : ℕ). n - start) c.end_in-i-end.ensures in
    λ text p. (c.loop-i.invariant.2 text p).1 ∙ ap (λ (n : ℕ). walked text start n (sheet c.args.page.now)) end
