-- All bytes before i pass, and the eight from there on.
use Rattle.std.proofs.Common.{arith, rules, ◌≡◌, ◌+◌, ◌-◌, ◌≤◌, ◌<◌, ℕ, List, take, drop, get_or, length, refl, ap, ◌∙◌}
use Rattle.std.proofs.lemmas.List.{get_or-take, get_or-drop, length-take}
use Rattle.std.specs.Array.{IsFirstChunk}
use Rattle.laws.proofs.Tests.{by_order}
use Rattle.lines.proofs.skip_eights.Goals as goal

-- a byte of the eight is one of all
of-eight : (s eight : List ℕ) (i x n : ℕ) → IsFirstChunk (take (length s - i) (drop i s)) eight n → n ≡ 8 → i ≤ length s → i ≤ x → x < i + 8 → get_or eight (x - i) 0 ≡ get_or s x 0
of-eight s eight i x n c e r h w =
    let l : i + (x - i) ≡ x = omega arith in
    let t : x - i < n = omega arith in
    let m = c.enough in
    let u : x - i < length s - i = omega (arith, length-take (length s - i) (drop i s)) in
    rw c.same (get_or-take n _ (x - i) 0 t ∙ get_or-take (length s - i) (drop i s) (x - i) 0 u ∙ get_or-drop i s (x - i) 0 ∙ ap (λ (k : ℕ). get_or s k 0) l)

pub loop-eight-preserved : goal.loop-eight-preserved
loop-eight-preserved g c =
    let i = c.loop-eight.i in
    let at = c.args.at in
    record {
      from = search rules;
      within = search rules;
      passed = λ k h. by_order i (at + k)
          (λ e. let y = c.all_pass.ensures c.if-not-all_pass.false (at + k - i) (omega arith) in
          let v = of-eight c.args.s.now _ i (at + k) _ c.in-Some.ensures.cases refl c.loop-eight.invariant.within e h in rw v at y)
          (λ e. c.loop-eight.invariant.passed k e);
    }

pub returns-clause-passed : goal.returns-clause-passed
returns-clause-passed g c = λ k h. by_order c.loop-eight.i (c.args.at + k)
    (λ e. let q : c.loop-eight.i + (c.args.at + k - c.loop-eight.i) ≡ c.args.at + k = omega arith in
    let y = c.skip.ensures.passed (c.args.at + k - c.loop-eight.i) (omega arith) in rw q at y)
    (λ e. c.loop-eight.invariant.passed k e)
