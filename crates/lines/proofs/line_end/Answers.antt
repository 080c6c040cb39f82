-- What the tests answered at each place, of the near bytes and of those behind them, says where the front ends.
use Rattle.std.proofs.Common.{rules, of_calls, arith, ◌≡◌, ◌+◌, ◌<◌, ℕ, length, take, get_or, sym, ◌∙◌}
use Rattle.std.proofs.lemmas.List.{get_or-take}
use lib.ListN.{length-take}
use Rattle.laws.specs.Lists.{other}
use Rattle.laws.proofs.Fronts.{other-yes, other-no}
use Rattle.words.proofs.ByPlaces.{front-places}
use Rattle.lines.proofs.Stops.{near-byte, up-to}
use Rattle.lines.proofs.line_end.Goals as goal

pub returns-then-stop-near-clause-value : goal.returns-then-stop-near-clause-value
returns-then-stop-near-clause-value c =
    let s = c.args.s.now in
    let n = c.min-near.result in
    let e = c.skip-stop.ensures in
    let within : length (take n s) ≡ n = omega (arith, length-take n s, c.min-near.ensures) in
    let passed : (k : ℕ) → c.args.at + k < c.skip-stop.result → get_or (take n s) (c.args.at + k) 0 ≡ 10 → ⊥ = λ k h. let y = e.passed k h in search (rules, of_calls, y) in
    let y = e.stopped (omega (arith, c.if-stop-near.true, within)) in
    let there : get_or (take n s) c.skip-stop.result 0 ≡ 10 = search (rules, of_calls, y) in
    front-places (other 10) _ _ _ (omega (arith, e.lower_bound), omega (arith, c.if-stop-near.true, c.min-near.ensures))
    (λ k h. sym (other-yes _ _ (near-byte 10 n (c.args.at + k) s (omega (arith, h, c.if-stop-near.true)) (passed k h))))
    (λ h. sym (other-no _ _ (sym (get_or-take n s c.skip-stop.result 0 c.if-stop-near.true) ∙ there)))

pub returns-clause-value : goal.returns-clause-value
returns-clause-value c =
    let s = c.args.s.now in
    let n = c.min-near.result in
    let e = c.skip-stop.ensures in
    let f = c.skip_eights.ensures in
    let within : length (take n s) ≡ n = omega (arith, length-take n s, c.min-near.ensures) in
    let near : (k : ℕ) → c.args.at + k < c.skip-stop.result → get_or (take n s) (c.args.at + k) 0 ≡ 10 → ⊥ = λ k h. let y = e.passed k h in search (rules, of_calls, y) in
    let behind : (k : ℕ) → c.skip-stop.result + k < c.skip_eights.result → get_or s (c.skip-stop.result + k) 0 ≡ 10 → ⊥ = λ k h. let y = f.passed k h in search (rules, of_calls, y) in
    let stopped : c.skip_eights.result < length s → get_or s c.skip_eights.result 0 ≡ 10 = λ h. let y = f.stopped h in search (rules, of_calls, y) in
    let passed : (k : ℕ) → c.args.at + k < c.skip-stop.result → get_or s (c.args.at + k) 0 ≡ 10 → ⊥ = λ k h. near-byte 10 n (c.args.at + k) s (omega (arith, h, e.lower_bound, within)) (near k h) in
    front-places (other 10) _ _ _ (omega (arith, e.lower_bound, f.lower_bound), f.lower_bound.1)
    (λ k h. sym (other-yes _ _ (up-to (λ b. b ≡ 10 → ⊥) s c.args.at c.skip-stop.result c.skip_eights.result passed behind k h)))
    (λ h. sym (other-no _ _ (stopped h)))
