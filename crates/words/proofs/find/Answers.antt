-- What the test answered at each place says where the front ends.
use Rattle.std.proofs.Common.{rules, of_calls, ◌≡◌, ◌+◌, ◌<◌, ℕ, length, get_or, sym}
use Rattle.laws.specs.Lists.{other}
use Rattle.laws.proofs.Fronts.{other-yes, other-no}
use Rattle.words.proofs.ByPlaces.{front-places}
use Rattle.words.proofs.find.Goals as goal

pub returns-clause-value : goal.returns-clause-value
returns-clause-value c =
    let e = c.skip.ensures in
    let s = c.args.s.now in
    let passed : (k : ℕ) → c.args.at + k < c.skip.result → get_or s (c.args.at + k) 0 ≡ c.args.b → ⊥ = λ k h. let y = e.passed k h in search (rules, of_calls, y) in
    let stopped : c.skip.result < length s → get_or s c.skip.result 0 ≡ c.args.b = λ h. let y = e.stopped h in search (rules, of_calls, y) in
    front-places (other _) _ _ _ e.lower_bound (λ k h. sym (other-yes _ _ (passed k h))) (λ h. sym (other-no _ _ (stopped h)))
