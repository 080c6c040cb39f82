-- The blanks at the end, by what the test answered at each place from the end on.
use Rattle.std.proofs.Common.{rules, arith, ◌≡◌, ◌+◌, ◌≤◌, ◌<◌, ℕ, true, false, length, get_or}
use Rattle.laws.specs.Bytes.{is_blank}
use Rattle.words.proofs.ByPlaces.{trim-places}
use Rattle.words.proofs.trimmed.Goals as goal

pub returns-in-Some-clause-value : goal.returns-in-Some-clause-value
returns-in-Some-clause-value c =
    let stopped : (k : ℕ) → k + 1 ≡ c.in-Some.k + 1 → false ≡ is_blank (get_or c.args.s.now k 0) = search rules in
    let passed : (k : ℕ) → c.in-Some.k + 1 ≤ k → k < length c.args.s.now → true ≡ is_blank (get_or c.args.s.now k 0) = search rules in
    trim-places is_blank c.args.s.now (c.in-Some.k + 1) (search rules) passed stopped

pub returns-in-None-clause-value : goal.returns-in-None-clause-value
returns-in-None-clause-value c =
    let passed : (k : ℕ) → 0 ≤ k → k < length c.args.s.now → true ≡ is_blank (get_or c.args.s.now k 0) = search rules in
    trim-places is_blank c.args.s.now 0 (omega arith) passed (λ k h. absurd (omega arith))
