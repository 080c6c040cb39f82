-- By whether the table has more records.
use Prim.Native.Nat.{ℕ, ◌*◌, ◌/◌, ◌≤◌, ◌<◌}
use mathlib.Core.Path.{◌≡◌, refl, ap, ◌∙◌}
use native.Mathlib.Nat.{le_of_lt, div-zero, mul-le-mul_right, div-mul-le_self}
use native.Mathlib.Omega.{arith}
use borrow.Author.Tests.{lt-ltb, le-ltb}
use Rattle.program_output.proofs.tables.words_in.Goals as goal

-- fewer records than the table has fit into it
fewer : (words size count : ℕ) → count < words / size → count * size ≤ words
fewer words size count h = omega (arith, mul-le-mul_right size (le_of_lt h), div-mul-le_self words size)

pub returns-then-size-eq0 : goal.returns-then-size-eq0
returns-then-size-eq0 c =
    let z : c.args.words / c.args.size ≡ 0 = ap (λ (n : ℕ). c.args.words / n) c.if-size-eq0.true ∙ div-zero c.args.words in
    record {
      value = rw (le-ltb c.args.count (c.args.words / c.args.size) (omega (arith, z))) refl;
      upper_bound = omega arith;
    }

pub overflow_mul-result : goal.overflow_mul-result
overflow_mul-result c = omega (arith, fewer c.args.words c.args.size c.args.count c.if-count-words.true)

pub returns-then-count-words : goal.returns-then-count-words
returns-then-count-words c = record {
  value = rw (lt-ltb c.args.count (c.args.words / c.args.size) c.if-count-words.true) refl;
  upper_bound = fewer c.args.words c.args.size c.args.count c.if-count-words.true;
}

pub returns : goal.returns
returns c = record {
  value = rw (le-ltb c.args.count (c.args.words / c.args.size) c.if-count-words.false) refl;
  upper_bound = omega arith;
}
