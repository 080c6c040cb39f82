-- The whole number as a double without loss, then one division or one multiplication by an exact power of ten: the exact decimal rounded once.
use Rattle.std.specs.Prelude.{Result, Ok, Err}
use Prim.Native.Nat.{ℕ, ◌-◌, ◌*◌, ◌^◌, ◌≤◌, ◌<◌}
use mathlib.Core.Path.{◌≡◌, sym, ap, ◌∙◌}
use mathlib.Core.Bool.{Bool, true, false, cond, ◌&&◌, ◌||◌}
use native.Mathlib.Nat.{mul-one, one-le-pow, zero-lt-suc}
use native.Mathlib.Omega.{arith}
use lib.Dec.{T, le→leb, ltb}
use lib.IntN.{pos}
use lib.Ieee.{Float, binary64, of_int, round, mul, div, neg, in_float}
use lib.Ieee.Exact.{HasValue}
use lib.Ieee.Back.{round_whole}
use borrow.Author.Tests.{lt-ltb, le-ltb}
use Rattle.decimal.specs.declared.Decimal.{Decimal}
use Rattle.decimal.specs.declared.Cell.TheVariants.{Number}
use Rattle.doubles.specs.Double.{rounded, is_negative, upper, lower, counted, double_of}
use Rattle.doubles.specs.declared.CellDouble.TheVariants.{Double}
use Rattle.doubles.specs.declared.CellDouble.{CellDouble}
use Rattle.doubles.proofs.Once.{product, quotient, negated}

-- fifteen digits are below 2 ^ 53
pub lossless : (n : ℕ) → n < 10 ^ 15 → T (in_float binary64 (pos n))
unfolding in_float
lossless n h = le→leb n (2 ^ 53) (omega arith)

whole-exact : (n : ℕ) → n < 10 ^ 15 → HasValue (of_int binary64 (pos n)) false n 1
unfolding of_int
whole-exact n h = round_whole binary64 false n (omega arith)

module _ (n p : ℕ) (h : n < 10 ^ 15) (y : Float) where
  pub divided : p < 40 → HasValue y false (10 ^ (40 - p)) 1 → div binary64 (of_int binary64 (pos n)) y ≡ round binary64 false (n * 10 ^ (p - 40)) (10 ^ (40 - p))
  divided k e =
      let z : 0 ≡ p - 40 = omega arith in
      let t = 10 ^ (40 - p) in
      quotient binary64 (of_int binary64 (pos n)) y n 1 t 1 (zero-lt-suc 0) (one-le-pow (40 - p) 10 (zero-lt-suc 9)) (whole-exact n h) e
      ∙ ap (λ (x : ℕ). round binary64 false (n * 1) x) (mul-one t)
      ∙ ap (λ (j : ℕ). round binary64 false (n * 10 ^ j) t) z

  pub multiplied : 40 ≤ p → HasValue y false (10 ^ (p - 40)) 1 → mul binary64 (of_int binary64 (pos n)) y ≡ round binary64 false (n * 10 ^ (p - 40)) (10 ^ (40 - p))
  multiplied k e =
      let z : 0 ≡ 40 - p = omega arith in
      let t = 10 ^ (p - 40) in
      product binary64 (of_int binary64 (pos n)) y n 1 t 1 (zero-lt-suc 0) (zero-lt-suc 0) (whole-exact n h) e
      ∙ ap (λ (j : ℕ). round binary64 false (n * t) (10 ^ j)) z

-- ---- the sign

module _ (d : Decimal) (size : Float) (h : size ≡ round binary64 false (upper d) (lower d)) where
  pub below-zero : d.negative ≡ true → 0 < d.digits → neg size ≡ rounded d
  unfolding rounded
  below-zero n k =
      let s : is_negative d ≡ true = ap (λ (b : Bool). b && ltb 0 d.digits) n ∙ lt-ltb 0 d.digits k in
      ap neg h ∙ negated binary64 (upper d) (lower d) ∙ ap (λ (b : Bool). round binary64 b (upper d) (lower d)) (sym s)

  unsigned : is_negative d ≡ false → size ≡ rounded d
  unfolding rounded
  unsigned s = h ∙ ap (λ (b : Bool). round binary64 b (upper d) (lower d)) (sym s)

  pub not_negative : d.negative ≡ false → size ≡ rounded d
  not_negative n = unsigned (ap (λ (b : Bool). b && ltb 0 d.digits) n)

  -- "Zero gives plus zero"
  pub at_zero : d.negative ≡ true → d.digits ≤ 0 → size ≡ rounded d
  at_zero n k = unsigned (ap (λ (b : Bool). b && ltb 0 d.digits) n ∙ le-ltb 0 d.digits k)

-- ---- both ends of the powers, and what lies between them

module _ (d : Decimal) where
  abbrev within : Result CellDouble ℕ
  within = Ok (Double (rounded (counted d)))

  pub too-low : d.power < 18 → Err 24 ≡ double_of (Number d)
  unfolding double_of
  too-low h = sym (ap (λ (b : Bool). cond (b || ltb 62 d.power) (Err 24) within) (lt-ltb d.power 18 h))

  between : 18 ≤ d.power → cond (ltb 62 d.power) (Err 24) within ≡ double_of (Number d)
  unfolding double_of
  between h = sym (ap (λ (b : Bool). cond (b || ltb 62 d.power) (Err 24) within) (le-ltb d.power 18 h))

  pub too-high : 18 ≤ d.power → 62 < d.power → Err 24 ≡ double_of (Number d)
  too-high l h = sym (ap (λ (b : Bool). cond b (Err 24) within) (lt-ltb 62 d.power h)) ∙ between l

  pub near-enough : 18 ≤ d.power → d.power ≤ 62 → within ≡ double_of (Number d)
  near-enough l h = sym (ap (λ (b : Bool). cond b (Err 24) within) (le-ltb 62 d.power h)) ∙ between l
