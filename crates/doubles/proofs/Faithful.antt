-- Every answer is faithful: the exact decimal lies in the normal range of a double, far from both ends.
use Rattle.std.specs.Prelude.{Ok, Err}
use Prim.Native.Nat.{ℕ, zero, suc, ◌+◌, ◌-◌, ◌*◌, ◌/◌, ◌^◌, ◌≤◌, ◌<◌}
use mathlib.Core.Path.{◌≡◌, refl, sym, ap, ◌∙◌, subst}
use mathlib.Core.List.{List}
use mathlib.Core.Logic.{inl, inr}
use mathlib.Core.Bool.{Bool, true, false, cond, not, ◌&&◌, ◌||◌, and-false}
use native.Mathlib.Nat.{le_trans, le_of_eq, le_of_lt, lt_of_le_of_lt, lt_of_lt_of_le, zero-mul, mul-le-mul, mul-le-mul_right, mul-le-mul_left, one-le-pow, pow-le-pow_right, zero-lt-suc, mul-pos, mod-lt, mod-eq_of_lt}
use native.Mathlib.Omega.{arith}
use lib.Dec.{T, ltb, lit≤, lit<}
use lib.IntN.{pos}
use lib.Ieee.{Float, nan, inf, fin, binary64, round, size, prec, low, up, down, is_nan}
use lib.Ieee.Scale.{overflow, normal_of_fraction, round_same}
use borrow.Author.Tests.{ltb-true, ltb-false}
use Rattle.decimal.specs.Decimal.{cell_of}
use Rattle.decimal.specs.Fine.{FineCell, FineRead}
use Rattle.decimal.specs.declared.Decimal.{Decimal}
use Rattle.decimal.specs.declared.Cell.{Cell}
use Rattle.decimal.specs.declared.Cell.TheVariants.{Number, Missing}
use Rattle.decimal.proofs.Fine.{cell-fine}
use Rattle.doubles.specs.Double.{rounded, lower, counted, double_of}
use Rattle.doubles.specs.Faithful.{gap, apart, Within, Closest, Near, Faithful, counted_cell, AllCount, plus_zero}
use Rattle.doubles.specs.declared.CellDouble.TheVariants.{Double}
use Rattle.doubles.proofs.Close.{round-within, round-closest}

-- ---- a fraction a / c from 10 ^ -22 to 10 ^ 37

module _ (a c : ℕ) (A : 0 < a) (u : a ≤ 10 ^ 37) (C : 0 < c) (l : c ≤ 10 ^ 22) where
  normal : prec binary64 ≤ size (a * 2 ^ low binary64 / c)
  normal =
      normal_of_fraction binary64 a c C
      (le_trans (mul-le-mul_left (2 ^ 52) l) (le_trans (lit≤ {m = 2 ^ 52 * 10 ^ 22} {n = 1 * 2 ^ 1074} tt) (mul-le-mul_right (2 ^ 1074) A)))

  no_overflow : a * 2 ^ low binary64 * 2 < overflow binary64 * c
  no_overflow =
      lt_of_le_of_lt (mul-le-mul_right 2 (mul-le-mul_right (2 ^ 1074) u))
      (lt_of_lt_of_le (lit< {m = 10 ^ 37 * 2 ^ 1074 * 2} {n = 2 ^ 2098 * 1} tt) (mul-le-mul_left (2 ^ 2098) C))

  fraction-within : (s : Bool) → Within (2 ^ 53) (round binary64 s a c) s a c
  fraction-within s = round-within binary64 a c C normal no_overflow s

  fraction-closest : (s : Bool) → Closest binary64 (round binary64 s a c) s a c
  fraction-closest s = round-closest binary64 a c C normal no_overflow s

-- ---- zero

zero_is : (s : Bool) (c : ℕ) → 0 < c → round binary64 s 0 c ≡ fin s 0 (pos 0)
unfolding round
zero_is s c C = round_same binary64 s 0 c 0 1 C (zero-lt-suc 0) (sym (zero-mul c))

-- within a 2 ^ 53-th part, and none is closer
abbrev Good : Float → Bool → ℕ → ℕ → Type 0
Good x s a c = Within (2 ^ 53) x s a c × Closest binary64 x s a c

none : (a n : ℕ) → a ≡ 0 → a ≤ n
none a n e = omega arith

zero-good : (s : Bool) (c : ℕ) → 0 < c → s ≡ false → Good (round binary64 s 0 c) s 0 c
zero-good s c C e =
    let nothing : gap (0 * 1 * c) (0 * 1) ≡ 0 = ap (λ (w : ℕ). gap w 0) (zero-mul c) in
    subst (λ (t : Bool). Good (round binary64 t 0 c) t 0 c) (sym e)
    (subst (λ (x : Float). Good x false 0 c) (sym (zero_is false c C)) (
      (refl, le_of_eq (ap (λ (w : ℕ). w * 2 ^ 53) nothing)),
      λ u n g k. none (gap (0 * 1 * c) (0 * 1) * down g) (apart u (n * up g * c) false (0 * down g) * 1) (ap (λ (w : ℕ). w * down g) nothing ∙ zero-mul (down g)),
    ))

-- ---- a decimal of at most fifteen digits

good : (minus : Bool) (n t c : ℕ) → n < 10 ^ 15 → 0 < t → t ≤ 10 ^ 22 → 0 < c → c ≤ 10 ^ 22 → Good (round binary64 (minus && ltb 0 n) (n * t) c) (minus && ltb 0 n) (n * t) c
good minus zero t c h T T' C C' =
    subst (λ (a : ℕ). Good (round binary64 (minus && false) a c) (minus && false) a c) (sym (zero-mul t)) (zero-good (minus && false) c C (and-false minus))
good minus (suc n) t c h T T' C C' =
    let A : 0 < suc n * t = mul-pos (zero-lt-suc n) T in
    let U : suc n * t ≤ 10 ^ 15 * 10 ^ 22 = mul-le-mul (le_of_lt h) T' in
    (fraction-within (suc n * t) c A U C C' (minus && ltb 0 (suc n)), fraction-closest (suc n * t) c A U C C' (minus && ltb 0 (suc n)))

ten-pos : (k : ℕ) → 0 < 10 ^ k
ten-pos k = one-le-pow k 10 (zero-lt-suc 9)

ten-le : (k : ℕ) → k ≤ 22 → 10 ^ k ≤ 10 ^ 22
ten-le k h = pow-le-pow_right (zero-lt-suc 9) h

-- "Zero gives plus zero", whatever its power
plus-zero : (d : Decimal) → d.digits ≡ 0 → rounded d ≡ plus_zero
unfolding rounded
plus-zero d z =
    ap (λ (n : ℕ). round binary64 (d.negative && ltb 0 n) (n * 10 ^ (d.power - 40)) (lower d)) z
    ∙ ap (λ (b : Bool). round binary64 b (0 * 10 ^ (d.power - 40)) (lower d)) (and-false d.negative)
    ∙ ap (λ (n : ℕ). round binary64 false n (lower d)) (zero-mul (10 ^ (d.power - 40)))
    ∙ zero_is false (lower d) (ten-pos (40 - d.power))

near : (d : Decimal) → d.digits < 10 ^ 15 → 18 ≤ d.power → d.power ≤ 62 → Near d (rounded d)
unfolding rounded
near d h l u =
    let g =
    good d.negative d.digits (10 ^ (d.power - 40)) (10 ^ (40 - d.power)) h
    (ten-pos (d.power - 40)) (ten-le (d.power - 40) (omega arith)) (ten-pos (40 - d.power)) (ten-le (40 - d.power) (omega arith)) in
    record { within = g.0; closest = g.1; zero = plus-zero d }

-- ---- every answer, also to cells that no reading gives: of their digits those that count

number-faithful : (d : Decimal) (x y : Bool) → ltb d.power 18 ≡ x → ltb 62 d.power ≡ y → Faithful (Number (counted d)) (cond (x || y) (Err 24) (Ok (Double (rounded (counted d)))))
number-faithful d true y e f = (refl, inl (below d.power (ltb-true d.power 18 e)))
  where
    below : (p : ℕ) → p < 18 → p + 22 < 40
    below p k = omega arith
number-faithful d false true e f = (refl, inr (ltb-true 62 d.power f))
number-faithful d false false e f =
    let l = ltb-false d.power 18 e in
    let u = ltb-false 62 d.power f in
    (above d.power l, u, near (counted d) (mod-lt d.digits (lit< tt)) l u)
  where
    above : (p : ℕ) → 18 ≤ p → 40 ≤ p + 22
    above p k = omega arith

pub any-faithful : (c : Cell) → Faithful (counted_cell c) (double_of c)
unfolding double_of
any-faithful (Number d) = number-faithful d (ltb d.power 18) (ltb 62 d.power) refl refl
any-faithful Missing = tt

finite : (c : Cell) (x : Float) → Faithful c (Ok (Double x)) → T (not (is_nan x))
unfolding is_nan
finite (Number d) nan h = absurd h.2.within
finite (Number d) (inf s) h = tt
finite (Number d) (fin s m e) h = tt
finite Missing x h = absurd h

-- so no double has a NaN's bits
pub double-number : (c : Cell) (x : Float) → double_of c ≡ Ok (Double x) → T (not (is_nan x))
double-number c x e = finite (counted_cell c) x (subst (Faithful (counted_cell c)) e (any-faithful c))

-- ---- what is read has no more digits than count

pub all-count : (c : Cell) → FineCell c → AllCount c
all-count (Number d) h = ap (λ (n : ℕ). Number (record { negative = d.negative; digits = n; power = d.power })) (mod-eq_of_lt h.digits)
all-count Missing h = refl

pub faithful : (c : Cell) → FineCell c → Faithful c (double_of c)
faithful c h = subst (λ (b : Cell). Faithful b (double_of c)) (all-count c h) (any-faithful c)

-- what a word says
pub read-faithful : (w : List ℕ) (c : Cell) → cell_of w ≡ Ok c → AllCount c × Faithful c (double_of c)
read-faithful w c e =
    let f = subst FineRead e (cell-fine w) in
    (all-count c f, faithful c f)
