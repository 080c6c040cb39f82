-- How far `round` moves a fraction: by half a unit of its last digit. So in the normal range by a 2 ^ prec-th part of the fraction at most, and no
-- value of the format is closer.
use Prim.Native.Nat.{ℕ, suc, ◌+◌, ◌-◌, ◌*◌, ◌/◌, ◌^◌, ◌≤◌, ◌<◌}
use mathlib.Core.Path.{◌≡◌, sym, ap, ◌∙◌, subst}
use mathlib.Core.Bool.{Bool, true, false, not}
use native.Mathlib.Nat.{le_trans, le_of_eq, le_of_lt, mul_comm, mul_assoc, mul_left_comm, mul-one, mul-le-mul_right, mul-le-mul_left, lt_of_lt_of_le, mul-pos, lt_of_mul-lt-mul_right, le-div_iff_mul-le, pow-succ'}
use native.Mathlib.Omega.{arith}
use lib.Dec.{T, leb, leb→le, nleb→lt}
use lib.Pow.{pow-add, pow_pos, pow_mono, shl_lt}
use lib.Ieee.{Float, Format, prec, low, size, round}
use lib.Ieee.Digits.{size_reaches, back}
use lib.Ieee.Fits.{round_is, two, two-le_pos}
use lib.Ieee.Exact.{HasValue, units_val}
use lib.Ieee.Nearest.{closest}
use lib.Ieee.Order.{drop, kept}
use lib.Ieee.Scale.{grid, overflow}
use Rattle.doubles.specs.Faithful.{gap, Within, Closest}
use Rattle.doubles.proofs.Halves.{closest-half, closest-best}
use Rattle.doubles.proofs.Units.{within-value, closest-value}

-- ---- on powers of two

-- half of c * 2 ^ k is a 2 ^ (p + 1)-th part of what has z = k + p digits more than c
part_of : (o c k p z n : ℕ) → o * 2 ≤ c * 2 ^ k → k + p ≡ z → 2 ^ z * c ≤ n → o * 2 ^ suc p ≤ n
part_of o c k p z n h e l =
    le_trans (le_of_eq (ap (λ (w : ℕ). o * w) (pow-succ' 2 p) ∙ sym (mul_assoc o 2 (2 ^ p))))
    (le_trans (mul-le-mul_right (2 ^ p) h)
    (le_trans (le_of_eq (mul_assoc c (2 ^ k) (2 ^ p) ∙ ap (λ (w : ℕ). c * w) (sym (pow-add 2 k p) ∙ ap (λ (w : ℕ). 2 ^ w) e) ∙ mul_comm c (2 ^ z))) l))

pred-suc : (p : ℕ) → 0 < p → suc (p - 1) ≡ p
pred-suc p h = omega arith

pred_lt : (p : ℕ) → 0 < p → p - 1 < p
pred_lt p h = omega arith

dropped-and-kept : (z p : ℕ) → 0 < p → p ≤ z → z - p + (p - 1) ≡ z - 1
dropped-and-kept z p h k = omega arith

split-power : (n j k c : ℕ) → k ≤ j → n * 2 ^ (j - k) * (c * 2 ^ k) ≡ n * 2 ^ j * c
split-power n j k c h =
    let e : 2 ^ j ≡ 2 ^ (j - k) * 2 ^ k = ap (λ (w : ℕ). 2 ^ w) (sym (back j k h)) ∙ pow-add 2 (j - k) k in
    let l : n * 2 ^ (j - k) * (c * 2 ^ k) ≡ n * (2 ^ (j - k) * 2 ^ k) * c = simp (mul_assoc, mul_comm, mul_left_comm) in
    l ∙ ap (λ (w : ℕ). n * w * c) (sym e)

top-power : (p z c : ℕ) → 0 < p → p ≤ z → 2 ^ (p - 1) * (c * 2 ^ (z - p)) ≡ 2 ^ (z - 1) * c
top-power p z c h k =
    let l : 2 ^ (p - 1) * (c * 2 ^ (z - p)) ≡ 2 ^ (z - p) * 2 ^ (p - 1) * c = simp (mul_assoc, mul_comm, mul_left_comm) in
    l ∙ ap (λ (w : ℕ). w * c) (sym (pow-add 2 (z - p) (p - 1)) ∙ ap (λ (w : ℕ). 2 ^ w) (dropped-and-kept z p h k))

-- what has p digits and stands j places up is below what has z digits, for j below z - p
short-of : (n j p z : ℕ) → n < 2 ^ p → j < z - p → n * 2 ^ j ≤ 2 ^ (z - 1)
short-of n j p z h l = le_trans (le_of_lt (shl_lt p j h)) (pow_mono (room j p z l))
  where
    room : (j p z : ℕ) → j < z - p → p + j ≤ z - 1
    room j p z l = omega arith

gap_below : (x y n : ℕ) → x ≤ y → y ≤ n → gap y n ≤ gap x n
gap_below x y n h k = omega arith

under-double : (x n t : ℕ) → gap x n ≤ n → n * 2 < t → x < t
under-double x n t h k = omega arith

-- ---- a / c is n / c in units of the format's smallest value, and the result is `grid` of them

module _ (f : Format) (a c : ℕ) (C : 0 < c) where
  abbrev n : ℕ
  n = a * 2 ^ low f

  -- how far the result is, times c
  abbrev off : ℕ
  off = gap (grid f a c * c) n

  -- a unit of the last digit that is kept, times c
  abbrev unit : ℕ
  unit = c * 2 ^ drop (prec f) n c

  unit-pos : 0 < unit
  unit-pos = mul-pos C (pow_pos (drop (prec f) n c))

  grid-is : closest n unit * unit ≡ grid f a c * c
  grid-is = simp (mul_assoc, mul_comm, mul_left_comm)

  half : off * 2 ≤ unit
  half = subst (λ (x : ℕ). gap x n * 2 ≤ unit) grid-is (closest-half n unit unit-pos)

  -- no multiple of the unit is closer
  best : (w : ℕ) → off ≤ gap (w * unit) n
  best w = subst (λ (x : ℕ). gap x n ≤ gap (w * unit) n) grid-is (closest-best n unit w unit-pos)

  -- in the normal range
  module _ (N : prec f ≤ size (n / c)) where
    abbrev z : ℕ
    z = size (n / c)

    prec-pos : 0 < prec f
    prec-pos = two-le_pos (prec f) (two f)

    reaches : 2 ^ (z - 1) * c ≤ n
    reaches = (le-div_iff_mul-le C).0 (size_reaches (n / c) (z - 1) (pred_lt z (lt_of_lt_of_le prec-pos N)))

    relative : off * 2 ^ prec f ≤ n
    relative =
        subst (λ (p : ℕ). off * 2 ^ p ≤ n) (pred-suc (prec f) prec-pos)
        (part_of off c (drop (prec f) n c) (prec f - 1) (z - 1) n half (dropped-and-kept z (prec f) prec-pos N) reaches)

    -- what is no multiple of the unit is smaller than 2 ^ (z - 1), which is one and lies below the fraction
    closer : (m j : ℕ) → m < 2 ^ prec f → off ≤ gap (m * 2 ^ j * c) n
    closer m j h = go (leb (drop (prec f) n c) j) (leb→le (drop (prec f) n c) j) (nleb→lt (drop (prec f) n c) j)
      where
        go : (b : Bool) → (T b → drop (prec f) n c ≤ j) → (T (not b) → j < drop (prec f) n c) → off ≤ gap (m * 2 ^ j * c) n
        go true l g = subst (λ (x : ℕ). off ≤ gap x n) (split-power m j (drop (prec f) n c) c (l tt)) (best (m * 2 ^ (j - drop (prec f) n c)))
        go false l g =
            le_trans (subst (λ (x : ℕ). off ≤ gap x n) (top-power (prec f) z c prec-pos N) (best (2 ^ (prec f - 1))))
            (gap_below (m * 2 ^ j * c) (2 ^ (z - 1) * c) n (mul-le-mul_right c (short-of m j (prec f) z h (g tt))) reaches)

    -- and far from overflow
    module _ (U : n * 2 < overflow f * c) where
      under : grid f a c < overflow f
      under =
          let less : off ≤ n = le_trans (le_trans (le_of_eq (sym (mul-one off))) (mul-le-mul_left off (pow_pos (prec f)))) relative in
          lt_of_mul-lt-mul_right c (under-double (grid f a c * c) n (overflow f * c) less U)

      value : (s : Bool) → HasValue (round f s a c) s (grid f a c) (2 ^ low f)
      value s =
          subst (λ (x : Float). HasValue x s (grid f a c) (2 ^ low f)) (sym (round_is f s a c)) (units_val f s (kept (prec f) n c) (drop (prec f) n c) under)

      pub round-within : (s : Bool) → Within (2 ^ prec f) (round f s a c) s a c
      round-within s = within-value (2 ^ prec f) (round f s a c) s (grid f a c) (2 ^ low f) a c (pow_pos (low f)) (value s) relative

      pub round-closest : (s : Bool) → Closest f (round f s a c) s a c
      round-closest s = closest-value f (round f s a c) s (grid f a c) a c (value s) closer
