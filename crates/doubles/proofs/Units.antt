-- Every value of a format is a whole number of its smallest value: so distances are compared in that unit, and then over the denominators of the
-- values themselves.
use Prim.Native.Nat.{ℕ, zero, suc, ◌+◌, ◌-◌, ◌*◌, ◌%◌, ◌^◌, ◌≤◌, ◌<◌}
use mathlib.Core.Path.{◌≡◌, sym, ap, ◌∙◌}
use mathlib.Core.Bool.{Bool, true, false, not, cond, beq, ◌&&◌}
use native.Mathlib.Nat.{le_trans, le_of_eq, not-le_of_lt, zero-mul, mul_comm, mul_assoc, mul_right_comm, mul-one, mul-le-mul_right, add-mul, mul-sub, le_of_mul-le-mul_right}
use native.Mathlib.Omega.{arith}
use lib.Dec.{T, leb, ltb, eqb, ltb→lt, leb→le, nleb→lt}
use lib.IntN.{ℤ, pos, negsuc}
use lib.Pow.{pow-add, pow_pos, pow-lt}
use lib.Ieee.{Float, nan, inf, fin, Format, prec, emax, low, up, down, fits}
use lib.Ieee.Digits.{back}
use lib.Ieee.Fits.{and_l, and_r}
use lib.Ieee.Exact.{HasValue}
use Rattle.doubles.specs.Faithful.{gap, apart, Within, Closest}

-- ---- distances over other denominators

sub-mul : (x y z : ℕ) → (x - y) * z ≡ x * z - y * z
sub-mul x y z = mul_comm (x - y) z ∙ mul-sub z x y ∙ ap (λ (w : ℕ). w - z * y) (mul_comm z x) ∙ ap (λ (w : ℕ). x * z - w) (mul_comm z y)

gap-mul : (x y z : ℕ) → gap (x * z) (y * z) ≡ gap x y * z
gap-mul x y z =
    ap (λ (w : ℕ). w + (y * z - x * z)) (sym (sub-mul x y z))
    ∙ ap (λ (w : ℕ). (x - y) * z + w) (sym (sub-mul y x z))
    ∙ sym (add-mul (x - y) (y - x) z)

-- m / d is x / l: how far both are from a / c
over : (m d x l a c : ℕ) → m * l ≡ x * d → gap (m * c) (a * d) * l ≡ gap (x * c) (a * l) * d
over m d x l a c v =
    sym (gap-mul (m * c) (a * d) l)
    ∙ ap (λ (w : ℕ). gap w (a * d * l)) (mul_right_comm m c l ∙ ap (λ (w : ℕ). w * c) v ∙ mul_right_comm x d c)
    ∙ ap (λ (w : ℕ). gap (x * c * d) w) (mul_right_comm a d l)
    ∙ gap-mul (x * c) (a * l) d

-- y is x / l
pub within-value : (p : ℕ) (y : Float) (s : Bool) (x l a c : ℕ) → 0 < l → HasValue y s x l → gap (x * c) (a * l) * p ≤ a * l → Within p y s a c
within-value p nan s x l a c L v h = v
within-value p (inf t) s x l a c L v h = v
within-value p (fin t m e) s x l a c L v h = (
  v.0,
  le_of_mul-le-mul_right
      (le_trans
      (le_of_eq
      (mul_right_comm (gap (m * up e * c) (a * down e)) p l
      ∙ ap (λ (w : ℕ). w * p) (over (m * up e) (down e) x l a c v.1)
      ∙ mul_right_comm (gap (x * c) (a * l)) (down e) p))
      (le_trans (mul-le-mul_right (down e) h) (le_of_eq (mul_right_comm a l (down e)))))
      L,
)

-- ---- a value of the format is n * 2 ^ j units, with n of at most `prec` digits

below_power : (i l : ℕ) → 2 ^ i ≤ 2 ^ l → i ≤ l
below_power i l h = go (leb i l) (leb→le i l) (nleb→lt i l)
  where
    go : (b : Bool) → (T b → i ≤ l) → (T (not b) → l < i) → i ≤ l
    go true a b = a tt
    go false a b = absurd (not-le_of_lt (pow-lt (b tt)) h)

abbrev InUnits : Format → ℕ → ℤ → Type 0
InUnits f n g = (j : ℕ) × (n < 2 ^ prec f) × (n * up g * 2 ^ low f ≡ n * 2 ^ j * down g)

not-low-in-units : (f : Format) (n : ℕ) (g : ℤ) → n < 2 ^ prec f → down g ≤ 2 ^ low f → InUnits f n g
not-low-in-units f n (pos i) h k = (
  i + low f,
  h,
  mul_assoc n (2 ^ i) (2 ^ low f) ∙ ap (λ (w : ℕ). n * w) (sym (pow-add 2 i (low f))) ∙ sym (mul-one (n * 2 ^ (i + low f))),
)
not-low-in-units f n (negsuc i) h k =
    let e : 2 ^ low f ≡ 2 ^ (low f - suc i) * 2 ^ suc i =
    ap (λ (w : ℕ). 2 ^ w) (sym (back (low f) (suc i) (below_power (suc i) (low f) k))) ∙ pow-add 2 (low f - suc i) (suc i) in (
      low f - suc i,
      h,
      ap (λ (w : ℕ). w * 2 ^ low f) (mul-one n) ∙ ap (λ (w : ℕ). n * w) e ∙ sym (mul_assoc n (2 ^ (low f - suc i)) (2 ^ suc i)),
    )

in-units : (f : Format) (u : Bool) (n : ℕ) (g : ℤ) → T (fits f (fin u n g)) → InUnits f n g
unfolding fits
in-units f u zero g t = (0, pow_pos (prec f), ap (λ (w : ℕ). w * 2 ^ low f) (zero-mul (up g)) ∙ zero-mul (2 ^ low f) ∙ sym (zero-mul (down g)))
in-units f u (suc n) g t =
    let is_odd : Bool = eqb (suc n % 2) 1 in
    let is_short : Bool = ltb (suc n) (2 ^ prec f) in
    let is_coarse : Bool = leb (down g) (2 ^ low f) in
    let is_small : Bool = ltb (suc n * up g) (2 ^ suc (emax f) * down g) in
    let coarse = and_l (is_odd && is_short && is_coarse) is_small t in
    not-low-in-units f (suc n) g
    (ltb→lt (suc n) (2 ^ prec f) (and_r is_odd is_short (and_l (is_odd && is_short) is_coarse coarse)))
    (leb→le (down g) (2 ^ low f) (and_r (is_odd && is_short) is_coarse coarse))

-- ---- two distances, in units and over their own denominators

compared : (o p x y d g l : ℕ) → 0 < l → x * l ≡ o * d → y * l ≡ p * g → o ≤ p → x * g ≤ y * d
compared o p x y d g l L u v h =
    le_of_mul-le-mul_right
    (le_trans (le_of_eq (mul_right_comm x g l ∙ ap (λ (w : ℕ). w * g) u))
    (le_trans (mul-le-mul_right g (mul-le-mul_right d h)) (le_of_eq (mul_right_comm p d g ∙ ap (λ (w : ℕ). w * d) (sym v) ∙ mul_right_comm y l d))))
    L

gap-least : (x y : ℕ) → gap x y ≤ x + y
gap-least x y = omega arith

-- with a sign of its own a value is no closer
signed : (u s : Bool) (x y : ℕ) → gap x y ≤ apart u x s y
signed u s x y = go (beq u s)
  where
    go : (b : Bool) → gap x y ≤ cond b (gap x y) (x + y)
    go true = le_of_eq (λ i. gap x y)
    go false = gap-least x y

beq-refl : (s : Bool) → beq s s ≡ true
beq-refl true = λ i. true
beq-refl false = λ i. true

same_sign : (t s : Bool) (x y : ℕ) → t ≡ s → apart t x s y ≡ gap x y
same_sign t s x y e = ap (λ (u : Bool). apart u x s y) e ∙ ap (λ (b : Bool). cond b (gap x y) (x + y)) (beq-refl s)

-- y is x units
pub closest-value : (f : Format) (y : Float) (s : Bool) (x a c : ℕ) → HasValue y s x (2 ^ low f)
    → ((n j : ℕ) → n < 2 ^ prec f → gap (x * c) (a * 2 ^ low f) ≤ gap (n * 2 ^ j * c) (a * 2 ^ low f)) → Closest f y s a c
closest-value f nan s x a c v h = v
closest-value f (inf t) s x a c v h = v
closest-value f (fin t m e) s x a c v h = λ u n g k.
    let i = in-units f u n g k in
    le_trans (le_of_eq (ap (λ (w : ℕ). w * down g) (same_sign t s (m * up e * c) (a * down e) v.0)))
    (le_trans
    (compared (gap (x * c) (a * 2 ^ low f)) (gap (n * 2 ^ i.0 * c) (a * 2 ^ low f)) (gap (m * up e * c) (a * down e)) (gap (n * up g * c) (a * down g)) (down e) (down g) (2 ^ low f) (pow_pos (low f))
    (over (m * up e) (down e) x (2 ^ low f) a c v.1) (over (n * up g) (down g) (n * 2 ^ i.0) (2 ^ low f) a c i.2) (h n i.0 i.1))
    (mul-le-mul_right (down e) (signed u s (n * up g * c) (a * down g))))
