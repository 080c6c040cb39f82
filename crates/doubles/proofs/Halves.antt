-- The whole number nearest to a fraction is within half of it, and no whole number is nearer: by where twice the remainder lies.
use Prim.Native.Nat.{ℕ, zero, suc, ◌+◌, ◌*◌, ◌/◌, ◌%◌, ◌≤◌, ◌<◌, compare, Ordering}
use mathlib.Core.Path.{◌≡◌, ap, subst}
use mathlib.Core.Bool.{not}
use native.Mathlib.Nat.{le_of_eq, mul-le-mul_right, div-add-mod', mod-lt}
use native.Mathlib.Omega.{arith}
use lib.Dec.{T, is_le, compare_is_eq, leb→le, nleb→lt, eqb→eq, eqb, eqb_refl}
use lib.Arith.{lt_of_le-ne}
use lib.Ieee.{nearest}
use lib.Ieee.Nearest.{closest}
use Rattle.doubles.specs.Faithful.{gap}

-- ---- how two numbers compare

abbrev Compares : Ordering → ℕ → ℕ → Type 0
Compares Ordering.lt a b = a < b
Compares Ordering.eq a b = a ≡ b
Compares Ordering.gt a b = b < a

compares : (a b : ℕ) → Compares (compare a b) a b
compares a b = go (compare a b) (leb→le a b) (nleb→lt a b) (eqb→eq a b) (λ (e : a ≡ b). subst (λ (x : ℕ). T (eqb a x)) e (eqb_refl a))
  where
    go : (o : Ordering) → (T (is_le o) → a ≤ b) → (T (not (is_le o)) → b < a) → (T (compare_is_eq o) → a ≡ b) → (a ≡ b → T (compare_is_eq o)) → Compares o a b
    go Ordering.lt h k e n = lt_of_le-ne (h tt) n
    go Ordering.eq h k e n = e tt
    go Ordering.gt h k e n = k tt

-- ---- a is q * b + r

at-half : (q t b a r : ℕ) → t < 2 → q * b + r ≡ a → r * 2 ≡ b → gap ((q + t) * b) a * 2 ≤ b
at-half q zero b a r h e k = omega arith
at-half q (suc zero) b a r h e k = omega arith
at-half q (suc (suc t)) b a r h e k = absurd (omega arith)

below_two : (q : ℕ) → q % 2 < 2
below_two q = omega arith

nearest-half : (o : Ordering) (q b a r : ℕ) → Compares o (r * 2) b → r < b → q * b + r ≡ a → gap (nearest q o * b) a * 2 ≤ b
nearest-half Ordering.lt q b a r h k e = omega arith
nearest-half Ordering.eq q b a r h k e = at-half q (q % 2) b a r (below_two q) e h
nearest-half Ordering.gt q b a r h k e = omega arith

pub closest-half : (a b : ℕ) → 0 < b → gap (closest a b * b) a * 2 ≤ b
closest-half a b h = nearest-half (compare (a % b * 2) b) (a / b) b a (a % b) (compares (a % b * 2) b) (mod-lt a h) (div-add-mod' a b)

-- ---- whatever is within half is nearest

nearest-best : (o : Ordering) (q w b a : ℕ) → Compares o q w → gap (q * b) a * 2 ≤ b → gap (q * b) a ≤ gap (w * b) a
nearest-best Ordering.lt q w b a l h =
    let more : suc q * b ≤ w * b = mul-le-mul_right b l in
    omega arith
nearest-best Ordering.eq q w b a e h = le_of_eq (ap (λ (x : ℕ). gap (x * b) a) e)
nearest-best Ordering.gt q w b a l h =
    let less : suc w * b ≤ q * b = mul-le-mul_right b l in
    omega arith

pub closest-best : (a b w : ℕ) → 0 < b → gap (closest a b * b) a ≤ gap (w * b) a
closest-best a b w h = nearest-best (compare (closest a b) w) (closest a b) w b a (compares (closest a b) w) (closest-half a b h)
