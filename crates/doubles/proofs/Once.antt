-- The product and the quotient of two floats that are fractions exactly are the product and the quotient of the fractions, rounded once; and a
-- float negated is its fraction rounded with the other sign.
use Prim.Native.Nat.{ℕ, zero, suc, ◌+◌, ◌*◌, ◌^◌, ◌<◌}
use mathlib.Core.Path.{◌≡◌, refl, sym, ap, ◌∙◌, subst}
use mathlib.Core.Bool.{Bool, true, false, cond, true≢false}
use native.Mathlib.Nat.{mul_assoc, mul_comm, mul_left_comm, mul-pos, mul-mul-mul_comm, lt_irrefl}
use lib.Dec.{ltb, eqb}
use lib.Ieee.{Float, nan, inf, fin, Format, prec, emax, low, up, down, odd, units, round, neg, mul, div}
use lib.Ieee.Fits.{down_pos, round_is}
use lib.Ieee.Exact.{HasValue}
use lib.Ieee.Order.{drop, kept}
use lib.Ieee.Scale.{round_same}
use lib.Ieee.Positive.{first_pos}
use borrow.Author.Tests.{ne_eqb}

-- ---- x is a / c and y is b / d

pub product : (f : Format) (x y : Float) (a c b d : ℕ) → 0 < c → 0 < d → HasValue x false a c → HasValue y false b d → mul f x y ≡ round f false (a * b) (c * d)
unfolding mul
product f nan y a c b d C D h k = elim h [ ]
product f (inf _) y a c b d C D h k = elim h [ ]
product f (fin true m e) y a c b d C D h k = absurd (true≢false h.0)
product f (fin false m e) nan a c b d C D h k = elim k [ ]
product f (fin false m e) (inf _) a c b d C D h k = elim k [ ]
product f (fin false m e) (fin true n g) a c b d C D h k = absurd (true≢false k.0)
product f (fin false m e) (fin false n g) a c b d C D h k =
    round_same f false (m * up e * (n * up g)) (down e * down g) (a * b) (c * d) (mul-pos (down_pos e) (down_pos g)) (mul-pos C D)
    (mul-mul-mul_comm (m * up e) (n * up g) c d
    ∙ ap (λ (z : ℕ). z * (n * up g * d)) h.1
    ∙ ap (λ (z : ℕ). a * down e * z) k.1
    ∙ mul-mul-mul_comm a (down e) b (down g))

-- (x / e) / (y / g) and (a / c) / (b / d), multiplied out
crossed : (x e a c y g b d : ℕ) → x * c ≡ a * e → y * d ≡ b * g → x * g * (b * c) ≡ a * d * (y * e)
crossed x e a c y g b d h k =
    let left : x * g * (b * c) ≡ x * c * (b * g) = simp (mul_assoc, mul_comm, mul_left_comm) in
    let right : a * e * (y * d) ≡ a * d * (y * e) = simp (mul_assoc, mul_comm, mul_left_comm) in
    left ∙ ap (λ (z : ℕ). z * (b * g)) h ∙ ap (λ (z : ℕ). a * e * z) (sym k) ∙ right

pub quotient : (f : Format) (x y : Float) (a c b d : ℕ) → 0 < c → 0 < b → HasValue x false a c → HasValue y false b d → div f x y ≡ round f false (a * d) (b * c)
unfolding div
quotient f nan y a c b d C B h k = elim h [ ]
quotient f (inf _) y a c b d C B h k = elim h [ ]
quotient f (fin true m e) y a c b d C B h k = absurd (true≢false h.0)
quotient f (fin false m e) nan a c b d C B h k = elim k [ ]
quotient f (fin false m e) (inf _) a c b d C B h k = elim k [ ]
quotient f (fin false m e) (fin true n g) a c b d C B h k = absurd (true≢false k.0)
quotient f (fin false m e) (fin false n g) a c b d C B h k =
    let above : 0 < n * up g = first_pos (n * up g) d (subst (λ (z : ℕ). 0 < z) (sym k.1) (mul-pos B (down_pos g))) in
    let divisor : eqb n 0 ≡ false = ne_eqb n 0 (λ z. lt_irrefl 0 (subst (λ (w : ℕ). 0 < w) z (first_pos n (up g) above))) in
    ap (λ (t : Bool). cond t (cond (eqb m 0) nan (inf false)) (round f false (m * up e * down g) (n * up g * down e))) divisor
    ∙ round_same f false (m * up e * down g) (n * up g * down e) (a * d) (b * c) (mul-pos above (down_pos e)) (mul-pos B C)
    (crossed (m * up e) (down e) a c (n * up g) (down g) b d h.1 k.1)

-- ---- the other sign

odd-negated : (d q k l : ℕ) → neg (odd d false q k l) ≡ odd d true q k l
unfolding neg odd
odd-negated d zero k l = refl
odd-negated d (suc q) k l = refl

units-negated : (f : Format) (q k : ℕ) → neg (units f false q k) ≡ units f true q k
unfolding units neg
units-negated f q k = go (ltb (q * 2 ^ k) (2 ^ (low f + suc (emax f))))
  where
    go : (b : Bool) → neg (cond b (odd (suc (prec f)) false q k (low f)) (inf false)) ≡ cond b (odd (suc (prec f)) true q k (low f)) (inf true)
    go true = odd-negated (suc (prec f)) q k (low f)
    go false = refl

pub negated : (f : Format) (a c : ℕ) → neg (round f false a c) ≡ round f true a c
negated f a c =
    let n = a * 2 ^ low f in
    ap neg (round_is f false a c) ∙ units-negated f (kept (prec f) n c) (drop (prec f) n c) ∙ sym (round_is f true a c)
