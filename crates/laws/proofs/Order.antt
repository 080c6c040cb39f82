-- `comes_before` is an order: no text comes before itself, and what comes before a text comes before all behind it. By cases on the first bytes.
use Prim.Native.Nat.{ℕ, ◌<◌}
use mathlib.Core.Path.{◌≡◌, refl, ◌∙◌}
use mathlib.Core.List.{List, [], ◌∷◌}
use mathlib.Core.Bool.{true, false}
use native.Mathlib.Omega.{arith}
use lib.Dec.{eqb, ltb}
use borrow.Author.Tests.{ltb-true, lt-ltb, le-ltb, eqb-true, eq-eqb}
use Rattle.laws.specs.Order.{comes_before}
use Rattle.laws.proofs.Tests.{by-test, never}

module _ (x y : ℕ) (v w : List ℕ) where
  before-less : x < y → comes_before (x ∷ v) (y ∷ w) ≡ true
  unfolding comes_before
  before-less h = rw (lt-ltb x y h)

  before_same : x ≡ y → comes_before v w ≡ true → comes_before (x ∷ v) (y ∷ w) ≡ true
  unfolding comes_before
  before_same e h = by-test (ltb x y) (λ l. rw l) (λ l. rw (l, eq-eqb x y e) h)

  before-cases : {X : Type 0} → comes_before (x ∷ v) (y ∷ w) ≡ true → (x < y → X) → (x ≡ y → comes_before v w ≡ true → X) → X
  unfolding comes_before
  before-cases h less same =
      by-test (ltb x y)
      (λ l. less (ltb-true x y l))
      (λ l.
      by-test (eqb x y)
      (λ e. same (eqb-true x y e) (rw (l, e) at h))
      (λ e. absurd (never false (rw (l, e) at h) refl)))

pub before_self : (w : List ℕ) → comes_before w w ≡ false
unfolding comes_before
before_self [] = refl
before_self (b ∷ w) = rw (le-ltb b b (omega arith), eq-eqb b b refl) (before_self w)

pub before-trans : (u v w : List ℕ) → comes_before u v ≡ true → comes_before v w ≡ true → comes_before u w ≡ true
unfolding comes_before
before-trans u v [] h k = k
before-trans u [] (c ∷ w) h k = let z : false ≡ true = h in cc
before-trans [] (b ∷ v) (c ∷ w) h k = refl
before-trans (a ∷ u) (b ∷ v) (c ∷ w) h k =
    before-cases a b u v h
    (λ l. before-cases b c v w k (λ m. before-less a c u w (omega arith)) (λ m q. before-less a c u w (omega arith)))
    (λ e p. before-cases b c v w k (λ m. before-less a c u w (omega arith)) (λ m q. before_same a c u w (e ∙ m) (before-trans u v w p q)))
