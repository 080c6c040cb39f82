-- Tests: what a test says, and what `cond` gives once it is known. Each is by cases on the test.
use Prim.Native.Nat.{ℕ, ◌≤◌, ◌<◌}
use mathlib.Core.Path.{◌≡◌, refl, ap}
use mathlib.Core.Bool.{Bool, true, false, cond, ◌&&◌, ◌||◌}
use native.Mathlib.Decide.{dec_le}
use native.Mathlib.Nat.{lt_of_not-le}
use native.Mathlib.Omega.{arith}

-- a test, with what it says
pub by-test {ℓ} : {X : Type ℓ} (t : Bool) → (t ≡ true → X) → (t ≡ false → X) → X
by-test true f g = f refl
by-test false f g = g refl

-- one order or the other
pub by_order {ℓ} : {X : Type ℓ} (a b : ℕ) → (a ≤ b → X) → (b < a → X) → X
by_order a b f g = elim (dec_le a b) [ yes h ↦ f h | no h ↦ g (lt_of_not-le h) ]

pub cond_yes : {X : Type 0} {t : Bool} (a b : X) → t ≡ true → cond t a b ≡ a
cond_yes a b h = ap (λ (t : Bool). cond t a b) h

pub cond_no : {X : Type 0} {t : Bool} (a b : X) → t ≡ false → cond t a b ≡ b
cond_no a b h = ap (λ (t : Bool). cond t a b) h

-- what both branches have, `cond` has
pub cond-all {ℓ} : {X : Type 0} (P : X → Type ℓ) (t : Bool) (a b : X) → (t ≡ true → P a) → (t ≡ false → P b) → P (cond t a b)
cond-all P true a b x y = x refl
cond-all P false a b x y = y refl

-- a function goes into both branches
pub cond_map : {X Y : Type 0} (f : X → Y) (t : Bool) (a b : X) → f (cond t a b) ≡ cond t (f a) (f b)
cond_map f true a b = refl
cond_map f false a b = refl

-- a test that does not matter
pub cond_same : {X : Type 0} (t : Bool) (a : X) → a ≡ cond t a a
cond_same true a = refl
cond_same false a = refl

pub and_both : (s t : Bool) → s ≡ true → t ≡ true → (s && t) ≡ true
and_both true t h k = k
and_both false t h k = h

pub and_left : (s t : Bool) → s ≡ false → (s && t) ≡ false
and_left true t h = cc
and_left false t h = refl

pub and_right : (s t : Bool) → t ≡ false → (s && t) ≡ false
and_right true t h = h
and_right false t h = refl

-- a test of two parts that holds: each part holds
pub and_first : (s t : Bool) → (s && t) ≡ true → s ≡ true
and_first true t h = refl
and_first false t h = h

pub and_second : (s t : Bool) → (s && t) ≡ true → t ≡ true
and_second true t h = h
and_second false t h = cc

-- no test both holds and fails
pub never : (t : Bool) → t ≡ true → t ≡ false → ⊥
never t h k = let z : ◌≡◌ {A = ℕ} 0 1 = cc in omega arith

pub or-none : (t : Bool) → (t || false) ≡ t
or-none true = refl
or-none false = refl

pub or_left : (s t : Bool) → (s || t) ≡ false → s ≡ false
or_left true t h = h
or_left false t h = refl

pub or_right : (s t : Bool) → (s || t) ≡ false → t ≡ false
or_right true t h = cc
or_right false t h = h

-- from an impossible equation anything follows: `cc` proves it where two constructors that differ are said to be equal
pub impossible : {X : Type 0} → ◌≡◌ {A = ℕ} 0 1 → X
impossible e = absurd (omega arith)
