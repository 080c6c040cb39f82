-- Numbers of a list, by what is among it.
use Prim.Native.Nat.{ℕ}
use mathlib.Core.Path.{◌≡◌, sym, ap, ◌∙◌}
use mathlib.Core.List.{List, ◌∷◌}
use mathlib.Core.Bool.{Bool, true, false, cond, ◌||◌}
use lib.Dec.{eqb}
use Rattle.laws.specs.Lists.{all, among}
use Rattle.laws.proofs.Tests.{cond-all}
use Rattle.laws.proofs.Appended.{among-all}

-- n is one of these
pub data Known (numbers : List ℕ) (n : ℕ) : Type 0 where
  listed : among n numbers ≡ true → Known numbers n

pub is_among : {numbers : List ℕ} {n : ℕ} → Known numbers n → among n numbers ≡ true
is_among (listed h) = h

pub either-known : {numbers : List ℕ} (t : Bool) {m n : ℕ} → Known numbers m → Known numbers n → Known numbers (cond t m n)
either-known {numbers} t {m} {n} p q = cond-all (Known numbers) t m n (λ h. p) (λ h. q)

-- a number that is not the first is one of the others
pub other-known : (n m : ℕ) {others : List ℕ} → eqb n m ≡ false → Known (m ∷ others) n → Known others n
unfolding among
other-known n m {others} differs (listed h) = listed (sym (ap (λ (t : Bool). t || among n others) differs) ∙ h)

-- where all of the few are among the many, any one of them is
pub more-known : {few many : List ℕ} {n : ℕ} → all (λ (m : ℕ). among m many) few ≡ true → Known few n → Known many n
more-known {few} {many} {n} are (listed h) = listed (among-all (λ (m : ℕ). among m many) n few h are)
