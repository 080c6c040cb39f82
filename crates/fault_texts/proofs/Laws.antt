-- Laws of `specs/Texts.antt`: the text of a number that a fault has, and of one that none has.
use Prim.Native.Nat.{ℕ, zero, suc, ◌≤◌, ◌<◌}
use mathlib.Core.Path.{◌≡◌, refl, sym}
use mathlib.Core.List.{List, [], ◌∷◌}
use native.Mathlib.Omega.{arith}
use lib.ListN.{length, get_or, get_or-eq_default}
use Rattle.fault_texts.specs.Texts.{text_for}

-- where there is one, what stands for a missing one does not matter
get_d-there : (l : List (List ℕ)) (n : ℕ) (a b : List ℕ) → n < length l → get_or l n a ≡ get_or l n b
get_d-there [] n a b h = absurd (omega arith)
get_d-there (x ∷ l) zero a b h = refl
get_d-there (x ∷ l) (suc n) a b h = get_d-there l n a b (omega arith)

pub text-there : (texts : List (List ℕ)) (n : ℕ) → n < length texts → get_or texts n [] ≡ text_for texts n
unfolding text_for
text-there texts n h = get_d-there texts n [] (get_or texts 0 []) h

pub text-past : (texts : List (List ℕ)) (n : ℕ) → length texts ≤ n → get_or texts 0 [] ≡ text_for texts n
unfolding text_for
text-past texts n h = sym (get_or-eq_default texts (get_or texts 0 []) h)
