-- Laws of `up_to`: its length, and what is made of each element.
use Prim.Native.Nat.{ℕ, zero, suc}
use mathlib.Core.Path.{◌≡◌, refl, ap, ◌∙◌}
use mathlib.Core.List.{List, [], ◌∷◌, ◌++◌, map, map-append}
use native.Mathlib.Numerals.{add-one}
use lib.ListN.{length, length-append}
use Rattle.file_answer.specs.Sorted.{up_to}

module _ {A : Type 0} (f : ℕ → A) where
  pub up_to-length : (n : ℕ) → length (up_to f n) ≡ n
  unfolding up_to
  up_to-length zero = refl
  up_to-length (suc n) = length-append (up_to f n) (f n ∷ []) ∙ (rw (up_to-length n) (add-one n))

pub map-up_to : {A B : Type 0} (g : A → B) (f : ℕ → A) (n : ℕ) → map g (up_to f n) ≡ up_to (λ (i : ℕ). g (f i)) n
unfolding up_to
map-up_to g f zero = refl
map-up_to g f (suc n) = map-append g (up_to f n) (f n ∷ []) ∙ ap (λ (l : List _). l ++ (g (f n) ∷ [])) (map-up_to g f n)
