-- Notes are held the latest first: in file order the latest is the last. By `reverse-cons` and the laws of `++`.
use mathlib.Core.Path.{◌≡◌, refl, sym, ap, ◌∙◌}
use mathlib.Core.List.{List, [], ◌∷◌, ◌++◌, map, flat_map, reverse, append-nil, append_assoc, map-append, reverse-cons}
use lib.ListN.{length, length-map, length-reverse}

module _ {A B : Type 0} (f : A → B) (n : A) (l : List A) where
  pub latest-last : map f (reverse l) ++ (f n ∷ []) ≡ map f (reverse (n ∷ l))
  latest-last = sym (ap (map f) (reverse-cons n l) ∙ map-append f (reverse l) (n ∷ []))

  pub latest-then : (more : List B) → map f (reverse l) ++ (f n ∷ more) ≡ map f (reverse (n ∷ l)) ++ more
  latest-then more = sym (append_assoc (map f (reverse l)) (f n ∷ []) more) ∙ ap (λ (x : List B). x ++ more) latest-last

pub latest-length : {A B : Type 0} (f : A → B) (l : List A) → length (map f (reverse l)) ≡ length l
latest-length f l = length-map (reverse l) f ∙ length-reverse l

-- nothing behind them
pub latest-length-only : {A B : Type 0} (f : A → B) (l : List A) → length (map f (reverse l) ++ []) ≡ length l
latest-length-only f l = ap length (append-nil (map f (reverse l))) ∙ latest-length f l

pub flat_append : {A B : Type 0} (f : A → List B) (l m : List A) → flat_map f (l ++ m) ≡ flat_map f l ++ flat_map f m
unfolding flat_map
flat_append f [] m = refl
flat_append f (a ∷ l) m = ap (λ (x : List _). f a ++ x) (flat_append f l m) ∙ sym (append_assoc (f a) (flat_map f l) (flat_map f m))

pub latest-flat : {A B : Type 0} (f : A → List B) (n : A) (l : List A) → flat_map f (reverse l) ++ f n ≡ flat_map f (reverse (n ∷ l))
unfolding flat_map
latest-flat f n l =
    sym
    (ap (flat_map f) (reverse-cons n l)
    ∙ flat_append f (reverse l) (n ∷ [])
    ∙ ap (λ (x : List _). flat_map f (reverse l) ++ x) (append-nil (f n)))
