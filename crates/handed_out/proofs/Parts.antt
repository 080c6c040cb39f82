-- What each element of a list has, each element of its parts has: a part is taken or dropped, a word is built byte by byte.
use Prim.Native.Nat.{ℕ, zero, suc}
use mathlib.Core.Path.{subst}
use mathlib.Core.List.{List, [], ◌∷◌, ◌++◌, map}
use mathlib.Core.Bool.{Bool, true, false, cond}
use lib.ListN.{length, take, drop, get_or, replicate}
use Rattle.laws.specs.Bytes.{is_blank}
use Rattle.laws.specs.Lists.{front, after, trim, Every}
use Rattle.laws.proofs.Tests.{cond-all}
use Rattle.laws.proofs.Fronts.{front-take, after-drop}
use Rattle.laws.proofs.Trims.{trim-take}
use Rattle.laws.proofs.Every.{every_append}
use Rattle.words.specs.Words.{onto_word, grown, words}

module _ {A : Type 0} (P : A → Type 0) where
  pub every_take : (n : ℕ) (l : List A) → Every P l → Every P (take n l)
  every_take zero l h = tt
  every_take (suc n) [] h = tt
  every_take (suc n) (a ∷ l) h = (h.0, every_take n l h.1)

  pub every_drop : (n : ℕ) (l : List A) → Every P l → Every P (drop n l)
  every_drop zero l h = h
  every_drop (suc n) [] h = tt
  every_drop (suc n) (a ∷ l) h = every_drop n l h.1

  pub every_front : (p : A → Bool) (l : List A) → Every P l → Every P (front p l)
  every_front p l h = subst (Every P) (front-take p l) (every_take (length (front p l)) l h)

  pub every-after : (p : A → Bool) (l : List A) → Every P l → Every P (after p l)
  every-after p l h = subst (Every P) (after-drop p l) (every_drop (length (front p l)) l h)

  pub every-trim : (p : A → Bool) (l : List A) → Every P l → Every P (trim p l)
  every-trim p l h = subst (Every P) (trim-take p l) (every_take (length (trim p l)) l h)

  pub every-at : (l : List A) (n : ℕ) (d : A) → P d → Every P l → P (get_or l n d)
  every-at [] n d k h = k
  every-at (a ∷ l) zero d k h = h.0
  every-at (a ∷ l) (suc n) d k h = every-at l n d k h.1

  -- in front if a test holds
  pub every-if : (t : Bool) (l m : List A) → Every P l → Every P m → Every P (cond t l [] ++ m)
  every-if true l m h k = every_append P l m h k
  every-if false l m h k = k

  pub every-same : (n : ℕ) (a : A) → P a → Every P (replicate n a)
  every-same zero a h = tt
  every-same (suc n) a h = (h, every-same n a h)

  pub every-mapped : {B : Type 0} (Q : B → Type 0) (f : B → A) → ((b : B) → Q b → P (f b)) → (l : List B) → Every Q l → Every P (map f l)
  every-mapped Q f k [] h = tt
  every-mapped Q f k (b ∷ l) h = (k b h.0, every-mapped Q f k l h.1)

-- ---- words

module _ (P : ℕ → Type 0) where
  onto-each : (b : ℕ) (ws : List (List ℕ)) → P b → Every (Every P) ws → Every (Every P) (onto_word b ws)
  unfolding onto_word
  onto-each b [] h k = ((h, tt), tt)
  onto-each b (w ∷ ws) h k = ((h, k.0), k.1)

  grown-each : (b : ℕ) (bs : List ℕ) (ws : List (List ℕ)) → P b → Every (Every P) ws → Every (Every P) (grown b bs ws)
  unfolding grown
  grown-each b [] ws h k = ((h, tt), k)
  grown-each b (x ∷ xs) ws h k = cond-all (Every (Every P)) (is_blank x) _ _ (λ e. ((h, tt), k)) (λ e. onto-each b ws h k)

  pub every-words : (l : List ℕ) → Every P l → Every (Every P) (words l)
  unfolding words
  every-words [] h = tt
  every-words (b ∷ bs) h =
      cond-all (Every (Every P)) (is_blank b) _ _ (λ e. every-words bs h.1) (λ e. grown-each b bs (words bs) h.0 (every-words bs h.1))
