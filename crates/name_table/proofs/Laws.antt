-- Laws of `specs/Names.antt`: a turn of the search, where the name found stands, and that the place found stands for
-- the meaning.
use Rattle.std.specs.Prelude.{Option, None, Some}
use Prim.Native.Nat.{ℕ, zero, suc, ◌+◌, ◌-◌, ◌≤◌, ◌<◌}
use mathlib.Core.Path.{◌≡◌, refl, sym, ap, ap₂, subst, ◌∙◌}
use mathlib.Core.List.{List, [], ◌∷◌, map}
use mathlib.Core.Bool.{Bool, true, false}
use native.Mathlib.Nat.{sub_self}
use native.Mathlib.Omega.{arith}
use lib.ListN.{length, drop, get_or, drop_of_length-le}
use Rattle.laws.specs.Lists.{eqs, all}
use Rattle.laws.proofs.Tests.{by-test, cond_yes, cond_no, and_first, and_second, impossible}
use Rattle.laws.proofs.Lists.{from_cons}
use Rattle.laws.proofs.Same.{eqs-eq}
use Rattle.words.specs.Words.{word}
use Rattle.name_table.specs.Names.{Naming, meaning, first_from, place_from}
use Rattle.name_table.specs.Places.{names_of, meaning_at, meaning_of}

-- ---- a turn of the search

module _ (p : List ℕ → Bool) (k : ℕ) where
  pub first-none : (ns : List (List ℕ)) → ns ≡ [] → first_from p k ns ≡ None
  first-none ns e = ap (first_from p k) e

  pub first-here : (n : List ℕ) (ns more : List (List ℕ)) → ns ≡ n ∷ more → p n ≡ true → first_from p k ns ≡ Some k
  first-here n ns more e h = ap (first_from p k) e ∙ cond_yes _ _ h

  pub first-later : (n : List ℕ) (ns more : List (List ℕ)) → ns ≡ n ∷ more → p n ≡ false → first_from p k ns ≡ first_from p (k + 1) more
  first-later n ns more e h = ap (first_from p k) e ∙ cond_no _ _ h

-- the same by the place of the next name, where a comparison with it gave t
module _ (w : List ℕ) (ns : List (List ℕ)) (k : ℕ) where
  pub turn-none : length ns ≤ k → place_from k w (drop k ns) ≡ None
  unfolding place_from
  turn-none h = first-none (eqs w) k (drop k ns) (drop_of_length-le ns h)

  module _ (h : k < length ns) (n : List ℕ) (e : n ≡ word k ns) (t : Bool) (s : t ≡ eqs w n) where
    next-name : drop k ns ≡ n ∷ drop (k + 1) ns
    unfolding word
    next-name = from_cons ns k [] h ∙ ap (λ (x : List ℕ). x ∷ drop (k + 1) ns) (sym e)

    pub turn-here : t ≡ true → place_from k w (drop k ns) ≡ Some k
    unfolding place_from
    turn-here q = first-here (eqs w) k n (drop k ns) (drop (k + 1) ns) next-name (sym s ∙ q)

    pub turn-later : t ≡ false → place_from k w (drop k ns) ≡ place_from (k + 1) w (drop (k + 1) ns)
    unfolding place_from
    turn-later q = first-later (eqs w) k n (drop k ns) (drop (k + 1) ns) next-name (sym s ∙ q)

-- ---- where the name found stands

-- a place found, counted from k on, is one whose name passes
Stands : (List ℕ → Bool) → List (List ℕ) → ℕ → Option ℕ → Type 0
Stands p ns k None = Unit {0}
Stands p ns k (Some i) = (k ≤ i) × (i - k < length ns) × (p (word (i - k) ns) ≡ true)

stands : (p : List ℕ → Bool) (ns : List (List ℕ)) (k : ℕ) → Stands p ns k (first_from p k ns)
unfolding Stands word
stands p [] k = tt
stands p (n ∷ ns) k =
    by-test (p n)
    (λ h.
    let here : p (word (k - k) (n ∷ ns)) ≡ true = ap (λ (i : ℕ). p (word i (n ∷ ns))) (sub_self k) ∙ h in
    rw h (omega arith, omega arith, here))
    (λ h. rw h (earlier (first_from p (k + 1) ns) (stands p ns (k + 1))))
  where
    earlier : (f : Option ℕ) → Stands p ns (k + 1) f → Stands p (n ∷ ns) k f
    earlier None s = tt
    earlier (Some i) s =
        let b = s.0 in
        let l = s.1 in
        let e : i - k ≡ suc (i - (k + 1)) = omega (arith, b) in
        let there : p (word (i - k) (n ∷ ns)) ≡ true = ap (λ (j : ℕ). p (word j (n ∷ ns))) e ∙ s.2 in
        (omega (arith, b), omega (arith, b, l), there)

pub stands_at : (w : List ℕ) (ns : List (List ℕ)) (k : ℕ) → place_from 0 w ns ≡ Some k → (k < length ns) × (w ≡ word k ns)
unfolding Stands place_from
stands_at w ns k e =
    let s : Stands (eqs w) ns 0 (Some k) = subst (Stands (eqs w) ns 0) e (stands (eqs w) ns 0) in
    let z : k - 0 ≡ k = omega arith in
    (subst (λ (i : ℕ). i < length ns) z s.1, eqs-eq w (word (k - 0) ns) s.2 ∙ ap (λ (i : ℕ). word i ns) z)

-- ---- a table's names and meanings

-- the place is counted from k on: what stands there is what stands that much further
abbrev later : {A : Type 0} → List (Naming A) → ℕ → Option ℕ → Option A
later es k None = None
later es k (Some n) = meaning_at es (n - k)

later-suc : {A : Type 0} (q : List ℕ → Bool) (e : Naming A) (es : List (Naming A)) (ns : List (List ℕ)) (k : ℕ) (f : Option ℕ) → Stands q ns (k + 1) f
    → later (e ∷ es) k f ≡ later es (k + 1) f
unfolding Stands meaning_at
later-suc q e es ns k None h = refl
later-suc q e es ns k (Some n) h =
    let z : n - k ≡ suc (n - (k + 1)) = omega (arith, h.0) in
    ap (meaning_at (e ∷ es)) z

meaning-from : {A : Type 0} (w : List ℕ) (es : List (Naming A)) (k : ℕ) → meaning w es ≡ later es k (place_from k w (names_of es))
unfolding meaning place_from names_of meaning_at
meaning-from w [] k = refl
meaning-from w (e ∷ es) k =
    by-test (eqs w e.name)
    (λ h. rw h (ap (meaning_at (e ∷ es)) (sym (sub_self k))))
    (λ h. rw h (meaning-from w es (k + 1) ∙ sym (later-suc (eqs w) e es (names_of es) k (place_from (k + 1) w (names_of es)) (stands (eqs w) (names_of es) (k + 1)))))

-- the meaning is what stands at the place found
pub meaning-place : {A : Type 0} (w : List ℕ) (es : List (Naming A)) → meaning w es ≡ meaning_of es (place_from 0 w (names_of es))
unfolding meaning_of
meaning-place w es = meaning-from w es 0 ∙ plain (place_from 0 w (names_of es))
  where
    plain : (f : Option ℕ) → later es 0 f ≡ meaning_of es f
    plain None = refl
    plain (Some n) = let q : n - 0 ≡ n = omega arith in ap (meaning_at es) q

-- a test that each entry of a table passes, a name passes with what it means
pub meaning-entry : {A : Type 0} (p : Naming A → Bool) (es : List (Naming A)) → all p es ≡ true → (w : List ℕ) (a : A) → meaning w es ≡ Some a
    → p (record { name = w; means = a }) ≡ true
unfolding all meaning
meaning-entry p [] h w a e = let z : ◌≡◌ {A = ℕ} 0 1 = cc in impossible z
meaning-entry {A} p (x ∷ es) h w a e =
    by-test (eqs w x.name)
    (λ q.
    let means : a ≡ x.means = some_is _ _ (sym e ∙ cond_yes _ _ q) in
    ap₂ (λ (n : List ℕ) (b : A). p (record { name = n; means = b })) (eqs-eq w x.name q) means ∙ and_first (p x) (all p es) h)
    (λ q. meaning-entry p es (and_second (p x) (all p es) h) w a (sym (cond_no _ _ q) ∙ e))
  where
    some_is : (b c : A) → Some b ≡ Some c → b ≡ c
    some_is b c e = cc

-- what stands at a place within a table is the meaning there
pub meaning-within : {A : Type 0} (es : List (Naming A)) (k : ℕ) (d : A) → k < length es → meaning_at es k ≡ Some (get_or (map (λ e. e.means) es) k d)
unfolding meaning_at
meaning-within [] k d h = absurd (omega arith)
meaning-within (e ∷ es) zero d h = refl
meaning-within (e ∷ es) (suc k) d h = meaning-within es k d (omega arith)

-- past the end of a table nothing stands
pub meaning-past : {A : Type 0} (es : List (Naming A)) (k : ℕ) → length es ≤ k → meaning_at es k ≡ None
unfolding meaning_at
meaning-past [] k h = refl
meaning-past (e ∷ es) zero h = absurd (omega arith)
meaning-past (e ∷ es) (suc k) h = meaning-past es k (omega arith)
