-- What a scan met at each place, as the list's front, its trimmed length, or its equality with another. Over any test.
use Rattle.std.proofs.Common.{ℕ, zero, suc, ◌+◌, ◌-◌, ◌≤◌, ◌<◌, ◌≡◌, refl, sym, ap, List, [], ◌∷◌, Bool, true, false, ◌&&◌, map, length, drop, get_or, length-drop, arith}
use Rattle.std.proofs.lemmas.List.{get_or-drop}
use lib.Pointwise.{pointwise}
use lib.Dec.{eqb}
use borrow.Author.Tests.{eq-eqb, ne_eqb}
use Rattle.laws.proofs.Tests.{and_right}
use mathlib.Core.Path.{subst}
use Rattle.words.proofs.Scans.{Scan, scan-none, scan-more}
use Rattle.laws.specs.Lists.{front, trim, keep, eqs}

module _ (p : ℕ → Bool) where
  front-met : (l : List ℕ) (n : ℕ) → n ≤ length l → ((k : ℕ) → k < n → true ≡ p (get_or l k 0)) → (n < length l → false ≡ p (get_or l n 0)) → n ≡ length (front p l)
  unfolding front
  front-met [] n h y o = omega arith
  front-met (b ∷ bs) zero h y o = rw (← o (omega arith))
  front-met (b ∷ bs) (suc n) h y o = rw (← y 0 (omega arith)) (ap suc (front-met bs n (omega arith) (λ k i. y (suc k) (omega arith)) (λ i. o (omega arith))))

  -- a scan from `at` stopped at r
  pub front-places : (s : List ℕ) (at r : ℕ) → (at ≤ r) × (r ≤ length s) → ((k : ℕ) → at + k < r → true ≡ p (get_or s (at + k) 0)) → (r < length s → false ≡ p (get_or s r 0))
      → r ≡ at + length (front p (drop at s))
  front-places s at r b y o =
      let e : at + (r - at) ≡ r = omega arith in
      let n = length-drop at s in
      let k = front-met (drop at s) (r - at) (omega arith) (λ k h. rw get_or-drop (y k (omega arith))) (λ h. rw (get_or-drop, e) (o (omega arith))) in
      omega (arith, k)

  -- a scan from `at` that every byte passed up to there
  pub scan-places : (s : List ℕ) (at n : ℕ) → at + n ≤ length s → ((k : ℕ) → at + k < at + n → true ≡ p (get_or s (at + k) 0)) → Scan p s at (at + n)
  scan-places s at zero h y = let e : at ≡ at + zero = omega arith in subst (Scan p s at) e (scan-none p s at (omega arith))
  scan-places s at (suc n) h y =
      let e : at + n + 1 ≡ at + suc n = omega arith in
      subst (Scan p s at) e (scan-more p s at (at + n) (scan-places s at n (omega arith) (λ k i. y k (omega arith))) (omega arith) (sym (y n (omega arith))))

  keep-none : (b : ℕ) (m : List ℕ) → 0 ≡ length m → true ≡ p b → 0 ≡ length (keep p b m)
  unfolding keep
  keep-none b [] h y = rw (← y)
  keep-none b (x ∷ xs) h y = absurd (omega arith)

  keep-last : (b : ℕ) (m : List ℕ) → 0 ≡ length m → false ≡ p b → 1 ≡ length (keep p b m)
  unfolding keep
  keep-last b [] h o = rw (← o)
  keep-last b (x ∷ xs) h o = absurd (omega arith)

  keep-more : (b : ℕ) (m : List ℕ) (n : ℕ) → suc n ≡ length m → suc (suc n) ≡ length (keep p b m)
  unfolding keep
  keep-more b [] n h = absurd (omega arith)
  keep-more b (x ∷ xs) n h = ap suc h

  -- a scan from the end stopped at n
  pub trim-places : (l : List ℕ) (n : ℕ) → n ≤ length l → ((k : ℕ) → n ≤ k → k < length l → true ≡ p (get_or l k 0)) → ((k : ℕ) → k + 1 ≡ n → false ≡ p (get_or l k 0)) → n ≡ length (trim p l)
  unfolding trim
  trim-places [] n h y o = omega arith
  trim-places (b ∷ bs) zero h y o =
      keep-none b (trim p bs) (trim-places bs 0 (omega arith) (λ k i j. y (suc k) (omega arith) (omega arith)) (λ k e. absurd (omega arith))) (y 0 (omega arith) (omega arith))
  trim-places (b ∷ bs) (suc zero) h y o =
      keep-last b (trim p bs) (trim-places bs 0 (omega arith) (λ k i j. y (suc k) (omega arith) (omega arith)) (λ k e. absurd (omega arith))) (o 0 (omega arith))
  trim-places (b ∷ bs) (suc (suc n)) h y o =
      keep-more b (trim p bs) n (trim-places bs (suc n) (omega arith) (λ k i j. y (suc k) (omega arith) (omega arith)) (λ k e. o (suc k) (omega arith)))

-- equality of lists of one length, where each element of the first is changed
module _ (f : ℕ → ℕ) where
  pub eqs-all : (l m : List ℕ) → length l ≡ length m → ((k : ℕ) → k < length l → f (get_or l k 0) ≡ get_or m k 0) → true ≡ eqs (map f l) m
  unfolding eqs
  eqs-all [] [] h e = refl
  eqs-all [] (b ∷ m) h e = absurd (omega arith)
  eqs-all (a ∷ l) [] h e = absurd (omega arith)
  eqs-all (a ∷ l) (b ∷ m) h e = rw (eq-eqb _ _ (e 0 (omega arith))) (eqs-all l m (omega arith) (λ k i. e (suc k) (omega arith)))

  pub eqs-differ : (l m : List ℕ) → length l ≡ length m → (k : ℕ) → k < length l → (f (get_or l k 0) ≡ get_or m k 0 → ⊥) → false ≡ eqs (map f l) m
  unfolding eqs
  eqs-differ [] m h k i e = absurd (omega arith)
  eqs-differ (a ∷ l) [] h k i e = absurd (omega arith)
  eqs-differ (a ∷ l) (b ∷ m) h zero i e = rw (ne_eqb _ _ e)
  eqs-differ (a ∷ l) (b ∷ m) h (suc k) i e = sym (and_right (eqb (f a) b) (eqs (map f l) m) (sym (eqs-differ l m (omega arith) k (omega arith) e)))

-- equality of slices, as the library has it
pub pointwise-eqs : (l m : List ℕ) → pointwise eqb l m ≡ eqs l m
unfolding eqs
pointwise-eqs [] [] = refl
pointwise-eqs [] (b ∷ m) = refl
pointwise-eqs (a ∷ l) [] = refl
pointwise-eqs (a ∷ l) (b ∷ m) = ap (λ (t : Bool). eqb a b && t) (pointwise-eqs l m)
