-- Faults 1 to 4: one told at a line of a section is the first of its own lines.
use Rattle.std.specs.Prelude.{Result, Ok, Err}
use Prim.Native.Nat.{ℕ, suc, ◌+◌, ◌≤◌, ◌<◌}
use mathlib.Core.Path.{◌≡◌, subst, ◌∙◌}
use mathlib.Core.List.{List, [], ◌∷◌, ◌++◌}
use native.Mathlib.Omega.{arith}
use lib.ListN.{length}
use lib.Dec.{leb}
use Rattle.laws.proofs.Tests.{cond_yes, cond_no, cond-all}
use Rattle.lines.specs.Lines.{Physical, lines_of, fault_from, bytes_fault}
use Rattle.records.specs.declared.Fault.{Fault}
use Rattle.lines.proofs.Clean.{is_clean}

-- ---- the section's lines are those after lo, up to hi; a fault told there has Own

module _ (lo hi : ℕ) (Own : Fault → Type 0) where
  abbrev pub BytesSpare : Result (Unit {0}) Fault → Type 0
  BytesSpare (Ok tt) = Unit {0}
  BytesSpare (Err x) = lo < x.line → x.line ≤ hi → Own x

  early : (k : ℕ) (ls ms : List Physical) → k + length ls ≤ lo + 1 → BytesSpare (fault_from (k + length ls) ms) → BytesSpare (fault_from k (ls ++ ms))
  unfolding fault_from
  early k [] ms h q = let e : k + 0 ≡ k = omega arith in subst (λ (j : ℕ). BytesSpare (fault_from j ms)) e q
  early k (l ∷ ls) ms h q =
      let e : k + suc (length ls) ≡ k + 1 + length ls = omega arith in
      cond-all BytesSpare (is_clean l) _ _
      (λ t. early (k + 1) ls ms (omega arith) (subst (λ (j : ℕ). BytesSpare (fault_from j ms)) e q))
      (λ t a b. absurd (omega arith))

  within : (k : ℕ) (ls ms : List Physical) → ((f : Fault) → fault_from k ls ≡ Err f → Own f)
      → BytesSpare (fault_from (k + length ls) ms) → BytesSpare (fault_from k (ls ++ ms))
  unfolding fault_from
  within k [] ms h q = let e : k + 0 ≡ k = omega arith in subst (λ (j : ℕ). BytesSpare (fault_from j ms)) e q
  within k (l ∷ ls) ms h q =
      let e : k + suc (length ls) ≡ k + 1 + length ls = omega arith in
      cond-all BytesSpare (is_clean l) _ _
      (λ t. within (k + 1) ls ms (λ f r. h f (cond_yes _ _ t ∙ r)) (subst (λ (j : ℕ). BytesSpare (fault_from j ms)) e q))
      (λ t a b. h _ (cond_no _ _ t))

  late : (k : ℕ) (ls : List Physical) → hi < k → BytesSpare (fault_from k ls)
  unfolding fault_from
  late k [] h = tt
  late k (l ∷ ls) h = cond-all BytesSpare (is_clean l) _ _ (λ t. late (k + 1) ls (omega arith)) (λ t a b. absurd (omega arith))

  pub bytes-spare : (before section after : List Physical) (s : List ℕ) → lines_of s ≡ before ++ (section ++ after)
      → ((f : Fault) → fault_from (1 + length before) section ≡ Err f → Own f) → length before ≡ lo → lo + length section ≡ hi → BytesSpare (bytes_fault s)
  unfolding bytes_fault
  bytes-spare before section after s q h a b =
      cond-all BytesSpare (leb (length s) 65536) _ _
      (λ t. rw q (early 1 before (section ++ after) (omega arith) (within (1 + length before) section after h (late (1 + length before + length section) after (omega arith)))))
      (λ t x y. absurd (omega arith))
