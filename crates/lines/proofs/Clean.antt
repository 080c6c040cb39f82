-- Files that pass faults 1 to 4: no line of them has a fault, and every byte of their lines is allowed. By induction over the lines.
use Rattle.std.specs.Prelude.{Ok}
use Prim.Native.Nat.{ℕ, ◌+◌, ◌≤◌}
use mathlib.Core.Path.{◌≡◌, refl, ◌∙◌}
use mathlib.Core.List.{List, [], ◌∷◌}
use mathlib.Core.Bool.{Bool, true}
use lib.ListN.{length}
use lib.Dec.{eqb, leb}
use borrow.Author.Tests.{eq-eqb, eqb-true, leb-true}
use Rattle.laws.specs.Lists.{all}
use Rattle.laws.proofs.Tests.{by-test, cond_yes, and_both, and_first, and_second}
use Rattle.lines.specs.Lines.{Physical, lines_of, is_allowed, line_fault, fault_from, bytes_fault}
use Rattle.lines.proofs.Numbers.{faulty-not, line-sound, line_clean, others-clean}

abbrev pub is_clean : Physical → Bool
is_clean l = eqb (line_fault l) 0

clean-lines : (k : ℕ) (ls : List Physical) → fault_from k ls ≡ Ok tt → all is_clean ls ≡ true
unfolding all
clean-lines k [] h = refl
clean-lines k (l ∷ ls) h = and_both _ _ (eq-eqb (line_fault l) 0 (line_clean k l ls h)) (clean-lines (k + 1) ls (others-clean k l ls h))

-- within the largest size, and without a fault of its lines
pub file-passes : (s : List ℕ) → bytes_fault s ≡ Ok tt → (length s ≤ 65536) × (fault_from 1 (lines_of s) ≡ Ok tt)
unfolding bytes_fault
file-passes s h =
    by-test (leb (length s) 65536)
    (λ t. (leb-true _ _ t, rw t at h))
    (λ t. faulty-not (record { number = 1; line = 0; column = 0 }) (rw t at h))

pub clean-file : (s : List ℕ) → bytes_fault s ≡ Ok tt → all is_clean (lines_of s) ≡ true
clean-file s h = clean-lines 1 (lines_of s) (file-passes s h).1

pub clean-none : (k : ℕ) (ls : List Physical) → all is_clean ls ≡ true → fault_from k ls ≡ Ok tt
unfolding fault_from all
clean-none k [] h = refl
clean-none k (l ∷ ls) h = cond_yes _ _ (and_first (is_clean l) (all is_clean ls) h) ∙ clean-none (k + 1) ls (and_second (is_clean l) (all is_clean ls) h)

pub clean-allowed : (ls : List Physical) → all is_clean ls ≡ true → all (λ (l : Physical). all is_allowed l.bytes) ls ≡ true
unfolding all
clean-allowed [] h = refl
clean-allowed (l ∷ ls) h =
    and_both _ _ (line-sound l (eqb-true _ _ (and_first (is_clean l) _ h))).0 (clean-allowed ls (and_second (is_clean l) _ h))
