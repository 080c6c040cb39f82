-- Laws on how many lines are left: behind a byte there are no more than before it, and a line without fault is short and hands on the others.
use Rattle.std.specs.Prelude.{Result, Ok, Err}
use Rattle.records.specs.declared.Fault.{Fault}
use Prim.Native.Nat.{ℕ, zero, suc, ◌+◌, ◌-◌, ◌≤◌}
use mathlib.Core.Path.{◌≡◌, refl, sym, ap, ◌∙◌, subst}
use mathlib.Core.List.{List, [], ◌∷◌}
use mathlib.Core.Bool.{true}
use native.Mathlib.Omega.{arith}
use lib.ListN.{length, drop, drop_of_length-le}
use lib.Dec.{eqb, leb}
use borrow.Author.Tests.{eqb-true, leb-true}
use Rattle.laws.specs.Bytes.{is_blank}
use Rattle.laws.specs.Lists.{front, all, other}
use Rattle.laws.proofs.Tests.{by-test, cond_yes, cond_no}
use Rattle.laws.proofs.Fronts.{front-le}
use Rattle.laws.proofs.Trims.{trim-le}
use Rattle.lines.specs.Lines.{Physical, is_return, onto_line, lines_of, is_allowed, line_fault, fault_from, cut}
use Rattle.lines.specs.Places.{line_at}

-- ---- how many lines

onto-more : (b : ℕ) (ls : List Physical) → length ls ≤ length (onto_line b ls)
unfolding onto_line
onto-more b [] = omega arith
onto-more b (l ∷ ls) = omega arith

byte_more : (b : ℕ) (bs : List ℕ) → length (lines_of bs) ≤ length (lines_of (b ∷ bs))
unfolding lines_of
byte_more b bs =
    by-test (eqb b 10)
    (λ e. rw e (omega arith))
    (λ e. rw e (by-test (is_return b bs) (λ q. rw q (omega arith)) (λ q. rw q (onto-more b (lines_of bs)))))

pub lines-fewer : (s : List ℕ) (at : ℕ) → length (lines_of (drop at s)) ≤ length (lines_of s)
lines-fewer s zero = omega arith
lines-fewer [] (suc at) = omega arith
lines-fewer (b ∷ bs) (suc at) = omega (arith, lines-fewer bs at, byte_more b bs)

pub line-past : (s : List ℕ) (at n : ℕ) → n ≡ length (lines_of s) → length s ≤ at → 1 + n ≡ line_at s at
unfolding line_at lines_of
line-past s at n e h = omega (arith, e, ap (λ (l : List ℕ). length (lines_of l)) (drop_of_length-le s h))

pub line-within : (s : List ℕ) (at n m : ℕ) → n ≡ length (lines_of s) → m ≡ length (lines_of (drop at s)) → 1 + n - m ≡ line_at s at
unfolding line_at
line-within s at n m e f = rw (e, f) refl

-- ---- lines without fault

-- no fault
abbrev clean : Result (Unit {0}) Fault
clean = Ok tt

-- a fault is no clean file
pub faulty-not : {X : Type 0} (f : Fault) → Err f ≡ clean → X
faulty-not f h = absurd (subst kept h tt)
  where
    kept : Result (Unit {0}) Fault → Type 0
    kept (Ok tt) = ⊥
    kept (Err g) = Unit {0}

-- its bytes are allowed, it is short, and it is ended
pub line-sound : (l : Physical) → line_fault l ≡ 0 → (all is_allowed l.bytes ≡ true) × (length l.bytes ≤ 120) × (l.ended ≡ true)
unfolding line_fault
line-sound l h =
    by-test (all is_allowed l.bytes)
    (λ a.
    by-test (leb (length l.bytes) 120)
    (λ b. by-test l.ended (λ e. (a, leb-true _ _ b, e)) (λ e. let z : ◌≡◌ {A = ℕ} 4 0 = simp (a, b, e) at h in absurd (omega arith)))
    (λ b. let z : ◌≡◌ {A = ℕ} 3 0 = simp (a, b) at h in absurd (omega arith)))
    (λ a. let z : ◌≡◌ {A = ℕ} 2 0 = simp a at h in absurd (omega arith))

module _ (k : ℕ) (l : Physical) (ls : List Physical) (h : fault_from k (l ∷ ls) ≡ Ok tt) where
  pub line_clean : line_fault l ≡ 0
  unfolding fault_from
  line_clean = by-test (eqb (line_fault l) 0) (λ e. eqb-true _ _ e) (λ e. faulty-not _ (sym (cond_no _ _ e) ∙ h))

  pub others-clean : fault_from (k + 1) ls ≡ Ok tt
  unfolding fault_from
  others-clean = by-test (eqb (line_fault l) 0) (λ e. sym (cond_yes _ _ e) ∙ h) (λ e. faulty-not _ (sym (cond_no _ _ e) ∙ h))

  pub line-short : length l.bytes ≤ 120
  line-short = (line-sound l line_clean).1

pub cut_short : (c : ℕ) (l : List ℕ) → length (cut c l) ≤ length l
unfolding cut
cut_short c l = omega (arith, trim-le is_blank (front (other c) l), front-le (other c) l)
