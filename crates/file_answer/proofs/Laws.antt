-- Laws of `rules`' outcome, by how far the reading comes: bytes, lines, names, last checks.
use Rattle.std.specs.Prelude.{None, Some, Ok, Err, Result, is_err, true, false}
use Prim.Native.Nat.{ℕ, ◌+◌, ◌≤◌}
use mathlib.Core.Path.{◌≡◌, refl, sym, ap, ◌∙◌}
use mathlib.Core.List.{List, reverse}
use native.Mathlib.Omega.{arith}
use lib.ListN.{length}
use lib.Dec.{eqb}
use borrow.Author.Tests.{eqb-true, le-leb, lt-leb}
use Rattle.laws.proofs.Tests.{by-test, by_order, cond_yes, cond_no, impossible}
use Rattle.lines.specs.Lines.{lines_of, bytes_fault}
use Rattle.records.specs.Flaws.{checked}
use Rattle.records.specs.declared.Fault.{Fault}
use Rattle.records.specs.declared.LineFault.{LineFault}
use Rattle.cut_lines.specs.Cursors.{rest, past, first_cursor, CleanFrom}
use Rattle.rules.specs.Outline.{count}
use Rattle.rules.specs.Whole.{passed, refused, runs, concluded, last_checks, nothing_held, texts_of, outcome}
use Rattle.records.specs.declared.Lengths.{Lengths}
use Rattle.records.specs.declared.Kind.TheVariants.{OfComponent, OfPin, OfSelector, OfChoice, OfModel}
use Rattle.rules.specs.declared.Stage.TheVariants.{BeforeVersion}
use Rattle.notes.specs.Noted.{Finish, empty_log, held_of, run_log, clash, settled}
use Rattle.notes.proofs.Settles.{entries, Counted, settles}

-- a check that answers no fault has number 0
pub unfaulted : (f : LineFault) → is_err (checked f) ≡ false → f.number ≡ 0
unfaulted f h =
    by-test (eqb f.number 0) (λ e. eqb-true f.number 0 e)
    (λ e. let z : true ≡ false = sym (ap is_err (cond_no (Ok tt) (Err f) e)) ∙ h in impossible (cc))

-- what all lines give
abbrev pub read_to : Lengths → List ℕ → Finish
read_to l s = run_log l (past s first_cursor) BeforeVersion empty_log (rest s first_cursor)

empty-counted : Counted empty_log
unfolding count
empty-counted OfComponent = refl
empty-counted OfPin = refl
empty-counted OfSelector = refl
empty-counted OfChoice = refl
empty-counted OfModel = refl

abbrev no_fault : Result (Unit {0}) Fault
no_fault = Ok tt

module _ (l : Lengths) (s : List ℕ) where
  pub all-texts : rest s first_cursor ≡ texts_of s
  unfolding rest texts_of
  all-texts = refl

  past_all : past s first_cursor ≡ length (lines_of s) + 1
  unfolding past
  past_all = omega arith

  pub faulty : (f : Fault) → bytes_fault s ≡ Err f → outcome l s ≡ refused f.number f.line f.column
  unfolding outcome
  faulty f h = rw h refl

  module _ (clean : bytes_fault s ≡ Ok tt) where
    pub small : length s ≤ 65536
    unfolding bytes_fault
    small =
        by_order (length s) 65536 (λ h. h)
        (λ h. let z : Err (record { number = 1; line = 0; column = 0 }) ≡ no_fault = sym (cond_no _ _ (lt-leb (length s) 65536 h)) ∙ clean in impossible (cc))

    pub clean-first : CleanFrom s first_cursor
    unfolding bytes_fault
    clean-first = sym (cond_yes _ _ (le-leb (length s) 65536 small)) ∙ clean

    clean-outcome : outcome l s ≡ concluded (settled (read_to l s) (clash (entries (read_to l s).log)))
    unfolding outcome clash
    clean-outcome =
        rw clean (ap concluded (ap (λ (n : ℕ). runs l n BeforeVersion nothing_held (texts_of s)) (sym past_all) ∙ ap (λ ts. runs l (past s first_cursor) BeforeVersion nothing_held ts) (sym all-texts)
        ∙ settles l (past s first_cursor) (rest s first_cursor) BeforeVersion empty_log empty-counted refl))

    module _ (f : Finish) (read : read_to l s ≡ f) where
      pub used-twice : (k : ℕ) → clash (entries f.log) ≡ Some k → outcome l s ≡ refused 14 k 0
      used-twice k h = clean-outcome ∙ (rw read rw h refl)

      pub broken-off : (x : Fault) → clash (entries f.log) ≡ None → f.fault ≡ Some x → outcome l s ≡ refused x.number x.line x.column
      broken-off x h g = clean-outcome ∙ (rw read rw h rw g refl)

      pub read_through : clash (entries f.log) ≡ None → f.fault ≡ None
          → outcome l s ≡ last_checks (reverse (entries f.log)) (passed (held_of f.log))
      read_through h g = clean-outcome ∙ (rw read rw h rw g refl)
