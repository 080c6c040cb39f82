-- A file that passes: its run, with what is noted of it, and its last checks. By the laws of `notes` and `layout_by_notes`.
use Rattle.std.specs.Prelude.{Option, None, Some, Ok}
use Prim.Native.Nat.{ℕ, ◌+◌}
use mathlib.Core.Path.{◌≡◌, refl, sym, ap, subst, ◌∙◌}
use mathlib.Core.List.{List, reverse}
use lib.ListN.{length}
use lib.Dec.{eqb}
use borrow.Author.Tests.{eqb-true}
use Rattle.laws.proofs.Tests.{by-test, cond_yes, cond_no, impossible}
use Rattle.lines.specs.Lines.{lines_of, bytes_fault}
use Rattle.rules.proofs.Outcomes.{bytes-passed}
use Rattle.rules.specs.Outline.{Entry, count, first_failing}
use Rattle.rules.specs.Whole.{Held, nothing_held, Outcome, passed, refused, runs, last_checks, concluded, texts_of, outcome}
use Rattle.rules.specs.Last.{found, listed_in}
use Rattle.records.specs.declared.Fault.{Fault}
use Rattle.records.specs.declared.Kind.TheVariants.{OfComponent, OfPin, OfSelector, OfChoice, OfModel}
use Rattle.records.specs.declared.Lengths.{Lengths}
use Rattle.rules.specs.declared.Stage.TheVariants.{BeforeVersion}
use Rattle.rules.specs.Reading.{file_in}
use Rattle.layout.specs.Laid.{laid, counts_of}
use Rattle.notes.specs.Noted.{Log, Finish, empty_log, held_of, run_log, whole, clash, settled, outcome_is}
use Rattle.notes.proofs.Settles.{entries, Counted, settles}
use Rattle.layout_by_notes.specs.Lies.{Lies, Bounded}
use Rattle.layout_by_notes.proofs.Tables.{lies, bounded}

-- ---- from the outcome back to the lines

-- the last checks pass
pub record Checked (es : List Entry) : Type 0 where
  pub found : first_failing (found es) es ≡ 0
  pub listed : first_failing (listed_in es) es ≡ 0

checks-passed : (es : List Entry) (o : Outcome) (z : Held) → last_checks es o ≡ passed z → Checked es
unfolding last_checks
checks-passed es o z q =
    by-test (eqb (first_failing (found es) es) 0)
    (λ f.
    by-test (eqb (first_failing (listed_in es) es) 0)
    (λ g. record { found = eqb-true _ _ f; listed = eqb-true _ _ g })
    (λ g. let e : refused 16 (first_failing (listed_in es) es) 0 ≡ passed z = sym (cond_no _ _ g) ∙ sym (cond_yes _ _ f) ∙ q in impossible (cc)))
    (λ f. let e : refused 15 (first_failing (found es) es) 0 ≡ passed z = sym (cond_no _ _ f) ∙ q in impossible (cc))

concluded-checked : (o : Outcome) (z : Held) → concluded o ≡ passed z → (h : Held) × (o ≡ passed h) × Checked (reverse h.entries)
concluded-checked (passed h) z q = (h, refl, checks-passed (reverse h.entries) (passed h) z q)
concluded-checked (refused n k c) z q = impossible (cc)

-- ---- the notes

record Noted (f : Finish) (h : Held) : Type 0 where
  unused : clash (entries f.log) ≡ None
  whole : f ≡ whole f.log
  held : held_of f.log ≡ h

held-is : (g h : Held) → passed g ≡ passed h → g ≡ h
held-is g h q = cc

fault-none : (g : Log) (x : Option Fault) (h : Held) → outcome_is g x ≡ passed h → x ≡ None
fault-none g None h q = refl
fault-none g (Some y) h q = impossible (cc)

settled-passed : (f : Finish) (c : Option ℕ) (h : Held) → clash (entries f.log) ≡ c → settled f c ≡ passed h → Noted f h
settled-passed f (Some k) h e q = impossible (cc)
settled-passed f None h e q =
    let n : f.fault ≡ None = fault-none f.log f.fault h q in
    record {
      unused = e;
      whole = λ i. record { fault = n i; log = f.log };
      held = held-is _ _ (sym (ap (outcome_is f.log) n) ∙ q);
    }

nothing-counted : Counted empty_log
unfolding count
nothing-counted OfComponent = refl
nothing-counted OfPin = refl
nothing-counted OfSelector = refl
nothing-counted OfChoice = refl
nothing-counted OfModel = refl

-- ---- a file that passes

pub record Passed (l : Lengths) (s : List ℕ) : Type 0 where
  pub clean : bytes_fault s ≡ Ok tt
  pub past : ℕ
  pub log : Log
  pub read : runs l past BeforeVersion nothing_held (texts_of s) ≡ passed (held_of log)
  pub run : run_log l past BeforeVersion empty_log (texts_of s) ≡ whole log
  pub unused : clash (entries log) ≡ None
  pub checked : Checked (reverse (entries log))

pub passes : (l : Lengths) (s : List ℕ) (z : Held) → outcome l s ≡ passed z → Passed l s
unfolding outcome clash
passes l s z q =
    let past : ℕ = length (lines_of s) + 1 in
    let b = bytes-passed _ (bytes_fault s) z q in
    let c = concluded-checked _ z b.1 in
    let f : Finish = run_log l past BeforeVersion empty_log (texts_of s) in
    let n = settled-passed f (clash (entries f.log)) c.0 refl (sym (settles l past (texts_of s) BeforeVersion empty_log nothing-counted refl) ∙ c.1) in
    record {
      clean = b.0;
      past = past;
      log = f.log;
      read = c.1 ∙ ap passed (sym n.held);
      run = n.whole;
      unused = n.unused;
      checked = subst (λ (h : Held). Checked (reverse h.entries)) (sym n.held) c.2;
    }

module _ (l : Lengths) (s : List ℕ) (p : Passed l s) where
  pub laying : Lies p.log (laid (file_in (texts_of s)))
  laying = lies l p.past (texts_of s) p.log p.run

  pub counting : Bounded l (counts_of (laid (file_in (texts_of s))))
  counting = subst (Bounded l) laying.counts (bounded l p.past (texts_of s) p.log p.run)
