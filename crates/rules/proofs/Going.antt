-- Laws of `rules/specs/Going.antt`: a check that stops a line, and one that lets it go on.
use Rattle.std.specs.Prelude.{Result, Ok, Err, IsErrAnd}
use Prim.Native.Nat.{ℕ}
use mathlib.Core.Path.{◌≡◌, refl, sym, ap, ◌∙◌}
use mathlib.Core.Bool.{Bool, true, false}
use lib.Dec.{eqb}
use Rattle.laws.proofs.Tests.{by-test, cond_yes, cond_no, cond_map}
use Rattle.laws.proofs.Handed.{handed_on}
use Rattle.records.specs.Flaws.{checked, checked_at}
use Rattle.records.specs.declared.Fault.{Fault}
use Rattle.records.specs.declared.LineFault.{LineFault}
use Rattle.rules.specs.Going.{stop, passes, refuse, quietly, once, given_once, Went}
use Rattle.rules.specs.declared.Stage.{Stage}
use Rattle.given.specs.Given.{has}
use Rattle.given.specs.declared.Given.{Given}

module _ {t : Bool} (n k : ℕ) (went : Went) where
  pub refused : t ≡ true → stop n k ≡ refuse t n k went
  unfolding refuse
  refused h = sym (cond_yes (stop n k) went h)

  pub passed : t ≡ false → went ≡ refuse t n k went
  unfolding refuse
  passed h = sym (cond_no (stop n k) went h)

-- a check of line k has the fault f: what it answers ends the step, or the step goes on
abbrev goes_on : Result (Unit {0}) Fault → Went → Went
goes_on (Ok u) went = went
goes_on (Err x) went = Err x

module _ (f : LineFault) (k : ℕ) (went : Went) {r : Result (Unit {0}) LineFault} {a : Result (Unit {0}) Fault} (e : r ≡ checked f) (t : a ≡ checked_at k r) where
  checks : {b : Result (Unit {0}) Fault} → a ≡ b → goes_on b went ≡ passes f k went
  unfolding passes
  checks is =
      ap (λ (x : Result (Unit {0}) Fault). goes_on x went) (sym is ∙ t ∙ ap (checked_at k) e)
      ∙ cond_map (λ (x : Result (Unit {0}) LineFault). goes_on (checked_at k x) went) (eqb f.number 0) (Ok tt) (Err f)

  pub flawed : {x : Fault} (w : Went) → IsErrAnd w (λ y. y ≡ x) → a ≡ Err x → w ≡ passes f k went
  flawed w h is = handed_on w h ∙ checks is

  pub flawless : {u : Unit {0}} → a ≡ Ok u → went ≡ passes f k went
  flawless is = checks is

-- a thing that may be given once: what it answers ends the step, or the step goes on with it given
abbrev goes_with : (Given → Stage) → Result Given Fault → Went
goes_with on (Ok g) = quietly (on g)
goes_with on (Err x) = Err x

module _ (g : Given) (i : ℕ) (f : LineFault) (k : ℕ) (on : Given → Stage) {r : Result (Unit {0}) LineFault} {a : Result Given Fault} (e : r ≡ checked f) (t : a ≡ given_once g i k r) where
  once-checks : {b : Result Given Fault} → a ≡ b → goes_with on b ≡ once g i f k on
  unfolding given_once refuse passes
  once-checks is =
      ap (goes_with on) (sym is ∙ t ∙ ap (given_once g i k) e)
      ∙ by-test (has g i) (λ h. rw h refl) (λ h. by-test (eqb f.number 0) (λ q. rw (h, q) refl) (λ q. rw (h, q) refl))

  pub once-stopped : {x : Fault} (w : Went) → IsErrAnd w (λ y. y ≡ x) → a ≡ Err x → w ≡ once g i f k on
  once-stopped w h is = handed_on w h ∙ once-checks is

  pub once-given : {given : Given} → a ≡ Ok given → quietly (on given) ≡ once g i f k on
  once-given is = once-checks is
