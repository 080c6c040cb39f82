-- The texts of lines, one by one: a plain one may have any bytes, and a [Comment Char] line's fault is that of its own bytes. So each text's step
-- has a step's numbers.
use Prim.Native.Nat.{ℕ, ◌+◌}
use mathlib.Core.Path.{◌≡◌, refl}
use mathlib.Core.List.{List, [], ◌∷◌}
use mathlib.Core.Bool.{true, ◌&&◌}
use Rattle.laws.specs.Bytes.{bytes, is_blank}
use Rattle.laws.specs.Lists.{after, front, all, among, eqs}
use Rattle.laws.specs.Said.{or_else}
use Rattle.laws.proofs.Tests.{cond-all, and_both}
use Rattle.words.specs.Words.{is_ink}
use Rattle.lines.specs.Lines.{Physical, cut}
use Rattle.keywords.specs.Form.{closing, is_closed, argument}
use Rattle.records.specs.Flaws.{Reads, flaw_in, told}
use Rattle.cut_lines.specs.Change.{is_change, marks, none_or, change_to, change_of}
use Rattle.cut_lines.specs.Texts.{Text, plain, change, onto_texts, texts_from}
use Rattle.rules.specs.Steps.{on_change, on_text}
use Rattle.rules.specs.declared.Stage.{Stage}
use Rattle.fault_numbers.specs.Numbers.{is_step, StepNumbers}
use Rattle.laws.proofs.Known.{listed}
use Rattle.fault_numbers.proofs.Going.{Checks, Tells, step_is, quiet, refuse-tells, passes-tells}
use Rattle.fault_numbers.proofs.Steps.{plain-tells}

-- the text of a [Comment Char] line with these bytes
abbrev change_at : ℕ → List ℕ → Text
change_at k w = change k (told w (flaw_in (change_of w)))

-- a fault of its own is a step's, or there is none
abbrev Changes : Reads ℕ → Type 0
Changes x = Checks (flaw_in x).number

to-checks : (v : List ℕ) → Changes (change_to v)
unfolding among change_to
to-checks [] = listed refl
to-checks (x ∷ bs) =
    cond-all Changes (among x marks && eqs (front is_ink bs) (bytes "_char")) _ _
    (λ h. cond-all Changes (none_or x (after is_blank (after is_ink bs))) _ _ (λ t. listed refl) (λ t. listed refl))
    (λ h. listed refl)

change-checks : (w : List ℕ) → Changes (change_of w)
unfolding among change_of
change-checks w = cond-all Changes (is_closed (closing w)) _ _ (λ h. to-checks (argument w)) (λ h. listed refl)

change-tells : (s : Stage) (k : ℕ) (w : List ℕ) → Tells (on_text s (change_at k w))
unfolding among on_change
change-tells s k w =
    refuse-tells _ k (listed refl)
    (refuse-tells _ k (listed refl)
    (refuse-tells _ k (listed refl)
    (passes-tells (told w (flaw_in (change_of w))) k (change-checks w) quiet)))

-- ---- what holds of no text, and of one more whose step has a step's numbers, holds of the texts of lines

module _ (P : List Text → Type 0) (none : P [])
    (onto : (t : Text) → ((s : Stage) → Tells (on_text s t)) → (ts : List Text) → P ts → P (t ∷ ts)) where
  texts-onto : (k : ℕ) (w : List ℕ) (ts : List Text) → P ts → P (onto_texts k w ts)
  unfolding onto_texts
  texts-onto k [] ts p = p
  texts-onto k (b ∷ w) ts p = onto (plain k (b ∷ w)) (λ s. plain-tells s k (b ∷ w)) ts p

  pub by-texts : (c k : ℕ) (ls : List Physical) → P (texts_from c k ls)
  unfolding texts_from
  by-texts c k [] = none
  by-texts c k (l ∷ ls) =
      cond-all P (is_change l.bytes) _ _
      (λ h. onto (change_at k l.bytes) (λ s. change-tells s k l.bytes) _ (by-texts (or_else c (change_of l.bytes)) (k + 1) ls))
      (λ h. texts-onto k (cut c l.bytes) _ (by-texts c (k + 1) ls))

pub step-numbers : StepNumbers
unfolding all
step-numbers c k ls s =
    by-texts (λ (ts : List Text). all (λ (t : Text). is_step (on_text s t)) ts ≡ true) refl (λ t p ts q. and_both _ _ (step_is (p s)) q) c k ls
