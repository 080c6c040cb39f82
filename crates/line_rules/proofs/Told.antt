-- What a line tells of its words, by the places that the code finds.
use Rattle.std.specs.Prelude.{Result, Ok, Err}
use Prim.Native.Nat.{ℕ, ◌+◌, ◌≤◌, ◌<◌}
use Prim.Native.Char.{code}
use mathlib.Core.Path.{◌≡◌, sym, ap, ◌∙◌}
use mathlib.Core.List.{List}
use mathlib.Core.Bool.{true, false, cond}
use native.Mathlib.Omega.{arith}
use lib.ListN.{length, drop, drop_of_length-le, length-drop}
use lib.Dec.{eqb}
use borrow.Author.Tests.{eq-eqb, ne_eqb}
use Rattle.laws.specs.Bytes.{is_blank}
use Rattle.laws.specs.Lists.{front, part, begins}
use Rattle.laws.specs.Said.{Said, read_on}
use Rattle.laws.proofs.Tests.{by_order, cond_yes, cond_no, cond_map}
use Rattle.laws.proofs.Lists.{part_none}
use Rattle.words.specs.Words.{word, words, rest_from}
use Rattle.words.specs.Places.{WordAt}
use Rattle.words.specs.declared.Word.{Word}
use Rattle.words.proofs.Laws.{rest-here}
use Rattle.records.specs.Flaws.{Reads, flaw, sound, flaw_in, said_at, told, told_in, bare, at_place, said_there}
use Rattle.records.specs.declared.LineFault.{LineFault}
use Rattle.records.proofs.Columns.{Columns, told_at, told-sound, told-word, told-on}
use Rattle.line_rules.specs.Fields.{word_by, exactly, ended, alone, no_argument, after_name, behind_name}

-- fault 10 at a place
pub ten-at : (s : List ℕ) (p : ℕ) → p ≤ length s → told s (flaw 10 (drop p s)) ≡ at_place 10 p
ten-at s p h = told_at s 10 p (omega arith) (omega arith) h

-- ---- the word from a place on, and what follows it

module _ (s : List ℕ) (at : ℕ) (r : Word) (h : WordAt s at r) where
  pub word-text : part r.start r.end s ≡ word 0 (words (drop at s))
  unfolding word
  word-text =
      by_order (length s) r.start
      (λ k.
      let e : r.end ≡ r.start = omega (arith, h.starts, h.ends) in
      ap (λ (n : ℕ). part r.start n s) e ∙ part_none s r.start ∙ sym (ap (word 0) (h.none k)))
      (λ k. sym (ap (word 0) (h.some k)))

  within : r.start ≤ length s
  within = omega (arith, h.starts, h.ends)

  -- what it says, or its fault where it begins
  pub word-told : {A : Type 0} (read : List ℕ → Said A) → Columns (read (part r.start r.end s))
      → told_in s (word_by read 0 (drop at s)) ≡ said_there r.start (read (part r.start r.end s))
  unfolding word_by
  word-told read k =
      ap (λ (v : List ℕ). told_in s (said_at v (read (word 0 (words (drop at s)))))) h.here
      ∙ ap (λ (v : List ℕ). told_in s (said_at (drop r.start s) (read v))) (sym word-text)
      ∙ told-word s r.start (read (part r.start r.end s)) k within

  -- the rest behind it and its blanks
  pub rest-behind : (p : ℕ) → p ≡ r.end + length (front is_blank (drop r.end s)) → rest_from 1 (drop at s) ≡ drop p s
  rest-behind p e = h.next 0 ∙ rest-here s r.end p e

-- ---- nothing may be left

pub ended-none : {A : Type 0} (a : A) (s : List ℕ) (p : ℕ) → length s ≤ p → ended a (drop p s) ≡ Ok a
unfolding ended
ended-none a s p h = cond_yes _ _ (eq-eqb (length (drop p s)) 0 (ap length (drop_of_length-le s h)))

pub ended_some : {A : Type 0} (a : A) (s : List ℕ) (p : ℕ) → p < length s → ended a (drop p s) ≡ Err (flaw 10 (drop p s))
unfolding ended
ended_some a s p h = cond_no _ _ (ne_eqb (length (drop p s)) 0 (λ e. omega (arith, length-drop p s)))

pub ended-flaw : {A : Type 0} (a : A) (v : List ℕ) → flaw_in (ended a v) ≡ no_argument v
unfolding ended no_argument
ended-flaw a v = cond_map flaw_in (eqb (length v) 0) (Ok a) (Err (flaw 10 v))

pub argument-none : (s : List ℕ) (p : ℕ) → length s ≤ p → told s (no_argument (drop p s)) ≡ bare 0
unfolding no_argument
argument-none s p h = ap (told s) (cond_yes sound _ (eq-eqb (length (drop p s)) 0 (ap length (drop_of_length-le s h)))) ∙ told-sound s

pub argument-some : (s : List ℕ) (p : ℕ) → p < length s → told s (no_argument (drop p s)) ≡ at_place 10 p
unfolding no_argument
argument-some s p h =
    ap (told s) (cond_no sound (flaw 10 (drop p s)) (ne_eqb (length (drop p s)) 0 (λ e. omega (arith, length-drop p s))))
    ∙ ten-at s p (omega arith)

-- ---- the word from a place on, alone

module _ {A : Type 0} (read : List ℕ → Said A) (s : List ℕ) (at : ℕ) (r : Word) (h : WordAt s at r) (k : Columns (read (part r.start r.end s))) where
  alone-told : told_in s (alone read (drop at s)) ≡ read_on (said_there r.start (read (part r.start r.end s))) (λ a. told_in s (ended a (rest_from 1 (drop at s))))
  unfolding alone
  alone-told =
      told-on s (word_by read 0 (drop at s)) (λ a. ended a (rest_from 1 (drop at s)))
      ∙ ap (λ (x : Result A LineFault). read_on x (λ a. told_in s (ended a (rest_from 1 (drop at s))))) (word-told s at r h read k)

  abbrev goes_on : Said A → Result A LineFault
  goes_on x = read_on (said_there r.start x) (λ a. told_in s (ended a (rest_from 1 (drop at s))))

  pub alone-wrong : {n : ℕ} → read (part r.start r.end s) ≡ Err n → told_in s (alone read (drop at s)) ≡ Err (at_place n r.start)
  alone-wrong q = alone-told ∙ ap goes_on q

  -- behind the word and its blanks
  pub alone-right : {a : A} (p : ℕ) → read (part r.start r.end s) ≡ Ok a → p ≡ r.end + length (front is_blank (drop r.end s))
      → told_in s (alone read (drop at s)) ≡ told_in s (ended a (drop p s))
  alone-right {a} p q e = alone-told ∙ ap goes_on q ∙ ap (λ (v : List ℕ). told_in s (ended a v)) (rest-behind s at r h p e)

-- ---- just n words

pub exactly-yes : {A : Type 0} (n : ℕ) (said : Reads A) (v : List ℕ) → length (words v) ≡ n → exactly n said v ≡ said
unfolding exactly
exactly-yes n said v h = cond_yes _ _ (eq-eqb (length (words v)) n h)

pub exactly-no : {A : Type 0} (n : ℕ) (said : Reads A) (v : List ℕ) → (length (words v) ≡ n → ⊥) → exactly n said v ≡ Err (flaw 10 (rest_from n v))
unfolding exactly
exactly-no n said v h = cond_no _ _ (ne_eqb (length (words v)) n h)

-- ---- behind the name, which ends at a place

module _ {A : Type 0} (read : List ℕ → Reads A) (w : List ℕ) (end : ℕ) (h : drop end w ≡ after_name w) where
  behind-at : behind_name read w ≡ cond (begins (code "=") (drop end w)) (Err (flaw 10 (drop end w))) (read (drop end w))
  unfolding behind_name
  behind-at = ap (λ (v : List ℕ). cond (begins (code "=") v) (Err (flaw 10 v)) (read v)) (sym h)

  pub behind-equals : end ≤ length w → begins (code "=") (drop end w) ≡ true → told_in w (behind_name read w) ≡ Err (at_place 10 end)
  behind-equals k q = ap (told_in w) (behind-at ∙ cond_yes _ _ q) ∙ ap Err (ten-at w end k)

  pub behind-words : begins (code "=") (drop end w) ≡ false → behind_name read w ≡ read (drop end w)
  behind-words q = behind-at ∙ cond_no _ _ q
