-- Laws on a line's words, its name and its number, by the places that the code answers.
use Rattle.std.specs.Prelude.{Err}
use Prim.Native.Nat.{ℕ, ◌+◌, ◌≤◌, ◌<◌}
use Prim.Native.Char.{code}
use mathlib.Core.Path.{◌≡◌, refl, sym, ap, ◌∙◌}
use mathlib.Core.List.{List}
use mathlib.Core.Bool.{true, false}
use native.Mathlib.Omega.{arith}
use lib.ListN.{length, drop, get_or, drop_of_length-le}
use lib.Seq.{drop-drop}
use lib.Dec.{eqb}
use Rattle.laws.specs.Bytes.{is_blank}
use Rattle.laws.specs.Lists.{front, after, other, part}
use Rattle.laws.proofs.Tests.{by_order, cond_yes, cond_no, never}
use Rattle.laws.proofs.Lists.{from_cons}
use Rattle.laws.proofs.Fronts.{after-at, front_at, front-front}
use Rattle.decimal.specs.Decimal.{given_cell}
use Rattle.words.specs.Words.{word, words, is_ink}
use Rattle.words.specs.Places.{WordAt}
use Rattle.words.specs.declared.Word.{Word}
use Rattle.words.proofs.Laws.{words-none, words-some, words-rest}
use Rattle.records.specs.Flaws.{Reads, flaw, told_in, at_place}
use Rattle.line_rules.specs.Fields.{name_of, after_name, word_by, exactly, behind_equals, number_line}
use Rattle.line_rules.proofs.Told.{ten-at, word-text, rest-behind, exactly-yes, exactly-no}
use Rattle.named_lines.specs.Places.{is_name_byte, has_equals, FirstWordIs}

-- ---- the first word

-- the first word of a line, and where the others are
pub first-is : (w : List ℕ) (r : Word) → WordAt w 0 r → FirstWordIs w r
first-is w r h =
    record {
      text = word-text w 0 r h;
      others = sym (words-rest 0 (drop r.end w)) ∙ ap words (sym (h.next 0)) ∙ words-rest 1 w;
      starts = h.starts;
      ends = h.ends;
    }

-- ---- exactly one word from a place on: no word, more than one, or one

module _ {A : Type 0} (said : Reads A) (s : List ℕ) (at : ℕ) (r : Word) (h : WordAt s at r) (p : ℕ) (e : p ≡ r.end + length (front is_blank (drop r.end s))) (f : p ≤ length s) where
  miscounted : (length (words (drop at s)) ≡ 1 → ⊥) → told_in s (exactly 1 said (drop at s)) ≡ Err (at_place 10 p)
  miscounted q =
      ap (told_in s) (exactly-no 1 said (drop at s) q)
      ∙ ap (λ (v : List ℕ). told_in s (Err (flaw 10 v))) (rest-behind s at r h p e)
      ∙ ap Err (ten-at s p f)

  pub sole_none : length s ≤ r.start → told_in s (exactly 1 said (drop at s)) ≡ Err (at_place 10 p)
  sole_none k = miscounted (λ q. let z : ◌≡◌ {A = ℕ} 0 1 = sym (ap length (h.none k)) ∙ q in absurd (omega arith))

  -- the words from the place on, where there is one
  listed : r.start < length s → length (words (drop at s)) ≡ length (words (drop r.end s)) + 1
  listed k = ap length (h.some k) ∙ (omega arith)

  pub sole-more : r.start < length s → p < length s → told_in s (exactly 1 said (drop at s)) ≡ Err (at_place 10 p)
  sole-more k q = miscounted (λ z. absurd (omega (arith, listed k, ap length (words-some s r.end p e q _ refl))))

  pub sole-one : r.start < length s → length s ≤ p → exactly 1 said (drop at s) ≡ said
  sole-one k q = exactly-yes 1 said (drop at s) (omega (arith, listed k, ap length (words-none s r.end p e q)))

-- ---- the name of a line that begins at start, behind its blanks

module _ (w : List ℕ) (start : ℕ) (s : start ≡ 0 + length (front is_blank w)) where
  first-front : word 0 (words w) ≡ front is_ink (drop start w)
  unfolding word front
  first-front =
      by_order (length w) start
      (λ k. ap (word 0) (words-none w 0 start s k) ∙ sym (ap (front is_ink) (drop_of_length-le w k)))
      (λ k.
      let end : ℕ = start + length (front is_ink (drop start w)) in
      ap (word 0) (words-some w 0 start s k end refl) ∙ front_at is_ink w start end refl)

  name-front : name_of w ≡ front is_name_byte (drop start w)
  unfolding name_of is_name_byte
  name-front =
      ap (front (other (code "="))) first-front
      ∙ front-front (other (code "=")) is_ink is_name_byte (λ b. refl) (drop start w)

  module _ (end : ℕ) (e : end ≡ start + length (front is_name_byte (drop start w))) where
    pub name-text : part start end w ≡ name_of w
    name-text = front_at is_name_byte w start end e ∙ sym name-front

    pub name-behind : drop end w ≡ after_name w
    unfolding after_name
    name-behind =
        sym
        (ap (λ (x : List ℕ). drop (length (name_of w)) x) (after-at is_blank w 0 start s)
        ∙ ap (λ (x : List ℕ). drop (length x) (drop start w)) name-front
        ∙ drop-drop (length (front is_name_byte (drop start w))) start w
        ∙ ap (λ (n : ℕ). drop n w) (sym e))

-- ---- `=` at a place

pub equals-past : (w : List ℕ) (at : ℕ) → length w ≤ at → has_equals (drop at w) ≡ false
equals-past w at h = ap has_equals (drop_of_length-le w h)

pub equals-there : (w : List ℕ) (at : ℕ) → at < length w → has_equals (drop at w) ≡ eqb (get_or w at 0) (code "=")
equals-there w at h = ap has_equals (from_cons w at 0 h)

pub equals-within : (w : List ℕ) (at : ℕ) → has_equals (drop at w) ≡ true → at < length w
equals-within w at q = by_order (length w) at (λ h. absurd (never (has_equals (drop at w)) q (equals-past w at h))) (λ h. h)

-- ---- the number of a line whose name ends at `end`, with its blanks behind it up to `at`

module _ (w : List ℕ) (end at : ℕ) (h : drop end w ≡ after_name w) (e : at ≡ end + length (front is_blank (drop end w))) where
  assigned-at : number_line w ≡ behind_equals (drop at w)
  unfolding number_line
  assigned-at = ap behind_equals (ap (after is_blank) (sym h) ∙ after-at is_blank w end at e)

  pub assigned-other : at ≤ length w → has_equals (drop at w) ≡ false → told_in w (number_line w) ≡ Err (at_place 10 at)
  unfolding behind_equals
  assigned-other k q = ap (told_in w) (assigned-at ∙ cond_no _ _ q) ∙ ap Err (ten-at w at k)

  pub assigned-equals : has_equals (drop at w) ≡ true → number_line w ≡ exactly 1 (word_by given_cell 0 (drop (at + 1) w)) (drop (at + 1) w)
  unfolding behind_equals
  assigned-equals q =
      assigned-at
      ∙ cond_yes _ _ q
      ∙ ap (λ (v : List ℕ). exactly 1 (word_by given_cell 0 v) v) (drop-drop 1 at w)
