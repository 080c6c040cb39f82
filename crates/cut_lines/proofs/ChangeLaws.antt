-- Laws of `specs/Change.antt`, one for each branch of the code.
use Rattle.std.specs.Prelude.{Ok, Err}
use Prim.Native.Nat.{ℕ, ◌+◌, ◌≤◌, ◌<◌}
use Prim.Native.Char.{code}
use mathlib.Core.Path.{◌≡◌, refl, sym, ap, ◌∙◌}
use mathlib.Core.List.{List, [], ◌∷◌}
use mathlib.Core.Bool.{true, false, cond, ◌&&◌}
use native.Mathlib.Omega.{arith}
use lib.ListN.{length, drop, get_or, drop_of_length-le}
use lib.Seq.{drop-drop}
use lib.Dec.{eqb}
use borrow.Author.Tests.{eq-eqb, ne_eqb}
use Rattle.laws.specs.Bytes.{bytes, is_blank}
use Rattle.laws.specs.Lists.{begins, front, after, among, eqs, other, part}
use Rattle.words.specs.Words.{is_ink}
use Rattle.records.specs.Flaws.{Reads, flaw, column_in, told_in, bare, at_place}
use Rattle.records.proofs.Columns.{told_at}
use Rattle.laws.proofs.Tests.{cond_yes, cond_no, and_both, and_left, and_right}
use Rattle.laws.proofs.Lists.{from_cons}
use Rattle.laws.proofs.Fronts.{after-at, front_at, after-stops, other-is}
use Rattle.keywords.specs.Form.{closing, is_closed, spelled, argument}
use Rattle.keywords.proofs.Laws.{inside-at, closing_at}
use Rattle.cut_lines.specs.Change.{is_change, marks, none_or, change_to, change_of}

-- ---- what begins a list

begins-at : (c : ℕ) (w : List ℕ) (i : ℕ) → i < length w → begins c (drop i w) ≡ eqb (get_or w i 0) c
begins-at c w i h = rw (from_cons w i 0 h)

begins-end : (c : ℕ) (w : List ℕ) (i : ℕ) → length w ≤ i → begins c (drop i w) ≡ false
begins-end c w i h = rw (drop_of_length-le w h)

-- ---- `is_change`

pub change-empty : (w : List ℕ) → length w ≡ 0 → is_change w ≡ false
unfolding is_change
change-empty [] h = refl
change-empty (b ∷ w) h = absurd (omega arith)

pub change-other : (w : List ℕ) → 0 < length w → (get_or w 0 0 ≡ code "[" → ⊥) → is_change w ≡ false
unfolding is_change
change-other w h e = and_left (begins 91 w) _ (begins-at 91 w 0 h ∙ ne_eqb (get_or w 0 0) 91 e)

module _ (w : List ℕ) (stop : ℕ) (found : stop ≡ 1 + length (front (other (code "]")) (drop 1 w))) where
  pub change-open : length w ≤ stop → is_change w ≡ false
  unfolding is_change
  change-open h =
      and_right (begins 91 w) _
      (and_left (begins 93 (closing w)) _ (ap (begins 93) (sym (closing_at w stop found)) ∙ begins-end 93 w stop h))

  pub change-named : 0 < length w → get_or w 0 0 ≡ code "[" → stop < length w
      → is_change w ≡ eqs (spelled (part 1 stop w)) (bytes "comment_char")
  unfolding is_change
  change-named h e k =
      let here = from_cons w stop 0 k in
      let byte = other-is 93 (get_or w stop 0) (after-stops (other 93) (drop 1 w) _ _ (after-at (other 93) w 1 stop found ∙ here)) in
      let first : begins 91 w ≡ true = begins-at 91 w 0 h ∙ eq-eqb (get_or w 0 0) 91 e in
      let last : begins 93 (closing w) ≡ true =
      ap (begins 93) (sym (closing_at w stop found)) ∙ begins-at 93 w stop k ∙ eq-eqb (get_or w stop 0) 93 byte in
      rw (first, last, inside-at w stop found)

  -- ---- `change_of`

  pub change-unclosed : is_closed (drop stop w) ≡ false → change_of w ≡ Err (flaw 5 [])
  unfolding change_of
  change-unclosed h = cond_no _ _ (ap is_closed (sym (closing_at w stop found)) ∙ h)

  pub change-closed : (at : ℕ) → is_closed (drop stop w) ≡ true → at ≡ stop + 1 + length (front is_blank (drop (stop + 1) w))
      → change_of w ≡ change_to (drop at w)
  unfolding change_of argument
  change-closed at h e =
      cond_yes _ _ (ap is_closed (sym (closing_at w stop found)) ∙ h)
      ∙ ap (λ (x : List ℕ). change_to (after is_blank (drop 1 x))) (sym (closing_at w stop found))
      ∙ ap (λ (x : List ℕ). change_to (after is_blank x)) (drop-drop 1 stop w)
      ∙ ap change_to (after-at is_blank w (stop + 1) at e)

pub change-none : (w : List ℕ) → length w ≡ 0 → change_of w ≡ Err (flaw 5 [])
unfolding change_of closing after is_closed
change-none [] h = refl
change-none (b ∷ w) h = absurd (omega arith)

-- ---- `change_to`

-- a flaw at a place, as the code tells it
pub to-wrong : (w : List ℕ) (p : ℕ) (said : Reads ℕ) → said ≡ Err (flaw 10 (drop p w)) → p ≤ length w → Err (at_place 10 p) ≡ told_in w said
to-wrong w p said e h = sym (ap (λ (x : Reads ℕ). told_in w x) e ∙ ap Err (told_at w 10 p (omega arith) (omega arith) h))

pub to-unformed : (w : List ℕ) (said : Reads ℕ) → said ≡ Err (flaw 5 []) → Err (bare 5) ≡ told_in w said
unfolding column_in
to-unformed w said e = sym (ap (λ (x : Reads ℕ). told_in w x) e)

module _ (w : List ℕ) (at : ℕ) where
  pub to_none : length w ≤ at → change_to (drop at w) ≡ Err (flaw 10 (drop at w))
  unfolding change_to
  to_none k = rw (drop_of_length-le w k)

  module _ (h : at < length w) where
    abbrev word_told : Reads ℕ
    word_told = Err (flaw 10 (drop at w))

    -- the first character, the rest of its word, and what follows both
    to-split : change_to (drop at w)
        ≡ cond (among (get_or w at 0) marks && eqs (front is_ink (drop (at + 1) w)) (bytes "_char"))
        (cond (none_or (get_or w at 0) (after is_blank (after is_ink (drop (at + 1) w)))) (Ok (get_or w at 0)) (Err (flaw 10 (after is_blank (after is_ink (drop (at + 1) w))))))
        word_told
    unfolding change_to
    to-split = rw (from_cons w at 0 h)

    pub to-unmarked : among (get_or w at 0) marks ≡ false → change_to (drop at w) ≡ word_told
    to-unmarked e = to-split ∙ cond_no _ _ (and_left (among (get_or w at 0) marks) _ e)

    module _ (end : ℕ) (ends : end ≡ at + 1 + length (front is_ink (drop (at + 1) w))) where
      pub to-misspelled : eqs (part (at + 1) end w) (bytes "_char") ≡ false → change_to (drop at w) ≡ word_told
      to-misspelled e =
          to-split ∙ cond_no _ _ (and_right (among (get_or w at 0) marks) _ (ap (λ (v : List ℕ). eqs v (bytes "_char")) (sym (front_at is_ink w (at + 1) end ends)) ∙ e))

      module _ (marked : among (get_or w at 0) marks ≡ true) (word : eqs (part (at + 1) end w) (bytes "_char") ≡ true) (behind : ℕ) (goes : behind ≡ end + length (front is_blank (drop end w))) where
        to-behind : change_to (drop at w) ≡ cond (none_or (get_or w at 0) (drop behind w)) (Ok (get_or w at 0)) (Err (flaw 10 (drop behind w)))
        to-behind =
            to-split
            ∙ cond_yes _ _ (and_both (among (get_or w at 0) marks) _ marked (ap (λ (v : List ℕ). eqs v (bytes "_char")) (sym (front_at is_ink w (at + 1) end ends)) ∙ word))
            ∙ ap (λ (v : List ℕ). cond (none_or (get_or w at 0) v) (Ok (get_or w at 0)) (Err (flaw 10 v))) (ap (after is_blank) (after-at is_ink w (at + 1) end ends) ∙ after-at is_blank w end behind goes)

        pub to_end : length w ≤ behind → change_to (drop at w) ≡ Ok (get_or w at 0)
        unfolding none_or
        to_end k = to-behind ∙ rw (drop_of_length-le w k)

        pub to-remark : behind < length w → get_or w behind 0 ≡ get_or w at 0 → change_to (drop at w) ≡ Ok (get_or w at 0)
        unfolding none_or
        to-remark k e = to-behind ∙ cond_yes _ _ (ap (none_or (get_or w at 0)) (from_cons w behind 0 k) ∙ eq-eqb (get_or w behind 0) (get_or w at 0) e)

        pub to-followed : behind < length w → (get_or w behind 0 ≡ get_or w at 0 → ⊥) → change_to (drop at w) ≡ Err (flaw 10 (drop behind w))
        unfolding none_or
        to-followed k e = to-behind ∙ cond_no _ _ (ap (none_or (get_or w at 0)) (from_cons w behind 0 k) ∙ ne_eqb (get_or w behind 0) (get_or w at 0) e)
