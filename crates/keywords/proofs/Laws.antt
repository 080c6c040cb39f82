-- Laws of `specs/Form.antt` and `specs/Carried.antt`: from a place on, and where a line's argument begins.
use Rattle.std.specs.Prelude.{Option, None, Err, Result}
use Prim.Native.Nat.{ℕ, ◌+◌, ◌-◌, ◌≤◌, ◌<◌}
use Prim.Native.Char.{code}
use mathlib.Core.Path.{◌≡◌, refl, sym, ap, ◌∙◌}
use mathlib.Core.List.{List, [], ◌∷◌, map}
use mathlib.Core.Bool.{Bool, true, false, cond}
use native.Mathlib.Omega.{arith}
use lib.ListN.{length, drop, get_or, drop_of_length-le, length-drop}
use lib.Seq.{drop-drop}
use Rattle.laws.specs.Bytes.{is_blank, spelled_byte}
use Rattle.laws.specs.Lists.{front, after, other, part, one_of}
use Rattle.laws.proofs.Tests.{cond_yes, cond_no, and_both, and_left, and_right, by_order, never}
use Rattle.laws.proofs.Lists.{from_cons}
use Rattle.laws.proofs.Fronts.{front_at, after-at, front-le}
use Rattle.words.specs.Words.{words, grown, onto_word}
use Rattle.words.specs.Spelled.{byte_as}
use Rattle.words.specs.declared.Spelling.TheVariants.{AsKeyword}
use Rattle.name_table.specs.Names.{meaning, place_from}
use Rattle.name_table.specs.Places.{names_of, meaning_of}
use Rattle.name_table.specs.Listed.{names_in}
use Rattle.name_table.specs.declared.NameList.TheVariants.{Keywords}
use Rattle.name_table.proofs.Laws.{meaning-place}
use Rattle.hierarchy.specs.Hierarchy.{hierarchy}
use Rattle.keywords.specs.Form.{inside, closing, is_joint, in_parts, is_closed, is_formed, spelled, argument}
use Rattle.keywords.specs.Carried.{carried}
use Rattle.keywords.specs.Answers.{known, key_read}
use Rattle.keywords.specs.declared.Keyword.{Keyword}
use Rattle.keywords.specs.declared.KeyFault.{KeyFault}
use Rattle.keywords.specs.declared.KeyFault.TheVariants.{Gap, Slip, Malformed}

-- ---- `in_parts`, from a place on

module _ (w : List ℕ) (i : ℕ) (h : i < length w) where
  pub parts-joint : (p : Bool) → is_joint (get_or w i 0) ≡ true → p ≡ true → in_parts p (drop i w) ≡ in_parts false (drop (i + 1) w)
  unfolding in_parts
  parts-joint p e q = rw (from_cons w i 0 h, e, q)

  pub parts_twice : (p : Bool) → is_joint (get_or w i 0) ≡ true → p ≡ false → in_parts p (drop i w) ≡ false
  unfolding in_parts
  parts_twice p e q = rw (from_cons w i 0 h, e, q)

  pub parts-blank : (p : Bool) → is_joint (get_or w i 0) ≡ false → is_blank (get_or w i 0) ≡ true → in_parts p (drop i w) ≡ false
  unfolding in_parts
  parts-blank p e q = rw (from_cons w i 0 h, e, q)

  pub parts_more : (p : Bool) → is_joint (get_or w i 0) ≡ false → is_blank (get_or w i 0) ≡ false → in_parts p (drop i w) ≡ in_parts true (drop (i + 1) w)
  unfolding in_parts
  parts_more p e q = rw (from_cons w i 0 h, e, q)

pub parts-end : (w : List ℕ) (i : ℕ) (p : Bool) → length w ≤ i → in_parts p (drop i w) ≡ p
unfolding in_parts
parts-end w i p h = rw (drop_of_length-le w h)

-- ---- the list in the code

list-names : names_in Keywords ≡ names_of carried
unfolding words grown onto_word is_blank carried names_of
list-names = refl

-- the place that the code finds stands for the meaning
pub meaning-found : (w : List ℕ) (f : Option ℕ) → f ≡ place_from 0 (map (byte_as AsKeyword) w) (names_in Keywords)
    → meaning (spelled w) carried ≡ meaning_of carried f
unfolding spelled
meaning-found w f q =
    meaning-place (map spelled_byte w) carried
    ∙ ap (λ (ns : List (List ℕ)). meaning_of carried (place_from 0 (map spelled_byte w) ns)) (sym list-names)
    ∙ ap (meaning_of carried) (sym q)

-- a `]` that is there stands within the text
pub closed-within : (w : List ℕ) (at : ℕ) → is_closed (drop at w) ≡ true → at < length w
unfolding is_closed
closed-within w at h =
    by_order (length w) at
    (λ k. let z : false ≡ true = rw (drop_of_length-le w k) at h in absurd (never false z refl))
    (λ k. k)

-- ---- a keyword line by the place of its `]`

-- what a line with a name so spelled is, if its argument begins at a place
abbrev pub of_name : ℕ → List ℕ → Result (Keyword × ℕ) KeyFault
of_name at name = known at (one_of name hierarchy) (meaning name carried)

module _ (w : List ℕ) (stop : ℕ) (found : stop ≡ 1 + length (front (other (code "]")) (drop 1 w))) where
  pub inside-at : part 1 stop w ≡ inside w
  unfolding inside
  inside-at = front_at (other 93) w 1 stop found

  pub closing_at : drop stop w ≡ closing w
  unfolding closing
  closing_at = sym (after-at (other 93) w 1 stop found)

  pub key-open : is_closed (drop stop w) ≡ false → key_read w ≡ Err Malformed
  unfolding key_read is_formed
  key-open h = cond_no _ _ (and_right (in_parts false (inside w)) (is_closed (closing w)) (ap is_closed (sym closing_at) ∙ h))

  pub key_apart : in_parts false (part 1 stop w) ≡ false → key_read w ≡ Err Malformed
  unfolding key_read is_formed
  key_apart h = cond_no _ _ (and_left (in_parts false (inside w)) (is_closed (closing w)) (ap (in_parts false) (sym inside-at) ∙ h))

  pub key-known : (at : ℕ) → is_closed (drop stop w) ≡ true → in_parts false (part 1 stop w) ≡ true
      → at ≡ stop + 1 + length (front is_blank (drop (stop + 1) w)) → at ≤ length w
      → key_read w ≡ of_name at (spelled (part 1 stop w))
  unfolding key_read is_formed argument
  key-known at h k e l =
      let rest : after is_blank (drop 1 (closing w)) ≡ drop at w =
      ap (λ (x : List ℕ). after is_blank (drop 1 x)) (sym closing_at) ∙ ap (after is_blank) (drop-drop 1 stop w) ∙ after-at is_blank w (stop + 1) at e in
      let place : length w - length (after is_blank (drop 1 (closing w))) ≡ at = omega (arith, ap length rest, length-drop at w) in
      cond_yes _ _
      (and_both (in_parts false (inside w)) (is_closed (closing w)) (ap (in_parts false) (sym inside-at) ∙ k) (ap is_closed (sym closing_at) ∙ h))
      ∙ ap (λ (n : ℕ). of_name n (spelled (inside w))) place
      ∙ ap (λ (x : List ℕ). of_name at (spelled x)) (sym inside-at)

  pub key-not-carried : is_closed (drop stop w) ≡ true → in_parts false (part 1 stop w) ≡ true
      → meaning (spelled (part 1 stop w)) carried ≡ None → key_read w ≡ Err (cond (one_of (spelled (part 1 stop w)) hierarchy) Gap Slip)
  key-not-carried h k e =
      let at : ℕ = stop + 1 + length (front is_blank (drop (stop + 1) w)) in
      key-known at h k refl
      (omega (arith, closed-within w stop h, front-le is_blank (drop (stop + 1) w), length-drop (stop + 1) w))
      ∙ ap (known at (one_of (spelled (part 1 stop w)) hierarchy)) e

pub key-none : (w : List ℕ) → length w ≡ 0 → key_read w ≡ Err Malformed
unfolding key_read is_formed inside front in_parts
key-none [] h = refl
key-none (b ∷ w) h = absurd (omega arith)
