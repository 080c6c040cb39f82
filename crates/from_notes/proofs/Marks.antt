-- A cursor by words reads what the words say: a comment character that stands in no line cuts nothing, whichever it is.
use Rattle.std.specs.Prelude.{Ok, Err}
use Prim.Native.Nat.{ℕ, suc, ◌+◌, ◌≤◌, ◌<◌}
use Prim.Native.Char.{code}
use mathlib.Core.Path.{◌≡◌, refl, sym, ap, ◌∙◌}
use mathlib.Core.List.{List, [], ◌∷◌}
use mathlib.Core.Bool.{Bool, true, false}
use native.Mathlib.Omega.{arith}
use lib.ListN.{length, drop, get_or, drop_of_length-le}
use lib.Seq.{get_or-drop}
use lib.Dec.{eqb, leb}
use borrow.Author.Tests.{leb-true}
use Rattle.laws.specs.Bytes.{is_blank}
use Rattle.laws.specs.Lists.{trim, all, other}
use Rattle.laws.proofs.Tests.{by-test, and_first, and_second}
use Rattle.laws.proofs.Fronts.{front-whole, other-yes}
use Rattle.lines.specs.Lines.{Physical, is_return, onto_line, lines_of, cut}
use Rattle.cut_lines.specs.Change.{is_change, change_of}
use Rattle.cut_lines.specs.Texts.{Text, change, texts_from}
use Rattle.laws.specs.Said.{or_else}
use Rattle.records.specs.Flaws.{Reads, flaw_in, told}
use Rattle.cut_lines.specs.Cursors.{rest}
use Rattle.from_notes.specs.Made.{mark_of, StandsAt}

-- ---- the bytes of a line are bytes of the file, and none of them is LF

abbrev lacks : ℕ → Physical → Bool
lacks c l = all (other c) l.bytes

onto-lacks : (c b : ℕ) (ls : List Physical) → other c b ≡ true → all (lacks c) ls ≡ true → all (lacks c) (onto_line b ls) ≡ true
unfolding onto_line all
onto-lacks c b [] h g = rw h
onto-lacks c b (l ∷ ls) h g = rw h g

lines-lack : (c : ℕ) (s : List ℕ) → ((i : ℕ) → eqb (get_or s i 0) (code "\n") ≡ false → other c (get_or s i 0) ≡ true) → all (lacks c) (lines_of s) ≡ true
unfolding lines_of all
lines-lack c [] h = refl
lines-lack c (b ∷ bs) h =
    let ih = lines-lack c bs (λ i. h (suc i)) in
    by-test (eqb b 10)
    (λ t. rw t ih)
    (λ t. rw t (by-test (is_return b bs) (λ q. rw q ih) (λ q. rw q (onto-lacks c b (lines_of bs) (h 0 t) ih))))

breaks-lack : (s : List ℕ) → all (lacks (code "\n")) (lines_of s) ≡ true
unfolding other
breaks-lack s = lines-lack 10 s (λ i t. rw t)

words-lack : (c : ℕ) (s : List ℕ) → ((i : ℕ) → get_or s i 0 < 256) → 256 ≤ c → all (lacks c) (lines_of s) ≡ true
words-lack c s h g = lines-lack c s (λ i t. other-yes c (get_or s i 0) (λ e. omega (arith, h i)))

-- ---- the texts of lines under two characters that stand in none of them

cut-lacks : (c : ℕ) (w : List ℕ) → all (other c) w ≡ true → cut c w ≡ trim is_blank w
unfolding cut
cut-lacks c w h = ap (trim is_blank) (front-whole (other c) w h)

after-marks : (c d k : ℕ) (ls : List Physical) → texts_from c k ls ≡ texts_from d k ls → (r : Reads ℕ)
    → texts_from (or_else c r) k ls ≡ texts_from (or_else d r) k ls
after-marks c d k ls e (Ok x) = refl
after-marks c d k ls e (Err f) = e

texts-marks : (c d k : ℕ) (ls : List Physical) → all (lacks c) ls ≡ true → all (lacks d) ls ≡ true → texts_from c k ls ≡ texts_from d k ls
unfolding texts_from all
texts-marks c d k [] h g = refl
texts-marks c d k (l ∷ ls) h g =
    let ih = texts-marks c d (k + 1) ls (and_second (lacks c l) _ h) (and_second (lacks d l) _ g) in
    let e = cut-lacks c l.bytes (and_first (lacks c l) _ h) ∙ sym (cut-lacks d l.bytes (and_first (lacks d l) _ g)) in
    by-test (is_change l.bytes)
    (λ t. rw t (ap (λ (ts : List Text). change k (told l.bytes (flaw_in (change_of l.bytes))) ∷ ts) (after-marks c d (k + 1) ls ih (change_of l.bytes))))
    (λ t. rw t (rw (e, ih)))

-- ---- a cursor by words

module _ (s : List ℕ) (at comment : ℕ) where
  mark-texts : ((i : ℕ) → get_or s i 0 < 256) → rest s (record { at = at; line = 1; comment = mark_of comment }) ≡ rest s (record { at = at; line = 1; comment = comment })
  unfolding rest
  mark-texts h =
      let ls = lines_of (drop at s) in
      let b : (i : ℕ) → get_or (drop at s) i 0 < 256 = λ i. rw (get_or-drop) (h (at + i)) in
      by-test (leb 256 comment)
      (λ t. rw t (texts-marks 10 comment 1 ls (breaks-lack (drop at s)) (words-lack comment (drop at s) b (leb-true 256 comment t))))
      (λ t. rw t)

  pub stands-within : ((i : ℕ) → get_or s i 0 < 256) → at < length s → StandsAt s at comment (record { at = at; line = 1; comment = mark_of comment })
  stands-within h g = record { placed = record { within = omega arith; lines = omega arith }; texts = mark-texts h }

  pub stands-end : length s ≤ at → (m : ℕ) → StandsAt s at comment (record { at = length s; line = 1; comment = m })
  unfolding rest texts_from lines_of
  stands-end h m =
      let e : length s ≤ length s = omega arith in
      let z : drop (length s) s ≡ [] = drop_of_length-le s e in
      record { placed = record { within = omega arith; lines = omega arith }; texts = rw (z, drop_of_length-le s h) }
