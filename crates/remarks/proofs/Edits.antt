-- An edit keeps the list: what it changes does not count, and the other lines are as they were. By induction over the lines before it.
use Rattle.std.specs.Prelude.{Ok, Err}
use Prim.Native.Nat.{ℕ, ◌+◌}
use Prim.Native.Char.{code}
use mathlib.Core.Path.{◌≡◌, refl, sym, ap, ap₂, ◌∙◌}
use mathlib.Core.List.{List, [], ◌∷◌, ◌++◌, map}
use mathlib.Core.Bool.{true, false}
use Rattle.laws.specs.Lists.{front, trim, among}
use Rattle.laws.specs.Said.{or_else}
use Rattle.laws.proofs.Tests.{by-test, cond_yes, cond_no}
use Rattle.records.specs.Flaws.{Reads}
use Rattle.lines.specs.Lines.{Physical, lines_of, cut}
use Rattle.cut_lines.specs.Change.{is_change, marks, change_of}
use Rattle.cut_lines.specs.InForce.{char_after_line, char_after_lines}
use Rattle.remarks.specs.Counted.{change_counts, counts_as, Counted, onto_counted, counted_from, counted, list_of}
use Rattle.remarks.specs.Edits.{is_remark, is_apart, line_of, Edit, behind_text, behind_change, respelled, put_in, taken_out, Edited, EditedBy, EditsChangeNothing}
use Rattle.remarks.proofs.Changes.{change-more, char-set}
use Rattle.remarks.proofs.Remarks.{remark-unchanged, remark-counts, change-sets}
use Rattle.remarks.proofs.Alike.{unchanged}

-- ---- the character in force is a mark

char-marked : (c : ℕ) (l : Physical) → among c marks ≡ true → among (char_after_line c l) marks ≡ true
unfolding char_after_line
char-marked c l h = by-test (is_change l.bytes) (λ t. rw t (set-marked (change_of l.bytes) refl)) (λ t. rw t h)
  where
    set-marked : (r : Reads ℕ) → change_of l.bytes ≡ r → among (or_else c r) marks ≡ true
    set-marked (Ok x) e = (char-set x l.bytes e).marked
    set-marked (Err f) e = h

chars-marked : (c : ℕ) (ls : List Physical) → among c marks ≡ true → among (char_after_lines c ls) marks ≡ true
unfolding char_after_lines
chars-marked c [] h = h
chars-marked c (l ∷ ls) h = chars-marked (char_after_line c l) ls (char-marked c l h)

-- ---- the list without the lines' numbers

unfoldable onto_list : List ℕ → List (List ℕ) → List (List ℕ)
onto_list [] ws = ws
onto_list (b ∷ bs) ws = (b ∷ bs) ∷ ws

unfoldable list_from : ℕ → List Physical → List (List ℕ)
list_from c [] = []
list_from c (l ∷ ls) = onto_list (counts_as c l.bytes) (list_from (char_after_line c l) ls)

onto-texts : (k : ℕ) (w : List ℕ) (es : List Counted) → map (λ (e : Counted). e.text) (onto_counted k w es) ≡ onto_list w (map (λ (e : Counted). e.text) es)
unfolding onto_counted onto_list
onto-texts k [] es = refl
onto-texts k (b ∷ bs) es = refl

list-from : (c k : ℕ) (ls : List Physical) → map (λ (e : Counted). e.text) (counted_from c k ls) ≡ list_from c ls
unfolding counted_from list_from
list-from c k [] = refl
list-from c k (l ∷ ls) =
    onto-texts k (counts_as c l.bytes) (counted_from (char_after_line c l) (k + 1) ls)
    ∙ ap (onto_list (counts_as c l.bytes)) (list-from (char_after_line c l) (k + 1) ls)

-- lines with others behind them that count the same
behind-lines : (c : ℕ) (before old new : List Physical) → list_from (char_after_lines c before) old ≡ list_from (char_after_lines c before) new
    → list_from c (before ++ old) ≡ list_from c (before ++ new)
unfolding list_from char_after_lines
behind-lines c [] old new h = h
behind-lines c (l ∷ before) old new h = ap (onto_list (counts_as c l.bytes)) (behind-lines (char_after_line c l) before old new h)

-- ---- a line for another

-- what it counts as, and the character behind it
record CountsAs (c : ℕ) (l w : List ℕ) (d : ℕ) : Type 0 where
  text : counts_as c l ≡ w
  char : char_after_line c (line_of l) ≡ d

first-line : (c d : ℕ) (l w : List ℕ) (ls : List Physical) → CountsAs c l w d → list_from c (line_of l ∷ ls) ≡ onto_list w (list_from d ls)
unfolding list_from
first-line c d l w ls h = ap₂ (λ (v : List ℕ) (x : ℕ). onto_list v (list_from x ls)) h.text h.char

same_line : (c d : ℕ) (l m w : List ℕ) (ls : List Physical) → CountsAs c l w d → CountsAs c m w d → list_from c (line_of l ∷ ls) ≡ list_from c (line_of m ∷ ls)
same_line c d l m w ls g h = first-line c d l w ls g ∙ sym (first-line c d m w ls h)

-- a line that counts as nothing
no_line : (c : ℕ) (l : List ℕ) (ls : List Physical) → CountsAs c l [] c → list_from c (line_of l ∷ ls) ≡ list_from c ls
unfolding onto_list
no_line c l ls h = first-line c c l [] ls h

-- ---- the edits

remark-line : (c : ℕ) (w r : List ℕ) → among c marks ≡ true → is_change w ≡ false → is_remark c r ≡ true → CountsAs c (w ++ r) (cut c w) c
unfolding char_after_line
remark-line c w r m k h = record { text = remark-counts c m w r h k; char = cond_no _ _ (remark-unchanged c m w r h k) }

change-line : (c x : ℕ) (w : List ℕ) → is_change w ≡ true → change_of w ≡ Ok x → CountsAs c w (change_counts [] (Ok x)) x
unfolding counts_as char_after_line
change-line c x w k e = record { text = cond_yes _ _ k ∙ ap (change_counts w) e; char = cond_yes _ _ k ∙ ap (or_else c) e }

remark-behind : (c x : ℕ) (w r : List ℕ) → is_change w ≡ true → change_of w ≡ Ok x → is_apart r ≡ true → is_remark x r ≡ true → CountsAs c (w ++ r) (change_counts [] (Ok x)) x
remark-behind c x w r k e a h = change-line c x (w ++ r) (change-more w r k) (change-sets x r a h w e)

blank-line : (c : ℕ) (r : List ℕ) → among c marks ≡ true → is_remark c r ≡ true → CountsAs c r [] c
unfolding cut front trim is_change
blank-line c r m h = remark-line c [] r m refl h

edit-keeps : (c : ℕ) (old new behind : List Physical) → among c marks ≡ true → Edit c old new → list_from c (old ++ behind) ≡ list_from c (new ++ behind)
edit-keeps c old new behind m (behind_text w q r u p o) =
    same_line c c (w ++ q) (w ++ r) (cut c w) behind (remark-line c w q m u p) (remark-line c w r m u o)
edit-keeps c old new behind m (behind_change x w q r u s a p b o) =
    same_line c x (w ++ q) (w ++ r) (change_counts [] (Ok x)) behind (remark-behind c x w q u s a p) (remark-behind c x w r u s b o)
edit-keeps c old new behind m (respelled x v w u s p o) = same_line c x v w (change_counts [] (Ok x)) behind (change-line c x v u s) (change-line c x w p o)
edit-keeps c old new behind m (put_in r o) = sym (no_line c r behind (blank-line c r m o))
edit-keeps c old new behind m (taken_out r o) = no_line c r behind (blank-line c r m o)

-- ---- files

list-is : (s : List ℕ) → list_of s ≡ list_from (code "|") (lines_of s)
unfolding list_of counted
list-is s = list-from (code "|") 1 (lines_of s)

bar-marked : among (code "|") marks ≡ true
unfolding among
bar-marked = refl

edited-list : (s t : List ℕ) → Edited s t → list_of s ≡ list_of t
edited-list s t h =
    let kept = edit-keeps (char_after_lines (code "|") h.before) h.old h.new h.behind (chars-marked (code "|") h.before bar-marked) h.edit in
    list-is s ∙ ap (list_from (code "|")) h.lines
    ∙ behind-lines (code "|") h.before (h.old ++ h.behind) (h.new ++ h.behind) kept
    ∙ sym (list-is t ∙ ap (list_from (code "|")) h.lines_too)

edits-list : (s t : List ℕ) (us : List (List ℕ)) → EditedBy s us t → list_of s ≡ list_of t
edits-list s t [] h = list-is s ∙ ap (list_from (code "|")) h ∙ sym (list-is t)
edits-list s t (u ∷ us) h = edited-list s u h.0 ∙ edits-list u t us h.1

pub edits-change-nothing : EditsChangeNothing
edits-change-nothing s t us h p q = unchanged s t (record { passes = p; passes_too = q; list = edits-list s t us h })
