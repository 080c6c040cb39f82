-- Laws of the definitions: a line further on, lines run out, where a reader stands, the text of a line, and a text put byte by byte under a function.
use Prim.Native.Nat.{ℕ, zero, suc, ◌+◌, ◌-◌, ◌≤◌, ◌<◌}
use mathlib.Core.Path.{◌≡◌, refl, sym, ap, ◌∙◌, subst}
use mathlib.Core.List.{List, [], ◌∷◌, ◌++◌, map, map-append}
use native.Mathlib.Omega.{arith}
use native.Mathlib.Numerals.{add-one}
use lib.ListN.{length, take, drop, get_or, drop_of_length-le}
use lib.Seq.{drop-drop, drop-nil, take-suc}
use borrow.Author.Tests.{eq-eqb, ne_eqb}
use Rattle.lines.specs.Lines.{Physical, lines_of}
use Rattle.lines.specs.Places.{line_from, RawAt}
use Rattle.lines.specs.declared.Line.{Line}
use Rattle.lines.proofs.Handed.{hands_none, raw_at}
use Rattle.laws.specs.Bytes.{bytes}
use Rattle.laws.specs.Lists.{part}
use Rattle.laws.proofs.Tests.{by_order, cond_yes, cond_no}
use Rattle.records.specs.declared.Fault.{Fault}
use Rattle.refusal_text.specs.Places.{place_behind, of_line}
use Rattle.refusal_text.specs.Refusals.{first_suggestion, meant_text}
use Rattle.refusal_text.specs.Shown.{marked_text, first_text, mark_text, blank_for}
use Rattle.suggested_keyword.specs.Suggestion.{suggestion}
use Rattle.text_buffer.specs.Put.{Sheet, put, put_one}
use Rattle.text_buffer.proofs.Laws.{put_append}

-- ---- lines

-- the lines behind the line at a place
pub lines-on : (s : List ℕ) (at i : ℕ) (l : Line) → at < length s → l ≡ line_from s at → lines_of (drop at s) ≡ drop i (lines_of s)
    → (l.next ≤ length s) × (lines_of (drop l.next s) ≡ drop (i + 1) (lines_of s))
lines-on s at i l h e k =
    let raw = subst (RawAt s at) (sym e) (raw_at s at h) in
    (raw.within, ap (drop 1) (sym raw.more ∙ k) ∙ drop-drop 1 i (lines_of s))

-- at the end of the file no line is left, and so behind no greater number either
pub lines-out : (s : List ℕ) (at i n : ℕ) → length s ≤ at → i ≤ n → lines_of (drop at s) ≡ drop i (lines_of s) → lines_of (drop at s) ≡ drop n (lines_of s)
unfolding lines_of
lines-out s at i n h k e =
    let none : lines_of (drop at s) ≡ [] = ap lines_of (drop_of_length-le s h) in
    let sum : i + (n - i) ≡ n = omega (arith, k) in
    none ∙ sym (drop-nil (n - i)) ∙ ap (drop (n - i)) (sym none ∙ e) ∙ drop-drop (n - i) i (lines_of s) ∙ ap (λ (m : ℕ). drop m (lines_of s)) sum

-- ---- a reader that has handed out n lines stands at p

pub record Behind (s : List ℕ) (n p : ℕ) : Type 0 where
  pub within : p ≤ length s
  pub lines : lines_of (drop p s) ≡ drop n (lines_of s)
  -- each line takes a byte
  pub far : p < length s → n ≤ p

behind-next : (s : List ℕ) (n p : ℕ) → Behind s n p → Behind s (suc n) (line_from s p).next
behind-next s n p b =
    by_order (suc p) (length s)
    (λ h.
    let on = lines-on s p n (line_from s p) h refl b.lines in
    record { within = on.0; lines = on.1 ∙ ap (λ (k : ℕ). drop k (lines_of s)) (add-one n); far = λ _. omega (arith, b.far h, (raw_at s p h).rises) })
    (λ h.
    subst (Behind s (suc n)) (ap (λ (l : Line). l.next) (hands_none s p (omega (arith, h))))
    (record { within = b.within; lines = lines-out s p n (suc n) (omega (arith, h)) (omega arith) b.lines; far = λ k. absurd (omega (arith, h, k)) }))

pub stands-behind : (s : List ℕ) (n : ℕ) → Behind s n (place_behind s n)
unfolding place_behind
stands-behind s zero = record { within = omega arith; lines = refl; far = λ _. omega arith }
stands-behind s (suc n) = behind-next s n (place_behind s n) (stands-behind s n)

-- a file has no more lines than bytes
pub all-passed : (s : List ℕ) (n : ℕ) → length s ≤ n → length s ≡ place_behind s n
all-passed s n h =
    let b = stands-behind s n in
    by_order (length s) (place_behind s n) (λ k. omega (arith, k, b.within)) (λ k. absurd (omega (arith, b.far k, h, k)))

-- ---- the text of a line

pub no_lines : (s : List ℕ) (at : ℕ) → length s ≤ at → lines_of (drop at s) ≡ []
unfolding lines_of
no_lines s at h = ap lines_of (drop_of_length-le s h)

pub first-none : (column : ℕ) (s : List ℕ) (at : ℕ) → length s ≤ at → [] ≡ first_text column (lines_of (drop at s))
first-none column s at h = sym (ap (first_text column) (no_lines s at h))

pub suggestion-none : (s : List ℕ) (at : ℕ) → length s ≤ at → [] ≡ first_suggestion (lines_of (drop at s))
suggestion-none s at h = sym (ap first_suggestion (no_lines s at h))

-- the line at a place lies within the file
pub line-within : (s : List ℕ) (at : ℕ) (l : Line) → at < length s → l ≡ line_from s at → (at ≤ l.end) × (l.end ≤ length s)
line-within s at l h e = let raw = subst (RawAt s at) (sym e) (raw_at s at h) in (raw.starts, raw.ends)

pub first-is : (column : ℕ) (s : List ℕ) (at : ℕ) (l : Line) → at < length s → l ≡ line_from s at → marked_text column (part at l.end s) ≡ first_text column (lines_of (drop at s))
first-is column s at l h e =
    let raw = subst (RawAt s at) (sym e) (raw_at s at h) in
    ap (marked_text column) raw.text ∙ sym (ap (first_text column) raw.more)

pub suggestion-is : (s : List ℕ) (at : ℕ) (l : Line) → at < length s → l ≡ line_from s at → suggestion (part at l.end s) ≡ first_suggestion (lines_of (drop at s))
suggestion-is s at l h e =
    let raw = subst (RawAt s at) (sym e) (raw_at s at h) in
    ap suggestion raw.text ∙ sym (ap first_suggestion raw.more)

-- any text of the line with a number
module _ (text : List Physical → List ℕ) (s : List ℕ) where
  pub line-none : (n : ℕ) → n ≡ 0 → [] ≡ of_line text s n
  line-none n e = sym (ap (of_line text s) e)

  pub line-text : (n p : ℕ) → 0 < n → p ≡ place_behind s (n - 1) → text (lines_of (drop p s)) ≡ of_line text s n
  line-text zero p h e = absurd (omega (arith, h))
  line-text (suc n) p h e =
      let before : suc n - 1 ≡ n = omega arith in
      ap (λ (q : ℕ). text (lines_of (drop q s))) (e ∙ ap (place_behind s) before) ∙ ap text (stands-behind s n).lines

-- ---- bytes, each under a function

-- a turn of the loop that puts byte by byte
pub put_mapped : (f : ℕ → ℕ) (text : List ℕ) (i x : ℕ) (s : Sheet) → i < length text → x ≡ f (get_or text i 0)
    → put_one x (put (map f (take i text)) s) ≡ put (map f (take (i + 1) text)) s
put_mapped f text i x s h e =
    let last : take (suc i) text ≡ take i text ++ get_or text i 0 ∷ [] = take-suc text i 0 h in
    let all : map f (take (i + 1) text) ≡ map f (take i text) ++ x ∷ [] =
    ap (λ (k : ℕ). map f (take k text)) (add-one i) ∙ ap (map f) last ∙ map-append f (take i text) (get_or text i 0 ∷ []) ∙ ap (λ (y : ℕ). map f (take i text) ++ y ∷ []) (sym e) in
    sym (ap (λ (t : List ℕ). put t s) all ∙ put_append (map f (take i text)) (x ∷ []) s)

-- ---- the mark under a column

pub mark-none : (l : List ℕ) (column : ℕ) → column ≡ 0 → [] ≡ mark_text l column
unfolding mark_text
mark-none l zero h = refl
mark-none l (suc n) h = absurd (omega (arith, h))

pub mark-some : (l : List ℕ) (column : ℕ) → 0 < column → bytes "  " ++ map blank_for (take (column - 1) l) ++ bytes "^\n" ≡ mark_text l column
unfolding mark_text
mark-some l zero h = absurd (omega (arith, h))
mark-some l (suc n) h =
    let before : suc n - 1 ≡ n = omega arith in
    ap (λ (k : ℕ). bytes "  " ++ map blank_for (take k l) ++ bytes "^\n") before

-- ---- the keyword that may be meant

pub meant-other : (s : List ℕ) (f : Fault) → (f.number ≡ 21 → ⊥) → [] ≡ meant_text s f
unfolding meant_text
meant-other s f h = sym (cond_no _ _ (ne_eqb f.number 21 h))

pub meant-slip : (s : List ℕ) (f : Fault) → f.number ≡ 21 → of_line first_suggestion s f.line ≡ meant_text s f
unfolding meant_text
meant-slip s f h = sym (cond_yes _ _ (eq-eqb f.number 21 h))
