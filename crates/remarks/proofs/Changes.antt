-- [Comment Char] lines: known by what stands up to the `]`, so whatever follows; what sets the character, and what may stand behind that.
use Rattle.std.specs.Prelude.{Ok, Err}
use Prim.Native.Nat.{ℕ}
use Prim.Native.Char.{code}
use mathlib.Core.Path.{◌≡◌, refl, sym, ap, ◌∙◌}
use mathlib.Core.List.{List, [], ◌∷◌, ◌++◌}
use mathlib.Core.Bool.{true, false, ◌&&◌}
use lib.ListN.{length, drop, take-append-drop}
use lib.Dec.{eqb}
use borrow.Author.Tests.{not-true}
use Rattle.laws.specs.Bytes.{bytes, is_blank, is_capital, small, spelled_byte}
use Rattle.laws.specs.Lists.{front, after, begins, among, eqs, other, all}
use Rattle.laws.proofs.Tests.{by-test, cond_no, and_first, and_second, impossible}
use Rattle.laws.proofs.Appended.{front-within, after-within, among-all}
use Rattle.words.specs.Words.{is_ink}
use Rattle.records.specs.Flaws.{Reads, flaw}
use Rattle.keywords.specs.Form.{inside, closing, is_closed, spelled, argument}
use Rattle.lines.specs.Lines.{cut}
use Rattle.lines.proofs.Places.{cut-take}
use Rattle.cut_lines.specs.Change.{is_change, marks, none_or, change_to, change_of}

-- ---- what stands up to the `]`

-- a list that begins with a byte has a first byte
begun : (c : ℕ) (l : List ℕ) → begins c l ≡ true → (b : ℕ) × (bs : List ℕ) × (l ≡ b ∷ bs)
begun c [] h = impossible (cc)
begun c (b ∷ bs) h = (b, bs, refl)

pub change-more : (w r : List ℕ) → is_change w ≡ true → is_change (w ++ r) ≡ true
unfolding is_change inside closing
change-more [] r h = impossible (cc)
change-more (b ∷ w) r h =
    let found = begun (code "]") (after (other (code "]")) w) (and_first _ _ (and_second (eqb b (code "[")) _ h)) in
    rw (front-within (other (code "]")) w r found.0 found.1 found.2, after-within (other (code "]")) w r found.0 found.1 found.2) (rw found.2 at h)

pub change-opens : (w : List ℕ) → is_change w ≡ true → begins (code "[") w ≡ true
unfolding is_change
change-opens w h = and_first (begins (code "[") w) _ h

pub no_change : is_change [] ≡ true → ◌≡◌ {A = ℕ} 0 1
unfolding is_change
no_change h = cc

-- cutting makes no [Comment Char] line of another
pub cut-unchanged : (c : ℕ) (l : List ℕ) → is_change l ≡ false → is_change (cut c l) ≡ false
cut-unchanged c l h =
    by-test (is_change (cut c l))
    (λ t.
    let whole : cut c l ++ drop (length (cut c l)) l ≡ l = ap (λ (w : List ℕ). w ++ drop (length (cut c l)) l) (sym (cut-take c l)) ∙ take-append-drop (length (cut c l)) l in
    let z : true ≡ false = sym (change-more (cut c l) (drop (length (cut c l)) l) t) ∙ ap is_change whole ∙ h in
    impossible (cc))
    (λ t. t)

-- ---- the line that sets the character x

pub record Sets (x : ℕ) (w : List ℕ) : Type 0 where
  pub closed : is_closed (closing w) ≡ true
  pub behind : List ℕ
  pub argument : argument w ≡ x ∷ behind
  pub marked : among x marks ≡ true
  pub word : eqs (front is_ink behind) (bytes "_char") ≡ true
  pub remark : none_or x (after is_blank (after is_ink behind)) ≡ true

pub sets-char : (x : ℕ) (w : List ℕ) → Sets x w → change_of w ≡ Ok x
unfolding change_of change_to
sets-char x w h = rw (h.closed, h.argument, h.marked, h.word, h.remark)

-- v being what follows the keyword
from-argument : (x : ℕ) (w v : List ℕ) → is_closed (closing w) ≡ true → argument w ≡ v → change_to v ≡ Ok x → Sets x w
unfolding change_to
from-argument x w [] c a e = impossible (cc)
from-argument x w (y ∷ bs) c a e =
    by-test (among y marks && eqs (front is_ink bs) (bytes "_char"))
    (λ t.
    by-test (none_or y (after is_blank (after is_ink bs)))
    (λ u.
    let same : x ≡ y = said y x (rw (t, u) at e) in
    record { closed = c; behind = bs; argument = a ∙ ap (λ (z : ℕ). z ∷ bs) (sym same); marked = ap (λ (z : ℕ). among z marks) same ∙ and_first (among y marks) _ t; word = and_second (among y marks) _ t; remark = ap (λ (z : ℕ). none_or z (after is_blank (after is_ink bs))) same ∙ u })
    (λ u. let z : Err (flaw 10 (after is_blank (after is_ink bs))) ≡ Ok x = rw (t, u) at e in impossible (cc)))
    (λ t. let z : Err (flaw 10 (y ∷ bs)) ≡ Ok x = rw t at e in impossible (cc))
  where
    said : (y x : ℕ) → ◌≡◌ {A = Reads ℕ} (Ok y) (Ok x) → x ≡ y
    said y x q = cc

pub char-set : (x : ℕ) (w : List ℕ) → change_of w ≡ Ok x → Sets x w
unfolding change_of
char-set x w e =
    by-test (is_closed (closing w))
    (λ t. from-argument x w (argument w) t refl (rw t at e))
    (λ t. let z : ◌≡◌ {A = Reads ℕ} (Err (flaw 5 [])) (Ok x) = rw t at e in impossible (cc))

-- ---- what such a line counts as sets the same

mark-inked : (x : ℕ) → among x marks ≡ true → is_ink x ≡ true
unfolding all is_ink is_blank
mark-inked x h = among-all is_ink x marks h refl

module _ (x : ℕ) (h : among x marks ≡ true) where
  abbrev canonical : List ℕ
  canonical = bytes "[Comment Char] " ++ (x ∷ bytes "_char")

  pub canonical-change : is_change canonical ≡ true
  unfolding is_change inside closing front after other spelled spelled_byte small is_capital eqs
  canonical-change = refl

  pub canonical-sets : change_of canonical ≡ Ok x
  unfolding closing after other is_closed is_blank argument front is_ink eqs none_or
  canonical-sets =
      sets-char x canonical
      (record { closed = refl; behind = bytes "_char"; argument = cond_no _ _ (not-true (is_blank x) (mark-inked x h)); marked = h; word = refl; remark = refl })
