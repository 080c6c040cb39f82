-- What stands behind a line's text: it is cut, and it makes no [Comment Char] line of another, for the character in force is a mark and no mark stands in
-- that keyword; and what stands behind a [Comment Char] line's argument.
use Rattle.std.specs.Prelude.{Ok}
use Prim.Native.Nat.{ℕ}
use Prim.Native.Char.{code}
use mathlib.Core.Path.{◌≡◌, refl, sym, ap, ◌∙◌}
use mathlib.Core.List.{List, [], ◌∷◌, ◌++◌, append-nil}
use mathlib.Core.Bool.{Bool, true, false, not, ◌&&◌}
use lib.ListN.{drop}
use lib.Dec.{eqb}
use borrow.Author.Tests.{not-true, eqb-true}
use Rattle.laws.specs.Bytes.{bytes, is_blank, is_capital, small, spelled_byte}
use Rattle.laws.specs.Lists.{front, after, begins, among, eqs, other, all, trim}
use Rattle.laws.proofs.Tests.{by-test, cond_no, and_both, and_first, and_second, impossible}
use Rattle.laws.proofs.Same.{eqs-eq}
use Rattle.laws.proofs.Fronts.{all-second, other-no, other-is}
use Rattle.laws.proofs.Appended.{front-within, after-within, whole-front, front-beyond, after-beyond, trim_end, among-all}
use Rattle.words.specs.Words.{is_ink}
use Rattle.keywords.specs.Form.{inside, closing, is_closed, spelled, argument}
use Rattle.lines.specs.Lines.{cut}
use Rattle.cut_lines.specs.Change.{is_change, marks, none_or, change_of}
use Rattle.remarks.specs.Counted.{counts_as}
use Rattle.remarks.specs.Edits.{is_remark, is_apart}
use Rattle.remarks.proofs.Changes.{change-opens, Sets, sets-char, char-set}

-- ---- what stands behind a line's text

-- up to the comment it is blank
remark-blank : (c : ℕ) (r : List ℕ) → is_remark c r ≡ true → all is_blank (front (other c) r) ≡ true
unfolding is_remark after none_or front all other
remark-blank c [] h = refl
remark-blank c (b ∷ bs) h =
    by-test (is_blank b)
    (λ t. by-test (eqb b c) (λ u. rw u) (λ u. rw u (and_both _ _ t (remark-blank c bs (rw t at h)))))
    (λ t. let u : eqb b c ≡ true = rw t at h in rw u)

-- it is cut
remark-cut : (c : ℕ) (w r : List ℕ) → is_remark c r ≡ true → cut c (w ++ r) ≡ cut c w
unfolding cut
remark-cut c w r h = by_front (after (other c) w) refl
  where
    by_front : (v : List ℕ) → after (other c) w ≡ v → trim is_blank (front (other c) (w ++ r)) ≡ trim is_blank (front (other c) w)
    by_front [] e =
        ap (trim is_blank) (front-beyond (other c) w r e) ∙ trim_end is_blank w (front (other c) r) (remark-blank c r h)
        ∙ ap (trim is_blank) (sym (whole-front (other c) w e))
    by_front (b ∷ bs) e = ap (trim is_blank) (front-within (other c) w r b bs e)

-- ---- it makes no [Comment Char] line of another

-- the bytes of that keyword
abbrev is_spelling : ℕ → Bool
is_spelling b = among (spelled_byte b) (bytes "comment_char")

all-spelled : (p : ℕ → Bool) (v : List ℕ) → all (λ (b : ℕ). p (spelled_byte b)) v ≡ all p (spelled v)
unfolding all spelled
all-spelled p [] = refl
all-spelled p (b ∷ v) = ap (λ (t : Bool). p (spelled_byte b) && t) (all-spelled p v)

spelling : (v : List ℕ) → eqs (spelled v) (bytes "comment_char") ≡ true → all is_spelling v ≡ true
unfolding all among
spelling v h = all-spelled (λ b. among b (bytes "comment_char")) v ∙ ap (all (λ b. among b (bytes "comment_char"))) (eqs-eq (spelled v) (bytes "comment_char") h)

mark-apart : (c : ℕ) → among c marks ≡ true → (other (code "]") c && (other (code "[") c && not (is_spelling c))) ≡ true
unfolding all among other spelled_byte small is_capital
mark-apart c h = among-all (λ b. other (code "]") b && (other (code "[") b && not (is_spelling b))) c marks h refl

brackets-inked : (is_ink (code "]") ≡ true) × (is_ink (code "[") ≡ true)
unfolding is_ink is_blank
brackets-inked = (refl, refl)

blank-inked : (b x : ℕ) → b ≡ x → is_ink x ≡ true → is_blank b ≡ true → ◌≡◌ {A = ℕ} 0 1
unfolding is_ink
blank-inked b x e k t = let z : true ≡ false = sym t ∙ ap is_blank e ∙ not-true (is_blank x) k in cc

-- a remark does not go on with the keyword up to its `]`
module _ (c : ℕ) (m : among c marks ≡ true) where
  remark-ends : (r : List ℕ) → is_remark c r ≡ true → all is_spelling (front (other (code "]")) r) ≡ true → begins (code "]") (after (other (code "]")) r) ≡ true → ◌≡◌ {A = ℕ} 0 1
  unfolding is_remark after none_or front all
  remark-ends [] h a e = cc
  remark-ends (b ∷ bs) h a e =
      by-test (is_blank b)
      (λ t.
      by-test (other (code "]") b)
      (λ u. remark-ends bs (rw t at h) (and_second (is_spelling b) _ (rw u at a)) (rw u at e))
      (λ u. blank-inked b (code "]") (other-is (code "]") b u) brackets-inked.0 t))
      (λ t.
      let same : b ≡ c = eqb-true b c (rw t at h) in
      let apart = ap (λ (x : ℕ). other (code "]") x && (other (code "[") x && not (is_spelling x))) same ∙ mark-apart c m in
      let u = and_first (other (code "]") b) _ apart in
      let spelled : is_spelling b ≡ true = and_first (is_spelling b) _ (rw u at a) in
      let z : true ≡ false = sym spelled ∙ not-true (is_spelling b) (and_second (other (code "[") b) _ (and_second (other (code "]") b) _ apart)) in
      cc)

  -- nor begin it
  remark-opens : (r : List ℕ) → is_remark c r ≡ true → begins (code "[") r ≡ true → ◌≡◌ {A = ℕ} 0 1
  unfolding is_remark after none_or
  remark-opens [] h e = cc
  remark-opens (b ∷ bs) h e =
      let bracket : b ≡ code "[" = eqb-true b (code "[") e in
      by-test (is_blank b)
      (λ t. blank-inked b (code "[") bracket brackets-inked.1 t)
      (λ t.
      let same : c ≡ code "[" = sym (eqb-true b c (rw t at h)) ∙ bracket in
      let z : true ≡ false = sym (and_first (other (code "[") c) _ (and_second (other (code "]") c) _ (mark-apart c m))) ∙ other-no (code "[") c same in
      cc)

  -- v being what stands from the `]` of b ∷ w on
  no-change-with : (b : ℕ) (w r v : List ℕ) → is_remark c r ≡ true → after (other (code "]")) w ≡ v → is_change (b ∷ w) ≡ false → is_change (b ∷ (w ++ r)) ≡ true → ◌≡◌ {A = ℕ} 0 1
  unfolding is_change inside closing
  no-change-with b w r [] h e k t =
      let behind = rw (front-beyond (other (code "]")) w r e, after-beyond (other (code "]")) w r e) at (and_second (eqb b (code "[")) _ t) in
      remark-ends r h (all-second is_spelling w (front (other (code "]")) r) (spelling (w ++ front (other (code "]")) r) (and_second (begins (code "]") (after (other (code "]")) r)) _ behind)))
      (and_first (begins (code "]") (after (other (code "]")) r)) _ behind)
  no-change-with b w r (x ∷ xs) h e k t =
      let z : true ≡ false = sym (rw (front-within (other (code "]")) w r x xs e, after-within (other (code "]")) w r x xs e) at t) ∙ (rw e at k) in
      cc

  no-change-behind : (w r : List ℕ) → is_remark c r ≡ true → is_change w ≡ false → is_change (w ++ r) ≡ true → ◌≡◌ {A = ℕ} 0 1
  no-change-behind [] r h k t = remark-opens r h (change-opens r t)
  no-change-behind (b ∷ w) r h k t = no-change-with b w r (after (other (code "]")) w) h refl k t

  pub remark-unchanged : (w r : List ℕ) → is_remark c r ≡ true → is_change w ≡ false → is_change (w ++ r) ≡ false
  remark-unchanged w r h k = by-test (is_change (w ++ r)) (λ t. impossible (no-change-behind w r h k t)) (λ t. t)

  pub remark-counts : (w r : List ℕ) → is_remark c r ≡ true → is_change w ≡ false → counts_as c (w ++ r) ≡ cut c w
  unfolding counts_as
  remark-counts w r h k = cond_no _ _ (remark-unchanged w r h k) ∙ remark-cut c w r h

-- ---- behind a [Comment Char] line's argument

apart-front : (q : List ℕ) → is_apart q ≡ true → front is_ink q ≡ []
unfolding is_apart front is_ink
apart-front [] h = refl
apart-front (b ∷ bs) h = rw h

apart-after : (q : List ℕ) → is_apart q ≡ true → after is_ink q ≡ q
unfolding is_apart after is_ink
apart-after [] h = refl
apart-after (b ∷ bs) h = rw h

closing-more : (w q : List ℕ) (b : ℕ) (bs : List ℕ) → closing w ≡ b ∷ bs → closing (w ++ q) ≡ b ∷ (bs ++ q)
unfolding closing after
closing-more [] q b bs e = impossible (cc)
closing-more (a ∷ w) q b bs e = after-within (other (code "]")) w q b bs e

module _ (x : ℕ) (q : List ℕ) (apart : is_apart q ≡ true) (remark : is_remark x q ≡ true) where
  -- v being what follows the argument
  word_more : (bs v : List ℕ) → after is_ink bs ≡ v → front is_ink (bs ++ q) ≡ front is_ink bs
  word_more bs [] e =
      front-beyond is_ink bs q e ∙ ap (λ (m : List ℕ). bs ++ m) (apart-front q apart) ∙ append-nil bs ∙ sym (whole-front is_ink bs e)
  word_more bs (b ∷ v) e = front-within is_ink bs q b v e

  -- u being what follows its blanks
  blanks-more : (v u : List ℕ) → after is_blank v ≡ u → none_or x u ≡ true → none_or x (after is_blank (v ++ q)) ≡ true
  unfolding is_remark none_or
  blanks-more v [] e h = ap (none_or x) (after-beyond is_blank v q e) ∙ remark
  blanks-more v (b ∷ u) e h = ap (none_or x) (after-within is_blank v q b u e) ∙ h

  remark-more : (bs v : List ℕ) → after is_ink bs ≡ v → none_or x (after is_blank v) ≡ true → none_or x (after is_blank (after is_ink (bs ++ q))) ≡ true
  unfolding is_remark
  remark-more bs [] e h = ap (λ (m : List ℕ). none_or x (after is_blank m)) (after-beyond is_ink bs q e ∙ apart-after q apart) ∙ remark
  remark-more bs (b ∷ v) e h = ap (λ (m : List ℕ). none_or x (after is_blank m)) (after-within is_ink bs q b v e) ∙ blanks-more (b ∷ v) (after is_blank (b ∷ v)) refl h

  -- v being what stands from the `]` on
  sets_behind : (w v : List ℕ) → closing w ≡ v → Sets x w → Sets x (w ++ q)
  unfolding is_closed argument after
  sets_behind w [] e h = let z : false ≡ true = sym (ap is_closed e) ∙ h.closed in impossible (cc)
  sets_behind w (b ∷ []) e h = let z : [] ≡ x ∷ h.behind = sym (ap (λ (m : List ℕ). after is_blank (drop 1 m)) e) ∙ h.argument in impossible (cc)
  sets_behind w (b ∷ d ∷ ds) e h =
      let goes = closing-more w q b (d ∷ ds) e in
      let here : after is_blank (d ∷ ds) ≡ x ∷ h.behind = sym (ap (λ (m : List ℕ). after is_blank (drop 1 m)) e) ∙ h.argument in
      record {
        closed = ap is_closed goes ∙ sym (ap is_closed e) ∙ h.closed;
        behind = h.behind ++ q;
        argument = ap (λ (m : List ℕ). after is_blank (drop 1 m)) goes ∙ after-within is_blank (d ∷ ds) q x h.behind here;
        marked = h.marked;
        word = ap (λ (m : List ℕ). eqs m (bytes "_char")) (word_more h.behind (after is_ink h.behind) refl) ∙ h.word;
        remark = remark-more h.behind (after is_ink h.behind) refl h.remark;
      }

  pub change-sets : (w : List ℕ) → change_of w ≡ Ok x → change_of (w ++ q) ≡ Ok x
  change-sets w e = sets-char x (w ++ q) (sets_behind w (closing w) refl (char-set x w e))
