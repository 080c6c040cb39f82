-- What the places of a scan say of the lines: the first line ends where the scan stopped, and the others follow.
use Rattle.std.specs.Prelude.{Err}
use Prim.Native.Nat.{ℕ, zero, suc, ◌+◌, ◌-◌, ◌≤◌, ◌<◌, min}
use Prim.Native.Char.{code}
use mathlib.Core.Path.{◌≡◌, refl, sym, ap, ◌∙◌}
use mathlib.Core.List.{List, [], ◌∷◌, ◌++◌, append_assoc, append-nil}
use mathlib.Core.Bool.{Bool, true, false, ◌&&◌}
use native.Mathlib.Omega.{arith}
use lib.ListN.{length, take, drop, get_or, drop_of_length-le, length-drop}
use lib.Seq.{drop-drop, get_or-drop, take_all}
use lib.Dec.{eqb}
use borrow.Author.Tests.{eq-eqb, ne_eqb, le-leb, lt-leb}
use Rattle.laws.specs.Lists.{front, all, other, part, trim}
use Rattle.laws.specs.Bytes.{is_blank}
use Rattle.laws.proofs.Tests.{by-test, by_order, cond_yes, cond_no, and_first, and_second}
use Rattle.laws.proofs.Lists.{from_cons, take-down, none_of}
use Rattle.laws.proofs.Fronts.{front-all, all-fails, all_first, all-second, split_at, other-is, front_at, after-at, after-stops, front-le, front-take, take-front}
use Rattle.laws.proofs.Trims.{trim-take, trim-le}
use Rattle.lines.specs.Lines.{Physical, is_return, onto_line, lines_of, is_allowed, line_fault, fault_from, cut}
use Rattle.lines.specs.Breaks.{break_of}
use Rattle.lines.proofs.Laws.{onto_all, onto-line, onto-none, lines-break, lines-byte, lines-allowed, lines-last, lines-crlf, lines-lf, onto-empty}

-- ---- the faults of a line

-- a line's end, and the lines after it
break-lines : (a : List ℕ) → (break_of a ≡ 0 → ⊥) → lines_of a ≡ record { bytes = []; ended = true } ∷ lines_of (drop (break_of a) a)
unfolding break_of lines_of is_return
break-lines [] h = absurd (h refl)
break-lines (b ∷ []) h = by-test (eqb b 10) (λ e. simp e) (λ e. absurd (h (simp e)))
break-lines (b ∷ x ∷ r) h =
    by-test (eqb b 10)
    (λ e. simp e)
    (λ e.
    by-test (eqb b 13 && eqb x 10)
    (λ q. simp (e, and_first (eqb b 13) (eqb x 10) q, and_second (eqb b 13) (eqb x 10) q))
    (λ q. absurd (h (simp (e, q)))))

break-none : (b : ℕ) (r : List ℕ) → break_of (b ∷ r) ≡ 0 → (eqb b (code "\n") ≡ false) × (is_return b r ≡ false)
unfolding break_of
break-none b r h =
    by-test (eqb b 10)
    (λ e. let z : ◌≡◌ {A = ℕ} 1 0 = simp e at h in absurd (omega arith))
    (λ e.
    by-test (is_return b r)
    (λ q. let z : ◌≡◌ {A = ℕ} 2 0 = simp (e, q) at h in absurd (omega arith))
    (λ q. (e, q)))

-- a line that is there, with its fault
fault-good : (k : ℕ) (l : Physical) (ls : List Physical) → line_fault l ≡ 0 → fault_from k (l ∷ ls) ≡ fault_from (k + 1) ls
unfolding fault_from
fault-good k l ls h = cond_yes _ _ (eq-eqb (line_fault l) 0 h)

fault-bad : (k n : ℕ) (l : Physical) (ls : List Physical) → line_fault l ≡ n → (n ≡ 0 → ⊥)
    → fault_from k (l ∷ ls) ≡ Err (record { number = n; line = k; column = 0 })
unfolding fault_from
fault-bad k n l ls h j =
    cond_no _ _ (ne_eqb (line_fault l) 0 (λ e. j (sym h ∙ e)))
    ∙ ap (λ (m : ℕ). Err (record { number = m; line = k; column = 0 })) h

fault-2 : (f : List ℕ) (b : ℕ) (l : List ℕ) (e : Bool) → is_allowed b ≡ false → line_fault (record { bytes = f ++ b ∷ l; ended = e }) ≡ 2
unfolding line_fault
fault-2 f b l e h = rw (all-fails is_allowed f b l h)

fault-3 : (f : List ℕ) (e : Bool) → all is_allowed f ≡ true → 120 < length f → line_fault (record { bytes = f; ended = e }) ≡ 3
unfolding line_fault
fault-3 f e h k = rw (h, lt-leb (length f) 120 k)

fault-4 : (f : List ℕ) → all is_allowed f ≡ true → length f ≤ 120 → line_fault (record { bytes = f; ended = false }) ≡ 4
unfolding line_fault
fault-4 f h k = rw (h, le-leb (length f) 120 k)

fault-0 : (f : List ℕ) → all is_allowed f ≡ true → length f ≤ 120 → line_fault (record { bytes = f; ended = true }) ≡ 0
unfolding line_fault
fault-0 f h k = rw (h, le-leb (length f) 120 k)

-- some line begins with the byte
onto-cons : (k n b : ℕ) (f : List ℕ) (ls : List Physical) → is_allowed b ≡ false
    → fault_from k (onto_all f (onto_line b ls)) ≡ Err (record { number = 2; line = k; column = 0 })
unfolding onto_line
onto-cons k n b f [] h =
    ap (fault_from k) (onto-line f _ []) ∙ fault-bad k 2 _ _ (fault-2 f b [] false h) (omega arith)
onto-cons k n b f (l ∷ ls) h =
    ap (fault_from k) (onto-line f _ ls) ∙ fault-bad k 2 _ _ (fault-2 f b l.bytes l.ended h) (omega arith)

onto-last : (f : List ℕ) → 0 < length f → onto_all f [] ≡ record { bytes = f; ended = false } ∷ []
onto-last [] h = absurd (omega arith)
onto-last (b ∷ f) h = onto-none b f

module _ (s : List ℕ) (at end : ℕ) (stop : end ≡ at + length (front is_allowed (drop at s))) where
  passed : List ℕ
  passed = front is_allowed (drop at s)

  lines-passed : lines_of (drop at s) ≡ onto_all passed (lines_of (drop end s))
  unfolding passed
  lines-passed = ap lines_of (split_at is_allowed s at end stop) ∙ lines-allowed passed (drop end s) (front-all is_allowed (drop at s))

  passed_length : length passed ≡ end - at
  unfolding passed
  passed_length = omega arith

  -- a byte that is neither allowed nor part of a line's end
  pub forbidden : (k : ℕ) → end < length s → break_of (drop end s) ≡ 0
      → fault_from k (lines_of (drop at s)) ≡ Err (record { number = 2; line = k; column = 0 })
  forbidden k h e =
      let here = from_cons s end 0 h in
      let none = break-none (get_or s end 0) (drop (end + 1) s) (ap break_of (sym here) ∙ e) in
      let bad = after-stops is_allowed (drop at s) (get_or s end 0) (drop (end + 1) s) (after-at is_allowed s at end stop ∙ here) in
      ap (fault_from k) (lines-passed ∙ ap (λ (l : List ℕ). onto_all passed (lines_of l)) here)
      ∙ ap (λ (ls : List Physical). fault_from k (onto_all passed ls)) (lines-byte (get_or s end 0) (drop (end + 1) s) none.0 none.1)
      ∙ onto-cons k 2 (get_or s end 0) passed (lines_of (drop (end + 1) s)) bad

  all-passed : all is_allowed passed ≡ true
  unfolding passed
  all-passed = front-all is_allowed (drop at s)

  -- the last line, not ended
  module _ (some : at < length s) (all_read : length s ≤ end) where
    unended : lines_of (drop at s) ≡ record { bytes = passed; ended = false } ∷ []
    unfolding lines_of
    unended = lines-passed ∙ ap (λ (l : List ℕ). onto_all passed (lines_of l)) (drop_of_length-le s all_read) ∙ onto-last passed (omega (arith, passed_length))

    pub long-unended : (k : ℕ) → 120 < end - at → fault_from k (lines_of (drop at s)) ≡ Err (record { number = 3; line = k; column = 0 })
    long-unended k h =
        ap (fault_from k) unended ∙ fault-bad k 3 _ _ (fault-3 passed false all-passed (omega (arith, passed_length))) (omega arith)

    pub short-unended : (k : ℕ) → end - at ≤ 120 → fault_from k (lines_of (drop at s)) ≡ Err (record { number = 4; line = k; column = 0 })
    short-unended k h =
        ap (fault_from k) unended ∙ fault-bad k 4 _ _ (fault-4 passed all-passed (omega (arith, passed_length))) (omega arith)

  -- a line's end of n bytes
  module _ (n : ℕ) (breaks : n ≡ break_of (drop end s)) (some : n ≡ 0 → ⊥) where
    ended : lines_of (drop at s) ≡ record { bytes = passed; ended = true } ∷ lines_of (drop (end + n) s)
    ended =
        lines-passed
        ∙ ap (onto_all passed) (break-lines (drop end s) (λ e. some (breaks ∙ e)))
        ∙ onto-empty passed (lines_of (drop (break_of (drop end s)) (drop end s)))
        ∙ ap (λ (l : List ℕ). record { bytes = passed; ended = true } ∷ lines_of l) (drop-drop (break_of (drop end s)) end s)
        ∙ ap (λ (m : ℕ). record { bytes = passed; ended = true } ∷ lines_of (drop (end + m) s)) (sym breaks)

    pub long-ended : (k : ℕ) → 120 < end - at → fault_from k (lines_of (drop at s)) ≡ Err (record { number = 3; line = k; column = 0 })
    long-ended k h =
        ap (fault_from k) ended ∙ fault-bad k 3 _ _ (fault-3 passed true all-passed (omega (arith, passed_length))) (omega arith)

    pub good-line : (k : ℕ) → end - at ≤ 120 → fault_from k (lines_of (drop at s)) ≡ fault_from (k + 1) (lines_of (drop (end + n) s))
    good-line k h =
        ap (fault_from k) ended ∙ fault-good k _ _ (fault-0 passed all-passed (omega (arith, passed_length)))

-- ---- the line at a place

lines-whole : (f : List ℕ) → 0 < length f → all (other (code "\n")) f ≡ true → lines_of f ≡ record { bytes = f; ended = false } ∷ []
lines-whole [] h k = absurd (omega arith)
lines-whole (b ∷ f) h k = lines-last b f k

all-last : (f : List ℕ) (b : ℕ) → all (other (code "\n")) (f ++ (b ∷ [])) ≡ true → other (code "\n") b ≡ true
unfolding all
all-last f b h = and_first (other 10 b) true (all-second (other 10) f (b ∷ []) h)

module _ (s : List ℕ) (at stop : ℕ) (found : stop ≡ at + length (front (other (code "\n")) (drop at s))) where
  before : List ℕ
  before = front (other (code "\n")) (drop at s)

  before-part : before ≡ part at stop s
  unfolding before
  before-part = sym (front_at (other 10) s at stop found)

  before-all : all (other (code "\n")) before ≡ true
  unfolding before
  before-all = front-all (other 10) (drop at s)

  before-length : length before ≡ stop - at
  unfolding before
  before-length = omega arith

  before_more : drop at s ≡ before ++ drop stop s
  unfolding before
  before_more = split_at (other 10) s at stop found

  -- nothing follows
  pub raw-last : at < length s → length s ≤ stop → lines_of (drop at s) ≡ record { bytes = part at stop s; ended = false } ∷ lines_of (drop stop s)
  unfolding lines_of
  raw-last h k =
      let none = drop_of_length-le s k in
      ap lines_of (before_more ∙ ap (λ (l : List ℕ). before ++ l) none ∙ append-nil before)
      ∙ lines-whole before (omega (arith, before-length)) before-all
      ∙ ap (λ (f : List ℕ). record { bytes = f; ended = false } ∷ []) before-part
      ∙ ap (λ (l : List ℕ). record { bytes = part at stop s; ended = false } ∷ lines_of l) (sym none)

  module _ (more : stop < length s) where
    -- LF follows
    broken : drop stop s ≡ code "\n" ∷ drop (stop + 1) s
    broken =
        let here = from_cons s stop 0 more in
        let byte = other-is 10 (get_or s stop 0) (after-stops (other 10) (drop at s) _ _ (after-at (other 10) s at stop found ∙ here)) in
        here ∙ ap (λ (b : ℕ). b ∷ drop (stop + 1) s) byte

    before-broken : drop at s ≡ before ++ code "\n" ∷ drop (stop + 1) s
    before-broken = before_more ∙ ap (λ (l : List ℕ). before ++ l) broken

    -- at once
    pub raw-empty : stop ≤ at → lines_of (drop at s) ≡ record { bytes = part at stop s; ended = true } ∷ lines_of (drop (stop + 1) s)
    raw-empty h =
        ap lines_of (before-broken ∙ ap (λ (l : List ℕ). l ++ 10 ∷ drop (stop + 1) s) (none_of before (omega (arith, before-length))))
        ∙ lines-break (drop (stop + 1) s)
        ∙ ap (λ (f : List ℕ). record { bytes = f; ended = true } ∷ lines_of (drop (stop + 1) s))
        (sym (none_of before (omega (arith, before-length))) ∙ before-part)

    module _ (some : at < stop) where
      before_last : before ≡ part at (stop - 1) s ++ (get_or s (stop - 1) 0 ∷ [])
      before_last =
          let n : stop - at - 1 ≡ stop - 1 - at = omega arith in
          let m : at + (stop - at - 1) ≡ stop - 1 = omega arith in
          before-part
          ∙ take-down (drop at s) (stop - at) 0 (omega arith) (omega (arith, front-le (other 10) (drop at s)))
          ∙ ap (λ (k : ℕ). take k (drop at s) ++ (get_or (drop at s) (stop - at - 1) 0 ∷ [])) n
          ∙ ap (λ (b : ℕ). part at (stop - 1) s ++ (b ∷ [])) (get_or-drop at s (stop - at - 1) 0 ∙ ap (λ (k : ℕ). get_or s k 0) m)

      text : drop at s ≡ part at (stop - 1) s ++ (get_or s (stop - 1) 0 ∷ code "\n" ∷ drop (stop + 1) s)
      text =
          before-broken
          ∙ ap (λ (l : List ℕ). l ++ 10 ∷ drop (stop + 1) s) before_last
          ∙ append_assoc (part at (stop - 1) s) (get_or s (stop - 1) 0 ∷ []) (10 ∷ drop (stop + 1) s)

      both : all (other (code "\n")) (part at (stop - 1) s ++ (get_or s (stop - 1) 0 ∷ [])) ≡ true
      both = ap (all (other 10)) (sym before_last) ∙ before-all

      -- after CR
      pub raw-return : get_or s (stop - 1) 0 ≡ code "\r"
          → lines_of (drop at s) ≡ record { bytes = part at (stop - 1) s; ended = true } ∷ lines_of (drop (stop + 1) s)
      raw-return e =
          ap lines_of (text ∙ ap (λ (b : ℕ). part at (stop - 1) s ++ (b ∷ 10 ∷ drop (stop + 1) s)) e)
          ∙ lines-crlf (part at (stop - 1) s) (drop (stop + 1) s) (all_first (other 10) (part at (stop - 1) s) _ both)

      -- after another byte
      pub raw-other : (get_or s (stop - 1) 0 ≡ code "\r" → ⊥)
          → lines_of (drop at s) ≡ record { bytes = part at stop s; ended = true } ∷ lines_of (drop (stop + 1) s)
      raw-other e =
          ap lines_of text
          ∙ lines-lf (part at (stop - 1) s) (get_or s (stop - 1) 0) (drop (stop + 1) s)
          (all_first (other 10) (part at (stop - 1) s) _ both)
          (all-last (part at (stop - 1) s) (get_or s (stop - 1) 0) both)
          e
          ∙ ap (λ (f : List ℕ). record { bytes = f; ended = true } ∷ lines_of (drop (stop + 1) s)) (sym before_last ∙ before-part)

-- ---- the line cut at its comment

front-taken : (p : ℕ → Bool) (n : ℕ) (l : List ℕ) → front p (take n l) ≡ take n (front p l)
unfolding front
front-taken p zero l = refl
front-taken p (suc n) [] = refl
front-taken p (suc n) (b ∷ l) = by-test (p b) (λ e. rw e (ap (λ (k : List ℕ). b ∷ k) (front-taken p n l))) (λ e. rw e refl)

-- what stands before the comment in the first n bytes
before-comment : (c : ℕ) (l : List ℕ) (n m : ℕ) → m ≡ min n (length (front (other c) l)) → take m l ≡ front (other c) (take n l)
before-comment c l n m e =
    let f : List ℕ = front (other c) l in
    by_order n (length f)
    (λ h.
    let k : m ≡ n = omega arith in
    ap (λ (x : ℕ). take x l) k ∙ take-front (other c) l n h ∙ sym (front-taken (other c) n l))
    (λ h.
    let k : m ≡ length f = omega arith in
    ap (λ (x : ℕ). take x l) k ∙ front-take (other c) l ∙ sym (take_all n f (omega arith)) ∙ sym (front-taken (other c) n l))

pub cut-length : (c : ℕ) (l : List ℕ) (n m : ℕ) → m ≡ min n (length (front (other c) l)) → length (trim is_blank (take m l)) ≡ length (cut c (take n l))
unfolding cut
cut-length c l n m e = ap (λ (x : List ℕ). length (trim is_blank x)) (before-comment c l n m e)

-- what is left is a part
pub cut-take : (c : ℕ) (l : List ℕ) → take (length (cut c l)) l ≡ cut c l
unfolding cut
cut-take c l =
    let g : List ℕ = front (other c) l in
    take-front (other c) l (length (trim is_blank g)) (trim-le is_blank g) ∙ trim-take is_blank g

-- a line's end lies within the list
break-le : (a : List ℕ) → break_of a ≤ length a
unfolding break_of is_return
break-le [] = omega arith
break-le (b ∷ []) = by-test (eqb b 10) (λ e. simp e (omega arith)) (λ e. simp e (omega arith))
break-le (b ∷ x ∷ r) =
    by-test (eqb b 10)
    (λ e. simp e (omega arith))
    (λ e. by-test (eqb b 13 && eqb x 10) (λ q. simp (e, q) (omega arith)) (λ q. simp (e, q) (omega arith)))

pub break-within : (s : List ℕ) (at n : ℕ) → n ≡ break_of (drop at s) → (n ≡ 0 → ⊥) → at + n ≤ length s
break-within s at n e h = omega (arith, e, break-le (drop at s), length-drop at s)
