-- The line that a reader hands out at a place is the first of the lines from there on.
use Prim.Native.Nat.{ℕ, ◌+◌, ◌-◌, ◌≤◌, ◌<◌}
use Prim.Native.Char.{code}
use mathlib.Core.Path.{◌≡◌, refl, sym, ap, ◌∙◌, subst}
use mathlib.Core.List.{List, ◌∷◌}
use mathlib.Core.Bool.{Bool, true, false}
use native.Mathlib.Omega.{arith}
use lib.ListN.{length, drop, get_or, length-drop, drop_of_length-le}
use lib.Dec.{eqb}
use borrow.Author.Tests.{eqb-true, eqb-false}
use Rattle.laws.specs.Lists.{front, other, part}
use Rattle.laws.proofs.Tests.{by-test, by_order}
use Rattle.laws.proofs.Lists.{part_length}
use Rattle.laws.proofs.Fronts.{front-le}
use Rattle.lines.specs.Lines.{Physical, lines_of, cut}
use Rattle.lines.specs.Places.{first_bytes, extent, line_from, cut_from, RawAt}
use Rattle.lines.specs.declared.Line.{Line}
use Rattle.lines.specs.declared.CutLine.{CutLine}
use Rattle.lines.proofs.Places.{raw-last, raw-empty, raw-return, raw-other}

-- the line at a place is l, and so it is handed out
abbrev pub Hands : List ℕ → ℕ → Line → Type 0
Hands s at l = RawAt s at l × (l ≡ line_from s at)

module _ (s : List ℕ) (at : ℕ) where
  hands : (end next : ℕ) (b : Bool) → lines_of (drop at s) ≡ record { bytes = part at end s; ended = b } ∷ lines_of (drop next s)
      → at ≤ end → end ≤ length s → at < next → next ≤ length s → next ≡ at + extent (drop at s) → Hands s at (record { end = end; next = next })
  unfolding line_from first_bytes
  hands end next b more starts ends rises within e =
      let l : end ≡ at + length (part at end s) = omega (arith, part_length s at end ends, starts) in
      let m : end ≡ at + length (first_bytes (lines_of (drop at s))) = l ∙ ap (λ (ls : List Physical). at + length (first_bytes ls)) (sym more) in
      (record { line = _; more = more; text = refl; starts = starts; ends = ends; rises = rises; within = within }, λ i. record { end = m i; next = e i })

  -- no line is left
  pub hands_none : length s ≤ at → record { end = at; next = at } ≡ line_from s at
  unfolding line_from first_bytes extent lines_of front
  hands_none h =
      let n : at ≡ at + 0 = omega arith in
      (λ i. record { end = n i; next = n i })
      ∙ ap (λ (l : List ℕ). record { end = at + length (first_bytes (lines_of l)); next = at + extent l }) (sym (drop_of_length-le s h))

  module _ (stop : ℕ) (found : stop ≡ at + length (front (other (code "\n")) (drop at s))) where
    last : at < length s → length s ≤ stop → stop ≡ at + extent (drop at s)
    unfolding extent
    last k h = omega (arith, found, front-le (other 10) (drop at s), length-drop at s)

    pub hands-last : at < length s → length s ≤ stop → Hands s at (record { end = stop; next = stop })
    hands-last k h =
        hands stop stop false (raw-last s at stop found k h) (omega arith) (omega (arith, found, front-le (other 10) (drop at s), length-drop at s)) (omega arith) (omega (arith, found, front-le (other 10) (drop at s), length-drop at s)) (last k h)

    module _ (more : stop < length s) where
      next : stop + 1 ≡ at + extent (drop at s)
      unfolding extent
      next = omega (arith, found, front-le (other 10) (drop at s), length-drop at s)

      pub hands-empty : stop ≤ at → Hands s at (record { end = stop; next = stop + 1 })
      hands-empty h = hands stop (stop + 1) true (raw-empty s at stop found more h) (omega arith) (omega arith) (omega arith) (omega arith) next

      pub hands-return : at < stop → get_or s (stop - 1) 0 ≡ code "\r" → Hands s at (record { end = stop - 1; next = stop + 1 })
      hands-return h e = hands (stop - 1) (stop + 1) true (raw-return s at stop found more h e) (omega arith) (omega arith) (omega arith) (omega arith) next

      pub hands-other : at < stop → (get_or s (stop - 1) 0 ≡ code "\r" → ⊥) → Hands s at (record { end = stop; next = stop + 1 })
      hands-other h e = hands stop (stop + 1) true (raw-other s at stop found more h e) (omega arith) (omega arith) (omega arith) (omega arith) next

  of : (l : Line) → Hands s at l → RawAt s at (line_from s at)
  of l h = subst (RawAt s at) h.1 h.0

  pub raw_at : at < length s → RawAt s at (line_from s at)
  raw_at k =
      let stop : ℕ = at + length (front (other (code "\n")) (drop at s)) in
      by_order (length s) stop
      (λ h. of _ (hands-last stop refl k h))
      (λ m.
      by_order stop at
      (λ h. of _ (hands-empty stop refl m h))
      (λ h.
      by-test (eqb (get_or s (stop - 1) 0) (code "\r"))
      (λ e. of _ (hands-return stop refl m h (eqb-true _ _ e)))
      (λ e. of _ (hands-other stop refl m h (eqb-false _ _ e)))))

  -- so is a line that was handed out
  pub raw-handed : (l : Line) → at < length s → l ≡ line_from s at → RawAt s at l
  raw-handed l k e = subst (RawAt s at) (sym e) (raw_at k)

  -- a line that was handed out, and what cutting leaves of it
  pub cut-read : (c : ℕ) (l : Line) (n : ℕ) → l ≡ line_from s at → n ≡ length (cut c (part at l.end s)) → record { whole = l; cut = at + n } ≡ cut_from s at c
  unfolding cut_from
  cut-read c l n e k =
      ap (λ (m : ℕ). record { whole = l; cut = at + m }) k
      ∙ ap (λ (x : Line). record { whole = x; cut = at + length (cut c (part at x.end s)) }) e

  -- and back
  pub cut-whole : (c : ℕ) (l : CutLine) → l ≡ cut_from s at c → l.whole ≡ line_from s at
  unfolding cut_from
  cut-whole c l e = ap (λ (x : CutLine). x.whole) e

  pub cut-end : (c : ℕ) (l : CutLine) → l ≡ cut_from s at c → l.cut ≡ at + length (cut c (part at l.whole.end s))
  unfolding cut_from
  cut-end c l e = ap (λ (x : CutLine). x.cut) e ∙ ap (λ (x : Line). at + length (cut c (part at x.end s))) (sym (cut-whole c l e))
