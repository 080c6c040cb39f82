-- Line ends: where no line has a CR, leaving out the CRs leaves out those of line ends alone. By induction over the bytes.
use Rattle.std.specs.Prelude.{Ok}
use Prim.Native.Nat.{ℕ}
use Prim.Native.Char.{code}
use mathlib.Core.Path.{◌≡◌, refl, sym, ap, ◌∙◌}
use mathlib.Core.List.{List, [], ◌∷◌}
use mathlib.Core.Bool.{Bool, true, false, ◌&&◌}
use lib.Dec.{eqb}
use borrow.Author.Tests.{eqb-true}
use Rattle.laws.specs.Lists.{all}
use Rattle.laws.proofs.Tests.{by-test, cond_no, and_both, and_first, and_second, impossible}
use Rattle.lines.specs.Lines.{Physical, is_return, onto_line, lines_of, is_allowed, bytes_fault}
use Rattle.lines.proofs.Laws.{lines-byte, allowed-plain, return-not}
use Rattle.lines.proofs.Clean.{clean-file, clean-allowed}
use Rattle.remarks.specs.Edits.{without_returns, EndsChangeNothing}
use Rattle.remarks.proofs.Edits.{edits-change-nothing}

-- a line of allowed bytes
abbrev is_plain : Physical → Bool
is_plain l = all is_allowed l.bytes

-- a byte in front of the first line is allowed if that line then is, and the lines were plain before
onto-plain : (b : ℕ) (ls : List Physical) → all is_plain (onto_line b ls) ≡ true → (is_allowed b ≡ true) × (all is_plain ls ≡ true)
unfolding onto_line all
onto-plain b [] h = (and_first (is_allowed b) _ (and_first (is_allowed b && true) _ h), refl)
onto-plain b (l ∷ ls) h =
    let first = and_first (is_allowed b && is_plain l) _ h in
    (and_first (is_allowed b) _ first, and_both _ _ (and_second (is_allowed b) _ first) (and_second (is_allowed b && is_plain l) _ h))

return-is : (b : ℕ) (r : List ℕ) → is_return b r ≡ true → eqb b (code "\r") ≡ true
unfolding is_return
return-is b [] h = impossible (cc)
return-is b (x ∷ xs) h = and_first (eqb b (code "\r")) _ h

break-not : (b : ℕ) → eqb b (code "\n") ≡ true → eqb b (code "\r") ≡ false
break-not b h = ap (λ (x : ℕ). eqb x (code "\r")) (eqb-true b (code "\n") h)

ends-kept : (s : List ℕ) → all is_plain (lines_of s) ≡ true → lines_of (without_returns s) ≡ lines_of s
unfolding without_returns lines_of all
ends-kept [] h = refl
ends-kept (b ∷ bs) h =
    by-test (eqb b (code "\n"))
    (λ t. rw (break-not b t, t) (ap (λ (ls : List Physical). record { bytes = []; ended = true } ∷ ls) (ends-kept bs (rw t at h))))
    (λ t.
    by-test (is_return b bs)
    (λ u. rw (return-is b bs u, t, u) (ends-kept bs (rw (t, u) at h)))
    (λ u.
    let parts = onto-plain b (lines_of bs) (rw (t, u) at h) in
    let plain = (allowed-plain b parts.0).1 in
    ap lines_of (cond_no _ _ plain) ∙ lines-byte b (without_returns bs) t (return-not b (without_returns bs) plain) ∙ ap (onto_line b) (ends-kept bs parts.1) ∙ sym (lines-byte b bs t u)))

pub ends-change-nothing : EndsChangeNothing
ends-change-nothing s t e p q =
    let kept : (u : List ℕ) → bytes_fault u ≡ Ok tt → lines_of (without_returns u) ≡ lines_of u = λ u h. ends-kept u (clean-allowed (lines_of u) (clean-file u h)) in
    edits-change-nothing s t [] (sym (kept s p) ∙ ap lines_of e ∙ kept t q) p q
