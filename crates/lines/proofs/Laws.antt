-- Laws of `specs/Lines.antt`: bytes without a line's end go onto the first line, so the first line is known from where a scan stops.
use Prim.Native.Nat.{ℕ}
use Prim.Native.Char.{code}
use mathlib.Core.Path.{◌≡◌, refl, sym, ap, ◌∙◌}
use mathlib.Core.List.{List, [], ◌∷◌, ◌++◌, append-nil, foldr}
use mathlib.Core.Bool.{Bool, true, false}
use native.Mathlib.Omega.{arith}
use lib.Dec.{eqb, leb}
use borrow.Author.Tests.{ne_eqb, eqb-true, leb-true, not-true}
use Rattle.laws.specs.Lists.{all, other}
use Rattle.laws.proofs.Tests.{by-test, and_right}
use Rattle.lines.specs.Lines.{Physical, is_return, onto_line, lines_of, is_allowed}

-- the bytes go in front of the first line
abbrev pub onto_all : List ℕ → List Physical → List Physical
onto_all f ls = foldr onto_line ls f

pub onto-line : (f : List ℕ) (l : Physical) (ls : List Physical)
    → onto_all f (l ∷ ls) ≡ record { bytes = f ++ l.bytes; ended = l.ended } ∷ ls
unfolding onto_line
onto-line [] l ls = refl
onto-line (b ∷ f) l ls = ap (onto_line b) (onto-line f l ls)

pub onto-none : (b : ℕ) (f : List ℕ) → onto_all (b ∷ f) [] ≡ record { bytes = b ∷ f; ended = false } ∷ []
unfolding onto_line
onto-none b [] = refl
onto-none b (x ∷ f) = ap (onto_line b) (onto-none x f)

pub onto-empty : (f : List ℕ) (ls : List Physical)
    → onto_all f (record { bytes = []; ended = true } ∷ ls) ≡ record { bytes = f; ended = true } ∷ ls
onto-empty f ls =
    onto-line f (record { bytes = []; ended = true }) ls
    ∙ ap (λ (g : List ℕ). record { bytes = g; ended = true } ∷ ls) (append-nil f)

-- ---- one byte

pub lines-break : (r : List ℕ) → lines_of (code "\n" ∷ r) ≡ record { bytes = []; ended = true } ∷ lines_of r
unfolding lines_of
lines-break r = refl

pub lines-return : (r : List ℕ) → lines_of (code "\r" ∷ code "\n" ∷ r) ≡ record { bytes = []; ended = true } ∷ lines_of r
unfolding lines_of is_return
lines-return r = refl

pub lines-byte : (b : ℕ) (r : List ℕ) → eqb b (code "\n") ≡ false → is_return b r ≡ false → lines_of (b ∷ r) ≡ onto_line b (lines_of r)
unfolding lines_of
lines-byte b r h k = rw (h, k)

-- ---- many bytes

-- what follows does not begin with LF
unfoldable pub no_break : List ℕ → Bool
no_break [] = true
no_break (b ∷ bs) = other (code "\n") b

no_return : (b : ℕ) (r : List ℕ) → no_break r ≡ true → is_return b r ≡ false
unfolding is_return no_break other
no_return b [] h = refl
no_return b (x ∷ r) h = by-test (eqb x 10) (λ e. let z : false ≡ true = simp e at h in cc) (λ e. rw e (and_right (eqb b 13) false refl))

not-break : (b : ℕ) → other (code "\n") b ≡ true → eqb b (code "\n") ≡ false
unfolding other
not-break b h = not-true (eqb b 10) h

pub lines-plain : (f a : List ℕ) → all (other (code "\n")) f ≡ true → no_break a ≡ true → lines_of (f ++ a) ≡ onto_all f (lines_of a)
unfolding all no_break
lines-plain [] a h k = refl
lines-plain (b ∷ []) a h k =
    by-test (other (code "\n") b)
    (λ e. lines-byte b a (not-break b e) (no_return b a k))
    (λ e. let z : false ≡ true = simp e at h in cc)
lines-plain (b ∷ x ∷ f) a h k =
    by-test (other (code "\n") b)
    (λ e.
    by-test (other (code "\n") x)
    (λ q. lines-byte b (x ∷ f ++ a) (not-break b e) (no_return b (x ∷ f ++ a) q) ∙ ap (onto_line b) (lines-plain (x ∷ f) a (simp e at h) k))
    (λ q. let z : false ≡ true = simp (e, q) at h in cc))
    (λ e. let z : false ≡ true = simp e at h in cc)

-- ---- the first line, by how its bytes are followed

-- by nothing
pub lines-last : (b : ℕ) (f : List ℕ) → all (other (code "\n")) (b ∷ f) ≡ true → lines_of (b ∷ f) ≡ record { bytes = b ∷ f; ended = false } ∷ []
unfolding no_break lines_of
lines-last b f h =
    ap lines_of (sym (append-nil (b ∷ f))) ∙ lines-plain (b ∷ f) [] h refl ∙ onto-none b f

-- by CR LF
pub lines-crlf : (f r : List ℕ) → all (other (code "\n")) f ≡ true
    → lines_of (f ++ (code "\r" ∷ code "\n" ∷ r)) ≡ record { bytes = f; ended = true } ∷ lines_of r
unfolding no_break other
lines-crlf f r h =
    lines-plain f (13 ∷ 10 ∷ r) h refl ∙ ap (onto_all f) (lines-return r) ∙ onto-empty f (lines_of r)

-- by LF alone, the byte before it not CR
pub lines-lf : (f : List ℕ) (b : ℕ) (r : List ℕ) → all (other (code "\n")) f ≡ true → other (code "\n") b ≡ true → (b ≡ code "\r" → ⊥)
    → lines_of (f ++ (b ∷ code "\n" ∷ r)) ≡ record { bytes = f ++ (b ∷ []); ended = true } ∷ lines_of r
unfolding no_break is_return onto_line
lines-lf f b r h k e =
    lines-plain f (b ∷ 10 ∷ r) h k
    ∙ ap (onto_all f) (lines-byte b (10 ∷ r) (not-break b k) (rw (ne_eqb b 13 e)) ∙ ap (onto_line b) (lines-break r))
    ∙ onto-line f (record { bytes = b ∷ []; ended = true }) (lines_of r)

-- ---- allowed bytes

pub allowed-plain : (b : ℕ) → is_allowed b ≡ true → (eqb b (code "\n") ≡ false) × (eqb b (code "\r") ≡ false)
unfolding is_allowed
allowed-plain b h =
    by-test (leb 0x20 b)
    (λ e. (ne_eqb b 10 (omega (arith, leb-true 32 b e)), ne_eqb b 13 (omega (arith, leb-true 32 b e))))
    (λ e.
    let t : eqb b 9 ≡ true = simp e at h in
    (ne_eqb b 10 (omega (arith, eqb-true b 9 t)), ne_eqb b 13 (omega (arith, eqb-true b 9 t))))

pub return-not : (b : ℕ) (r : List ℕ) → eqb b (code "\r") ≡ false → is_return b r ≡ false
unfolding is_return
return-not b [] h = refl
return-not b (x ∷ r) h = rw h

pub lines-allowed : (f a : List ℕ) → all is_allowed f ≡ true → lines_of (f ++ a) ≡ onto_all f (lines_of a)
unfolding all
lines-allowed [] a h = refl
lines-allowed (b ∷ f) a h =
    by-test (is_allowed b)
    (λ e.
    lines-byte b (f ++ a) (allowed-plain b e).0 (return-not b (f ++ a) (allowed-plain b e).1)
    ∙ ap (onto_line b) (lines-allowed f a (simp e at h)))
    (λ e. let z : false ≡ true = simp e at h in cc)
