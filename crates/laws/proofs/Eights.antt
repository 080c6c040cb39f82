-- Laws of `specs/Eights.antt`: a byte by a shift of its number; the first bytes, their number, and each of them.
use Prim.Native.Nat.{ℕ, zero, suc, ◌+◌, ◌*◌, ◌/◌, ◌%◌, ◌^◌, ◌≤◌, ◌<◌}
use mathlib.Core.Path.{◌≡◌, refl, sym, ap, ap₂, ◌∙◌}
use mathlib.Core.List.{List, [], ◌∷◌, ◌++◌}
use native.Mathlib.Nat.{pow-succ'}
use native.Mathlib.Numerals.{add-one}
use native.Mathlib.Omega.{arith}
use lib.ListN.{length, take, get_or, set, length-append, get_or-append}
use lib.Pow.{pow-add}
use lib.Seq.{get_or_at, take_all, take-append-le, take-suc-set}
use Rattle.laws.specs.Eights.{byte_in, bytes_from}
use Rattle.laws.proofs.Tests.{by_order}

eight-bits : (r : ℕ) → 2 ^ (r * 8) ≡ 256 ^ r
eight-bits zero = refl
eight-bits (suc r) =
    let e : suc r * 8 ≡ 8 + r * 8 = omega arith in
    ap (λ (k : ℕ). 2 ^ k) e ∙ pow-add 2 8 (r * 8) ∙ ap (λ (x : ℕ). 256 * x) (eight-bits r) ∙ sym (pow-succ' 256 r)

-- w is the byte's number
pub shifted-byte : (ws : List ℕ) (k w : ℕ) → w ≡ get_or ws (k / 8) 0 → w / 2 ^ (k % 8 * 8) % 256 ≡ byte_in ws k
unfolding byte_in
shifted-byte ws k w e = ap (λ (p : ℕ). w / p % 256) (eight-bits (k % 8)) ∙ ap (λ (x : ℕ). x / 256 ^ (k % 8) % 256) e

pub bytes-length : (ws : List ℕ) (n : ℕ) → length (bytes_from ws n) ≡ n
unfolding bytes_from
bytes-length ws zero = refl
bytes-length ws (suc n) = omega (arith, length-append (bytes_from ws n) (byte_in ws n ∷ []), bytes-length ws n)

pub bytes-get : (ws : List ℕ) (n i : ℕ) → i < n → get_or (bytes_from ws n) i 0 ≡ byte_in ws i
unfolding bytes_from
bytes-get ws zero i h = absurd (omega arith)
bytes-get ws (suc n) i h =
    by_order n i
    (λ k.
    let e : i ≡ n = omega arith in
    get_or_at (bytes_from ws n) (byte_in ws n) [] 0 i (bytes-length ws n ∙ sym e) ∙ ap (byte_in ws) (sym e))
    (λ k. get_or-append (bytes_from ws n) (byte_in ws n ∷ []) 0 i (omega (arith, bytes-length ws n)) ∙ bytes-get ws n i k)

-- one byte more, written behind the first i
pub bytes-turn : (ws out : List ℕ) (i b : ℕ) → i < length out → take i out ≡ bytes_from ws i → b ≡ byte_in ws i → take (i + 1) (set out i b) ≡ bytes_from ws (i + 1)
unfolding bytes_from
bytes-turn ws out i b h e f = rw (add-one i) (take-suc-set out i b h ∙ ap₂ (λ (l : List ℕ) (x : ℕ). l ++ (x ∷ [])) e f)

-- the first of the first are the first
pub bytes_take : (ws : List ℕ) (m n : ℕ) → n ≤ m → take n (bytes_from ws m) ≡ bytes_from ws n
unfolding bytes_from
bytes_take ws zero n h = let e : n ≡ 0 = omega arith in rw e
bytes_take ws (suc m) n h =
    by_order n m
    (λ k. take-append-le n (bytes_from ws m) (byte_in ws m ∷ []) (omega (arith, bytes-length ws m, k)) ∙ bytes_take ws m n k)
    (λ k.
    let e : n ≡ suc m = omega arith in
    take_all n (bytes_from ws (suc m)) (omega (arith, bytes-length ws (suc m), e)) ∙ ap (bytes_from ws) (sym e))
