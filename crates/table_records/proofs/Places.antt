-- Where the record at a place lies: by division.
use Prim.Native.Nat.{ℕ, suc, ◌+◌, ◌*◌, ◌/◌, ◌≤◌, ◌<◌}
use mathlib.Core.Path.{◌≡◌, refl, ap, ◌∙◌}
use mathlib.Core.List.{List, []}
use native.Mathlib.Nat.{mul-le-mul_right, div-mul-le_self, suc-mul, div-zero}
use native.Mathlib.Omega.{arith}
use lib.ListN.{length, take, drop}
use borrow.Author.Tests.{lt-ltb, le-ltb}
use Rattle.table_records.specs.Values.{record_at}

pub place-fits : (n size k : ℕ) → k < n / size → k * size + size ≤ n
place-fits n size k h =
    let a : suc k * size ≤ n / size * size = mul-le-mul_right size h in
    omega (arith, a, div-mul-le_self n size, suc-mul k size)

pub record-there : (size : ℕ) (t : List ℕ) (k : ℕ) → k < length t / size → record_at size t k ≡ take size (drop (k * size) t)
unfolding record_at
record-there size t k h = rw (lt-ltb k (length t / size) h) refl

pub record-none : (size : ℕ) (t : List ℕ) (k : ℕ) → length t / size ≤ k → record_at size t k ≡ []
unfolding record_at
record-none size t k h = rw (le-ltb k (length t / size) h) refl

pub no_size : (size : ℕ) (t : List ℕ) (k : ℕ) → size ≡ 0 → record_at size t k ≡ []
no_size size t k e = record-none size t k (omega (arith, ap (λ (n : ℕ). length t / n) e ∙ div-zero (length t)))
