-- Laws of what is asked: a name's bytes, places of a span, and a search from the top.
use Rattle.std.specs.Prelude.{Some, None}
use Prim.Native.Nat.{ℕ, suc, ◌+◌, ◌-◌, ◌<◌, ◌≤◌, min}
use mathlib.Core.Path.{◌≡◌, refl, sym, ap, ◌∙◌}
use mathlib.Core.List.{List}
use mathlib.Core.Bool.{Bool, true, false, not, cond, ◌&&◌}
use native.Mathlib.Omega.{arith}
use lib.Dec.{ltb}
use lib.ListN.{length, get_or}
use borrow.Author.Tests.{lt-ltb, le-ltb}
use Rattle.laws.proofs.Tests.{by_order}
use Rattle.laws.specs.Eights.{bytes_from}
use Rattle.laws.specs.Lists.{eqs}
use Rattle.laws.proofs.Same.{eqs-apart}
use Rattle.table_records.specs.Records.{name_from}
use Rattle.laws.proofs.Eights.{bytes-length, bytes_take}
use Rattle.questions.specs.Named.{name_bytes, is_named}
use Rattle.questions.specs.Searched.{first_place}

-- ---- names in words

-- the name is made of its first bytes, so many as its length tells, and never more than 40
pub named_in : (ws w : List ℕ) (len : ℕ) → min (get_or ws 5 0) 40 ≡ len → is_named (name_from ws) w ≡ eqs (bytes_from ws len) w
unfolding is_named name_bytes name_from
named_in ws w len e = ap (λ (l : List ℕ). eqs l w) (bytes_take ws 40 (min (get_or ws 5 0) 40) (omega arith) ∙ ap (bytes_from ws) e)

-- a name of another length is another name
pub other_length : (ws w : List ℕ) (len : ℕ) → min (get_or ws 5 0) 40 ≡ len → (len ≡ length w → ⊥) → is_named (name_from ws) w ≡ false
other_length ws w len e apart = named_in ws w len e ∙ eqs-apart (bytes_from ws len) w (λ q. apart (sym (bytes-length ws len) ∙ q))

-- ---- spans

pub within-span : (i start count : ℕ) → start ≤ i → ltb (i - start) count ≡ (not (ltb i start) && ltb i (start + count))
within-span i start count h = rw (le-ltb i start h) (by_order count (i - start) (λ past. le-ltb (i - start) count past ∙ sym (le-ltb i (start + count) (omega (arith, past, h)))) (λ below. lt-ltb (i - start) count below ∙ sym (lt-ltb i (start + count) (omega (arith, below, h)))))

-- ---- a search from the top: what is found from place i on is what the whole search finds

module _ (test : ℕ → Bool) (from n : ℕ) where
  abbrev pub Seeks : ℕ → Type 0
  Seeks i = first_place test (from + i) (n - i) ≡ first_place test from n

  pub seeks-first : Seeks 0
  seeks-first = let e : from + 0 ≡ from = omega arith in let f : n - 0 ≡ n = omega arith in rw (e, f) refl

  here : (i : ℕ) → i < n → first_place test (from + i) (n - i) ≡ cond (test (from + i)) (Some (from + i)) (first_place test (from + (i + 1)) (n - (i + 1)))
  unfolding first_place
  here i h =
      let e : n - i ≡ suc (n - (i + 1)) = omega arith in
      let f : from + i + 1 ≡ from + (i + 1) = omega arith in
      ap (first_place test (from + i)) e ∙ ap (λ (k : ℕ). cond (test (from + i)) (Some (from + i)) (first_place test k (n - (i + 1)))) f

  pub seeks-found : (i : ℕ) → i < n → Seeks i → test (from + i) ≡ true → Some (from + i) ≡ first_place test from n
  seeks-found i h inv t = sym (here i h ∙ rw t refl) ∙ inv

  pub seeks-next : (i : ℕ) → i < n → Seeks i → test (from + i) ≡ false → Seeks (i + 1)
  seeks-next i h inv t = sym (here i h ∙ rw t refl) ∙ inv

  pub seeks-none : (i : ℕ) → n ≤ i → Seeks i → None ≡ first_place test from n
  unfolding first_place
  seeks-none i h inv = let e : n - i ≡ 0 = omega arith in sym (ap (first_place test (from + i)) e) ∙ inv
