-- What the order of bytes says of the tests on them: digits, letters and capitals.
use Prim.Native.Nat.{ℕ, ◌+◌, ◌-◌, ◌≤◌, ◌<◌}
use Prim.Native.Char.{code}
use mathlib.Core.Path.{◌≡◌, sym, ◌∙◌}
use mathlib.Core.Bool.{true, false}
use mathlib.Core.Logic.{◌⊎◌, inl, inr, ⊎_elim}
use native.Mathlib.Omega.{arith}
use borrow.Author.Tests.{le-leb, lt-leb}
use Rattle.laws.specs.Bytes.{is_digit, is_letter, is_capital, is_small, capital}
use Rattle.laws.proofs.Tests.{by-test, cond_yes, cond_no}

-- ---- `is_digit` from the order of bytes

pub digit-yes : (b : ℕ) → code "0" ≤ b → b ≤ code "9" → is_digit b ≡ true
unfolding is_digit
digit-yes b h k = simp (le-leb 48 b h, le-leb b 57 k)

pub digit-below : (b : ℕ) → b < code "0" → is_digit b ≡ false
unfolding is_digit
digit-below b h = simp (lt-leb 48 b h)

pub digit-above : (b : ℕ) → code "9" < b → is_digit b ≡ false
unfolding is_digit
digit-above b h =
    let k : 48 ≤ b = omega arith in
    simp (le-leb 48 b k, lt-leb b 57 h)

-- ---- `is_letter` from the order of bytes

pub letter-capital : (b : ℕ) → code "A" ≤ b → b ≤ code "Z" → is_letter b ≡ true
unfolding is_letter is_capital
letter-capital b h k = simp (le-leb 65 b h, le-leb b 90 k)

pub letter-small : (b : ℕ) → code "a" ≤ b → b ≤ code "z" → is_letter b ≡ true
unfolding is_letter is_capital is_small
letter-small b h k =
    let l : 65 ≤ b = omega arith in
    let m : 90 < b = omega arith in
    simp (le-leb 65 b l, lt-leb b 90 m, le-leb 97 b h, le-leb b 122 k)

pub letter-below : (b : ℕ) → b < code "A" → is_letter b ≡ false
unfolding is_letter is_capital is_small
letter-below b h =
    let k : b < 97 = omega arith in
    simp (lt-leb 65 b h, lt-leb 97 b k)

pub letter-between : (b : ℕ) → code "Z" < b → b < code "a" → is_letter b ≡ false
unfolding is_letter is_capital is_small
letter-between b h k =
    let l : 65 ≤ b = omega arith in
    simp (le-leb 65 b l, lt-leb b 90 h, lt-leb 97 b k)

pub letter-above : (b : ℕ) → code "z" < b → is_letter b ≡ false
unfolding is_letter is_capital is_small
letter-above b h =
    let l : 65 ≤ b = omega arith in
    let m : 90 < b = omega arith in
    let n : 97 ≤ b = omega arith in
    simp (le-leb 65 b l, lt-leb b 90 m, le-leb 97 b n, lt-leb b 122 h)

-- ---- `capital`: which bytes have the capital c

small-no : (b : ℕ) → b < code "a" → is_small b ≡ false
unfolding is_small
small-no b h = simp (lt-leb 97 b h)

small-yes : (b : ℕ) → code "a" ≤ b → b ≤ code "z" → is_small b ≡ true
unfolding is_small
small-yes b h k = simp (le-leb 97 b h, le-leb b 122 k)

module _ (b c : ℕ) (h : code "A" ≤ c) (k : c ≤ code "Z") where
  pub capital-yes : (b ≡ c) ⊎ (b ≡ c + 32) → capital b ≡ c
  unfolding capital
  capital-yes =
      ⊎_elim
      (λ e. cond_no (b - 32) b (small-no b (omega arith)) ∙ e)
      (λ e. cond_yes (b - 32) b (small-yes b (omega arith) (omega arith)) ∙ omega arith)

  pub capital-only : capital b ≡ c → (b ≡ c) ⊎ (b ≡ c + 32)
  unfolding capital
  capital-only e =
      by-test (is_small b)
      (λ t. let q : b - 32 ≡ c = sym (cond_yes (b - 32) b t) ∙ e in inr (omega arith))
      (λ t. inl (sym (cond_no (b - 32) b t) ∙ e))
