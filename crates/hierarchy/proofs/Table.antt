-- The table's rule: one test, computed over the whole of it, and laws for any table that passes it, by its place from the front.
use Prim.Native.Nat.{ℕ, zero, suc, ◌<◌}
use mathlib.Core.Path.{◌≡◌, refl, sym, ap, ◌∙◌}
use mathlib.Core.List.{List, [], ◌∷◌}
use mathlib.Core.Bool.{true, ◌&&◌}
use native.Mathlib.Omega.{arith}
use lib.ListN.{length}
use Rattle.laws.specs.Bytes.{is_small}
use Rattle.laws.specs.Lists.{all}
use Rattle.laws.specs.Order.{comes_before}
use Rattle.laws.proofs.Tests.{and_first, and_second, by_order, never}
use Rattle.laws.proofs.Order.{before_self, before-trans}
use Rattle.words.specs.Words.{word}
use Rattle.hierarchy.specs.Hierarchy.{hierarchy, is_spelling, is_spelled, is_ahead, is_table}

-- ---- any table that passes the test

module _ (n : List ℕ) (ns : List (List ℕ)) (h : is_table (n ∷ ns) ≡ true) where
  first-spelled : is_spelled n ≡ true
  unfolding is_table
  first-spelled = and_first (is_spelled n) (is_ahead n ns && is_table ns) h

  first-ahead : is_ahead n ns ≡ true
  unfolding is_table
  first-ahead = and_first (is_ahead n ns) (is_table ns) (and_second (is_spelled n) (is_ahead n ns && is_table ns) h)

  rest-table : is_table ns ≡ true
  unfolding is_table
  rest-table = and_second (is_ahead n ns) (is_table ns) (and_second (is_spelled n) (is_ahead n ns && is_table ns) h)

pub spelled_at : (ns : List (List ℕ)) → is_table ns ≡ true → (k : ℕ) → k < length ns → is_spelled (word k ns) ≡ true
unfolding word
spelled_at [] h k l = absurd (omega arith)
spelled_at (n ∷ ns) h zero l = first-spelled n ns h
spelled_at (n ∷ ns) h (suc k) l = spelled_at ns (rest-table n ns h) k (omega arith)

-- the first name comes before every other
first-before : (n : List ℕ) (ns : List (List ℕ)) → is_table (n ∷ ns) ≡ true → (k : ℕ) → k < length ns → comes_before n (word k ns) ≡ true
unfolding word
first-before n [] h k l = absurd (omega arith)
first-before n (m ∷ ns) h zero l = first-ahead n (m ∷ ns) h
first-before n (m ∷ ns) h (suc k) l =
    before-trans n m (word k ns) (first-ahead n (m ∷ ns) h) (first-before m ns (rest-table n (m ∷ ns) h) k (omega arith))

pub ordered_at : (ns : List (List ℕ)) → is_table ns ≡ true → (i j : ℕ) → i < j → j < length ns → comes_before (word i ns) (word j ns) ≡ true
unfolding word
ordered_at [] h i j b l = absurd (omega arith)
ordered_at (n ∷ ns) h i zero b l = absurd (omega arith)
ordered_at (n ∷ ns) h zero (suc j) b l = first-before n ns h j (omega arith)
ordered_at (n ∷ ns) h (suc i) (suc j) b l = ordered_at ns (rest-table n ns h) i j (omega arith) (omega arith)

-- two places with one name are one place
pub once : (ns : List (List ℕ)) → is_table ns ≡ true → (i j : ℕ) → i < length ns → j < length ns → word i ns ≡ word j ns → i ≡ j
once ns h i j k l e =
    by_order i j
    (λ p. by_order j i (λ q. omega arith) (λ q. absurd (apart i j q l e)))
    (λ p. absurd (apart j i p k (sym e)))
  where
    apart : (a b : ℕ) → a < b → b < length ns → word a ns ≡ word b ns → ⊥
    apart a b p q s =
        never (comes_before (word b ns) (word b ns)) (ap (λ (x : List ℕ). comes_before x (word b ns)) (sym s) ∙ ordered_at ns h a b p q) (before_self (word b ns))

-- ---- the hierarchy is such a table

pub is-table : is_table hierarchy ≡ true
unfolding hierarchy is_table is_spelled is_spelling is_small all comes_before
is-table = refl

-- 109 of them: 24 that are carried, [Comment Char], and 84 that are not
pub counted : length hierarchy ≡ 109
unfolding hierarchy
counted = refl
