-- A table's rows from what was seen of them: how many, the last number, and whether the first and last typ are numbers. Row by row.
use Prim.Native.Nat.{ℕ, ◌+◌, ◌≤◌, min}
use mathlib.Core.Path.{◌≡◌, refl, sym, ◌∙◌}
use mathlib.Core.List.{List, [], ◌∷◌}
use mathlib.Core.Bool.{Bool, true, ◌&&◌}
use native.Mathlib.Omega.{arith}
use lib.ListN.{length}
use lib.Dec.{leb}
use borrow.Author.Tests.{ne_eqb, leb-true}
use Rattle.laws.proofs.Tests.{by-test, cond_no, and_both, and_first, and_second}
use Rattle.decimal.specs.Decimal.{less_than}
use Rattle.decimal.specs.declared.Cell.{Cell}
use Rattle.decimal.specs.declared.Cell.TheVariants.{Missing}
use Rattle.records.specs.declared.Row.{Row}
use Rattle.rules.specs.Model.{is_number, no_rows, rises, with_row, table_fault}
use Rattle.rules.specs.declared.RowsSeen.{RowsSeen}
use Rattle.accepted_tables.specs.Facts.{is_rising_from, is_rising, first_typ, last_typ, RowsFacts}

abbrev seen_with : RowsSeen → Row → RowsSeen
seen_with r y = with_row r y.number (is_number y.cells.typ)

-- the rows after those seen all rise
abbrev pub RisesAfter : RowsSeen → List Row → Type 0
RisesAfter r [] = Unit {0}
RisesAfter r (y ∷ rs) = (rises r y.number ≡ true) × RisesAfter (seen_with r y) rs

abbrev pub seen_after : RowsSeen → List Row → RowsSeen
seen_after r [] = r
seen_after r (y ∷ rs) = seen_after (seen_with r y) rs

-- the rows rs come after those seen, and then the table closes
pub record RowsLeft (most : ℕ) (r : RowsSeen) (rs : List Row) : Type 0 where
  pub rising : RisesAfter r rs
  pub shuts : table_fault most (seen_after r rs) ≡ 0

pub none_left : (most : ℕ) (r : RowsSeen) → table_fault most r ≡ 0 → RowsLeft most r []
none_left most r h = record { rising = tt; shuts = h }

pub one_more : (most : ℕ) (r : RowsSeen) (y : Row) (rs : List Row) → rises r y.number ≡ true → RowsLeft most (seen_with r y) rs → RowsLeft most r (y ∷ rs)
one_more most r y rs h l = record { rising = (h, l.rising); shuts = l.shuts }

-- ---- what was seen in the end

count-after : (r : RowsSeen) (rs : List Row) → r.count ≤ 1001 → (seen_after r rs).count ≡ min (r.count + length rs) 1001
count-after r [] h = omega arith
count-after r (y ∷ rs) h = omega (arith, count-after (seen_with r y) rs (omega arith))

head-after : (r : RowsSeen) (rs : List Row) → 1 ≤ r.count → (seen_after r rs).head ≡ r.head
head-after r [] h = refl
head-after r (y ∷ rs) h = head-after (seen_with r y) rs (omega arith) ∙ cond_no _ _ (ne_eqb r.count 0 (omega arith))

tail-after : (r : RowsSeen) (c : Cell) (rs : List Row) → r.tail ≡ is_number c → (seen_after r rs).tail ≡ is_number (last_typ c rs)
unfolding last_typ
tail-after r c [] h = h
tail-after r c (y ∷ rs) h = tail-after (seen_with r y) y.cells.typ rs refl

rises-after : (r : RowsSeen) (rs : List Row) → 1 ≤ r.count → RisesAfter r rs → is_rising_from r.last rs ≡ true
unfolding is_rising_from rises
rises-after r [] h s = refl
rises-after r (y ∷ rs) h s =
    and_both (less_than r.last y.number) (is_rising_from y.number rs)
    (sym (cond_no true (less_than r.last y.number) (ne_eqb r.count 0 (omega arith))) ∙ s.0)
    (rises-after (seen_with r y) rs (omega arith) s.1)

-- ---- what closing the table says

record Shut (most : ℕ) (r : RowsSeen) : Type 0 where
  least : 2 ≤ r.count
  at_most : r.count ≤ most
  head : r.head ≡ true
  tail : r.tail ≡ true

shut : (most : ℕ) (r : RowsSeen) → table_fault most r ≡ 0 → Shut most r
unfolding table_fault
shut most r h =
    let a : Bool = leb 2 r.count in
    let b : Bool = leb r.count most in
    by-test (a && (b && (r.head && r.tail)))
    (λ t.
    let u : (b && (r.head && r.tail)) ≡ true = and_second a (b && (r.head && r.tail)) t in
    let v : (r.head && r.tail) ≡ true = and_second b (r.head && r.tail) u in
    record {
      least = leb-true 2 r.count (and_first a (b && (r.head && r.tail)) t);
      at_most = leb-true r.count most (and_first b (r.head && r.tail) u);
      head = and_first r.head r.tail v;
      tail = and_second r.head r.tail v;
    })
    (λ t. let z : 13 ≡ 0 = sym (cond_no 0 13 t) ∙ h in absurd (omega arith))

-- ---- a table whose rows were all seen, from the first on

rising-all : (rs : List Row) → RisesAfter no_rows rs → is_rising rs ≡ true
rising-all [] s = refl
rising-all (y ∷ rs) s = rises-after (seen_with no_rows y) rs (omega arith) s.1

head-all : (rs : List Row) → 1 ≤ length rs → (seen_after no_rows rs).head ≡ is_number (first_typ rs)
head-all [] h = absurd (omega arith)
head-all (y ∷ rs) h = head-after (seen_with no_rows y) rs (omega arith)

pub rows-facts : (most : ℕ) (rs : List Row) → most ≤ 1000 → RowsLeft most no_rows rs → RowsFacts most rs
rows-facts most rs m l =
    let s : Shut most (seen_after no_rows rs) = shut most (seen_after no_rows rs) l.shuts in
    let n : (seen_after no_rows rs).count ≡ min (0 + length rs) 1001 = count-after no_rows rs (omega arith) in
    let least : 2 ≤ length rs = omega (arith, s.least, n) in
    record {
      least = least;
      at_most = omega (arith, s.at_most, n, m);
      rising = rising-all rs l.rising;
      first = sym (head-all rs (omega (arith, least))) ∙ s.head;
      last = sym (tail-after no_rows Missing rs refl) ∙ s.tail;
    }
