-- A line whose first word begins with a letter is no row of a table: no number begins with a letter, which is no sign, digit or point.
use Rattle.std.specs.Prelude.{Err}
use Prim.Native.Nat.{ℕ, ◌≤◌}
use Prim.Native.Char.{code}
use mathlib.Core.Path.{◌≡◌}
use mathlib.Core.List.{List, [], ◌∷◌}
use mathlib.Core.Bool.{true, false, cond}
use native.Mathlib.Omega.{arith}
use lib.ListN.{length}
use lib.Dec.{eqb}
use borrow.Author.Tests.{ne_eqb}
use Rattle.laws.specs.Bytes.{is_letter}
use Rattle.laws.specs.Lists.{front, after}
use Rattle.laws.proofs.Tests.{by-test, by_order, never}
use Rattle.laws.proofs.Bytes.{letter-below, digit-above}
use Rattle.decimal.specs.Decimal.{number_of, after_sign, unsigned, figures, point_places}
use Rattle.words.specs.Words.{word, words, rest_from}
use Rattle.records.specs.Flaws.{flaw}
use Rattle.line_rules.specs.Fields.{word_by, exactly, row_of}
use Rattle.rules.specs.Model.{begins_letter}

letter-from : (b : ℕ) → is_letter b ≡ true → code "A" ≤ b
letter-from b h = by_order 65 b (λ q. q) (λ q. absurd (never (is_letter b) h (letter-below b q)))

pub letter-no-number : (w : List ℕ) → begins_letter w ≡ true → number_of w ≡ Err 11
unfolding begins_letter number_of after_sign unsigned figures point_places front after
letter-no-number [] h = cc
letter-no-number (b ∷ bs) h =
    let above : 65 ≤ b = letter-from b h in
    let plus : eqb b (code "+") ≡ false = ne_eqb b 43 (λ e. omega arith) in
    let minus : eqb b (code "-") ≡ false = ne_eqb b 45 (λ e. omega arith) in
    let point : eqb b (code ".") ≡ false = ne_eqb b 46 (λ e. omega arith) in
    simp (plus, minus, point, digit-above b (omega arith))

pub letter-no-row : (w : List ℕ) → begins_letter (word 0 (words w)) ≡ true
    → row_of w ≡ Err (cond (eqb (length (words w)) 4) (flaw 11 (rest_from 0 w)) (flaw 10 (rest_from 4 w)))
unfolding row_of exactly word_by
letter-no-row w h = by-test (eqb (length (words w)) 4) (λ e. rw (e, letter-no-number (word 0 (words w)) h)) (λ e. rw e)
