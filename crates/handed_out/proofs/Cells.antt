-- Every number, cell, row and slope that a line says is fine: each is read by `number_of`, whose answers are fine.
use Rattle.std.specs.Prelude.{Ok, Err}
use Prim.Native.Nat.{ℕ}
use Prim.Native.Char.{code}
use mathlib.Core.List.{List, [], ◌∷◌}
use mathlib.Core.Bool.{◌&&◌}
use lib.ListN.{drop}
use Rattle.laws.specs.Lists.{begins, among}
use Rattle.laws.specs.Said.{Said}
use Rattle.laws.proofs.Tests.{cond-all}
use Rattle.decimal.specs.Decimal.{number_of, given_cell, cell_of, is_missing}
use Rattle.decimal.specs.Fine.{Fine, FineNumber, FineCell, FineRead}
use Rattle.decimal.specs.declared.Decimal.{Decimal}
use Rattle.decimal.specs.declared.Cell.{Cell}
use Rattle.decimal.proofs.Fine.{number-fine, cell-fine}
use Rattle.words.specs.Words.{rest_from}
use Rattle.records.specs.Flaws.{Reads}
use Rattle.records.specs.declared.Range.{Range}
use Rattle.records.specs.declared.RampCell.{RampCell}
use Rattle.records.specs.declared.RampTriple.{RampTriple}
use Rattle.line_rules.specs.Fields.{word_by, typ_min_max, cells_by, three_cells, row_of, ratio_of, slope_from, slope_of, slope_or_missing, is_upward, upward, three_slopes, after_name, behind_name, cells_line, group_line, slopes_line, behind_equals, number_line}
use Rattle.line_rules.proofs.Says.{Says, says_on, word-says, exactly-says}
use Rattle.table_records.specs.Fine.{FineTriple, FineSlope, FineSlopes, FineRow}

-- ---- what is said of a text has it

module _ {A : Type 0} (P : A → Type 0) where
  behind-says : (read : List ℕ → Reads A) → ((v : List ℕ) → Says P (read v)) → (w : List ℕ) → Says P (behind_name read w)
  unfolding behind_name
  behind-says read h w = cond-all (Says P) (begins (code "=") (after_name w)) _ _ (λ e. tt) (λ e. h (after_name w))

  three-say : {B : Type 0} (Q : B → Type 0) (kept : A → A → A → B) (typ min max : Reads A) → ((a b c : A) → P a → P b → P c → Q (kept a b c))
      → Says P typ → Says P min → Says P max → Says Q (typ_min_max kept typ min max)
  three-say Q kept typ min max k x y z =
      says_on P Q typ _ x (λ a f. says_on P Q min _ y (λ b g. says_on P Q max _ z (λ c h. k a b c f g h)))

-- ---- cells

number-says : (w : List ℕ) → Says Fine (number_of w)
number-says w = from (number_of w) (number-fine w)
  where
    from : (r : Said Decimal) → FineNumber r → Says Fine r
    from (Ok d) h = h
    from (Err n) h = tt

cell-says : (w : List ℕ) → Says FineCell (cell_of w)
cell-says w = from (cell_of w) (cell-fine w)
  where
    from : (r : Said Cell) → FineRead r → Says FineCell r
    from (Ok c) h = h
    from (Err n) h = tt

given-says : (w : List ℕ) → Says FineCell (given_cell w)
unfolding given_cell
given-says w = says_on Fine FineCell (number_of w) _ (number-says w) (λ d h. h)

by-says : (typ : List ℕ → Said Cell) → ((w : List ℕ) → Says FineCell (typ w)) → (v : List ℕ) → Says FineTriple (cells_by typ v)
unfolding cells_by
by-says typ h v =
    exactly-says FineTriple 3 _ v
    (three-say FineCell FineTriple _ (word_by typ 0 v) (word_by cell_of 1 v) (word_by cell_of 2 v) (λ a b c f g k. record { typ = f; min = g; max = k })
    (word-says FineCell typ h 0 v) (word-says FineCell cell_of cell-says 1 v) (word-says FineCell cell_of cell-says 2 v))

pub cells_say : (v : List ℕ) → Says FineTriple (cells_by cell_of v)
cells_say = by-says cell_of cell-says

pub three-cells-say : (v : List ℕ) → Says FineTriple (three_cells v)
unfolding three_cells
three-cells-say = by-says given_cell given-says

pub row-says : (w : List ℕ) → Says FineRow (row_of w)
unfolding row_of
row-says w =
    exactly-says FineRow 4 _ w
    (says_on Fine FineRow (word_by number_of 0 w) _ (word-says Fine number_of number-says 0 w)
    (λ d x. says_on FineTriple FineRow (cells_by cell_of (rest_from 1 w)) _ (cells_say (rest_from 1 w)) (λ t y. record { number = x; cells = y })))

-- ---- slopes

ratio-says : (a b : Said Decimal) → Says Fine a → Says Fine b → Says FineSlope (ratio_of a b)
ratio-says (Ok d) b x y = says_on Fine FineSlope b _ y (λ e z. (x, z))
ratio-says (Err n) b x y = tt

slope-from : (before behind : List ℕ) → Says FineSlope (slope_from before behind)
unfolding slope_from
slope-from before [] = tt
slope-from before (slash ∷ behind) =
    cond-all (Says FineSlope) (among (code "/") behind) _ _ (λ e. tt)
    (λ e. ratio-says (number_of before) (number_of behind) (number-says before) (number-says behind))

slope-says : (w : List ℕ) → Says FineSlope (slope_of w)
unfolding slope_of
slope-says w = slope-from _ _

slope-or-says : (w : List ℕ) → Says FineSlope (slope_or_missing w)
unfolding slope_or_missing
slope-or-says w = cond-all (Says FineSlope) (is_missing w) _ _ (λ e. tt) (λ e. slope-says w)

upward-says : (t : RampTriple) → FineSlopes t → Says FineSlopes (upward t)
unfolding upward
upward-says t h = cond-all (Says FineSlopes) (is_upward t.typ && (is_upward t.min && is_upward t.max)) (Ok t) _ (λ e. h) (λ e. tt)

slopes-say : (v : List ℕ) → Says FineSlopes (three_slopes v)
unfolding three_slopes
slopes-say v =
    let kept : RampCell → RampCell → RampCell → RampTriple = λ a b c. record { typ = a; min = b; max = c } in
    let typ = word_by slope_of 0 v in
    let min = word_by slope_or_missing 1 v in
    let max = word_by slope_or_missing 2 v in
    exactly-says FineSlopes 3 _ v
    (says_on FineSlopes FineSlopes (typ_min_max kept typ min max) upward
    (three-say FineSlope FineSlopes kept typ min max (λ a b c f g k. record { typ = f; min = g; max = k })
    (word-says FineSlope slope_of slope-says 0 v) (word-says FineSlope slope_or_missing slope-or-says 1 v) (word-says FineSlope slope_or_missing slope-or-says 2 v))
    upward-says)

-- ---- named lines

pub cells-line : (w : List ℕ) → Says FineTriple (cells_line w)
unfolding cells_line
cells-line = behind-says FineTriple three_cells three-cells-say

abbrev pub FineRange : Range → Type 0
FineRange r = FineTriple r.cells

pub group-line : (w : List ℕ) → Says FineRange (group_line w)
unfolding group_line
group-line w = says_on FineTriple FineRange (cells_line w) _ (cells-line w) (λ a f. f)

pub slopes-line : (w : List ℕ) → Says FineSlopes (slopes_line w)
unfolding slopes_line
slopes-line = behind-says FineSlopes three_slopes slopes-say

equals-say : (v : List ℕ) → Says FineCell (behind_equals v)
unfolding behind_equals
equals-say v =
    cond-all (Says FineCell) (begins (code "=") v) _ _ (λ e. exactly-says FineCell 1 _ (drop 1 v) (word-says FineCell given_cell given-says 0 (drop 1 v))) (λ e. tt)

pub number-line : (w : List ℕ) → Says FineCell (number_line w)
unfolding number_line
number-line w = equals-say _
