-- A row's step apart from the list that it goes into, and the line's step by it.
use Rattle.std.specs.Prelude.{ℕ, Bool, true, cond, ◌&&◌, eqb, leb, Result, Ok, Err}
use Rattle.decimal.specs.Decimal.{less_than}
use Rattle.decimal.specs.declared.Decimal.{Decimal}
use Rattle.rules.specs.Going.{stop_at, Went}
use Rattle.rules.specs.Model.{is_number, rises, with_row, with_model_list}
use Rattle.records.specs.Flaws.{bare}
use Rattle.records.specs.declared.LineFault.{LineFault}
use Rattle.records.specs.declared.Row.{Row}
use Rattle.rules.specs.declared.RowsSeen.{RowsSeen}
use Rattle.rules.specs.declared.ModelList.{ModelList}
use Rattle.rules.specs.declared.ModelState.{ModelState}
use Rattle.rules.specs.declared.Stage.TheVariants.{InModel}
use Rattle.rules.specs.declared.Event.TheVariants.{TableRow}

-- a whole table's test: 2 to so many rows, and the first and the last typ are numbers
abbrev pub rows_fit : ℕ → RowsSeen → Bool
rows_fit most r = leb 2 r.count && (leb r.count most && (r.head && r.tail))

-- `rises`, of what it reads of the rows that were seen
abbrev pub rises_over : ℕ → Decimal → Decimal → Bool
rises_over count last d = cond (eqb count 0) true (less_than last d)

unfoldable pub on_row : RowsSeen → Row → Result RowsSeen LineFault
on_row r l = cond (rises r l.number) (Ok (with_row r l.number (is_number l.cells.typ))) (Err (bare 13))

abbrev pub row_step : RowsSeen → Result Row LineFault → Result RowsSeen LineFault
row_step r (Ok l) = on_row r l
row_step r (Err f) = Err f

abbrev pub row_went : (RowsSeen → ModelList) → ModelState → ℕ → Result RowsSeen LineFault → Went
row_went on m k (Ok s) = Ok (InModel (with_model_list m (on s)), TableRow)
row_went on m k (Err f) = stop_at f k
