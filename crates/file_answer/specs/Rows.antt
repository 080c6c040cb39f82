-- The rows of an open table, passed one after another, as the code answers it.
use Rattle.std.specs.Prelude.{ℕ, ◌+◌, ◌≤◌, ◌≡◌, List, Bool, false, ltb, Ok}
use Rattle.decimal.specs.Answers.{past_numbers, decimal_in}
use Rattle.decimal.specs.declared.Decimal.{Decimal}
use Rattle.records.specs.Flaws.{told_in}
use Rattle.line_rules.specs.Fields.{is_bracketed, row_of}
use Rattle.line_cells.specs.declared.RowWords.{RowWords}
use Rattle.cut_lines.specs.Cursors.{Placed}
use Rattle.cut_lines.specs.declared.Cursor.{Cursor}
use Rattle.records.specs.declared.Lengths.{Lengths}
use Rattle.records.specs.declared.Row as line
use Rattle.rules.specs.Model.{with_row, with_model_list, row_line, model_line}
use Rattle.rules.specs.declared.RowsSeen.{RowsSeen}
use Rattle.rules.specs.declared.ModelList.{ModelList}
use Rattle.rules.specs.declared.ModelState.{ModelState}
use Rattle.rules.specs.declared.Stage.TheVariants.{InModel}
use Rattle.model_steps.specs.Rows.{row_step}
use Rattle.noted_events.specs.Events.{Within, FiledBy}
use Rattle.noted_events.specs.declared.Tally.{Tally}
use Rattle.file_answer.specs.Scans.{run_from, Reached}
use Rattle.file_answer.specs.declared.Passed.{Passed}
use Rattle.file_answer.specs.declared.Standing.{Standing}

-- ---- one row

abbrev pub seen_rows : ℕ → Decimal → Bool → Bool → RowsSeen
seen_rows count last head tail = record { count = count; last = last; head = head; tail = tail }

-- w is a row after r
pub record RowIs (w : List ℕ) (r more : RowsSeen) : Type 0 where
  pub unbracketed : is_bracketed w ≡ false
  pub row : row_step r (told_in w (row_of w)) ≡ Ok more

-- x is amiss, or w as a row after so many, the last of which has this number
abbrev pub RowIn : List ℕ → ℕ → Decimal → RowWords → Type 0
RowIn w count last x =
    x.fault ≡ 0 → (head tail : Bool)
    → RowIs w (seen_rows count last head tail) (with_row (seen_rows count last head tail) (decimal_in x.number) (ltb x.typ past_numbers))

-- ---- rows of a table

-- the list of a model's state whose lines are rows
abbrev pub HoldsRows : (RowsSeen → ModelList) → Type 0
HoldsRows table = (m : ModelState) (k : ℕ) (w : List ℕ) (r : RowsSeen) (y : line.Row) → row_of w ≡ Ok y → model_line m k w (table r) ≡ row_line table m r k (Ok y)

-- with n rows in the file
abbrev pub with_rows : Tally → ℕ → Tally
with_rows t n =
    record { names = t.names; counts = record { components = t.counts.components; pins = t.counts.pins; selectors = t.counts.selectors; choices = t.counts.choices; models = t.counts.models; waveforms = t.counts.waveforms; rows = n } }

abbrev pub standing_at : ModelState → ModelList → Tally → Passed → Standing
standing_at m list t p = record { stage = InModel (with_model_list m list); cursor = p.cursor; tally = with_rows t p.count }

abbrev pub in_table : ModelState → (RowsSeen → ModelList) → Tally → Passed → Standing
in_table m table t p = standing_at m (table p.rows) t p

-- from behind the rows the lines say what they say from before them, in whatever table and whatever is lent; every row has a byte
pub record PassedIs (s : List ℕ) (c : Cursor) (r : RowsSeen) (n : ℕ) (p : Passed) : Type 0 where
  pub says : (l : Lengths) (xs : List ℕ) (m : ModelState) (table : RowsSeen → ModelList) (t : Tally) → HoldsRows table
      → run_from l s xs (in_table m table t (record { cursor = c; rows = r; count = n })) ≡ run_from l s xs (in_table m table t p)
  pub placed : Placed s p.cursor
  pub reached : Reached s c → Reached s p.cursor
  pub from : c.at ≤ p.cursor.at
  pub counted : p.count + c.at ≤ n + p.cursor.at

-- ---- where the reading stands

pub record Steady (s : List ℕ) (x : Standing) : Type 0 where
  pub placed : Placed s x.cursor
  pub within : Within x.tally
  pub rows : x.tally.counts.rows ≤ x.cursor.at

pub record PassesOn (s : List ℕ) (x y : Standing) : Type 0 where
  pub says : (l : Lengths) (xs : List ℕ) → run_from l s xs x ≡ run_from l s xs y
  pub steady : Steady s y
  pub filed : (xs : List ℕ) → FiledBy xs x.tally → FiledBy xs y.tally
  pub reached : Reached s x.cursor → Reached s y.cursor
  pub from : x.cursor.at ≤ y.cursor.at
