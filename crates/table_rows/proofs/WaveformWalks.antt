-- A waveform read and its rows written, line by line: the record so far with so many rows, and the words so far over the row store as it was.
use Prim.Native.Nat.{ℕ, ◌+◌, ◌-◌, ◌/◌, ◌≤◌}
use mathlib.Core.Path.{◌≡◌, ap, ◌∙◌}
use mathlib.Core.List.{List}
use native.Mathlib.Omega.{arith}
use lib.ListN.{length}
use borrow.Rule.Slice.PartMut.{put_mid, mid_of}
use Rattle.laws.specs.Lists.{part}
use Rattle.cut_lines.specs.Cursors.{rest, Placed}
use Rattle.cut_lines.specs.declared.Cursor.{Cursor}
use Rattle.line_rules.specs.Fields.{row_of}
use Rattle.line_cells.specs.Rows.{row_worded}
use Rattle.line_cells.specs.declared.RowWords.{RowWords}
use Rattle.line_cells.proofs.Rows.{row-there, row-amiss}
use Rattle.rules.specs.Reading.{under, waveform_in}
use Rattle.records.specs.Flaws.{told_in}
use Rattle.records.specs.Stored.{stored, over}
use Rattle.records.specs.declared.Edge.{Edge}
use Rattle.records.specs.declared.Waveform.{Waveform}
use Rattle.lines_under.specs.Under.{LineNextIs}
use Rattle.lines_under.specs.declared.LineNext.{LineNext}
use Rattle.lines_under.specs.declared.LineNext.TheVariants as next
use Rattle.lines_under.proofs.Folds.{Gathers, gathers-start, gathers-line, gathers-end}
use Rattle.table_rows.specs.Rows.{rows_at, four_words}
use Rattle.table_rows.specs.Waveforms.{bare_waveform, with_count, fixture_line}
use Rattle.table_rows.proofs.RowWalks.{Fills, fills-start, fills-row, fills-none}
use Rattle.table_rows.proofs.WaveformLaws.{waveform-fold, waveform-is, line_row, line-fixture}

pub record Reads (s : List ℕ) (c d : Cursor) (x₀ x : Waveform) (before now : List ℕ) (used : ℕ) : Type 0 where
  pub gathers : Gathers waveform-fold s c d (with_count x₀ 0) (with_count x (used / 4))
  pub fills : Fills s c d before now used

pub reads-start : (s : List ℕ) (c : Cursor) (x : Waveform) (before : List ℕ) → Placed s c → Reads s c c x x before before 0
reads-start s c x before h = record { gathers = gathers-start waveform-fold s c (with_count x 0) h; fills = fills-start s c before h }

module _ {s : List ℕ} {c d : Cursor} {x₀ x : Waveform} {before now : List ℕ} {used : ℕ} (p : Reads s c d x₀ x before now used) where
  module _ {r : LineNext} {a e : ℕ} {n : Cursor} (q : r ≡ next.Line a e n) (l : LineNextIs s d r) {row : RowWords} (i : row ≡ row_worded (told_in (part a e s) (row_of (part a e s)))) where
    abbrev line : List ℕ
    line = part a e s

    pub reads-row : row.fault ≡ 0 → length (stored (rows_at s c)) ≤ length before
        → Reads s c n x₀ x before (put_mid used (length now - used) now (over (mid_of used (length now - used) now) (four_words row))) (used + 4)
    reads-row j h =
        let k : (used + 4) / 4 ≡ used / 4 + 1 = omega arith in
        let t = row-there line i j in
        record {
          gathers = gathers-line p.gathers q l (ap (with_count x) k ∙ line_row (with_count x (used / 4)) line t.row t.said);
          fills = fills-row p.fills q l i j h;
        }

    pub reads-fixture : {y : Waveform} → (row.fault ≡ 0 → ⊥) → y ≡ fixture_line x line → Reads s c n x₀ y before now used
    reads-fixture j z =
        record {
          gathers =
              gathers-line p.gathers q l
              (ap (λ (y : Waveform). with_count y (used / 4)) z ∙ line-fixture (with_count x (used / 4)) line (row-amiss line i j).0);
          fills = fills-none p.fills q l i j;
        }

  pub reads_end : {r : LineNext} {n : Cursor} → r ≡ next.NoLine n → LineNextIs s d r → (edge : Edge) (row : ℕ) → x₀ ≡ bare_waveform edge row
      → with_count x (used / 4) ≡ waveform_in row edge (under (rest s c))
  reads_end q l edge row z = (gathers-end p.gathers q l).whole ∙ rw z (waveform-is edge row (under (rest s c)))
