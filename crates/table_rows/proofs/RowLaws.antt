-- The rows of a table, line by line, as folds over its lines: a line has a row, or nothing.
use Rattle.std.specs.Prelude.{Ok, Err}
use Prim.Native.Nat.{ℕ, ◌/◌}
use mathlib.Core.Path.{◌≡◌, refl, sym}
use mathlib.Core.List.{List, ◌++◌, append_assoc, append-nil}
use native.Mathlib.Omega.{arith}
use lib.ListN.{length, length-append}
use Rattle.laws.proofs.Tests.{impossible}
use Rattle.line_rules.specs.Fields.{row_of}
use Rattle.rules.specs.Reading.{onto_rows, rows_in}
use Rattle.records.specs.Flaws.{Reads, told_in}
use Rattle.records.specs.Stored.{row_words, stored}
use Rattle.records.specs.declared.LineFault.{LineFault}
use Rattle.records.specs.declared.Row.{Row}
use Rattle.lines_under.proofs.Folds.{Folds, Small}
use Rattle.table_rows.specs.Rows.{with_said_row}

-- ---- a line more

module _ {X : Type 0} {f : X → List Row → X} {add : X → Row → X} (k : Folds f add) where
  pub onto-row : (x : X) (read : Reads Row) (rs : List Row) → f x (onto_rows read rs) ≡ f (with_said_row add x read) rs
  onto-row x (Ok r) rs = k.more x r rs
  onto-row x (Err f) rs = refl

  pub row-fold : Folds (λ (x : X) (ls : List (List ℕ)). f x (rows_in ls)) (λ (x : X) (w : List ℕ). with_said_row add x (row_of w))
  unfolding rows_in
  row-fold = record { none = k.none; more = λ x w ws. onto-row x (row_of w) (rows_in ws) }

-- one that tells a fault has none
pub row_kept : {X : Type 0} (add : X → Row → X) (x : X) (w : List ℕ) (read : Reads Row) {g : LineFault} → Err g ≡ told_in w read → x ≡ with_said_row add x read
row_kept add x w (Ok r) e = let z : ◌≡◌ {A = ℕ} 0 1 = cc in impossible z
row_kept add x w (Err f) e = refl

-- ---- as words

abbrev pub worded : List ℕ → Reads Row → List ℕ
worded = with_said_row (λ (v : List ℕ) (r : Row). v ++ row_words r)

pub words-fold : Folds (λ (v : List ℕ) (rs : List Row). v ++ stored rs) (λ (v : List ℕ) (r : Row). v ++ row_words r)
unfolding stored
words-fold = record { none = λ v. append-nil v; more = λ v r rs. sym (append_assoc v (row_words r) (stored rs)) }

worded-small : Small worded (λ (v : List ℕ). length v / 4)
worded-small v (Ok r) = omega (arith, length-append v (row_words r))
worded-small v (Err f) = omega arith

-- a line adds at most one row
pub words_small : Small (λ (v : List ℕ) (w : List ℕ). worded v (row_of w)) (λ (v : List ℕ). length v / 4)
words_small v w = worded-small v (row_of w)
