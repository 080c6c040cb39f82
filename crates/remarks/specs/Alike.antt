-- Document 02, §10: "two files, read into tables of like lengths, that both pass faults 1 to 4, and whose lines after cutting, empty ones dropped, are the
-- same list, get the same number and column, and tables that say the same when accepted .. The lines told, where not 0, differ only by the skipped
-- lines before them."
use Rattle.std.specs.Prelude.{ℕ, ◌+◌, ◌<◌, ◌≡◌, List, length, Ok}
use Rattle.lines.specs.Lines.{lines_of, bytes_fault}
use Rattle.records.specs.declared.Lengths.{Lengths}
use Rattle.records.specs.declared.Lending.{Lending}
use Rattle.rules.specs.Whole.{Outcome, passed, refused, texts_of, outcome, loading}
use Rattle.rules.specs.Reading.{file_in}
use Rattle.rules.specs.Same.{SaysTheSame}
use Rattle.layout.specs.Laid.{laid}
use Rattle.remarks.specs.Counted.{list_of, line_at, skipped_before}

-- ---- the premises

pub record Alike (s t : List ℕ) : Type 0 where
  pub passes : bytes_fault s ≡ Ok tt
  pub passes_too : bytes_fault t ≡ Ok tt
  pub list : list_of s ≡ list_of t

-- ---- the conclusion

-- both are accepted: the tables say the same, and what lies in them is equal, where rows lie too
pub record SameTables (s t : List ℕ) : Type 0 where
  pub says : SaysTheSame (file_in (texts_of s)) (file_in (texts_of t))
  pub lies : laid (file_in (texts_of s)) ≡ laid (file_in (texts_of t))

-- both are refused with fault n, one at line j, the other at line k
pub data SameLine (s t : List ℕ) (n j k : ℕ) : Type 0 where
  -- too few rows are lent: at no line
  at_none : n ≡ 25 → j ≡ 0 → k ≡ 0 → SameLine s t n j k
  -- the file runs out: at the line after the last
  behind_last : n ≡ 19 → j ≡ length (lines_of s) + 1 → k ≡ length (lines_of t) + 1 → SameLine s t n j k
  -- any other fault: at the line of the same entry of the list
  at_entry : (n ≡ 19 → ⊥) → (i : ℕ) → i < length (list_of s) → j ≡ line_at s i → k ≡ line_at t i → SameLine s t n j k

-- s with fault n at line j and column x, t with fault o at line k and column y
pub record SameFault (s t : List ℕ) (n j x o k y : ℕ) : Type 0 where
  pub number : n ≡ o
  pub column : x ≡ y
  pub line : SameLine s t n j k
  -- each line less the skipped lines before it is the same number
  pub skipped : j + skipped_before t k ≡ k + skipped_before s j

abbrev pub Agree : List ℕ → List ℕ → Outcome → Outcome → Type 0
Agree s t (passed g) (passed h) = SameTables s t
Agree s t (passed g) (refused o k y) = ⊥
Agree s t (refused n j x) (passed h) = ⊥
Agree s t (refused n j x) (refused o k y) = SameFault s t n j x o k y

-- ---- the theorem: for files that are checked, l being the lengths of the tables, and for files that are loaded into what l lends

abbrev pub CheckedAlike : Type 0
CheckedAlike = (s t : List ℕ) → Alike s t → (l : Lengths) → Agree s t (outcome l s) (outcome l t)

abbrev pub LoadedAlike : Type 0
LoadedAlike = (s t : List ℕ) → Alike s t → (l : Lending) → Agree s t (loading l s) (loading l t)

-- both, of files that are alike
pub record Unchanged (s t : List ℕ) : Type 0 where
  pub alike : Alike s t
  pub checked : (l : Lengths) → Agree s t (outcome l s) (outcome l t)
  pub loaded : (l : Lending) → Agree s t (loading l s) (loading l t)
