-- "Kept is all that is read .. Tables say the same if all that is kept is equal": files with equal tables and headers say the same. It holds
-- of all that document 01 reads, f = file_in (texts_of s) of an accepted file s among it.
use Rattle.std.specs.Prelude.{ℕ, ◌≡◌, List, ◌++◌}
use Rattle.rules.specs.Reading.{FileIs}
use Rattle.rules.specs.Same.{SaysTheSame}
use Rattle.layout.specs.Laid.{Tables, Laid, counts_of, laid}
use Rattle.records.specs.Stored.{stored, words_laid}
use Rattle.records.specs.declared.Header.{Header}

-- the header as it is answered
abbrev pub header_answered : FileIs → Header
header_answered f = record { name = words_laid f.name; revision = words_laid f.revision }

-- the tables as they are laid
abbrev pub Kept : Type 0
Kept = (f g : FileIs) → header_answered f ≡ header_answered g → laid f ≡ laid g → SaysTheSame f g

-- ---- the tables as they are lent

-- these lie in a table from its start on, whatever lies behind
abbrev pub Begins : {A : Type 0} → List A → List A → Type 0
Begins new table = (behind : List _) × (table ≡ new ++ behind)

-- tables that hold what is laid, a row as four words: what a reading leaves
pub record Holds (u : Tables ℕ) (a : Laid) : Type 0 where
  pub components : Begins a.components u.components
  pub pins : Begins a.pins u.pins
  pub selectors : Begins a.selectors u.selectors
  pub choices : Begins a.choices u.choices
  pub models : Begins a.models u.models
  pub waveforms : Begins a.waveforms u.waveforms
  pub rows : Begins (stored a.rows) u.rows

-- two files that leave the same tables, counts and header say the same
abbrev pub KeptInTables : Type 0
KeptInTables =
    (u : Tables ℕ) (f g : FileIs) → header_answered f ≡ header_answered g → counts_of (laid f) ≡ counts_of (laid g)
    → Holds u (laid f) → Holds u (laid g) → SaysTheSame f g
