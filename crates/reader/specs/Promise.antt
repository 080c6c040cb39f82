-- Demands 1 and 2 as one promise: what `read` answers, and what it leaves in every lent table, for any bytes and tables of any length.
use Rattle.std.specs.Prelude.{ℕ, ◌/◌, ◌≡◌, List, length}
use Rattle.rules.specs.Reading.{file_in}
use Rattle.layout.specs.Laid.{Tables, tables, Laid, laid}
use Rattle.records.specs.Stored.{stored, over}
use Rattle.rules.specs.Whole.{Outcome, passed, refused, loading, texts_of}
use Rattle.records.specs.declared.Lending.{Lending}
use Rattle.records.specs.declared.Component.{Component}
use Rattle.records.specs.declared.Pin.{Pin}
use Rattle.records.specs.declared.Selector.{Selector}
use Rattle.records.specs.declared.Choice.{Choice}
use Rattle.records.specs.declared.Model.{Model}
use Rattle.records.specs.declared.Waveform.{Waveform}
use Rattle.file_answer.specs.Answered.{answer_in}
use Rattle.records.specs.declared.Answer.{Answer}

-- the lent tables, with all that lies in them; of the rows, four words each
abbrev pub Lent : Type 0
Lent = Tables ℕ

-- of the row store, as many rows are lent as whole groups of four words
abbrev pub lending_of : ℕ → ℕ → ℕ → ℕ → ℕ → ℕ → ℕ → Lending
lending_of c p s h m w r = record { tables = record { components = c; pins = p; selectors = s; choices = h; models = m; waveforms = w }; rows = r / 4 }

abbrev pub lending_in : Lent → Lending
lending_in t =
    lending_of (length t.components) (length t.pins) (length t.selectors) (length t.choices) (length t.models) (length t.waveforms) (length t.rows)

-- an accepted file is laid over what the tables held; demand 1: "after a fault, the lent tables hold what they held before"
abbrev pub left : Outcome → Laid → Lent → Lent
left (passed h) a t =
    tables (over t.components a.components) (over t.pins a.pins) (over t.selectors a.selectors) (over t.choices a.choices)
    (over t.models a.models) (over t.waveforms a.waveforms) (over t.rows (stored a.rows))
left (refused n k c) a t = t

-- file s is read into tables t: r is answered, and the tables then are u
pub record Reads (s : List ℕ) (t : Lent) (r : Answer) (u : Lent) : Type 0 where
  pub answer : r ≡ answer_in (lending_in t) s
  pub tables : u ≡ left (loading (lending_in t) s) (laid (file_in (texts_of s))) t

-- the same, the tables one by one: as they were lent, and as they are left
abbrev pub Read : List ℕ → List Component → List Pin → List Selector → List Choice → List Model → List Waveform → List ℕ
    → Answer → List Component → List Pin → List Selector → List Choice → List Model → List Waveform → List ℕ → Type 0
Read s cs ps ss hs ms ws rs r cs' ps' ss' hs' ms' ws' rs' = Reads s (tables cs ps ss hs ms ws rs) r (tables cs' ps' ss' hs' ms' ws' rs')
