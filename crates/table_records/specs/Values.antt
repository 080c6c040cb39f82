-- Values read back from the words of a record, from its front on. A word that is not there is 0, a cell that is not there is missing.
use Rattle.std.specs.Prelude.{ℕ, ◌*◌, ◌/◌, Bool, cond, not, List, [], ◌∷◌, eqb, ltb, length, take, drop, get_or, Some, None, Option}
use Rattle.decimal.specs.Decimal.{missing_word}
use Rattle.decimal.specs.Answers.{cell_in}
use Rattle.decimal.specs.declared.Cell.{Cell}
use Rattle.decimal.specs.declared.Cell.TheVariants.{Number, Missing}
use Rattle.records.specs.declared.Edge.{Edge}
use Rattle.records.specs.declared.Edge.TheVariants.{Rising, Falling}
use Rattle.records.specs.declared.Location.{Location}
use Rattle.records.specs.declared.Location.TheVariants.{AtPin, AtDie}
use Rattle.records.specs.declared.Polarity.{Polarity}
use Rattle.records.specs.declared.Polarity.TheVariants.{Inverting, NonInverting}
use Rattle.records.specs.declared.Enable.{Enable}
use Rattle.records.specs.declared.Enable.TheVariants.{ActiveHigh, ActiveLow}
use Rattle.records.specs.declared.ModelType.{ModelType}
use Rattle.records.specs.declared.ModelType.TheVariants.{Input, Output, InputOutput, ThreeState, OpenDrain, InputOutputOpenDrain, OpenSink, InputOutputOpenSink, OpenSource, InputOutputOpenSource, InputEcl, OutputEcl, InputOutputEcl, ThreeStateEcl, Terminator}
use Rattle.records.specs.declared.RampCell.{RampCell}
use Rattle.records.specs.declared.RampCell.TheVariants.{Ratio, Absent}

-- ---- the words of the record at place k, each record so many; none where no whole record lies there

unfoldable pub record_at : ℕ → List ℕ → ℕ → List ℕ
record_at size table k = cond (ltb k (length table / size)) (take size (drop (k * size) table)) []

-- ---- numbers and cells

abbrev pub number_at : List ℕ → ℕ → ℕ
number_at ws k = get_or ws k 0

unfoldable pub cell_at : List ℕ → ℕ → Cell
cell_at ws k = cell_in (get_or ws k missing_word)

-- ---- the case of a number

unfoldable pub flag_in : ℕ → Bool
flag_in n = not (eqb n 0)

unfoldable pub location_in : ℕ → Location
location_in n = cond (eqb n 1) AtDie AtPin

unfoldable pub polarity_in : ℕ → Option Polarity
polarity_in n = cond (eqb n 1) (Some Inverting) (cond (eqb n 2) (Some NonInverting) None)

unfoldable pub enable_in : ℕ → Option Enable
enable_in n = cond (eqb n 1) (Some ActiveHigh) (cond (eqb n 2) (Some ActiveLow) None)

unfoldable pub edge_in : ℕ → Edge
edge_in n = cond (eqb n 1) Falling Rising

-- document 01's list
unfoldable pub type_in : ℕ → ModelType
type_in n =
    get_or
    (Input ∷ Output ∷ InputOutput ∷ ThreeState ∷ OpenDrain ∷ InputOutputOpenDrain ∷ OpenSink ∷ InputOutputOpenSink ∷ OpenSource ∷ InputOutputOpenSource ∷ InputEcl ∷ OutputEcl ∷ InputOutputEcl ∷ ThreeStateEcl ∷ Terminator ∷ [])
    n Terminator

-- ---- a slope: two numbers, or missing

abbrev pub slope_in : Cell → Cell → RampCell
slope_in (Number a) (Number b) = Ratio a b
slope_in (Number a) Missing = Absent
slope_in Missing b = Absent
