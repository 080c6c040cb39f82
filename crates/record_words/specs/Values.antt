-- Values as words: bytes eight to a word, cells, and a number for each case of an enum.
use Rattle.std.specs.Prelude.{ℕ, ◌+◌, ◌*◌, Bool, true, false, List, get_or, Some, None, Option}
use Rattle.decimal.specs.Decimal.{word_of}
use Rattle.decimal.specs.declared.Cell.TheVariants.{Number, Missing}
use Rattle.records.specs.declared.Edge.{Edge}
use Rattle.records.specs.declared.Edge.TheVariants.{Rising, Falling}
use Rattle.records.specs.declared.Location.{Location}
use Rattle.records.specs.declared.Location.TheVariants.{AtPin, AtDie}
use Rattle.records.specs.declared.Polarity.{Polarity}
use Rattle.records.specs.declared.Polarity.TheVariants.{Inverting, NonInverting}
use Rattle.records.specs.declared.Enable.{Enable}
use Rattle.records.specs.declared.Enable.TheVariants.{ActiveHigh, ActiveLow}
use Rattle.records.specs.declared.RampCell.{RampCell}
use Rattle.records.specs.declared.RampCell.TheVariants.{Ratio, Absent}

-- ---- bytes from a place on, the first one lowest; 0 for those that are not there

abbrev pub two_at : List ℕ → ℕ → ℕ
two_at b i = get_or b i 0 + 256 * get_or b (i + 1) 0

abbrev pub four_at : List ℕ → ℕ → ℕ
four_at b i = two_at b i + 65536 * two_at b (i + 2)

unfoldable pub eight_at : List ℕ → ℕ → ℕ
eight_at b i = four_at b i + 4294967296 * four_at b (i + 4)

-- ---- a number for each case

abbrev pub flag_number : Bool → ℕ
flag_number true = 1
flag_number false = 0

abbrev pub location_number : Location → ℕ
location_number AtPin = 0
location_number AtDie = 1

abbrev pub polarity_number : Option Polarity → ℕ
polarity_number None = 0
polarity_number (Some Inverting) = 1
polarity_number (Some NonInverting) = 2

abbrev pub enable_number : Option Enable → ℕ
enable_number None = 0
enable_number (Some ActiveHigh) = 1
enable_number (Some ActiveLow) = 2

abbrev pub edge_number : Edge → ℕ
edge_number Rising = 0
edge_number Falling = 1

-- ---- a slope: its dividend and its divisor

abbrev pub dividend_word : RampCell → ℕ
dividend_word (Ratio a b) = word_of (Number a)
dividend_word Absent = word_of Missing

abbrev pub divisor_word : RampCell → ℕ
divisor_word (Ratio a b) = word_of (Number b)
divisor_word Absent = word_of Missing
