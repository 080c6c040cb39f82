-- The dump of models: their own lines, tables, ramps, waveforms and rows.
use Rattle.std.specs.Prelude.{ℕ, List, ◌++◌, cond, Some, None, Option}
use Rattle.laws.specs.Bytes.{bytes}
use Rattle.decimal.specs.Answers.{cell_in}
use Rattle.records.specs.declared.Edge.{Edge}
use Rattle.records.specs.declared.Edge.TheVariants.{Rising, Falling}
use Rattle.records.specs.declared.Polarity.{Polarity}
use Rattle.records.specs.declared.Polarity.TheVariants.{Inverting, NonInverting}
use Rattle.records.specs.declared.Enable.{Enable}
use Rattle.records.specs.declared.Enable.TheVariants.{ActiveHigh, ActiveLow}
use Rattle.records.specs.declared.Model.{Model}
use Rattle.records.specs.declared.ModelType.{ModelType}
use Rattle.records.specs.declared.RampCell.{RampCell}
use Rattle.records.specs.declared.RampCell.TheVariants.{Ratio, Absent}
use Rattle.records.specs.declared.RampTable.{RampTable}
use Rattle.records.specs.declared.RampTriple.{RampTriple}
use Rattle.records.specs.declared.Split.{Split}
use Rattle.records.specs.declared.Table.{Table}
use Rattle.records.specs.declared.Waveform.{Waveform}
use Rattle.line_rules.specs.Tables.{type_name}
use Rattle.text_buffer.specs.Lines.{count_text, next_cell}
use Rattle.text_buffer.specs.Numerals.{decimal_text}
use Rattle.dump_text.specs.Labelled.{cell_line, triple_line, count_line, section_line, range_line}

-- ---- a model's own lines

unfoldable pub type_line : ModelType → List ℕ
type_line k = bytes "MODEL_TYPE " ++ type_name k ++ bytes "\n"

-- "`-`: not given"
abbrev pub polarity_line : Option Polarity → List ℕ
polarity_line None = bytes "POLARITY -\n"
polarity_line (Some Inverting) = bytes "POLARITY Inverting\n"
polarity_line (Some NonInverting) = bytes "POLARITY Non-Inverting\n"

abbrev pub enable_line : Option Enable → List ℕ
enable_line None = bytes "ENABLE -\n"
enable_line (Some ActiveHigh) = bytes "ENABLE Active-High\n"
enable_line (Some ActiveLow) = bytes "ENABLE Active-Low\n"

unfoldable pub head_lines : ℕ → Model → List ℕ
head_lines index m =
    section_line (bytes "MODEL") index m.name ++ type_line m.kind ++ polarity_line m.polarity ++ enable_line m.enable
    ++ triple_line (bytes "C_COMP") m.comp

-- "`-`: absent"
unfoldable pub split_lines : Split → List ℕ
split_lines s =
    range_line (bytes "C_COMP_PULLUP") s.pullup ++ range_line (bytes "C_COMP_PULLDOWN") s.pulldown ++ range_line (bytes "C_COMP_POWER_CLAMP") s.power
    ++ range_line (bytes "C_COMP_GND_CLAMP") s.ground

unfoldable pub level_lines : Model → List ℕ
level_lines m =
    cell_line (bytes "VINL") m.vinl ++ cell_line (bytes "VINH") m.vinh ++ cell_line (bytes "VMEAS") m.vmeas ++ cell_line (bytes "CREF") m.cref
    ++ cell_line (bytes "RREF") m.rref
    ++ cell_line (bytes "VREF") m.vref

unfoldable pub range_lines : Model → List ℕ
range_lines m = triple_line (bytes "VOLTAGE_RANGE") m.voltage ++ range_line (bytes "TEMPERATURE_RANGE") m.temperature

unfoldable pub model_dump : ℕ → Model → List ℕ
model_dump index m = head_lines index m ++ split_lines m.split ++ level_lines m ++ range_lines m

-- ---- tables: "`TABLE Pulldown -` if absent"

unfoldable pub table_text : Table → List ℕ
table_text t = cond t.given (count_text t.rows.count) (bytes " -")

unfoldable pub table_line : List ℕ → Table → List ℕ
table_line name t = bytes "TABLE " ++ name ++ table_text t ++ bytes "\n"

-- ---- ramps: "each x is `NA`, or cell `/` cell"

abbrev pub slope_text : RampCell → List ℕ
slope_text (Ratio above below) = bytes " " ++ decimal_text above ++ bytes "/" ++ decimal_text below
slope_text Absent = bytes " NA"

unfoldable pub slopes_dump : List ℕ → RampTriple → List ℕ
slopes_dump label s = label ++ slope_text s.typ ++ slope_text s.min ++ slope_text s.max ++ bytes "\n"

-- "`RAMP -` if absent, and then no DVDT_R, DVDT_F, R_LOAD"
unfoldable pub ramp_dump : RampTable → List ℕ
ramp_dump r =
    cond r.given
    (bytes "RAMP +\n" ++ slopes_dump (bytes "DVDT_R") r.rise ++ slopes_dump (bytes "DVDT_F") r.fall ++ cell_line (bytes "R_LOAD") r.load)
    (bytes "RAMP -\n")

-- ---- waveforms

unfoldable pub waveforms_line : Model → List ℕ
waveforms_line m = count_line (bytes "WAVEFORMS") m.waveforms.count

abbrev pub edge_text : Edge → List ℕ
edge_text Rising = bytes "WAVEFORM Rising"
edge_text Falling = bytes "WAVEFORM Falling"

unfoldable pub fixture_lines : Waveform → List ℕ
fixture_lines w =
    cell_line (bytes "R_FIXTURE") w.rfixture ++ cell_line (bytes "V_FIXTURE") w.vfixture ++ cell_line (bytes "V_FIXTURE_MIN") w.vmin
    ++ cell_line (bytes "V_FIXTURE_MAX") w.vmax
    ++ cell_line (bytes "C_FIXTURE") w.cfixture
    ++ cell_line (bytes "L_FIXTURE") w.lfixture

unfoldable pub device_lines : Waveform → List ℕ
device_lines w = cell_line (bytes "R_DUT") w.rdut ++ cell_line (bytes "L_DUT") w.ldut ++ cell_line (bytes "C_DUT") w.cdut

unfoldable pub waveform_lines : Waveform → List ℕ
waveform_lines w = edge_text w.edge ++ count_line (bytes "") w.rows.count ++ fixture_lines w ++ device_lines w

-- ---- rows, as words of the row store

unfoldable pub word_text : ℕ → List ℕ
word_text w = next_cell (cell_in w)

unfoldable pub row_dump : ℕ → ℕ → ℕ → ℕ → List ℕ
row_dump number typ min max = bytes "ROW" ++ word_text number ++ word_text typ ++ word_text min ++ word_text max ++ bytes "\n"
