-- The summary of an accepted file: what it is, how much it has, and its pins in columns.
use Rattle.std.specs.Prelude.{ℕ, ◌-◌, List, [], ◌++◌, cond, length, replicate}
use Prim.Native.Char.{code}
use Rattle.laws.specs.Bytes.{bytes}
use Rattle.decimal.specs.declared.Cell.{Cell}
use Rattle.decimal.specs.declared.Cell.TheVariants.{Number, Missing}
use Rattle.records.specs.declared.Counts.{Counts}
use Rattle.records.specs.declared.Component.{Component}
use Rattle.records.specs.declared.Header.{Header}
use Rattle.records.specs.declared.Model.{Model}
use Rattle.records.specs.Texts.{Name}
use Rattle.records.specs.declared.Pin.{Pin}
use Rattle.text_buffer.specs.Lines.{name_text, words_text}
use Rattle.text_buffer.specs.Numerals.{numeral_of, plain_text}
use Rattle.line_rules.specs.Tables.{type_name}
use Rattle.questions.specs.Named.{same_name}
use Rattle.explain_text.specs.declared.summaries.Widths.{Widths}

-- ---- the file

unfoldable pub header_text : List ℕ → Header → List ℕ
header_text name h =
    name ++ bytes ": accepted\nfile name: " ++ words_text h.name ++ bytes "\nrevision: " ++ words_text h.revision ++ bytes "\n"

abbrev pub labelled_text : List ℕ → ℕ → List ℕ
labelled_text label n = label ++ numeral_of n

unfoldable pub counts_text : Counts → List ℕ
counts_text n =
    labelled_text (bytes "components: ") n.components ++ labelled_text (bytes ", pins: ") n.pins ++ labelled_text (bytes ", selectors: ") n.selectors
    ++ labelled_text (bytes ", models: ") n.models ++ labelled_text (bytes ", waveforms: ") n.waveforms ++ labelled_text (bytes ", table rows: ") n.rows
    ++ bytes "\n"

-- ---- columns

-- what fills a column behind n characters, and the two blanks before the next
unfoldable pub gap_text : ℕ → ℕ → List ℕ
gap_text width n = replicate (width - n) (code " ") ++ bytes "  "

unfoldable pub column : ℕ → List ℕ → List ℕ
column width text = text ++ gap_text width (length text)

-- volts, written out; a missing cell is a dash
abbrev pub level_text : Cell → List ℕ
level_text (Number d) = plain_text d
level_text Missing = bytes "-"

-- ---- a component and its pins

unfoldable pub component_text : Component → List ℕ
component_text c = bytes "\ncomponent " ++ name_text c.name ++ bytes ", manufacturer " ++ name_text c.manufacturer ++ bytes "\n"

unfoldable pub heading_text : Widths → List ℕ
heading_text w =
    bytes "  " ++ column w.pin (bytes "pin") ++ column w.signal (bytes "signal") ++ column w.model (bytes "model")
    ++ bytes "type             Vinl (V)  Vinh (V)\n"

unfoldable pub pin_columns : Widths → Pin → Name → List ℕ
pin_columns w p model =
    bytes "  " ++ column w.pin (name_text p.name) ++ column w.signal (name_text p.signal) ++ column w.model (name_text model)

-- the selector, where the pin names one: its model has then another name
unfoldable pub selector_text : Pin → Model → List ℕ
selector_text p m = cond (same_name m.name p.model) [] (bytes "  by selector " ++ name_text p.model)

-- a pin with the model chosen for it
unfoldable pub pin_text : Widths → Pin → Model → List ℕ
pin_text w p m =
    pin_columns w p m.name ++ column 15 (type_name m.kind) ++ column 8 (level_text m.vinl) ++ level_text m.vinh ++ selector_text p m ++ bytes "\n"

-- a pin that needs no model
unfoldable pub bare_text : Widths → Pin → List ℕ
bare_text w p = pin_columns w p p.model ++ bytes "-                -         -\n"
