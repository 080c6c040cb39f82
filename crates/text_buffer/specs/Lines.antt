-- Lines of the listing, and what the dump's lines share with them.
use Rattle.std.specs.Prelude.{ℕ, List, ◌++◌, take}
use Rattle.laws.specs.Bytes.{bytes}
use Rattle.records.specs.declared.Fault.{Fault}
use Rattle.decimal.specs.declared.Cell.{Cell}
use Rattle.records.specs.Texts.{Name, Words}
use Rattle.records.specs.declared.Counts.{Counts}
use Rattle.text_buffer.specs.Numerals.{numeral_of, cell_text}

-- a text of the records: the bytes that its length counts
abbrev pub name_text : Name → List ℕ
name_text n = take n.len n.bytes

abbrev pub words_text : Words → List ℕ
words_text w = take w.len w.bytes

-- ---- with a space before each

unfoldable pub count_text : ℕ → List ℕ
count_text n = bytes " " ++ numeral_of n

unfoldable pub next_cell : Cell → List ℕ
next_cell c = bytes " " ++ cell_text c

unfoldable pub names_text : Name → Name → Name → List ℕ
names_text pin signal model = bytes " " ++ name_text pin ++ bytes " " ++ name_text signal ++ bytes " " ++ name_text model

-- ---- "writes `OK` with counts of components, pins, selectors, models and rows"

unfoldable pub accepted_text : Counts → List ℕ
accepted_text n =
    bytes "OK" ++ count_text n.components ++ count_text n.pins ++ count_text n.selectors ++ count_text n.models ++ count_text n.rows
    ++ bytes "\n"

-- "Refused: `NO`, number, line"; document 02: "The listing's `NO` line gets the column as a third number"
unfoldable pub refused_text : Fault → List ℕ
refused_text f = bytes "NO" ++ count_text f.number ++ count_text f.line ++ count_text f.column ++ bytes "\n"

-- "for each pin `P`, pin, signal, model after selection .., Vinl, Vinh"
unfoldable pub pin_text : Name → Name → Name → Cell → Cell → List ℕ
pin_text pin signal model vinl vinh = bytes "P" ++ names_text pin signal model ++ next_cell vinl ++ next_cell vinh ++ bytes "\n"
