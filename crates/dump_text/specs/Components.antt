-- The dump of a file's own lines, of components and of selectors.
use Rattle.std.specs.Prelude.{ℕ, List, [], ◌++◌, cond, eqb}
use Rattle.laws.specs.Bytes.{bytes}
use Rattle.records.specs.declared.Counts.{Counts}
use Rattle.records.specs.declared.Choice.{Choice}
use Rattle.records.specs.declared.Component.{Component}
use Rattle.records.specs.declared.Header.{Header}
use Rattle.records.specs.declared.Location.{Location}
use Rattle.records.specs.declared.Location.TheVariants.{AtPin, AtDie}
use Rattle.records.specs.declared.Pin.{Pin}
use Rattle.records.specs.declared.Selector.{Selector}
use Rattle.records.specs.Texts.{Words}
use Rattle.text_buffer.specs.Lines.{name_text, words_text, names_text, count_text, next_cell}
use Rattle.dump_text.specs.Labelled.{triple_line, count_line, name_line, words_line, section_line}

-- "OK components pins selectors choices models waveforms rows"
unfoldable pub accepted_text : Counts → List ℕ
accepted_text n =
    bytes "OK" ++ count_text n.components ++ count_text n.pins ++ count_text n.selectors ++ count_text n.choices ++ count_text n.models
    ++ count_text n.waveforms
    ++ count_text n.rows
    ++ bytes "\n"

unfoldable pub header_lines : Header → List ℕ
header_lines h = words_line (bytes "FILE_NAME") h.name ++ words_line (bytes "FILE_REV") h.revision

abbrev pub end_text : List ℕ
end_text = bytes "END\n"

-- ---- components

abbrev pub location_line : List ℕ → Location → List ℕ
location_line label AtPin = label ++ bytes " Pin\n"
location_line label AtDie = label ++ bytes " Die\n"

unfoldable pub place_lines : Component → List ℕ
place_lines c = location_line (bytes "SI_LOCATION") c.si ++ location_line (bytes "TIMING_LOCATION") c.timing

unfoldable pub package_dump : Component → List ℕ
package_dump c = triple_line (bytes "R_PKG") c.resistance ++ triple_line (bytes "L_PKG") c.inductance ++ triple_line (bytes "C_PKG") c.capacitance

unfoldable pub component_dump : ℕ → Component → List ℕ
component_dump index c =
    section_line (bytes "COMPONENT") index c.name ++ place_lines c ++ name_line (bytes "MANUFACTURER") c.manufacturer ++ package_dump c
    ++ count_line (bytes "PINS") c.pins.count

unfoldable pub pin_line : Pin → List ℕ
pin_line p =
    bytes "PIN" ++ names_text p.name p.signal p.model ++ next_cell p.resistance ++ next_cell p.inductance ++ next_cell p.capacitance
    ++ bytes "\n"

-- ---- selectors

unfoldable pub selector_lines : ℕ → Selector → List ℕ
selector_lines index s = section_line (bytes "SELECTOR") index s.name ++ count_line (bytes "CHOICES") s.choices.count

-- "`CHOICE model` if the description is empty"
unfoldable pub description_text : Words → List ℕ
description_text w = cond (eqb w.len 0) [] (bytes " " ++ words_text w)

unfoldable pub choice_line : Choice → List ℕ
choice_line c = bytes "CHOICE " ++ name_text c.model ++ description_text c.description ++ bytes "\n"
