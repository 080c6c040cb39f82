-- Document 01, "Sections": [Component] with [Manufacturer], [Package] and [Pin].
use Rattle.std.specs.Prelude.{ℕ, List, map, Bool, true, false, cond, not, ◌&&◌, ◌||◌, length, eqb, leb, Ok}
use Rattle.laws.specs.Bytes.{capital}
use Rattle.laws.specs.Said.{or_else}
use Rattle.decimal.specs.Decimal.{cell_of}
use Rattle.words.specs.Words.{word, words, rest_from}
use Rattle.keywords.specs.Form.{argument}
use Rattle.keywords.specs.declared.ComponentPart.{ComponentPart}
use Rattle.keywords.specs.declared.ComponentPart.TheVariants.{Manufacturer, Package, Pin}
use Rattle.records.specs.Flaws.{Flaw, Reads, flaw, sound, flaw_in, told}
use Rattle.records.specs.Stored.{name_laid, no_cells}
use Rattle.records.specs.declared.Triple.{Triple}
use Rattle.records.specs.declared.Pin as pin
use Rattle.line_rules.specs.Fields.{is_sized, is_pin_name, is_pin_model, needs_no_model, cells_by, no_argument, line_at, word_line, cells_line, heading}
use Rattle.line_rules.specs.Tables.{component_lines, locations, package_lines}
use Rattle.given.specs.Given.{none_given, has, gave}
use Rattle.rules.specs.Going.{stop, passes, refuse, quietly, once, named_line, Went}
use Rattle.rules.specs.declared.ComponentList.{ComponentList}
use Rattle.rules.specs.declared.ComponentList.TheVariants.{ComponentFirst, ComponentShut, PackageLines, PinRows}
use Rattle.rules.specs.declared.ComponentState.{ComponentState}
use Rattle.rules.specs.declared.Stage.TheVariants.{InComponent}
use Rattle.rules.specs.declared.Event.TheVariants.{PinRow}

-- the same with another list open
abbrev pub with_list : ComponentState → ComponentList → ComponentState
with_list c l = record { line = c.line; first = c.first; parts = c.parts; list = l }

-- ---- [Pin]: "pin (1 to 8 characters), signal (1 to 40), model (1 to 40)"; "three cells may follow"; reserved words "are kept in capitals"

unfoldable pub kept_model : List ℕ → List ℕ
kept_model w = cond (needs_no_model w) (map capital w) w

-- the cells behind the three names; where none stand, they are missing
unfoldable pub pin_cells : List ℕ → Reads Triple
pin_cells v = cond (eqb (length (words v)) 0) (Ok no_cells) (cells_by cell_of v)

abbrev pub pin_from : List (List ℕ) → Triple → pin.Pin
pin_from ws c =
    record { name = name_laid (word 0 ws); signal = name_laid (word 1 ws); model = name_laid (kept_model (word 2 ws)); resistance = c.typ; inductance = c.min; capacitance = c.max }

unfoldable pub pin_in : List ℕ → pin.Pin
pin_in w = pin_from (words w) (or_else no_cells (pin_cells (rest_from 3 w)))

-- the names from the left, a missing word being none; cells stand "under the long heading" alone
unfoldable pub pin_flaw : Bool → List ℕ → Flaw
pin_flaw long w =
    cond (not (is_pin_name (word 0 (words w)))) (flaw 10 (rest_from 0 w))
    (cond (not (is_sized 40 (word 1 (words w)))) (flaw 10 (rest_from 1 w))
    (cond (not (is_pin_model (word 2 (words w)))) (flaw 10 (rest_from 2 w))
    (cond (long || leb (length (words w)) 3) (flaw_in (pin_cells (rest_from 3 w))) (flaw 10 (rest_from 3 w)))))

-- ---- a line that is no keyword line, by the list that is open: "at most one each of Si_location and Timing_location, `Pin` or `Die`";
-- "R_pkg, L_pkg, C_pkg once each, three cells typ min max"

abbrev pub component_line : ComponentState → ℕ → List ℕ → ComponentList → Went
component_line c k w ComponentFirst =
    named_line c.first (line_at component_lines w) (flaw_in (word_line locations w)) k w (λ g. InComponent (record { line = c.line; first = g; parts = c.parts; list = c.list }))
component_line c k w ComponentShut = stop 7 k
component_line c k w (PackageLines o g) =
    named_line g (line_at package_lines w) (flaw_in (cells_line w)) k w (λ h. InComponent (with_list c (PackageLines o h)))
component_line c k w (PinRows o long any) = passes (told w (pin_flaw long w)) k (Ok (InComponent (with_list c (PinRows o long true)), PinRow))

-- ---- "[Manufacturer] (1 to 40 characters), [Package], [Pin]: each once, any order"

abbrev pub component_place : ComponentPart → ℕ
component_place Manufacturer = 0
component_place Package = 1
component_place Pin = 2

abbrev pub component_flaw : List ℕ → ComponentPart → Flaw
component_flaw argument Manufacturer = cond (is_sized 40 argument) sound (flaw 10 argument)
component_flaw argument Package = no_argument argument
component_flaw argument Pin = flaw_in (heading argument)

abbrev pub component_opens : ℕ → List ℕ → ComponentPart → ComponentList
component_opens k argument Manufacturer = ComponentShut
component_opens k argument Package = PackageLines k none_given
component_opens k argument Pin = PinRows k (or_else false (heading argument)) false

unfoldable pub component_part : ComponentState → ℕ → List ℕ → ComponentPart → Went
component_part c k w p =
    once c.parts (component_place p) (told w (component_flaw (argument w) p)) k
    (λ g. InComponent (record { line = c.line; first = c.first; parts = g; list = component_opens k (argument w) p }))

-- ---- closing

-- the list: what [Package] lacks, and no pin row, are 9 at their keyword
abbrev pub component_shut : ComponentState → ComponentList → Went
component_shut c ComponentFirst = quietly (InComponent (with_list c ComponentShut))
component_shut c ComponentShut = quietly (InComponent (with_list c ComponentShut))
component_shut c (PackageLines o g) =
    refuse (not (gave g package_lines "R_pkg" && (gave g package_lines "L_pkg" && gave g package_lines "C_pkg"))) 9 o
    (quietly (InComponent (with_list c ComponentShut)))
component_shut c (PinRows o long any) = refuse (not any) 9 o (quietly (InComponent (with_list c ComponentShut)))

-- the section: 9 at [Component]
unfoldable pub component_done : ComponentState → ℕ
component_done c = cond (has c.parts (component_place Manufacturer) && (has c.parts (component_place Package) && has c.parts (component_place Pin))) 0 9
