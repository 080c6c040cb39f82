-- What the code's structs hold of what is read from a section's texts, line by line and keyword by keyword.
use Rattle.std.specs.Prelude.{ℕ, ◌+◌, ◌≤◌, ◌≡◌, List, [], cond, length, eqb}
use Rattle.laws.specs.Lists.{after}
use Rattle.keywords.specs.declared.Keyword.{Keyword}
use Rattle.keywords.specs.declared.Keyword.TheVariants as key
use Rattle.keywords.specs.declared.HeaderPart.TheVariants.{FileName, FileRev, FreeText}
use Rattle.keywords.specs.declared.ComponentPart.{ComponentPart}
use Rattle.keywords.specs.declared.ComponentPart.TheVariants.{Manufacturer, Package, Pin}
use Rattle.cut_lines.specs.Texts.{Text}
use Rattle.cut_lines.specs.Cursors.{rest, Placed}
use Rattle.cut_lines.specs.declared.Cursor.{Cursor}
use Rattle.line_rules.specs.Fields.{word_line, cells_line, takes, line_says}
use Rattle.line_rules.specs.Tables.{locations}
use Rattle.rules.specs.Reading.{under, lines_under, key_says, header_says}
use Rattle.records.specs.Stored.{no_cells, name_laid, words_laid}
use Rattle.records.specs.declared.Triple.{Triple}
use Rattle.records.specs.declared.Location.{Location}
use Rattle.records.specs.declared.Location.TheVariants.{AtPin}
use Rattle.records.specs.declared.Header.{Header}
use Rattle.lines_under.specs.Under.{is_keyless}
use Rattle.component_records.specs.declared.lists.Boxes.{Boxes}
use Rattle.component_records.specs.declared.lists.Sites.{Sites}
use Rattle.component_records.specs.declared.sections.Parts.{Parts}
use Rattle.component_records.specs.declared.sections.PartRead.{PartRead}

-- ---- the header

abbrev pub header_laid : List Text → Header
header_laid ts = record { name = words_laid (header_says "file_name" ts); revision = words_laid (header_says "file_rev" ts) }

abbrev pub no_header : Header
no_header = record { name = words_laid []; revision = words_laid [] }

-- what texts make of a header, and one keyword of them
unfoldable pub head_in : Header → List Text → Header
head_in h ts =
    record { name = key_says "file_name" (λ w ls. words_laid w) h.name ts; revision = key_says "file_rev" (λ w ls. words_laid w) h.revision ts }

abbrev pub head_step : Header → Keyword → List ℕ → List (List ℕ) → Header
head_step h key.IbisVer w ls = h
head_step h (key.InHeader FileName) w ls = record { name = words_laid w; revision = h.revision }
head_step h (key.InHeader FileRev) w ls = record { name = h.name; revision = words_laid w }
head_step h (key.InHeader (FreeText t)) w ls = h
head_step h (key.Opens o) w ls = h
head_step h (key.InComponent p) w ls = h
head_step h (key.InModel p) w ls = h
head_step h key.End w ls = h

-- ---- a component's lists: what lines make of them, one line of them, and a value at its place

unfoldable pub boxes_in : Boxes → List (List ℕ) → Boxes
boxes_in b ls =
    record {
      resistance = line_says "R_pkg" cells_line b.resistance ls;
      inductance = line_says "L_pkg" cells_line b.inductance ls;
      capacitance = line_says "C_pkg" cells_line b.capacitance ls;
    }

abbrev pub box_line : Boxes → List ℕ → Boxes
box_line b w =
    record {
      resistance = takes "R_pkg" cells_line b.resistance w;
      inductance = takes "L_pkg" cells_line b.inductance w;
      capacitance = takes "C_pkg" cells_line b.capacitance w;
    }

abbrev pub box_at : Boxes → ℕ → Triple → Boxes
box_at b n t =
    record {
      resistance = cond (eqb n 0) t b.resistance;
      inductance = cond (eqb n 1) t b.inductance;
      capacitance = cond (eqb n 2) t b.capacitance;
    }

unfoldable pub sites_in : Sites → List (List ℕ) → Sites
sites_in x ls =
    record { si = line_says "Si_location" (word_line locations) x.si ls; timing = line_says "Timing_location" (word_line locations) x.timing ls }

abbrev pub site_line : Sites → List ℕ → Sites
site_line x w =
    record { si = takes "Si_location" (word_line locations) x.si w; timing = takes "Timing_location" (word_line locations) x.timing w }

abbrev pub site_at : Sites → ℕ → Location → Sites
site_at x n l = record { si = cond (eqb n 0) l x.si; timing = cond (eqb n 1) l x.timing }

abbrev pub no_sites : Sites
no_sites = record { si = AtPin; timing = AtPin }

-- ---- a component's keywords

abbrev pub no_parts : Parts
no_parts = record { manufacturer = name_laid []; boxes = record { resistance = no_cells; inductance = no_cells; capacitance = no_cells }; pins = 0 }

-- what texts make of the parts, and one keyword of them, w being its argument and ls the lines under it
unfoldable pub parts_in : Parts → List Text → Parts
parts_in q ts =
    record {
      manufacturer = key_says "manufacturer" (λ w ls. name_laid w) q.manufacturer ts;
      boxes = boxes_in q.boxes (lines_under "package" ts);
      pins = q.pins + length (lines_under "pin" ts);
    }

abbrev pub on_part : Parts → ComponentPart → List ℕ → List (List ℕ) → Parts
on_part q Manufacturer w ls = record { manufacturer = name_laid w; boxes = q.boxes; pins = q.pins }
on_part q Package w ls = record { manufacturer = q.manufacturer; boxes = boxes_in q.boxes ls; pins = q.pins }
on_part q Pin w ls = record { manufacturer = q.manufacturer; boxes = q.boxes; pins = q.pins + length ls }

abbrev pub part_step : Parts → Keyword → List ℕ → List (List ℕ) → Parts
part_step q key.IbisVer w ls = q
part_step q (key.InHeader p) w ls = q
part_step q (key.Opens o) w ls = q
part_step q (key.InComponent p) w ls = on_part q p w ls
part_step q (key.InModel p) w ls = q
part_step q key.End w ls = q

-- a keyword read, w being its argument, and a place from where the same keywords follow
pub record PartIs (s : List ℕ) (q : Parts) (k : Keyword) (w : List ℕ) (c : Cursor) (r : PartRead) : Type 0 where
  pub parts : r.parts ≡ part_step q k w (under (rest s c))
  pub keys : after is_keyless (rest s c) ≡ after is_keyless (rest s r.next)
  pub placed : Placed s r.next
  pub rises : c.at ≤ r.next.at
  pub bounded : r.parts.pins ≤ r.next.at
