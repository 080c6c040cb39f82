-- What document 01 reads from a file's texts: its sections in file order, what each says, and its tables.
use Rattle.std.specs.Prelude.{ℕ, List, [], ◌∷◌, ◌++◌, map, Bool, true, false, cond, not, ◌&&◌, length, drop, Ok, Err, None}
use Prim.Native.String.{String}
use Rattle.laws.specs.Bytes.{bytes, is_blank}
use Rattle.laws.specs.Lists.{front, after, eqs, one_of}
use Rattle.laws.specs.Said.{or_else}
use Rattle.decimal.specs.declared.Cell.{Cell}
use Rattle.decimal.specs.declared.Cell.TheVariants.{Missing}
use Rattle.words.specs.Words.{word, words}
use Rattle.keywords.specs.Form.{inside, is_formed, spelled, argument}
use Rattle.cut_lines.specs.Texts.{Text, plain, change}
use Rattle.records.specs.Flaws.{Reads}
use Rattle.records.specs.Stored.{name_laid, words_laid, no_cells, no_slopes}
use Rattle.records.specs.declared.Row.{Row}
use Rattle.records.specs.declared.Span.{Span}
use Rattle.records.specs.declared.Table.{Table}
use Rattle.records.specs.declared.Range.{Range}
use Rattle.records.specs.declared.Split.{Split}
use Rattle.records.specs.declared.RampTable.{RampTable}
use Rattle.records.specs.declared.Component.{Component}
use Rattle.records.specs.declared.Pin.{Pin}
use Rattle.records.specs.declared.Choice.{Choice}
use Rattle.records.specs.declared.Model.{Model}
use Rattle.records.specs.declared.Waveform.{Waveform}
use Rattle.records.specs.declared.Edge.{Edge}
use Rattle.records.specs.declared.Edge.TheVariants.{Rising, Falling}
use Rattle.records.specs.declared.Location.TheVariants.{AtPin}
use Rattle.records.specs.declared.ModelType.TheVariants.{Terminator}
use Rattle.records.specs.declared.Model.Model.{ground}
use Rattle.line_rules.specs.Fields.{is_bracketed, three_cells, row_of, word_line, cells_line, group_line, slopes_line, number_line, line_says}
use Rattle.line_rules.specs.Tables.{locations, model_types, polarities, enables, table_keywords}
use Rattle.rules.specs.Component.{pin_in}
use Rattle.rules.specs.Types.{thresholds}

-- ---- keyword lines

-- a keyword in small letters with underscores; empty where the text is no keyword line
abbrev pub key_name : Text → List ℕ
key_name (plain k w) = cond (is_bracketed w && is_formed w) (spelled (inside w)) []
key_name (change k f) = []

abbrev pub is_key : String → Text → Bool
is_key name t = eqs (key_name t) (bytes name)

abbrev pub argument_at : Text → List ℕ
argument_at (plain k w) = argument w
argument_at (change k f) = []

-- the lines under a keyword: those up to the next keyword line
unfoldable pub under : List Text → List (List ℕ)
under [] = []
under (plain k w ∷ ts) = cond (is_bracketed w) [] (w ∷ under ts)
under (change k f ∷ ts) = under ts

-- the lines under the keyword of this name
unfoldable pub lines_under : String → List Text → List (List ℕ)
lines_under name [] = []
lines_under name (t ∷ ts) = cond (is_key name t) (under ts) [] ++ lines_under name ts

-- what `read` makes of the argument of the keyword of this name and of the lines under it; where there is none, what was said before
unfoldable pub key_says : {A : Type 0} → String → (List ℕ → List (List ℕ) → A) → A → List Text → A
key_says name read before [] = before
key_says name read before (t ∷ ts) = key_says name read (cond (is_key name t) (read (argument_at t) (under ts)) before) ts

-- ---- [Component]; n is the section's place in the file, ts are its texts behind its keyword

unfoldable pub pins_in : List Text → List Pin
pins_in ts = map pin_in (lines_under "pin" ts)

-- Si_location and Timing_location: "(Pin if absent)"
unfoldable pub component_in : ℕ → Span → List ℕ → List Text → Component
component_in n pins name ts =
    record {
      section = n;
      name = name_laid name;
      si = line_says "Si_location" (word_line locations) AtPin (under ts);
      timing = line_says "Timing_location" (word_line locations) AtPin (under ts);
      manufacturer = key_says "manufacturer" (λ w ls. name_laid w) (name_laid []) ts;
      resistance = line_says "R_pkg" cells_line no_cells (lines_under "package" ts);
      inductance = line_says "L_pkg" cells_line no_cells (lines_under "package" ts);
      capacitance = line_says "C_pkg" cells_line no_cells (lines_under "package" ts);
      pins = pins;
    }

-- ---- [Model Selector]: "rows of a model name (1 to 40) and a free description, maybe empty"

unfoldable pub choice_in : List ℕ → Choice
choice_in w =
    record { model = name_laid (word 0 (words w)); description = words_laid (after is_blank (drop (length (word 0 (words w))) (after is_blank w))) }

unfoldable pub choices_in : List Text → List Choice
choices_in ts = map choice_in (under ts)

-- ---- [Model]

unfoldable pub number_said : String → List (List ℕ) → Cell
number_said name ls = line_says name number_line Missing ls

-- three cells on the keyword's line
abbrev pub range_in : List ℕ → List (List ℕ) → Range
range_in w ls = record { given = true; cells = or_else no_cells (three_cells w) }

abbrev pub no_range : Range
no_range = record { given = false; cells = no_cells }

abbrev pub ramp_in : List ℕ → List (List ℕ) → RampTable
ramp_in w ls =
    record { given = true; rise = line_says "dV/dt_r" slopes_line no_slopes ls; fall = line_says "dV/dt_f" slopes_line no_slopes ls; load = number_said "R_load" ls }

abbrev pub no_ramp : RampTable
no_ramp = record { given = false; rise = no_slopes; fall = no_slopes; load = Missing }

abbrev pub no_split : Split
no_split = record { pullup = no_range; pulldown = no_range; power = no_range; ground = no_range }

-- "each present with a typ number or absent as a whole": what lines say of each, or what was said before
unfoldable pub split_says : Split → List (List ℕ) → Split
split_says before ls =
    record {
      pullup = line_says "C_comp_pullup" group_line before.pullup ls;
      pulldown = line_says "C_comp_pulldown" group_line before.pulldown ls;
      power = line_says "C_comp_power_clamp" group_line before.power ls;
      ground = line_says "C_comp_gnd_clamp" group_line before.ground ls;
    }

unfoldable pub model_in : ℕ → (String → Table) → Span → List ℕ → List Text → Model
model_in n table waveforms name ts =
    let first = under ts in
    let kind = line_says "Model_type" (word_line model_types) Terminator first in
    let t = thresholds kind (number_said "Vinl" first) (number_said "Vinh" first) in
    record {
      section = n;
      name = name_laid name;
      kind = kind;
      polarity = line_says "Polarity" (word_line polarities) None first;
      enable = line_says "Enable" (word_line enables) None first;
      comp = line_says "C_comp" cells_line no_cells first;
      split = split_says no_split first;
      vinl = t.vinl;
      vinh = t.vinh;
      vmeas = number_said "Vmeas" first;
      cref = number_said "Cref" first;
      rref = number_said "Rref" first;
      vref = number_said "Vref" first;
      voltage = (key_says "voltage_range" range_in no_range ts).cells;
      temperature = key_says "temperature_range" range_in no_range ts;
      pulldown = table "pulldown";
      pullup = table "pullup";
      ground = table "gnd_clamp";
      power = table "power_clamp";
      ramp = key_says "ramp" ramp_in no_ramp ts;
      waveforms = waveforms;
    }

-- ---- its tables in file order: "In file order, each table's rows are written into the rest of the lent row store"

pub record TableIs : Type 0 where
  pub key : List ℕ
  pub lines : List (List ℕ)

unfoldable pub tables_in : List Text → List TableIs
tables_in [] = []
tables_in (t ∷ ts) =
    cond (one_of (key_name t) (words (bytes table_keywords))) (record { key = key_name t; lines = under ts } ∷ []) [] ++ tables_in ts

abbrev pub onto_rows : Reads Row → List Row → List Row
onto_rows (Ok r) rs = r ∷ rs
onto_rows (Err f) rs = rs

-- a waveform's named lines are no rows: their first word is no number
unfoldable pub rows_in : List (List ℕ) → List Row
rows_in [] = []
rows_in (w ∷ ws) = onto_rows (row_of w) (rows_in ws)

unfoldable pub edge_of : List ℕ → Edge
edge_of key = cond (eqs key (bytes "rising_waveform")) Rising Falling

unfoldable pub waveform_in : ℕ → Edge → List (List ℕ) → Waveform
waveform_in row edge ls =
    record {
      edge = edge;
      rfixture = number_said "R_fixture" ls;
      vfixture = number_said "V_fixture" ls;
      vmin = number_said "V_fixture_min" ls;
      vmax = number_said "V_fixture_max" ls;
      cfixture = number_said "C_fixture" ls;
      lfixture = number_said "L_fixture" ls;
      rdut = number_said "R_dut" ls;
      ldut = number_said "L_dut" ls;
      cdut = number_said "C_dut" ls;
      rows = record { start = row; count = length (rows_in ls) };
    }

-- ---- the file: "Sections open at [Component], [Model Selector] and [Model], and end before the next of these or [End]"

-- a section's name or argument, and the texts behind its keyword
pub data SectionIs : Type 0 where
  component : List ℕ → List Text → SectionIs
  selector : List ℕ → List Text → SectionIs
  model : List ℕ → List Text → SectionIs

abbrev pub is_within : Text → Bool
is_within t = not (one_of (key_name t) (words (bytes "component model_selector model end")))

unfoldable pub sections_in : List Text → List SectionIs
sections_in [] = []
sections_in (t ∷ ts) =
    cond (is_key "component" t) (component (argument_at t) (front is_within ts) ∷ sections_in ts)
    (cond (is_key "model_selector" t) (selector (word 0 (words (argument_at t))) (front is_within ts) ∷ sections_in ts)
    (cond (is_key "model" t) (model (word 0 (words (argument_at t))) (front is_within ts) ∷ sections_in ts)
    (sections_in ts)))

pub record FileIs : Type 0 where
  pub name : List ℕ
  pub revision : List ℕ
  pub sections : List SectionIs

-- the header is what stands before the first section
unfoldable pub header_says : String → List Text → List ℕ
header_says name ts = key_says name (λ w ls. w) [] (front is_within ts)

unfoldable pub file_in : List Text → FileIs
file_in ts = record { name = header_says "file_name" ts; revision = header_says "file_rev" ts; sections = sections_in ts }
