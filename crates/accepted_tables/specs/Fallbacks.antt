-- Where what is read falls back (a bad cell to a missing one, a bad row to none, no type to Terminator, no file name to an empty one, a long name to
-- its first 40 bytes), the fallback never speaks in an accepted file.
use Rattle.std.specs.Prelude.{ℕ, ◌≤◌, ◌≡◌, List, [], ◌⊎◌, Bool, true, false, length, Ok}
use Rattle.laws.specs.Bytes.{bytes}
use Rattle.laws.specs.Lists.{one_of, Every}
use Rattle.words.specs.Words.{word, words}
use Rattle.cut_lines.specs.Texts.{Text}
use Rattle.records.specs.Flaws.{Flaw, flaw_in}
use Rattle.records.specs.declared.ModelType.{ModelType}
use Rattle.records.specs.declared.Row.{Row}
use Rattle.line_rules.specs.Fields.{is_sized, is_model_name, is_file_name, word_line, cells_line, number_line, row_of, line_says}
use Rattle.line_rules.specs.Tables.{locations, model_types, waveform_keywords}
use Rattle.rules.specs.Component.{pin_flaw}
use Rattle.rules.specs.Model.{first_flaw, ramp_flaw, begins_letter}
use Rattle.rules.specs.Reading.{under, lines_under, key_says, TableIs, tables_in, SectionIs, component, selector, model, FileIs}

-- ---- lines without a fault

abbrev pub Flawless : Flaw → Type 0
Flawless f = f.number ≡ 0

-- Si_location and Timing_location; R_pkg, L_pkg and C_pkg
abbrev pub LocationLine : List ℕ → Type 0
LocationLine w = Flawless (flaw_in (word_line locations w))

abbrev pub PackageLine : List ℕ → Type 0
PackageLine w = Flawless (flaw_in (cells_line w))

-- a pin's row, under one heading or the other
abbrev pub PinLine : List ℕ → Type 0
PinLine w = (long : Bool) × Flawless (pin_flaw long w)

abbrev pub ChoiceLine : List ℕ → Type 0
ChoiceLine w = is_model_name (word 0 (words w)) ≡ true

-- a number and three cells
abbrev pub RowLine : List ℕ → Type 0
RowLine w = (r : Row) × (row_of w ≡ Ok r)

-- a waveform's named line, which begins with a letter
abbrev pub FixtureLine : List ℕ → Type 0
FixtureLine w = (begins_letter (word 0 (words w)) ≡ true) × Flawless (flaw_in (number_line w))

-- a waveform's lines, and those of another table
abbrev pub TableLines : Bool → List (List ℕ) → Type 0
TableLines true ls = Every (λ (w : List ℕ). RowLine w ⊎ FixtureLine w) ls
TableLines false ls = Every RowLine ls

-- ---- a component's texts

pub record ComponentSaid (ts : List Text) : Type 0 where
  -- "(1 to 40 characters)"
  pub maker : is_sized 40 (key_says "manufacturer" (λ w ls. w) [] ts) ≡ true
  pub first : Every LocationLine (under ts)
  pub packaged : Every PackageLine (lines_under "package" ts)
  pub pins : Every PinLine (lines_under "pin" ts)

-- ---- a model's texts

pub record ModelSaid (ts : List Text) : Type 0 where
  -- whatever else stood where no type is given, the type would be the same: it is given
  pub type : (x y : ModelType) → line_says "Model_type" (word_line model_types) x (under ts) ≡ line_says "Model_type" (word_line model_types) y (under ts)
  pub first : Every (λ (w : List ℕ). Flawless (first_flaw w)) (under ts)
  pub ramp : Every (λ (w : List ℕ). Flawless (ramp_flaw w)) (lines_under "ramp" ts)
  pub tables : Every (λ (t : TableIs). TableLines (one_of t.key (words (bytes waveform_keywords))) t.lines) (tables_in ts)

-- ---- a section, and its name w: it has 1 to 40 characters, so that none of them is cut

abbrev pub SectionSaid : SectionIs → Type 0
SectionSaid (component w ts) = (is_sized 40 w ≡ true) × ComponentSaid ts
SectionSaid (selector w ts) = (is_model_name w ≡ true) × Every ChoiceLine (under ts)
SectionSaid (model w ts) = (is_model_name w ≡ true) × ModelSaid ts

-- ---- a file: its header, and every section

-- one word, which passes the test
abbrev pub OneWord : (List ℕ → Bool) → List ℕ → Type 0
OneWord p w = (length (words w) ≡ 1) × (p (word 0 (words w)) ≡ true)

pub record FileSaid (f : FileIs) : Type 0 where
  -- "[File Name] (one word: ..), [File Rev] (not empty), both required"
  pub name : OneWord is_file_name f.name
  pub revision : 1 ≤ length f.revision
  pub sections : Every SectionSaid f.sections
