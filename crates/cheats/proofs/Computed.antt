-- Each fact is one computation of document 01's definitions on a file that is written out.
use Prim.Native.Nat.{ℕ}
use mathlib.Core.Path.{◌≡◌, refl}
use mathlib.Core.List.{List, [], ◌∷◌, ◌++◌}
use lib.ListN.{length}
use Rattle.laws.specs.Bytes.{bytes}
use Rattle.decimal.specs.declared.Cell.{Cell}
use Rattle.decimal.specs.declared.Cell.TheVariants.{Number, Missing}
use Rattle.records.specs.declared.Model.{Model}
use Rattle.lines.specs.Lines.{lines_of}
use Rattle.rules.specs.Whole.{refused, loading, texts_of}
use Rattle.rules.specs.Reading.{file_in}
use Rattle.layout.specs.Laid.{Laid, laid, counts_of}
use Rattle.examples.specs.Computing.{computing}
use Rattle.examples.specs.Starred.{first_section}
use Rattle.cut_lines.specs.InForce.{char_after_line, char_after_lines}
use Rattle.demand_three.specs.Lines.{text_on, sections_on, begins_another}
use Rattle.demand_three.specs.Demand.{AcceptedFile}
use Rattle.cheats.specs.Files.{listed, misnamed, altered, clamped}
use Rattle.cheats.specs.Cheats.{all_lent, name_length, clamp_rows, SameFirst}

-- ---- the digits of the first model's C_comp typ

abbrev pub digits_of : Cell → ℕ
digits_of (Number d) = d.digits
digits_of Missing = 0

abbrev pub comp_digits : List Model → ℕ
comp_digits [] = 0
comp_digits (m ∷ ms) = digits_of m.comp.typ

-- ---- the files

pub listed-passes : AcceptedFile all_lent listed
unfolding computing
listed-passes = record { held = _; passes = refl }

pub misnamed-fails : loading all_lent misnamed ≡ refused 15 12 0
unfolding computing
misnamed-fails = refl

pub altered-passes : AcceptedFile all_lent altered
unfolding computing
altered-passes = record { held = _; passes = refl }

pub clamped-passes : AcceptedFile all_lent clamped
unfolding computing
clamped-passes = record { held = _; passes = refl }

abbrev pub laid_of : List ℕ → Laid
laid_of s = laid (file_in (texts_of s))

-- document 01's `OK 1 2 0 1 0`, with the selectors' rows and the waveforms
pub listed-counts : counts_of (laid_of listed) ≡ record { components = 1; pins = 2; selectors = 0; choices = 0; models = 1; waveforms = 0; rows = 0 }
unfolding computing
listed-counts = refl

pub listed-rows : length (laid_of listed).rows ≡ 0
unfolding computing
listed-rows = refl

pub clamped-rows : length (laid_of clamped).rows ≡ 2
unfolding computing
clamped-rows = refl

-- the first model lies over whatever the table held
pub listed-name : (ms : List Model) → name_length ((laid_of listed).models ++ ms) ≡ 3
unfolding computing
listed-name ms = refl

pub listed-comp : (ms : List Model) → comp_digits ((laid_of listed).models ++ ms) ≡ 5
unfolding computing
listed-comp ms = refl

pub altered-comp : (ms : List Model) → comp_digits ((laid_of altered).models ++ ms) ≡ 6
unfolding computing
altered-comp ms = refl

pub clamped-clamp : (ms : List Model) → clamp_rows ((laid_of clamped).models ++ ms) ≡ 2
unfolding computing
clamped-clamp ms = refl

pub same_first : SameFirst listed altered
unfolding computing char_after_lines char_after_line sections_on begins_another text_on
same_first =
    record {
      first = lines_of (bytes (first_section "1 DOOR in1" "2 VSS GND"));
      rest = _;
      rest_too = _;
      lines = refl;
      lines_too = refl;
      one_section = refl;
      ends = refl;
      ends_too = refl;
    }
