-- What counts and what does not, by computing: files that differ in the order of two tables say the same, though their rows lie elsewhere; files that
-- differ in one digit do not, nor do an absent part of C_comp and one of zero; files that differ in all else that is not kept have equal tables, so they say the same by `kept`.
use Rattle.std.specs.Prelude.{Option, None, Some, Ok}
use Prim.Native.Nat.{ℕ}
use Prim.Native.String.{String, ◌++◌ as ◌++ˢ◌}
use mathlib.Core.Path.{◌≡◌, refl, ap}
use mathlib.Core.List.{List, [], ◌∷◌}
use mathlib.Core.Bool.{cond}
use native.Mathlib.Omega.{arith}
use lib.ListN.{drop}
use Rattle.laws.specs.Bytes.{bytes}
use Rattle.laws.specs.Lists.{front}
use Rattle.decimal.specs.declared.Cell.{Cell}
use Rattle.decimal.specs.declared.Cell.TheVariants.{Number, Missing}
use Rattle.cut_lines.specs.Texts.{Text}
use Rattle.rules.specs.Whole.{outcome, texts_of}
use Rattle.rules.specs.Reading.{pins_in, component_in, model_in, tables_in, is_within, FileIs, file_in}
use Rattle.rules.specs.Same.{nowhere, no_table, table_of, SaysTheSame}
use Rattle.layout.specs.Laid.{Laid, laid}
use Rattle.records.specs.Stored.{words_laid}
use Rattle.records.specs.declared.Row.{Row}
use Rattle.records.specs.declared.Model.{Model}
use Rattle.examples.specs.Computing.{computing}
use Rattle.examples.specs.Starred.{verdict, at_bounds}
use Rattle.tables_say.specs.Kept.{header_answered}
use Rattle.tables_say.proofs.Kept.{kept}

-- ---- the files

-- a model with these lines behind C_comp, and these tables
abbrev with_lines : String → String → String
with_lines lines tables =
    "[IBIS Ver] 5.0\n[File Name] lk.ibs\n[File Rev] 1\n[Component] LK1\n[Manufacturer] House\n[Package]\nR_pkg 1 NA NA\nL_pkg 1 NA NA\nC_pkg 1 NA NA\n[Pin] signal_name model_name\n1 DOOR end\n[Model] end\nModel_type Terminator\nC_comp 5pF NA NA\n"
    ++ˢ lines ++ˢ "[Voltage Range] 3.3 NA NA\n" ++ˢ tables ++ˢ "[End]\n"

abbrev with_tables : String → String
with_tables tables = with_lines "" tables

abbrev down : String
down = "[Pulldown]\n-1 -50mA NA NA\n0 0 NA NA\n5 60mA NA NA\n"

abbrev up : String
up = "[Pullup]\n-1 40mA NA NA\n5 -70mA NA NA\n"

abbrev down_first : String
down_first = with_tables (down ++ˢ up)

abbrev up_first : String
up_first = with_tables (up ++ˢ down)

abbrev other_digit : String
other_digit = with_tables (down ++ˢ "[Pullup]\n-1 40mA NA NA\n5 -71mA NA NA\n")

-- "but not comments, the five texts, the order of other parts within a section, the choice of pin heading or the spelling of numbers"
abbrev plainly : String
plainly = with_tables up

abbrev zero_pullup : String
zero_pullup = with_lines "C_comp_pullup 0 NA NA\n" up

abbrev oddly : String
oddly =
    "[ibis_ver] 5.0 | here it begins\n[File Rev]  1\n[Notes] none\nof these count\n[File Name] lk.ibs\n[COMPONENT] LK1\n[Pin] signal_name model_name R_pin L_pin C_pin\n1 DOOR end\n[Package]\nC_pkg 1e0 na NA\nL_pkg 1.0 NA NA\nR_pkg 1 NA NA\n[Manufacturer] House\n"
    ++ˢ "[Comment Char] #_char\n[Model] end # the only one\nC_comp .005nF NA NA\nModel_type Terminator\n[Pullup]\n-1.0 4e-2 NA NA\n5 -70000uA NA NA\n[Voltage Range] 3300m NA NA\n[End]\n"

abbrev Passes : String → Type 0
Passes s = verdict (outcome at_bounds (bytes s)) ≡ Ok tt

pub all-accepted : Passes down_first × Passes up_first × Passes other_digit × Passes plainly × Passes zero_pullup × Passes oddly
unfolding computing
all-accepted = (refl, refl, refl, refl, refl, refl)

abbrev read : String → FileIs
read s = file_in (texts_of (bytes s))

-- the texts of the section whose keyword is the n-th line
abbrev texts_of_section : ℕ → String → List Text
texts_of_section n s = front is_within (drop n (texts_of (bytes s)))

-- ---- the order of two tables does not count

pub order-free : SaysTheSame (read down_first) (read up_first)
unfolding computing
order-free =
    let ts = texts_of_section 4 down_first in
    let us = texts_of_section 12 down_first in
    record {
      name = refl {a = words_laid (bytes "lk.ibs")};
      revision = refl {a = words_laid (bytes "1")};
      sections = (
        (refl {a = component_in 0 nowhere (bytes "LK1") ts}, refl {a = pins_in ts}),
        (
          record {
            model = refl {a = model_in 0 no_table nowhere (bytes "end") us};
            pulldown = refl {a = table_of (tables_in us) "pulldown"};
            pullup = refl {a = table_of (tables_in us) "pullup"};
            ground = refl {a = None};
            power = refl {a = None};
            waveforms = refl {a = []};
          },
          tt,
        ),
      );
    }

-- the place of the first model's pulldown rows
abbrev pulldown_at : List Model → ℕ
pulldown_at [] = 0
pulldown_at (m ∷ ms) = m.pulldown.rows.start

pub rows-elsewhere : laid (read down_first) ≡ laid (read up_first) → ⊥
unfolding computing
rows-elsewhere e =
    let f : ◌≡◌ {A = ℕ} 0 2 = ap (λ (l : Laid). pulldown_at l.models) e in
    omega arith

-- ---- one digit counts

abbrev digits_in : Cell → ℕ
digits_in (Number d) = d.digits
digits_in Missing = 0

-- the digits of the second row's typ
abbrev second_typ : Option (List Row) → ℕ
second_typ None = 0
second_typ (Some []) = 0
second_typ (Some (r ∷ [])) = 0
second_typ (Some (r ∷ q ∷ rs)) = digits_in q.cells.typ

pub digit-counts : SaysTheSame (read down_first) (read other_digit) → ⊥
unfolding computing
digit-counts h =
    let x = table_of (tables_in (texts_of_section 12 down_first)) "pullup" in
    let y = table_of (tables_in (texts_of_section 12 other_digit)) "pullup" in
    let f : ◌≡◌ {A = ℕ} 7 71 = ap second_typ {x = x} {y = y} h.sections.1.0.pullup in
    omega arith

-- ---- a part of C_comp that is zero is not absent

pub zero-is-given : SaysTheSame (read plainly) (read zero_pullup) → ⊥
unfolding computing
zero-is-given h =
    let x = model_in 0 no_table nowhere (bytes "end") (texts_of_section 12 plainly) in
    let y = model_in 0 no_table nowhere (bytes "end") (texts_of_section 12 zero_pullup) in
    let f : ◌≡◌ {A = ℕ} 0 1 = ap (λ (m : Model). cond m.split.pullup.given 1 0) {x = x} {y = y} h.sections.1.0.model in
    omega arith

-- ---- all else that is not kept does not count

equal-headers : header_answered (read plainly) ≡ header_answered (read oddly)
unfolding computing
equal-headers = refl {a = header_answered (read plainly)}

equal-tables : laid (read plainly) ≡ laid (read oddly)
unfolding computing
equal-tables = refl {a = laid (read plainly)}

pub spelling-free : SaysTheSame (read plainly) (read oddly)
spelling-free = kept (read plainly) (read oddly) equal-headers equal-tables
