-- Document 01, "Sections", [Model]: what a model's type asks of it, and the thresholds that it takes; document 02, §2, decides on ECL.
use Rattle.std.specs.Prelude.{◌-◌, [], ◌∷◌, Bool, false, true, cond, not, ◌||◌, take}
use Rattle.laws.specs.Bytes.{bytes}
use Rattle.laws.specs.Lists.{eqs, one_of}
use Rattle.decimal.specs.Decimal.{less_than, offset}
use Rattle.decimal.specs.declared.Cell.{Cell}
use Rattle.decimal.specs.declared.Cell.TheVariants.{Number, Missing}
use Rattle.records.specs.declared.ModelType.{ModelType}
use Rattle.line_rules.specs.Tables.{type_name}
use Rattle.rules.specs.declared.Thresholds.{Thresholds}

-- "Types that begin Input or I/O"
unfoldable pub is_input : ModelType → Bool
is_input t = eqs (take 5 (type_name t)) (bytes "Input") || eqs (take 3 (type_name t)) (bytes "I/O")

-- [Ramp] is "Required unless Input, Input_ECL or Terminator"
unfoldable pub is_driven : ModelType → Bool
is_driven t = not (one_of (type_name t) (bytes "Input" ∷ bytes "Input_ECL" ∷ bytes "Terminator" ∷ []))

-- document 02: "Input_ECL and I/O_ECL"
unfoldable pub is_ecl : ModelType → Bool
is_ecl t = one_of (type_name t) (bytes "Input_ECL" ∷ bytes "I/O_ECL" ∷ [])

-- document 02: "Vinl −1.475 V and Vinh −1.165 V"
abbrev pub ecl_thresholds : Thresholds
ecl_thresholds =
    record {
      vinl = Number (record { negative = true; digits = 1475; power = offset - 3 });
      vinh = Number (record { negative = true; digits = 1165; power = offset - 3 });
    }

-- "Vinl 0.8 and Vinh 2.0"; document 02: "the other input types keep theirs"
abbrev pub input_thresholds : Thresholds
input_thresholds =
    record {
      vinl = Number (record { negative = false; digits = 8; power = offset - 1 });
      vinh = Number (record { negative = false; digits = 2; power = offset });
    }

abbrev pub no_thresholds : Thresholds
no_thresholds = record { vinl = Missing; vinh = Missing }

-- what a type takes where nothing is given
unfoldable pub defaults : ModelType → Thresholds
defaults t = cond (is_ecl t) ecl_thresholds (cond (is_input t) input_thresholds no_thresholds)

-- "each where absent"; "Others keep what is given, or missing"
abbrev pub filled : Cell → Cell → Cell
filled default (Number d) = Number d
filled default Missing = default

-- the thresholds of a model of this type, of which these were given
abbrev pub thresholds : ModelType → Cell → Cell → Thresholds
thresholds t vinl vinh = record { vinl = filled (defaults t).vinl vinl; vinh = filled (defaults t).vinh vinh }

-- "need Vinl below Vinh"
abbrev pub is_below : Cell → Cell → Bool
is_below (Number d) (Number e) = less_than d e
is_below (Number d) Missing = false
is_below Missing c = false
