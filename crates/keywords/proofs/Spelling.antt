-- A keyword and its name say the same: the table of names has each keyword once, under its spelling.
use Rattle.std.specs.Prelude.{Err, Option, None, Some, Result}
use Prim.Native.Nat.{ℕ}
use Prim.Native.String.{String}
use mathlib.Core.Path.{◌≡◌, refl, sym, ap, ◌∙◌}
use mathlib.Core.List.{List}
use mathlib.Core.Bool.{Bool, true, cond}
use Rattle.laws.specs.Bytes.{bytes}
use Rattle.laws.specs.Lists.{eqs, all, one_of}
use Rattle.laws.specs.Said.{Said, or_fault}
use Rattle.laws.proofs.Tests.{by-test, cond_map}
use Rattle.laws.proofs.Same.{eqs-eq}
use Rattle.name_table.specs.Names.{Naming, meaning}
use Rattle.name_table.proofs.Laws.{meaning-entry}
use Rattle.hierarchy.specs.Hierarchy.{hierarchy}
use Rattle.keywords.specs.Form.{inside, is_formed, spelled}
use Rattle.keywords.specs.Carried.{carried, gap_or_slip, key_of}
use Rattle.keywords.specs.Answers.{keyword_says, known, key_read}
use Rattle.keywords.specs.declared.Keyword.{Keyword}
use Rattle.keywords.specs.declared.Keyword.TheVariants.{IbisVer, InHeader, Opens, InComponent, InModel, End}
use Rattle.keywords.specs.declared.HeaderPart.TheVariants.{FileName, FileRev, FreeText}
use Rattle.keywords.specs.declared.HeaderText.TheVariants.{Date, Source, Notes, Disclaimer, Copyright}
use Rattle.keywords.specs.declared.Section.TheVariants.{Component, Selector, Model}
use Rattle.keywords.specs.declared.ComponentPart.TheVariants.{Manufacturer, Package, Pin}
use Rattle.keywords.specs.declared.ModelPart.TheVariants.{VoltageRange, TemperatureRange, Current, Ramp, Waveform}
use Rattle.keywords.specs.declared.CurrentTable.TheVariants.{Pulldown, Pullup, GndClamp, PowerClamp}
use Rattle.keywords.specs.declared.KeyFault.{KeyFault}
use Rattle.keywords.specs.declared.KeyFault.TheVariants.{Malformed}
use Rattle.records.specs.declared.Edge.TheVariants.{Rising, Falling}

abbrev pub spelling : Keyword → String
spelling IbisVer = "ibis_ver"
spelling (InHeader FileName) = "file_name"
spelling (InHeader FileRev) = "file_rev"
spelling (InHeader (FreeText Date)) = "date"
spelling (InHeader (FreeText Source)) = "source"
spelling (InHeader (FreeText Notes)) = "notes"
spelling (InHeader (FreeText Disclaimer)) = "disclaimer"
spelling (InHeader (FreeText Copyright)) = "copyright"
spelling (Opens Component) = "component"
spelling (InComponent Manufacturer) = "manufacturer"
spelling (InComponent Package) = "package"
spelling (InComponent Pin) = "pin"
spelling (Opens Selector) = "model_selector"
spelling (Opens Model) = "model"
spelling (InModel VoltageRange) = "voltage_range"
spelling (InModel TemperatureRange) = "temperature_range"
spelling (InModel (Current Pulldown)) = "pulldown"
spelling (InModel (Current Pullup)) = "pullup"
spelling (InModel (Current GndClamp)) = "gnd_clamp"
spelling (InModel (Current PowerClamp)) = "power_clamp"
spelling (InModel Ramp) = "ramp"
spelling (InModel (Waveform Rising)) = "rising_waveform"
spelling (InModel (Waveform Falling)) = "falling_waveform"
spelling End = "end"

-- a keyword's spelling is its name in the table
pub spelling-known : (k : Keyword) → meaning (bytes (spelling k)) carried ≡ Some k
unfolding meaning carried eqs
spelling-known IbisVer = refl
spelling-known (InHeader FileName) = refl
spelling-known (InHeader FileRev) = refl
spelling-known (InHeader (FreeText Date)) = refl
spelling-known (InHeader (FreeText Source)) = refl
spelling-known (InHeader (FreeText Notes)) = refl
spelling-known (InHeader (FreeText Disclaimer)) = refl
spelling-known (InHeader (FreeText Copyright)) = refl
spelling-known (Opens Component) = refl
spelling-known (InComponent Manufacturer) = refl
spelling-known (InComponent Package) = refl
spelling-known (InComponent Pin) = refl
spelling-known (Opens Selector) = refl
spelling-known (Opens Model) = refl
spelling-known (InModel VoltageRange) = refl
spelling-known (InModel TemperatureRange) = refl
spelling-known (InModel (Current Pulldown)) = refl
spelling-known (InModel (Current Pullup)) = refl
spelling-known (InModel (Current GndClamp)) = refl
spelling-known (InModel (Current PowerClamp)) = refl
spelling-known (InModel Ramp) = refl
spelling-known (InModel (Waveform Rising)) = refl
spelling-known (InModel (Waveform Falling)) = refl
spelling-known End = refl

-- each name of a table is the spelling of what it means
abbrev is_spelled : Naming Keyword → Bool
is_spelled e = eqs e.name (bytes (spelling e.means))

carried-spelled : all is_spelled carried ≡ true
unfolding carried all eqs
carried-spelled = refl

-- a name of the table is the spelling of its keyword
pub spelled-known : (w : List ℕ) (k : Keyword) → meaning w carried ≡ Some k → w ≡ bytes (spelling k)
spelled-known w k e = eqs-eq w _ (meaning-entry is_spelled carried carried-spelled w k e)

-- ---- what the code answers to a keyword line says what the line says

known-says : (at : ℕ) (name : List ℕ) (x : Option Keyword) → keyword_says (known at (one_of name hierarchy) x) ≡ or_fault (gap_or_slip name) x
unfolding gap_or_slip
known-says at name None = by-test (one_of name hierarchy) (λ h. rw h) (λ h. rw h)
known-says at name (Some k) = refl

pub key-said : (w : List ℕ) → keyword_says (key_read w) ≡ key_of w
unfolding key_read key_of
key-said w =
    cond_map keyword_says (is_formed w) _ (Err Malformed)
    ∙ ap (λ (x : Said Keyword). cond (is_formed w) x (Err 5)) (known-says _ (spelled (inside w)) (meaning (spelled (inside w)) carried))

-- what is read of the line, and what it says
pub said-too : (w : List ℕ) (r : Result (Keyword × ℕ) KeyFault) → key_read w ≡ r → (r ≡ key_read w) × (keyword_says r ≡ key_of w)
said-too w r e = (sym e, ap keyword_says (sym e) ∙ key-said w)
