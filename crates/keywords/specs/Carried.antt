-- Document 01, "What is read": the keywords, each spelled in small letters with underscores, and what a keyword line is.
use Rattle.std.specs.Prelude.{ℕ, List, [], ◌∷◌, cond, Err}
use Rattle.laws.specs.Lists.{one_of}
use Rattle.laws.specs.Said.{Said, or_fault}
use Rattle.name_table.specs.Names.{Naming, naming, meaning}
use Rattle.hierarchy.specs.Hierarchy.{hierarchy}
use Rattle.keywords.specs.Form.{inside, is_formed, spelled}
use Rattle.keywords.specs.declared.Keyword.{Keyword}
use Rattle.keywords.specs.declared.Keyword.TheVariants.{IbisVer, InHeader, Opens, InComponent, InModel, End}
use Rattle.keywords.specs.declared.HeaderPart.TheVariants.{FileName, FileRev, FreeText}
use Rattle.keywords.specs.declared.HeaderText.TheVariants.{Date, Source, Notes, Disclaimer, Copyright}
use Rattle.keywords.specs.declared.Section.TheVariants.{Component, Selector, Model}
use Rattle.keywords.specs.declared.ComponentPart.TheVariants.{Manufacturer, Package, Pin}
use Rattle.keywords.specs.declared.ModelPart.TheVariants.{VoltageRange, TemperatureRange, Current, Ramp, Waveform}
use Rattle.keywords.specs.declared.CurrentTable.TheVariants.{Pulldown, Pullup, GndClamp, PowerClamp}
use Rattle.records.specs.declared.Edge.TheVariants.{Rising, Falling}

unfoldable pub carried : List (Naming Keyword)
carried =
    naming "ibis_ver" IbisVer ∷ naming "file_name" (InHeader FileName) ∷ naming "file_rev" (InHeader FileRev)
    ∷ naming "date" (InHeader (FreeText Date)) ∷ naming "source" (InHeader (FreeText Source)) ∷ naming "notes" (InHeader (FreeText Notes))
    ∷ naming "disclaimer" (InHeader (FreeText Disclaimer)) ∷ naming "copyright" (InHeader (FreeText Copyright))
    ∷ naming "component" (Opens Component) ∷ naming "manufacturer" (InComponent Manufacturer)
    ∷ naming "package" (InComponent Package) ∷ naming "pin" (InComponent Pin)
    ∷ naming "model_selector" (Opens Selector)
    ∷ naming "model" (Opens Model) ∷ naming "voltage_range" (InModel VoltageRange) ∷ naming "temperature_range" (InModel TemperatureRange)
    ∷ naming "pulldown" (InModel (Current Pulldown)) ∷ naming "pullup" (InModel (Current Pullup))
    ∷ naming "gnd_clamp" (InModel (Current GndClamp)) ∷ naming "power_clamp" (InModel (Current PowerClamp)) ∷ naming "ramp" (InModel Ramp)
    ∷ naming "rising_waveform" (InModel (Waveform Rising)) ∷ naming "falling_waveform" (InModel (Waveform Falling))
    ∷ naming "end" End
    ∷ []

-- Document 02, "Tell a typing slip from a gap of ours": of a name that is not carried, 6 if it is a keyword of the hierarchy, 21 if not
unfoldable pub gap_or_slip : List ℕ → ℕ
gap_or_slip name = cond (one_of name hierarchy) 6 21

-- 5, badly formed, goes first; then 6 and 21, not carried
unfoldable pub key_of : List ℕ → Said Keyword
key_of w = cond (is_formed w) (or_fault (gap_or_slip (spelled (inside w))) (meaning (spelled (inside w)) carried)) (Err 5)
