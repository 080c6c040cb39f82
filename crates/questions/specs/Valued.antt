-- A pin's resistance, inductance and capacitance: "A missing cell means the package value".
use Rattle.std.specs.Prelude.{ℕ, List, [], Option, Some, None}
use Rattle.decimal.specs.declared.Cell.{Cell}
use Rattle.decimal.specs.declared.Cell.TheVariants.{Number, Missing}
use Rattle.records.specs.declared.Triple.{Triple}
use Rattle.records.specs.declared.Component.{Component}
use Rattle.records.specs.declared.Pin.{Pin}
use Rattle.table_records.specs.Records.{component_from}
use Rattle.questions.specs.declared.PinValues.{PinValues}
use Rattle.questions.specs.Searched.{component_there, pin_there, component_with}

-- the package has typ, min and max; a pin's own value stands for all three
abbrev pub or_package : Cell → Triple → Triple
or_package (Number d) common = record { typ = Number d; min = Number d; max = Number d }
or_package Missing common = common

unfoldable pub values_of : Pin → Component → PinValues
values_of p c =
    record { resistance = or_package p.resistance c.resistance; inductance = or_package p.inductance c.inductance; capacitance = or_package p.capacitance c.capacitance }

-- the component found; where there is none, one whose cells are all missing
abbrev pub package_of : List ℕ → Option ℕ → Component
package_of components (Some k) = component_there components k
package_of components None = component_from []

unfoldable pub values_of_pin : List ℕ → List ℕ → ℕ → PinValues
values_of_pin components pins k = values_of (pin_there pins k) (package_of components (component_with components k))
