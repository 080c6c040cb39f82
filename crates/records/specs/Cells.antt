-- The cells of each record, in the dump's order.
use Rattle.std.specs.Prelude.{List, [], ◌∷◌, ◌++◌, cond}
use Rattle.decimal.specs.declared.Cell.{Cell}
use Rattle.decimal.specs.declared.Cell.TheVariants.{Number, Missing}
use Rattle.records.specs.declared.Triple.{Triple}
use Rattle.records.specs.declared.Range.{Range}
use Rattle.records.specs.declared.Split.{Split}
use Rattle.records.specs.declared.RampCell.{RampCell}
use Rattle.records.specs.declared.RampCell.TheVariants.{Ratio, Absent}
use Rattle.records.specs.declared.RampTriple.{RampTriple}
use Rattle.records.specs.declared.RampTable.{RampTable}
use Rattle.records.specs.declared.Component.{Component}
use Rattle.records.specs.declared.Pin.{Pin}
use Rattle.records.specs.declared.Model.{Model}
use Rattle.records.specs.declared.Waveform.{Waveform}
use Rattle.records.specs.declared.Row.{Row}

-- typ, min, max
abbrev pub triple_cells : Triple → List Cell
triple_cells t = t.typ ∷ t.min ∷ t.max ∷ []

-- of what is absent there are none
abbrev pub range_cells : Range → List Cell
range_cells r = cond r.given (triple_cells r.cells) []

-- ---- a component: R_pkg, L_pkg, C_pkg; and a pin row: R_pin, L_pin, C_pin

unfoldable pub component_cells : Component → List Cell
component_cells c = triple_cells c.resistance ++ triple_cells c.inductance ++ triple_cells c.capacitance

unfoldable pub pin_cells : Pin → List Cell
pin_cells p = p.resistance ∷ p.inductance ∷ p.capacitance ∷ []

-- ---- a model, before its tables

-- C_comp_pullup, C_comp_pulldown, C_comp_power_clamp, C_comp_gnd_clamp
unfoldable pub split_cells : Split → List Cell
split_cells s = range_cells s.pullup ++ range_cells s.pulldown ++ range_cells s.power ++ range_cells s.ground

-- Vinl, Vinh, Vmeas, Cref, Rref, Vref
unfoldable pub level_cells : Model → List Cell
level_cells m = m.vinl ∷ m.vinh ∷ m.vmeas ∷ m.cref ∷ m.rref ∷ m.vref ∷ []

-- C_comp, those, [Voltage Range], [Temperature Range]
unfoldable pub model_cells : Model → List Cell
model_cells m = triple_cells m.comp ++ split_cells m.split ++ level_cells m ++ triple_cells m.voltage ++ range_cells m.temperature

-- ---- its tables, ramp and waveforms

-- the first column, typ, min, max
unfoldable pub row_cells : Row → List Cell
row_cells r = Number r.number ∷ triple_cells r.cells

-- a dV/dt cell is two numbers, or is missing
abbrev pub slope_cells : RampCell → List Cell
slope_cells (Ratio a b) = Number a ∷ Number b ∷ []
slope_cells Absent = Missing ∷ []

unfoldable pub slopes_cells : RampTriple → List Cell
slopes_cells t = slope_cells t.typ ++ slope_cells t.min ++ slope_cells t.max

-- dV/dt_r, dV/dt_f, R_load
unfoldable pub ramp_cells : RampTable → List Cell
ramp_cells r = cond r.given (slopes_cells r.rise ++ slopes_cells r.fall ++ (r.load ∷ [])) []

-- R_fixture, V_fixture, V_fixture_min, V_fixture_max, C_fixture, L_fixture
unfoldable pub fixture_cells : Waveform → List Cell
fixture_cells w = w.rfixture ∷ w.vfixture ∷ w.vmin ∷ w.vmax ∷ w.cfixture ∷ w.lfixture ∷ []

-- R_dut, L_dut, C_dut
unfoldable pub device_cells : Waveform → List Cell
device_cells w = w.rdut ∷ w.ldut ∷ w.cdut ∷ []

unfoldable pub waveform_cells : Waveform → List Cell
waveform_cells w = fixture_cells w ++ device_cells w
