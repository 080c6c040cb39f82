-- What every record that is written keeps, so that its words read back as itself: bytes below 256, lengths within their texts, and numbers as they are read.
use Rattle.std.specs.Prelude.{ℕ, ◌≤◌, ◌<◌, ◌≡◌, List, [], ◌∷◌, length}
use Rattle.decimal.specs.Fine.{Fine, FineCell}
use Rattle.records.specs.declared.Triple.{Triple}
use Rattle.records.specs.declared.RampCell.{RampCell}
use Rattle.records.specs.declared.RampCell.TheVariants.{Ratio, Absent}
use Rattle.records.specs.declared.RampTriple.{RampTriple}
use Rattle.records.specs.declared.Split.{Split}
use Rattle.records.specs.declared.Row.{Row}
use Rattle.records.specs.Texts.{Name, Words}
use Rattle.records.specs.declared.Component.{Component}
use Rattle.records.specs.declared.Pin.{Pin}
use Rattle.records.specs.declared.Selector.{Selector}
use Rattle.records.specs.declared.Choice.{Choice}
use Rattle.records.specs.declared.Model.{Model}
use Rattle.records.specs.declared.Waveform.{Waveform}

abbrev pub AreBytes : List ℕ → Type 0
AreBytes [] = Unit {0}
AreBytes (b ∷ bs) = (b < 256) × AreBytes bs

pub record FineName (n : Name) : Type 0 where
  pub size : length n.bytes ≡ 40
  pub bytes : AreBytes n.bytes
  pub len : n.len ≤ 40

pub record FineWords (w : Words) : Type 0 where
  pub size : length w.bytes ≡ 120
  pub bytes : AreBytes w.bytes
  pub len : w.len ≤ 120

pub record FineTriple (t : Triple) : Type 0 where
  pub typ : FineCell t.typ
  pub min : FineCell t.min
  pub max : FineCell t.max

pub record FineSplit (s : Split) : Type 0 where
  pub pullup : FineTriple s.pullup.cells
  pub pulldown : FineTriple s.pulldown.cells
  pub power : FineTriple s.power.cells
  pub ground : FineTriple s.ground.cells

abbrev pub FineSlope : RampCell → Type 0
FineSlope (Ratio a b) = Fine a × Fine b
FineSlope Absent = Unit {0}

pub record FineSlopes (t : RampTriple) : Type 0 where
  pub typ : FineSlope t.typ
  pub min : FineSlope t.min
  pub max : FineSlope t.max

pub record FineComponent (c : Component) : Type 0 where
  pub name : FineName c.name
  pub manufacturer : FineName c.manufacturer
  pub resistance : FineTriple c.resistance
  pub inductance : FineTriple c.inductance
  pub capacitance : FineTriple c.capacitance

pub record FinePin (p : Pin) : Type 0 where
  pub name : FineName p.name
  pub signal : FineName p.signal
  pub model : FineName p.model
  pub resistance : FineCell p.resistance
  pub inductance : FineCell p.inductance
  pub capacitance : FineCell p.capacitance

abbrev pub FineSelector : Selector → Type 0
FineSelector s = FineName s.name

pub record FineChoice (c : Choice) : Type 0 where
  pub model : FineName c.model
  pub description : FineWords c.description

pub record FineModel (m : Model) : Type 0 where
  pub name : FineName m.name
  pub comp : FineTriple m.comp
  pub split : FineSplit m.split
  pub vinl : FineCell m.vinl
  pub vinh : FineCell m.vinh
  pub vmeas : FineCell m.vmeas
  pub cref : FineCell m.cref
  pub rref : FineCell m.rref
  pub vref : FineCell m.vref
  pub voltage : FineTriple m.voltage
  pub temperature : FineTriple m.temperature.cells
  pub rise : FineSlopes m.ramp.rise
  pub fall : FineSlopes m.ramp.fall
  pub load : FineCell m.ramp.load

pub record FineWaveform (w : Waveform) : Type 0 where
  pub rfixture : FineCell w.rfixture
  pub vfixture : FineCell w.vfixture
  pub vmin : FineCell w.vmin
  pub vmax : FineCell w.vmax
  pub cfixture : FineCell w.cfixture
  pub lfixture : FineCell w.lfixture
  pub rdut : FineCell w.rdut
  pub ldut : FineCell w.ldut
  pub cdut : FineCell w.cdut

pub record FineRow (r : Row) : Type 0 where
  pub number : Fine r.number
  pub cells : FineTriple r.cells
