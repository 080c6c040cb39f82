-- What the tables of every accepted file satisfy, as a list of plain facts.
use Rattle.std.specs.Prelude.{ℕ, ◌+◌, ◌≤◌, ◌<◌, ◌≡◌, List, [], ◌∷◌, map, ◌⊎◌, Bool, true, false, ◌&&◌, length, take, drop}
use Rattle.laws.specs.Bytes.{bytes}
pub use Rattle.laws.specs.Lists.{Every}
use Rattle.decimal.specs.Decimal.{less_than, above_zero}
use Rattle.decimal.specs.declared.Decimal.{Decimal}
use Rattle.decimal.specs.declared.Cell.{Cell}
use Rattle.decimal.specs.declared.Cell.TheVariants.{Missing}
use Rattle.line_rules.specs.Fields.{is_upward}
use Rattle.rules.specs.Types.{is_input, is_driven, is_below}
use Rattle.rules.specs.Model.{is_number}
use Rattle.rules.specs.Reading.{no_range}
use Rattle.layout.specs.Laid.{Laid, counts_of}
use Rattle.records.specs.Bounds.{most_rows}
use Rattle.records.specs.Stored.{name_laid}
use Rattle.records.specs.Texts.{Name}
use Rattle.records.specs.declared.Lengths.{Lengths}
use Rattle.records.specs.declared.Row.{Row}
use Rattle.records.specs.declared.RampCell.{RampCell}
use Rattle.records.specs.declared.RampCell.TheVariants.{Ratio, Absent}
use Rattle.records.specs.declared.RampTriple.{RampTriple}
use Rattle.records.specs.declared.Range.{Range}
use Rattle.records.specs.declared.Split.{Split}
use Rattle.records.specs.declared.Span.{Span}
use Rattle.records.specs.declared.Component.{Component}
use Rattle.records.specs.declared.Pin.{Pin}
use Rattle.records.specs.declared.Selector.{Selector}
use Rattle.records.specs.declared.Choice.{Choice}
use Rattle.records.specs.declared.Model.{Model}
use Rattle.records.specs.declared.Waveform.{Waveform}
use Rattle.layout_by_notes.specs.Lies.{Bounded}

-- it is one of them
abbrev pub Among : {A : Type 0} → A → List A → Type 0
Among a [] = ⊥
Among a (b ∷ l) = (a ≡ b) ⊎ Among a l

-- no two are the same
abbrev pub Unique : {A : Type 0} → List A → Type 0
Unique [] = Unit {0}
Unique (a ∷ l) = (Among a l → ⊥) × Unique l

-- two numbers, "the second above zero"
abbrev pub is_slope : RampCell → Bool
is_slope (Ratio d e) = above_zero e
is_slope Absent = false

-- ---- a ramp's cells

pub record Slopes (t : RampTriple) : Type 0 where
  pub typ : is_slope t.typ ≡ true
  -- missing, or likewise
  pub min : is_upward t.min ≡ true
  pub max : is_upward t.max ≡ true

-- ---- the rows of a table

-- each number is above the one before it, the first above d
unfoldable pub is_rising_from : Decimal → List Row → Bool
is_rising_from d [] = true
is_rising_from d (r ∷ rs) = less_than d r.number && is_rising_from r.number rs

abbrev pub is_rising : List Row → Bool
is_rising [] = true
is_rising (r ∷ rs) = is_rising_from r.number rs

abbrev pub first_typ : List Row → Cell
first_typ [] = Missing
first_typ (r ∷ rs) = r.cells.typ

-- c where there is no row
unfoldable pub last_typ : Cell → List Row → Cell
last_typ c [] = c
last_typ c (r ∷ rs) = last_typ r.cells.typ rs

-- "2 to 100 rows; waveforms, 2 to 1,000"; "the first column rises strictly; the first and last typ are numbers"
pub record RowsFacts (most : ℕ) (rs : List Row) : Type 0 where
  pub least : 2 ≤ length rs
  pub at_most : length rs ≤ most
  pub rising : is_rising rs ≡ true
  pub first : is_number (first_typ rs) ≡ true
  pub last : is_number (last_typ Missing rs) ≡ true

-- the records or rows at these places
abbrev pub span_in : {A : Type 0} → Span → List A → List A
span_in s l = take s.count (drop s.start l)

-- they lie in the row store, where the table says
pub record TableFacts (most : ℕ) (place : Span) (store : List Row) : Type 0 where
  pub within : place.start + place.count ≤ length store
  pub rows : RowsFacts most (span_in place store)

-- ---- a waveform

pub record WaveformFacts (store : List Row) (w : Waveform) : Type 0 where
  pub resistor : is_number w.rfixture ≡ true
  pub voltage : is_number w.vfixture ≡ true
  pub table : TableFacts 1000 w.rows store

-- ---- a model

-- "each present with a typ number or absent as a whole"
abbrev pub GroupFacts : Range → Type 0
GroupFacts r = (r ≡ no_range) ⊎ ((r.given ≡ true) × (is_number r.cells.typ ≡ true))

pub record SplitFacts (s : Split) : Type 0 where
  pub pullup : GroupFacts s.pullup
  pub pulldown : GroupFacts s.pulldown
  pub power : GroupFacts s.power
  pub ground : GroupFacts s.ground

pub record ModelFacts (store : List Row) (waveforms : List Waveform) (m : Model) : Type 0 where
  -- "Typ cells are never missing"
  pub comp : is_number m.comp.typ ≡ true
  pub split : SplitFacts m.split
  pub voltage : is_number m.voltage.typ ≡ true
  pub temperature : m.temperature.given ≡ true → is_number m.temperature.cells.typ ≡ true
  -- "Types that begin Input or I/O .. need Vinl below Vinh"
  pub thresholds : is_input m.kind ≡ true → is_below m.vinl m.vinh ≡ true
  -- [Ramp] is "Required unless Input, Input_ECL or Terminator"
  pub ramp : is_driven m.kind ≡ true → m.ramp.given ≡ true
  pub rise : m.ramp.given ≡ true → Slopes m.ramp.rise
  pub fall : m.ramp.given ≡ true → Slopes m.ramp.fall
  pub pulldown : m.pulldown.given ≡ true → TableFacts 100 m.pulldown.rows store
  pub pullup : m.pullup.given ≡ true → TableFacts 100 m.pullup.rows store
  pub ground : m.ground.given ≡ true → TableFacts 100 m.ground.rows store
  pub power : m.power.given ≡ true → TableFacts 100 m.power.rows store
  -- "16 waveforms a model", all in the table of waveforms
  pub at_most : m.waveforms.count ≤ 16
  pub within : m.waveforms.start + m.waveforms.count ≤ length waveforms

-- ---- a component and a selector

pub record ComponentFacts (pins : List Pin) (c : Component) : Type 0 where
  -- "(1 to 40 characters)"
  pub manufacturer : 1 ≤ c.manufacturer.len
  -- "Typ cells are never missing"
  pub resistance : is_number c.resistance.typ ≡ true
  pub inductance : is_number c.inductance.typ ≡ true
  pub capacitance : is_number c.capacitance.typ ≡ true
  -- "At least one row", all in the table of pins
  pub least : 1 ≤ c.pins.count
  pub within : c.pins.start + c.pins.count ≤ length pins
  -- "Names are unique: .. pins within a component"
  pub unique : Unique (map (λ (p : Pin). p.name) (span_in c.pins pins))

pub record SelectorFacts (choices : List Choice) (s : Selector) : Type 0 where
  -- "at least one", all in the table of rows
  pub least : 1 ≤ s.choices.count
  pub within : s.choices.start + s.choices.count ≤ length choices
  -- "rows within a selector"
  pub unique : Unique (map (λ (c : Choice). c.model) (span_in s.choices choices))

-- ---- names

abbrev pub component_names : Laid → List Name
component_names a = map (λ (c : Component). c.name) a.components

abbrev pub selector_names : Laid → List Name
selector_names a = map (λ (s : Selector). s.name) a.selectors

abbrev pub model_names : Laid → List Name
model_names a = map (λ (m : Model). m.name) a.models

-- the models that pins name, and those that selector rows name
abbrev pub pin_models : Laid → List Name
pin_models a = map (λ (p : Pin). p.model) a.pins

abbrev pub choice_models : Laid → List Name
choice_models a = map (λ (c : Choice). c.model) a.choices

-- "POWER, GND and NC need no model"
abbrev pub no_models : List Name
no_models = name_laid (bytes "POWER") ∷ name_laid (bytes "GND") ∷ name_laid (bytes "NC") ∷ []

pub record NameFacts (a : Laid) : Type 0 where
  -- "Names are unique: components among themselves, .. models and selectors together"
  pub components : Unique (component_names a)
  pub models : Unique (model_names a)
  pub selectors : Unique (selector_names a)
  pub together : Every (λ (n : Name). Among n (model_names a) → ⊥) (selector_names a)
  -- "A pin names a model or selector, a selector row a model"
  pub pins : Every (λ (n : Name). Among n no_models ⊎ (Among n (model_names a) ⊎ Among n (selector_names a))) (pin_models a)
  pub choices : Every (λ (n : Name). Among n (model_names a)) (choice_models a)
  -- "A model must be listed by a pin or a selector, a selector by a pin"
  pub listed : Every (λ (n : Name). Among n (pin_models a) ⊎ Among n (choice_models a)) (model_names a)
  pub selected : Every (λ (n : Name). Among n (pin_models a)) (selector_names a)

-- ---- the tables

pub record AcceptedTables (l : Lengths) (a : Laid) : Type 0 where
  -- every count is within document 01's bound and within what was lent
  pub counts : Bounded l (counts_of a)
  -- a row takes at least eight bytes of file (document 02, §8)
  pub rows : length a.rows < most_rows
  -- "At least one component in a file"
  pub least : 1 ≤ length a.components
  pub names : NameFacts a
  pub components : Every (ComponentFacts a.pins) a.components
  pub selectors : Every (SelectorFacts a.choices) a.selectors
  pub models : Every (ModelFacts a.rows a.waveforms) a.models
  pub waveforms : Every (WaveformFacts a.rows) a.waveforms
