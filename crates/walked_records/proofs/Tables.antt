-- Each record of a table, a name, what is lent and the counts as plain data for the walks of `table_walks`; and the words of the row store.
use denote.Param.{number}
use mathlib.Core.Path.{refl}
use mir.Syntax.{w64}
use Rattle.table_walks.proofs.Elem.{Data, Elem, of_struct, struct-elem, of_number, number-elem}
use Rattle.records.specs.contracts.Component as Component
use Rattle.records.proofs.Component.TheLaws as Component'
use Rattle.records.specs.contracts.Pin as Pin
use Rattle.records.proofs.Pin.TheLaws as Pin'
use Rattle.records.specs.contracts.Selector as Selector
use Rattle.records.proofs.Selector.TheLaws as Selector'
use Rattle.records.specs.contracts.Choice as Choice
use Rattle.records.proofs.Choice.TheLaws as Choice'
use Rattle.records.specs.contracts.Model as Model
use Rattle.records.proofs.Model.TheLaws as Model'
use Rattle.records.specs.contracts.Waveform as Waveform
use Rattle.records.proofs.Waveform.TheLaws as Waveform'
use Rattle.records.specs.contracts.Text as Text
use Rattle.records.proofs.Text.TheLaws as Text'
use Rattle.records.specs.contracts.Lending as Lending
use Rattle.records.proofs.Lending.TheLaws as Lending'
use Rattle.records.specs.contracts.Counts as Counts
use Rattle.records.proofs.Counts.TheLaws as Counts'

abbrev pub components : Data
components = of_struct Component.the_type Component'.the_laws

pub components-elem : Elem components
components-elem = struct-elem Component.the_type Component'.the_laws Component'.the_copy Component'.the_plain

abbrev pub pins : Data
pins = of_struct Pin.the_type Pin'.the_laws

pub pins-elem : Elem pins
pins-elem = struct-elem Pin.the_type Pin'.the_laws Pin'.the_copy Pin'.the_plain

abbrev pub selectors : Data
selectors = of_struct Selector.the_type Selector'.the_laws

pub selectors-elem : Elem selectors
selectors-elem = struct-elem Selector.the_type Selector'.the_laws Selector'.the_copy Selector'.the_plain

abbrev pub choices : Data
choices = of_struct Choice.the_type Choice'.the_laws

pub choices-elem : Elem choices
choices-elem = struct-elem Choice.the_type Choice'.the_laws Choice'.the_copy Choice'.the_plain

abbrev pub models : Data
models = of_struct Model.the_type Model'.the_laws

pub models-elem : Elem models
models-elem = struct-elem Model.the_type Model'.the_laws Model'.the_copy Model'.the_plain

abbrev pub waveforms : Data
waveforms = of_struct Waveform.the_type Waveform'.the_laws

pub waveforms-elem : Elem waveforms
waveforms-elem = struct-elem Waveform.the_type Waveform'.the_laws Waveform'.the_copy Waveform'.the_plain

-- a name is a text of 40 bytes
abbrev pub names : Data
names = of_struct (Text.the_type (number 40)) (Text'.the_laws (number 40) refl)

pub names-elem : Elem names
names-elem = struct-elem (Text.the_type (number 40)) (Text'.the_laws (number 40) refl) (Text'.the_copy (number 40) refl) (Text'.the_plain (number 40))

abbrev pub lending : Data
lending = of_struct Lending.the_type Lending'.the_laws

pub lending-elem : Elem lending
lending-elem = struct-elem Lending.the_type Lending'.the_laws Lending'.the_copy Lending'.the_plain

abbrev pub counts : Data
counts = of_struct Counts.the_type Counts'.the_laws

pub counts-elem : Elem counts
counts-elem = struct-elem Counts.the_type Counts'.the_laws Counts'.the_copy Counts'.the_plain

abbrev pub rows : Data
rows = of_number w64

pub rows-elem : Elem rows
rows-elem = number-elem w64
