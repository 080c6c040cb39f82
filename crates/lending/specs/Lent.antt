-- The tables of the example: what they hold before they are lent, and as they are left.
use Rattle.std.specs.Prelude.{ℕ, List, [], replicate}
use Rattle.decimal.specs.declared.Cell.TheVariants.{Missing}
use Rattle.records.specs.Stored.{name_laid}
use Rattle.records.specs.declared.Component.{Component}
use Rattle.records.specs.declared.Pin.{Pin}
use Rattle.records.specs.declared.Selector.{Selector}
use Rattle.records.specs.declared.Choice.{Choice}
use Rattle.records.specs.declared.Model.{Model}
use Rattle.records.specs.declared.Waveform.{Waveform}
use Rattle.records.specs.declared.Answer.{Answer}
use Rattle.reader.specs.Promise.{Read}
use Rattle.blank_records.specs.Blank.{blank_component, blank_selector, blank_choice, blank_model, blank_waveform}
use Rattle.lending.specs.declared.Enough.{Enough}
use Rattle.lending.specs.declared.Scant.{Scant}

-- ---- before
abbrev pub spare_pin : Pin
spare_pin =
    record { name = record { bytes = replicate 40 120; len = 5 }; signal = name_laid []; model = name_laid []; resistance = Missing; inductance = Missing; capacitance = Missing }

unfoldable pub one_component : List Component
one_component = replicate 1 blank_component

unfoldable pub three_pins : List Pin
three_pins = replicate 3 spare_pin

unfoldable pub no_selectors : List Selector
no_selectors = replicate 0 blank_selector

unfoldable pub no_choices : List Choice
no_choices = replicate 0 blank_choice

unfoldable pub two_models : List Model
two_models = replicate 2 blank_model

unfoldable pub one_waveform : List Waveform
one_waveform = replicate 1 blank_waveform

-- 8,192 rows and three words
unfoldable pub many_words : List ℕ
many_words = replicate 32771 7

-- 8,191 rows and three words
unfoldable pub few_words : List ℕ
few_words = replicate 32767 7

-- ---- after
abbrev pub enough_of : Answer → List Component → List Pin → List Selector → List Choice → List Model → List Waveform → List ℕ → Enough
enough_of a cs ps ss hs ms ws rs =
    record { answer = a; components = cs; pins = ps; selectors = ss; choices = hs; models = ms; waveforms = ws; rows = rs }

abbrev pub scant_of : Answer → List Component → List Pin → List Selector → List Choice → List Model → List Waveform → List ℕ → Scant
scant_of a cs ps ss hs ms ws rs =
    record { answer = a; components = cs; pins = ps; selectors = ss; choices = hs; models = ms; waveforms = ws; rows = rs }

abbrev pub ReadEnough : List ℕ → Enough → Type 0
ReadEnough s t =
    Read s one_component three_pins no_selectors no_choices two_models one_waveform many_words t.answer t.components t.pins t.selectors t.choices t.models t.waveforms t.rows

abbrev pub ReadScant : List ℕ → Scant → Type 0
ReadScant s t =
    Read s one_component three_pins no_selectors no_choices two_models one_waveform few_words t.answer t.components t.pins t.selectors t.choices t.models t.waveforms t.rows
