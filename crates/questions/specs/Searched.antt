-- Searches in tables of words: the place of the first record that is sought, from the top.
use Rattle.std.specs.Prelude.{ℕ, zero, suc, ◌+◌, ◌-◌, ◌/◌, min, List, Bool, cond, not, ◌&&◌, ltb, length, Option, Some, None}
use Rattle.records.specs.declared.Span.{Span}
use Rattle.records.specs.declared.Component.{Component}
use Rattle.records.specs.declared.Pin.{Pin}
use Rattle.records.specs.declared.Selector.{Selector}
use Rattle.records.specs.declared.Choice.{Choice}
use Rattle.records.specs.declared.Model.{Model}
use Rattle.record_words.specs.Records.{component_size, pin_size, selector_size, choice_size, model_size}
use Rattle.table_records.specs.Values.{record_at}
use Rattle.table_records.specs.Records.{component_from, pin_from, selector_from, choice_from, model_from}
use Rattle.questions.specs.Named.{is_named}

-- ---- the record at a place of each table

abbrev pub component_there : List ℕ → ℕ → Component
component_there components k = component_from (record_at component_size components k)

abbrev pub pin_there : List ℕ → ℕ → Pin
pin_there pins k = pin_from (record_at pin_size pins k)

abbrev pub selector_there : List ℕ → ℕ → Selector
selector_there selectors k = selector_from (record_at selector_size selectors k)

abbrev pub choice_there : List ℕ → ℕ → Choice
choice_there choices k = choice_from (record_at choice_size choices k)

abbrev pub model_there : List ℕ → ℕ → Model
model_there models k = model_from (record_at model_size models k)

-- ---- places

-- the first of n places from k on that passes the test
unfoldable pub first_place : (ℕ → Bool) → ℕ → ℕ → Option ℕ
first_place test k zero = None
first_place test k (suc n) = cond (test k) (Some k) (first_place test (k + 1) n)

-- how many places of a span are there in a table of n records
unfoldable pub places_in : Span → ℕ → ℕ
places_in s n = min s.count (n - s.start)

-- place k is one of a span's
unfoldable pub in_span : Span → ℕ → Bool
in_span s k = not (ltb k s.start) && ltb k (s.start + s.count)

-- ---- by name

-- the pin of that name in a component
unfoldable pub pin_named : List ℕ → List ℕ → ℕ → List ℕ → Option ℕ
pin_named components pins component name =
    let s = (component_there components component).pins in
    first_place (λ k. is_named (pin_there pins k).name name) s.start (places_in s (length pins / pin_size))

unfoldable pub model_named : List ℕ → List ℕ → Option ℕ
model_named models name = first_place (λ k. is_named (model_there models k).name name) 0 (length models / model_size)

unfoldable pub selector_named : List ℕ → List ℕ → Option ℕ
selector_named selectors name = first_place (λ k. is_named (selector_there selectors k).name name) 0 (length selectors / selector_size)

-- the component that has the pin at a place
unfoldable pub component_with : List ℕ → ℕ → Option ℕ
component_with components pin = first_place (λ k. in_span (component_there components k).pins pin) 0 (length components / component_size)
