-- A search from the top of a table of records, and what it is for a component's pin of a name.
use Rattle.std.specs.Prelude.{ℕ, ◌+◌, List, [], ◌∷◌, cond, ◌&&◌, Option, Some, None}
use Rattle.records.specs.declared.Pin.{Pin}
use Rattle.questions.specs.Named.{same_name}
use Rattle.questions.specs.Searched.{in_span}
use Rattle.lent_pins.specs.declared.Sought.{Sought}

abbrev pub or_else : Option ℕ → Option ℕ → Option ℕ
or_else (Some k) f = Some k
or_else None f = f

-- what the first record gives that gives something; the first of xs has the place k
unfoldable pub first_of : {A : Type 0} → (ℕ → A → Option ℕ) → ℕ → List A → Option ℕ
first_of try k [] = None
first_of try k (x ∷ xs) = or_else (try k x) (first_of try (k + 1) xs)

-- a pin gives its place, where it is one of the component's and has the name
unfoldable pub try_pin : Sought → ℕ → Pin → Option ℕ
try_pin sought k p = cond (in_span sought.pins k && same_name p.name sought.name) (Some k) None

unfoldable pub pin_place : List Pin → Sought → Option ℕ
pin_place pins sought = first_of (try_pin sought) 0 pins
