-- The model chosen for a pin: through a selector, whose "first row is the choice"; none for POWER, GND, NC.
use Rattle.std.specs.Prelude.{ℕ, ◌/◌, List, [], cond, eqb, ltb, length, Option, Some, None}
use Rattle.line_rules.specs.Fields.{needs_no_model}
use Rattle.records.specs.Stored.{name_laid}
use Rattle.records.specs.Texts.{Name}
use Rattle.records.specs.declared.Span.{Span}
use Rattle.records.specs.declared.Pin.{Pin}
use Rattle.record_words.specs.Records.{pin_size}
use Rattle.questions.specs.Named.{name_bytes}
use Rattle.questions.specs.Searched.{pin_there, selector_there, choice_there, selector_named, model_named}

-- the model's name in a selector's first row; no name where it has none
unfoldable pub first_choice : List ℕ → Span → Name
first_choice choices rows = cond (eqb rows.count 0) (name_laid []) (choice_there choices rows.start).model

-- a name after selection: the choice of the selector of that name; where there is none, the name itself
abbrev pub selected : List ℕ → List ℕ → Option ℕ → Name → Name
selected selectors choices (Some k) name = first_choice choices (selector_there selectors k).choices
selected selectors choices None name = name

unfoldable pub name_for : List ℕ → List ℕ → Pin → Name
name_for selectors choices p = selected selectors choices (selector_named selectors (name_bytes p.model)) p.model

-- "POWER, GND and NC need no model"
unfoldable pub model_for : List ℕ → List ℕ → List ℕ → Pin → Option ℕ
model_for selectors choices models p =
    cond (needs_no_model (name_bytes p.model)) None (model_named models (name_bytes (name_for selectors choices p)))

-- of the pin at a place; none where no pin is
unfoldable pub model_of_pin : List ℕ → List ℕ → List ℕ → List ℕ → ℕ → Option ℕ
model_of_pin pins selectors choices models k =
    cond (ltb k (length pins / pin_size)) (model_for selectors choices models (pin_there pins k)) None
