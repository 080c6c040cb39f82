-- What is named in a file, in file order; names used twice (14), names not found (15), and what nobody lists (16).
use Rattle.std.specs.Prelude.{ℕ, ◌+◌, List, [], ◌∷◌, Bool, true, false, cond, ◌&&◌, ◌||◌, eqb}
use Rattle.laws.specs.Lists.{eqs, front}
use Rattle.line_rules.specs.Fields.{needs_no_model}
use Rattle.records.specs.declared.Kind.{Kind}
use Rattle.records.specs.declared.Kind.TheVariants.{OfComponent, OfPin, OfSelector, OfChoice, OfModel}

-- its line, its name, and the model it names: a pin's model, a selector row's own name, else nothing
pub record Entry : Type 0 where
  pub kind : Kind
  pub line : ℕ
  pub name : List ℕ
  pub names : List ℕ

abbrev pub place : Kind → ℕ
place OfComponent = 0
place OfPin = 1
place OfSelector = 2
place OfChoice = 3
place OfModel = 4

abbrev pub is : Kind → Entry → Bool
is k e = eqb (place k) (place e.kind)

-- "models and selectors together"
abbrev pub is_model_or_selector : Entry → Bool
is_model_or_selector e = is OfModel e || is OfSelector e

-- some entry that passes the test has this name
unfoldable pub named : (Entry → Bool) → List ℕ → List Entry → Bool
named p n [] = false
named p n (e ∷ es) = (p e && eqs n e.name) || named p n es

-- some entry that passes the test names this model
unfoldable pub lists : (Entry → Bool) → List ℕ → List Entry → Bool
lists p n [] = false
lists p n (e ∷ es) = (p e && eqs n e.names) || lists p n es

unfoldable pub count : (Entry → Bool) → List Entry → ℕ
count p [] = 0
count p (e ∷ es) = cond (p e) (count p es + 1) (count p es)

-- ---- "Names are unique: components among themselves, pins within a component, models and selectors together, rows within a selector".
-- The entries are those so far, the latest first: the pins of a component, and the rows of a selector, are then at their front

abbrev pub is_used : Kind → List ℕ → List Entry → Bool
is_used OfComponent n es = named (is OfComponent) n es
is_used OfPin n es = named (is OfPin) n (front (is OfPin) es)
is_used OfSelector n es = named is_model_or_selector n es
is_used OfChoice n es = named (is OfChoice) n (front (is OfChoice) es)
is_used OfModel n es = named is_model_or_selector n es

-- ---- "A pin names a model or selector, a selector row a model; a name that isn't found gives 15"

abbrev pub is_found : List Entry → Entry → Kind → Bool
is_found all e OfComponent = true
is_found all e OfPin = needs_no_model e.names || named is_model_or_selector e.names all
is_found all e OfSelector = true
is_found all e OfChoice = named (is OfModel) e.names all
is_found all e OfModel = true

-- ---- "A model must be listed by a pin or a selector, a selector by a pin": else 16

abbrev pub is_listed : List Entry → Entry → Kind → Bool
is_listed all e OfComponent = true
is_listed all e OfPin = true
is_listed all e OfSelector = lists (is OfPin) e.name all
is_listed all e OfChoice = true
is_listed all e OfModel = lists (is OfPin) e.name all || lists (is OfChoice) e.name all

-- the line of the first entry that fails the test, or 0
unfoldable pub first_failing : (Entry → Bool) → List Entry → ℕ
first_failing p [] = 0
first_failing p (e ∷ es) = cond (p e) (first_failing p es) e.line
