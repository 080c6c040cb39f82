-- No line's number is read: what is read of texts is read of the same texts numbered anew.
use Prim.Native.Nat.{ℕ}
use Prim.Native.String.{String}
use mathlib.Core.Path.{◌≡◌, refl, ap, ◌∙◌}
use mathlib.Core.List.{List, [], ◌∷◌, map}
use mathlib.Core.Bool.{cond}
use Rattle.laws.specs.Lists.{front}
use Rattle.laws.proofs.Fronts.{front-map}
use Rattle.keywords.specs.Form.{argument}
use Rattle.records.specs.declared.Span.{Span}
use Rattle.records.specs.declared.Table.{Table}
use Rattle.cut_lines.specs.Texts.{Text, plain, change}
use Rattle.cut_lines.proofs.Renumbered.{text_at}
use Rattle.line_rules.specs.Fields.{is_bracketed}
use Rattle.rules.specs.Component.{pin_in}
use Rattle.rules.specs.Reading.{is_key, under, lines_under, key_says, pins_in, component_in, choice_in, choices_in, model_in, tables_in, is_within, header_says}

abbrev pub Numberless : {A : Type 0} → (List Text → A) → Type 0
Numberless g = (f : ℕ → ℕ) (ts : List Text) → g (map (text_at f) ts) ≡ g ts

within-at : (f : ℕ → ℕ) (t : Text) → is_within (text_at f t) ≡ is_within t
within-at f (plain k w) = refl
within-at f (change k n) = refl

pub under-numberless : Numberless under
unfolding under
under-numberless f [] = refl
under-numberless f (plain k w ∷ ts) = ap (λ (ws : List (List ℕ)). cond (is_bracketed w) [] (w ∷ ws)) (under-numberless f ts)
under-numberless f (change k n ∷ ts) = under-numberless f ts

lines-numberless : (name : String) → Numberless (lines_under name)
unfolding lines_under
lines-numberless name f [] = refl
lines-numberless name f (plain k w ∷ ts) = rw (under-numberless f ts, lines-numberless name f ts)
lines-numberless name f (change k n ∷ ts) = rw (under-numberless f ts, lines-numberless name f ts)

says-numberless : {A : Type 0} (name : String) (read : List ℕ → List (List ℕ) → A) (before : A) → Numberless (key_says name read before)
unfolding key_says
says-numberless name read before f [] = refl
says-numberless name read before f (plain k w ∷ ts) =
    says-numberless name read (cond (is_key name (plain k w)) (read (argument w) (under (map (text_at f) ts))) before) f ts
    ∙ ap (λ ls. key_says name read (cond (is_key name (plain k w)) (read (argument w) ls) before) ts) (under-numberless f ts)
says-numberless name read before f (change k n ∷ ts) =
    says-numberless name read (cond (is_key name (change k n)) (read [] (under (map (text_at f) ts))) before) f ts
    ∙ ap (λ ls. key_says name read (cond (is_key name (change k n)) (read [] ls) before) ts) (under-numberless f ts)

tables-numberless : Numberless tables_in
unfolding tables_in
tables-numberless f [] = refl
tables-numberless f (plain k w ∷ ts) = rw (under-numberless f ts, tables-numberless f ts)
tables-numberless f (change k n ∷ ts) = rw (under-numberless f ts, tables-numberless f ts)

-- the texts of a section, up to the next one
within : {A : Type 0} (g : List Text → A) → Numberless g → Numberless (λ (ts : List Text). g (front is_within ts))
within g n f ts = ap g (front-map is_within is_within (text_at f) (within-at f) ts) ∙ n f (front is_within ts)

component-at : (n : ℕ) (pins : Span) (name : List ℕ) → Numberless (component_in n pins name)
unfolding component_in
component-at n pins name f ts =
    rw (under-numberless f ts, says-numberless "manufacturer" _ _ f ts, lines-numberless "package" f ts)

model_at : (n : ℕ) (table : String → Table) (waveforms : Span) (name : List ℕ) → Numberless (model_in n table waveforms name)
unfolding model_in
model_at n table waveforms name f ts =
    rw (under-numberless f ts, says-numberless "voltage_range" _ _ f ts, says-numberless "temperature_range" _ _ f ts, says-numberless "ramp" _ _ f ts)

pins-at : Numberless pins_in
unfolding pins_in
pins-at f ts = ap (map pin_in) (lines-numberless "pin" f ts)

choices-at : Numberless choices_in
unfolding choices_in
choices-at f ts = ap (map choice_in) (under-numberless f ts)

pub component-numberless : (n : ℕ) (pins : Span) (name : List ℕ) → Numberless (λ (ts : List Text). component_in n pins name (front is_within ts))
component-numberless n pins name = within (component_in n pins name) (component-at n pins name)

pub pins-numberless : Numberless (λ (ts : List Text). pins_in (front is_within ts))
pins-numberless = within pins_in pins-at

pub choices-numberless : Numberless (λ (ts : List Text). choices_in (front is_within ts))
choices-numberless = within choices_in choices-at

pub model-numberless : (n : ℕ) (table : String → Table) (waveforms : Span) (name : List ℕ) → Numberless (λ (ts : List Text). model_in n table waveforms name (front is_within ts))
model-numberless n table waveforms name = within (model_in n table waveforms name) (model_at n table waveforms name)

pub tables-within-numberless : Numberless (λ (ts : List Text). tables_in (front is_within ts))
tables-within-numberless = within tables_in tables-numberless

pub header-numberless : (name : String) → Numberless (header_says name)
unfolding header_says
header-numberless name = within (key_says name (λ w ls. w) []) (says-numberless name (λ w ls. w) [])
