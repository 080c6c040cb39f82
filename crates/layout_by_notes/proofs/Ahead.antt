-- What the rest of the open section gives, text by text: by the names of the keywords, each of which is tried.
use Rattle.std.specs.Prelude.{Ok, Option, None, Some}
use Prim.Native.Nat.{ℕ}
use mathlib.Core.Path.{◌≡◌, refl, sym, ap, ap₂, ◌∙◌}
use mathlib.Core.List.{List, [], ◌∷◌, ◌++◌}
use mathlib.Core.Bool.{Bool, true, false, cond, not}
use Rattle.laws.specs.Bytes.{bytes, is_blank}
use Rattle.laws.specs.Lists.{front, eqs, one_of}
use Rattle.laws.proofs.Tests.{by-test, cond-all, cond_map}
use Rattle.words.specs.Words.{words, grown, onto_word}
use Rattle.keywords.specs.Carried.{key_of}
use Rattle.keywords.specs.declared.Keyword.{Keyword}
use Rattle.keywords.specs.declared.Keyword.TheVariants as key
use Rattle.keywords.specs.declared.Section.{Section}
use Rattle.keywords.specs.declared.Section.TheVariants.{Component, Selector, Model}
use Rattle.keywords.specs.declared.ComponentPart.{ComponentPart}
use Rattle.keywords.specs.declared.ComponentPart.TheVariants.{Manufacturer, Package, Pin}
use Rattle.keywords.specs.declared.ModelPart.{ModelPart}
use Rattle.keywords.specs.declared.ModelPart.TheVariants.{VoltageRange, TemperatureRange, Current, Ramp, Waveform}
use Rattle.keywords.specs.declared.CurrentTable.TheVariants.{Pulldown, Pullup, GndClamp, PowerClamp}
use Rattle.keywords.proofs.Spelling.{spelling}
use Rattle.records.specs.declared.Edge.TheVariants.{Rising, Falling}
use Rattle.records.specs.declared.Row.{Row}
use Rattle.records.specs.declared.LineFault.{LineFault}
use Rattle.cut_lines.specs.Texts.{Text, plain, change}
use Rattle.line_rules.specs.Fields.{is_bracketed}
use Rattle.line_rules.specs.Tables.{table_keywords}
use Rattle.rules.specs.Reading.{key_name, argument_at, under, lines_under, rows_in, TableIs, tables_in, is_within, sections_in}
use Rattle.rules.specs.Keys.{key_at, by_keyword, opens, is_end, onto_sections}
use Rattle.rules.proofs.Keys.{each-keyword, key-named, key-unnamed, are_spellings, none-of-spellings, within-key, section-at}
use Rattle.layout_by_notes.proofs.Keys.{Gives, nothing, pins, choices, rows, Open}

-- ---- pins and tables from here to the section's end, which come under keywords that are still ahead

abbrev pub pins_ahead : List Text → List (List ℕ)
pins_ahead ts = lines_under "pin" (front is_within ts)

abbrev pub tables_ahead : List Text → List TableIs
tables_ahead ts = tables_in (front is_within ts)

-- a keyword more, ls being the lines under it

abbrev part_pins : List (List ℕ) → List (List ℕ) → ComponentPart → List (List ℕ)
part_pins ls more Manufacturer = more
part_pins ls more Package = more
part_pins ls more Pin = ls ++ more

abbrev pub key_pins : List (List ℕ) → List (List ℕ) → Option Keyword → List (List ℕ)
key_pins ls more x = by_keyword more (λ p. more) (λ o. []) (part_pins ls more) (λ p. more) [] x

abbrev pub table_of : ModelPart → List (List ℕ) → TableIs
table_of p ls = record { key = bytes (spelling (key.InModel p)); lines = ls }

abbrev part_tables : List (List ℕ) → List TableIs → ModelPart → List TableIs
part_tables ls more VoltageRange = more
part_tables ls more TemperatureRange = more
part_tables ls more (Current t) = table_of (Current t) ls ∷ more
part_tables ls more Ramp = more
part_tables ls more (Waveform e) = table_of (Waveform e) ls ∷ more

abbrev pub key_tables : List (List ℕ) → List TableIs → Option Keyword → List TableIs
key_tables ls more x = by_keyword more (λ p. more) (λ o. []) (λ p. more) (part_tables ls more) [] x

-- ---- what is still to come of the open section: rows under the last keyword, and what the keywords ahead give

pub record Ahead : Type 0 where
  pub pin_lines : List (List ℕ)
  pub choice_lines : List (List ℕ)
  pub open_rows : List Row
  pub tables : List TableIs

abbrev pub none_ahead : Ahead
none_ahead = record { pin_lines = []; choice_lines = []; open_rows = []; tables = [] }

abbrev pub as_pins : Gives → List (List ℕ) → List (List ℕ)
as_pins nothing ls = []
as_pins pins ls = ls
as_pins choices ls = []
as_pins rows ls = []

abbrev pub as_choices : Gives → List (List ℕ) → List (List ℕ)
as_choices nothing ls = []
as_choices pins ls = []
as_choices choices ls = ls
as_choices rows ls = []

abbrev pub as_rows : Gives → List (List ℕ) → List Row
as_rows nothing ls = []
as_rows pins ls = []
as_rows choices ls = []
as_rows rows ls = rows_in ls

abbrev pub gathered : Gives → List (List ℕ) → List (List ℕ) → List TableIs → Ahead
gathered g ls ps tb = record { pin_lines = as_pins g ls ++ ps; choice_lines = as_choices g ls; open_rows = as_rows g ls; tables = tb }

-- only a component has pins, and only a model tables
abbrev pub of_components : {A : Type 0} → Option Section → List A → List A
of_components None l = []
of_components (Some Component) l = l
of_components (Some Selector) l = []
of_components (Some Model) l = []

abbrev pub of_models : {A : Type 0} → Option Section → List A → List A
of_models None l = []
of_models (Some Component) l = []
of_models (Some Selector) l = []
of_models (Some Model) l = l

abbrev pub ahead : Open → List Text → Ahead
ahead o ts = gathered o.gives (under ts) (of_components o.within (pins_ahead ts)) (of_models o.within (tables_ahead ts))

-- ---- a keyword line: nothing is left under the keyword above

module _ (k : ℕ) (w : List ℕ) (ts : List Text) where
  pub key-at : {x : Keyword} → is_bracketed w ≡ true → key_of w ≡ Ok x → key_at (plain k w) ≡ Some x
  key-at b e = rw (b, e)

  pub no_key : is_bracketed w ≡ false → key_at (plain k w) ≡ None
  no_key b = rw b

  pub under-key : is_bracketed w ≡ true → under (plain k w ∷ ts) ≡ []
  unfolding under
  under-key b = rw b

  pub under-line : is_bracketed w ≡ false → under (plain k w ∷ ts) ≡ w ∷ under ts
  unfolding under
  under-line b = rw b

under_none : under [] ≡ []
unfolding under
under_none = refl

pub under-change : (k : ℕ) (f : LineFault) (ts : List Text) → under (change k f ∷ ts) ≡ under ts
unfolding under
under-change k f ts = refl

within-at : (t : Text) (ts : List Text) {x : Option Keyword} → key_at t ≡ x → front is_within (t ∷ ts) ≡ cond (not (is_end x)) (t ∷ front is_within ts) []
unfolding front
within-at t ts e = rw (within-key t, e)

-- a section's lines under its keyword are those of the file
pub under-within : (ts : List Text) → under (front is_within ts) ≡ under ts
unfolding front
under-within [] = refl
under-within (plain k w ∷ ts) =
    by-test (is_bracketed w)
    (λ b.
    cond-all (λ (l : List Text). under l ≡ under (plain k w ∷ ts)) (is_within (plain k w)) (plain k w ∷ front is_within ts) []
    (λ h. under-key k w (front is_within ts) b ∙ sym (under-key k w ts b))
    (λ h. under_none ∙ sym (under-key k w ts b)))
    (λ b.
    ap under (within-at (plain k w) ts (no_key k w ts b))
    ∙ under-line k w (front is_within ts) b
    ∙ ap (λ (l : List (List ℕ)). w ∷ l) (under-within ts)
    ∙ sym (under-line k w ts b))
under-within (change k f ∷ ts) =
    ap under (within-at (change k f) ts refl) ∙ under-change k f (front is_within ts) ∙ under-within ts ∙ sym (under-change k f ts)

-- ---- by a keyword's spelling

abbrev named_pins : List ℕ → List (List ℕ) → List (List ℕ) → List (List ℕ)
named_pins name ls more = cond (eqs name (bytes "pin")) ls [] ++ more

abbrev named_tables : List ℕ → List (List ℕ) → List TableIs → List TableIs
named_tables name ls more = cond (one_of name (words (bytes table_keywords))) (record { key = name; lines = ls } ∷ []) [] ++ more

module _ (ls : List (List ℕ)) where
  spelling-pins : (more : List (List ℕ)) (k : Keyword)
      → cond (not (is_end (Some k))) (named_pins (bytes (spelling k)) ls more) [] ≡ key_pins ls more (Some k)
  unfolding eqs
  spelling-pins more = each-keyword _ refl refl refl refl refl refl refl refl refl refl refl refl refl refl refl refl refl refl refl refl refl refl refl refl

  spelling-tables : (more : List TableIs) (k : Keyword)
      → cond (not (is_end (Some k))) (named_tables (bytes (spelling k)) ls more) [] ≡ key_tables ls more (Some k)
  unfolding one_of eqs words grown onto_word is_blank
  spelling-tables more = each-keyword _ refl refl refl refl refl refl refl refl refl refl refl refl refl refl refl refl refl refl refl refl refl refl refl refl

-- ---- a text more, by its keyword

abbrev table_keys : List Keyword
table_keys =
    key.InModel (Current Pulldown) ∷ key.InModel (Current Pullup) ∷ key.InModel (Current GndClamp) ∷ key.InModel (Current PowerClamp)
    ∷ key.InModel (Waveform Rising) ∷ key.InModel (Waveform Falling)
    ∷ []

tables-are : words (bytes table_keywords) ≡ are_spellings table_keys
unfolding words grown onto_word is_blank
tables-are = refl

module _ (t : Text) (ts : List Text) where
  pins-by : (x : Option Keyword) → key_at t ≡ x → pins_ahead (t ∷ ts) ≡ key_pins (under ts) (pins_ahead ts) x
  unfolding lines_under
  pins-by None e = ap (lines_under "pin") (within-at t ts e) ∙ rw (key-unnamed t (key.InComponent Pin) e)
  pins-by (Some k) e =
      let inside : Bool = not (is_end (Some k)) in
      ap (lines_under "pin") (within-at t ts e)
      ∙ cond_map (lines_under "pin") inside (t ∷ front is_within ts) []
      ∙ ap₂ (λ (name : List ℕ) (ls : List (List ℕ)). cond inside (named_pins name ls (pins_ahead ts)) []) (key-named t k e) (under-within ts)
      ∙ spelling-pins (under ts) (pins_ahead ts) k

  tables-by : (x : Option Keyword) → key_at t ≡ x → tables_ahead (t ∷ ts) ≡ key_tables (under ts) (tables_ahead ts) x
  unfolding tables_in
  tables-by None e =
      ap tables_in (within-at t ts e)
      ∙ ap (λ (is : Bool). cond is (record { key = key_name t; lines = under (front is_within ts) } ∷ []) [] ++ tables_ahead ts)
      (ap (one_of (key_name t)) tables-are ∙ none-of-spellings t table_keys e)
  tables-by (Some k) e =
      let inside : Bool = not (is_end (Some k)) in
      ap tables_in (within-at t ts e)
      ∙ cond_map tables_in inside (t ∷ front is_within ts) []
      ∙ ap₂ (λ (name : List ℕ) (ls : List (List ℕ)). cond inside (named_tables name ls (tables_ahead ts)) []) (key-named t k e) (under-within ts)
      ∙ spelling-tables (under ts) (tables_ahead ts) k

module _ (t : Text) (ts : List Text) {x : Option Keyword} (e : key_at t ≡ x) where
  pub sections-at : sections_in (t ∷ ts) ≡ onto_sections (argument_at t) (front is_within ts) (sections_in ts) (opens x)
  sections-at = section-at t ts ∙ ap (λ (y : Option Keyword). onto_sections (argument_at t) (front is_within ts) (sections_in ts) (opens y)) e

  -- the lines under the last keyword, and what the keywords ahead give
  pub ahead-at : (o : Open) (ls : List (List ℕ)) → under (t ∷ ts) ≡ ls
      → ahead o (t ∷ ts) ≡ gathered o.gives ls (of_components o.within (key_pins (under ts) (pins_ahead ts) x)) (of_models o.within (key_tables (under ts) (tables_ahead ts) x))
  ahead-at o ls u =
      λ i. gathered o.gives (u i) (of_components o.within (pins-by t ts x e i)) (of_models o.within (tables-by t ts x e i))

-- ---- nothing is left

pub none_left : (g : Gives) (ps : List (List ℕ)) (tb : List TableIs)
    → gathered g [] ps tb ≡ record { pin_lines = ps; choice_lines = []; open_rows = []; tables = tb }
unfolding rows_in
none_left nothing ps tb = refl
none_left pins ps tb = refl
none_left choices ps tb = refl
none_left rows ps tb = refl

-- a section ends: nothing of it is left
pub none_after : (x : Option Section)
    → record { pin_lines = of_components x []; choice_lines = []; open_rows = []; tables = of_models x [] } ≡ none_ahead
none_after None = refl
none_after (Some Component) = refl
none_after (Some Selector) = refl
none_after (Some Model) = refl
