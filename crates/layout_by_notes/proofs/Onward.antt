-- A text leads on, whatever it is: by cases on what a keyword gives where it stands.
use Rattle.std.specs.Prelude.{Option, None, Some}
use Prim.Native.Nat.{ℕ}
use mathlib.Core.Path.{◌≡◌, refl, sym, ap, subst, ◌∙◌}
use mathlib.Core.List.{List, [], ◌∷◌}
use Rattle.laws.specs.Lists.{front}
use Rattle.keywords.specs.declared.Keyword.{Keyword}
use Rattle.keywords.specs.declared.Section.{Section}
use Rattle.keywords.specs.declared.Section.TheVariants.{Component, Model}
use Rattle.keywords.specs.declared.ComponentPart.TheVariants.{Manufacturer, Package, Pin}
use Rattle.keywords.specs.declared.ModelPart.TheVariants.{VoltageRange, TemperatureRange, Current, Ramp, Waveform}
use Rattle.cut_lines.specs.Texts.{Text, plain, change}
use Rattle.rules.specs.Reading.{under, argument_at, is_within, sections_in}
use Rattle.rules.specs.Keys.{key_at, opens, onto_sections}
use Rattle.rules.specs.declared.Event.{Event}
use Rattle.rules.specs.declared.Event.TheVariants.{Quiet, WaveformOpened, Ended}
use Rattle.notes.specs.Noted.{Log}
use Rattle.layout_by_notes.proofs.Keys.{Gives, nothing, pins, rows, Open, closed, KeyGives, of_version, of_header, of_section, of_component, of_model, of_end, Stepped, by_change, by_line, by_key}
use Rattle.layout_by_notes.proofs.Ahead.{key_pins, key_tables, pins_ahead, tables_ahead, Ahead, none_ahead, of_components, of_models, ahead, sections-at, ahead-at, key-at, no_key, under-key, under-line, under-change, none_left, none_after}
use Rattle.layout_by_notes.proofs.Counts.{log_after, Counted}
use Rattle.layout_by_notes.proofs.Lying.{Carried, Onward, carried_on, nothing-moves, line-carried, current-carried, waveform-carried}
use Rattle.layout_by_notes.proofs.Opening.{section-onward}

-- ---- a keyword

-- at a keyword of section x, before it is read: what it and those behind it give
abbrev at_key : Option Section → List Text → Keyword → Ahead
at_key x ts a =
    record {
      pin_lines = of_components x (key_pins (under ts) (pins_ahead ts) (Some a));
      choice_lines = [];
      open_rows = [];
      tables = of_models x (key_tables (under ts) (tables_ahead ts) (Some a));
    }

module _ (k : ℕ) (w : List ℕ) (ts : List Text) {a : Keyword} (q : key_at (plain k w) ≡ Some a) (v : under (plain k w ∷ ts) ≡ []) where
  key-ahead : (x : Option Section) (g : Gives) → ahead (record { within = x; gives = g }) (plain k w ∷ ts) ≡ at_key x ts a
  key-ahead x g =
      ahead-at (plain k w) ts q (record { within = x; gives = g }) [] v
      ∙ none_left g (of_components x (key_pins (under ts) (pins_ahead ts) (Some a))) (of_models x (key_tables (under ts) (tables_ahead ts) (Some a)))

  -- a keyword that opens no section
  inside : (x : Option Section) (g : Gives) (u : Open) (e : Event) (h : Log) → opens (Some a) ≡ None
      → Carried (at_key x ts a) h (ahead u ts) (log_after h (plain k w) ts e) → Onward (record { within = x; gives = g }) (plain k w) ts h u e
  inside x g u e h n c =
      carried_on (record { within = x; gives = g }) (plain k w) ts h u e (key-ahead x g)
      (sections-at (plain k w) ts q ∙ ap (onto_sections (argument_at (plain k w)) (front is_within ts) (sections_in ts)) n)
      c

module _ (k : ℕ) (w : List ℕ) (ts : List Text) (h : Log) (c : Counted h) where
  key-onward : {x : Option Section} {a : Keyword} {u : Open} {e : Event} → KeyGives x a u e
      → (g : Gives) → key_at (plain k w) ≡ Some a → under (plain k w ∷ ts) ≡ [] → Onward (record { within = x; gives = g }) (plain k w) ts h u e
  key-onward of_version g q v = inside k w ts q v None g closed Quiet h refl nothing-moves
  key-onward of_header g q v = inside k w ts q v None g closed Quiet h refl nothing-moves
  key-onward {x} (of_section o) g q v =
      section-onward k w ts h c (record { within = x; gives = g }) o (key-ahead k w ts q v x g ∙ none_after x) (sections-at (plain k w) ts q)
  key-onward (of_component Manufacturer) g q v =
      inside k w ts q v (Some Component) g (record { within = Some Component; gives = nothing }) Quiet h refl nothing-moves
  key-onward (of_component Package) g q v =
      inside k w ts q v (Some Component) g (record { within = Some Component; gives = nothing }) Quiet h refl nothing-moves
  key-onward (of_component Pin) g q v =
      inside k w ts q v (Some Component) g (record { within = Some Component; gives = pins }) Quiet h refl nothing-moves
  key-onward (of_model VoltageRange) g q v =
      inside k w ts q v (Some Model) g (record { within = Some Model; gives = nothing }) Quiet h refl nothing-moves
  key-onward (of_model TemperatureRange) g q v =
      inside k w ts q v (Some Model) g (record { within = Some Model; gives = nothing }) Quiet h refl nothing-moves
  key-onward (of_model (Current t)) g q v =
      inside k w ts q v (Some Model) g (record { within = Some Model; gives = rows }) Quiet h refl
      (current-carried t (under ts) (tables_ahead ts) h)
  key-onward (of_model Ramp) g q v =
      inside k w ts q v (Some Model) g (record { within = Some Model; gives = nothing }) Quiet h refl nothing-moves
  key-onward (of_model (Waveform e)) g q v =
      inside k w ts q v (Some Model) g (record { within = Some Model; gives = rows }) WaveformOpened h refl
      (waveform-carried (plain k w) ts e (tables_ahead ts) h)
  key-onward {x} (of_end {f = f}) g q v =
      inside k w ts q v x g closed (Ended f) h refl (subst (λ (y : Ahead). Carried y h none_ahead h) (sym (none_after x)) nothing-moves)

-- ---- any text

pub text-onward : {o : Open} {t : Text} {u : Open} {e : Event} → Stepped o t u e → (ts : List Text) (h : Log) → Counted h → Onward o t ts h u e
text-onward (by_change {o = o} {k = k} {f = f}) ts h c =
    carried_on o (change k f) ts h o Quiet (ahead-at (change k f) ts refl o (under ts) (under-change k f ts)) (sections-at (change k f) ts refl) nothing-moves
text-onward (by_line {o = o} {k = k} {w = w} {e = e} b y) ts h c =
    carried_on o (plain k w) ts h o e (ahead-at (plain k w) ts (no_key k w ts b) o (w ∷ under ts) (under-line k w ts b))
    (sections-at (plain k w) ts (no_key k w ts b))
    (line-carried y k (under ts) (of_components o.within (pins_ahead ts)) (of_models o.within (tables_ahead ts)) h ts)
text-onward (by_key {o = o} {k = k} {w = w} b r y) ts h c =
    key-onward k w ts h c y o.gives (key-at k w ts b r) (under-key k w ts b)
