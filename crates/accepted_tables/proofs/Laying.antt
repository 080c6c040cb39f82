-- The tables section by section: the records so far keep their facts as more is laid behind them, and each section adds its own.
use Prim.Native.Nat.{ℕ, ◌+◌, ◌≤◌}
use mathlib.Core.Path.{◌≡◌, refl, sym, ap, subst, ◌∙◌}
use mathlib.Core.List.{List, [], ◌∷◌, ◌++◌, map, flat_map, append-nil}
use mathlib.Core.Bool.{false}
use native.Mathlib.Omega.{arith}
use lib.ListN.{length, length-append, length-map}
use Rattle.laws.specs.Lists.{Every}
use Rattle.laws.proofs.Every.{every_append, every_map}
use Rattle.cut_lines.specs.Texts.{Text}
use Rattle.records.specs.declared.Kind.TheVariants.{OfPin, OfChoice}
use Rattle.records.specs.Stored.{name_laid, no_cells}
use Rattle.records.specs.declared.Row.{Row}
use Rattle.records.specs.declared.Pin.{Pin}
use Rattle.records.specs.declared.Choice.{Choice}
use Rattle.records.specs.declared.Component as laid_component
use Rattle.records.specs.declared.Selector as laid_selector
use Rattle.records.specs.declared.Model as laid_model
use Rattle.records.specs.declared.Waveform as laid_waveform
use Rattle.given.proofs.Laws.{has-none}
use Rattle.rules.specs.Component.{pin_in}
use Rattle.rules.specs.Reading.{under, lines_under, pins_in, component_in, choice_in, choices_in, model_in, tables_in, SectionIs, component, selector, model, FileIs}
use Rattle.records.specs.declared.Lengths.{Lengths}
use Rattle.rules.specs.declared.Stage.TheVariants.{InSelector}
use Rattle.rules.specs.declared.ComponentState.{ComponentState}
use Rattle.rules.specs.declared.SelectorState.{SelectorState}
use Rattle.layout.specs.Laid.{Laid, tables, behind, rows_of, table_at, waveforms_laid, with_section, laid_from, laid}
use Rattle.accepted_tables.specs.Facts.{Unique, span_in, ComponentFacts, SelectorFacts, ModelFacts, WaveformFacts}
use Rattle.accepted_tables.proofs.Checks.{runs-pass}
use Rattle.accepted_tables.proofs.Sections.{new_component, new_selector, SectionPasses}
use Rattle.layout_by_notes.proofs.Ahead.{under-within}
use Rattle.accepted_tables.proofs.Components.{Parts, parts-read, maker-least, Rows, rows-read}
use Rattle.accepted_tables.specs.Fallbacks.{PinLine, ChoiceLine}
use Rattle.accepted_tables.proofs.Members.{map-through}
use Rattle.accepted_tables.proofs.Events.{pin-named, pin-sized, model-sized}
use Rattle.accepted_tables.proofs.Fresh.{Fresh, row_name, seen, names-unique, pins-fresh, choices-fresh}
use Rattle.accepted_tables.proofs.Spans.{span_more, span-behind, table_more}
use Rattle.accepted_tables.proofs.Models.{not-given, model-facts, model-waves}

-- ---- more rows behind

model-more : (store more : List Row) (waveforms waves : List laid_waveform.Waveform) (m : laid_model.Model) → ModelFacts store waveforms m → ModelFacts (store ++ more) (waveforms ++ waves) m
model-more store more waveforms waves m f =
    record {
      comp = f.comp;
      split = f.split;
      voltage = f.voltage;
      temperature = f.temperature;
      thresholds = f.thresholds;
      ramp = f.ramp;
      rise = f.rise;
      fall = f.fall;
      pulldown = λ g. table_more 100 _ store more (f.pulldown g);
      pullup = λ g. table_more 100 _ store more (f.pullup g);
      ground = λ g. table_more 100 _ store more (f.ground g);
      power = λ g. table_more 100 _ store more (f.power g);
      at_most = f.at_most;
      within = omega (arith, f.within, length-append waveforms waves);
    }

waveform-more : (store more : List Row) (w : laid_waveform.Waveform) → WaveformFacts store w → WaveformFacts (store ++ more) w
waveform-more store more w f = record { resistor = f.resistor; voltage = f.voltage; table = table_more 1000 _ store more f.table }

-- ---- more pins behind, and more selector rows

component-more : (pins more : List Pin) (c : laid_component.Component) → ComponentFacts pins c → ComponentFacts (pins ++ more) c
component-more pins more c f =
    record {
      manufacturer = f.manufacturer;
      resistance = f.resistance;
      inductance = f.inductance;
      capacitance = f.capacitance;
      least = f.least;
      within = omega (arith, f.within, length-append pins more);
      unique = subst (λ (l : List Pin). Unique (map (λ (p : Pin). p.name) l)) (sym (span_more c.pins pins more f.within)) f.unique;
    }

selector-more : (choices more : List Choice) (s : laid_selector.Selector) → SelectorFacts choices s → SelectorFacts (choices ++ more) s
selector-more choices more s f =
    record {
      least = f.least;
      within = omega (arith, f.within, length-append choices more);
      unique = subst (λ (l : List Choice). Unique (map (λ (c : Choice). c.model) l)) (sym (span_more s.choices choices more f.within)) f.unique;
    }

-- what lies last
span_last : {A : Type 0} (before xs : List A) → span_in (behind before xs) (before ++ xs) ≡ xs
span_last before xs = ap (λ (l : List _). span_in (behind before xs) (before ++ l)) (sym (append-nil xs)) ∙ span-behind before xs []

pin-name : (w : List ℕ) → (pin_in w).name ≡ name_laid (row_name w)
unfolding pin_in
pin-name w = refl

choice-name : (w : List ℕ) → (choice_in w).model ≡ name_laid (row_name w)
unfolding choice_in
choice-name w = refl

abbrev Fits : List ℕ → Type 0
Fits w = length w ≤ 40

pins-fit : (ls : List (List ℕ)) → Every PinLine ls → Every Fits (map row_name ls)
pins-fit [] p = tt
pins-fit (w ∷ ls) p = (pin-sized (row_name w) (pin-named p.0.0 w p.0.1), pins-fit ls p.1)

choices-fit : (ls : List (List ℕ)) → Every ChoiceLine ls → Every Fits (map row_name ls)
choices-fit [] p = tt
choices-fit (w ∷ ls) p = (model-sized (row_name w) p.0, choices-fit ls p.1)

module _ (len : Lengths) (w : List ℕ) (ts : List Text) where
  pins-unique : SectionPasses len (component w ts) → Every PinLine (lines_under "pin" ts) → Unique (map (λ (x : Pin). x.name) (pins_in ts))
  unfolding pins_in
  pins-unique p fine =
      let ls : List (List ℕ) = lines_under "pin" ts in
      let fresh : Fresh (seen OfPin p.1.held) (map row_name ls) = subst (λ (us : List Text). Fresh (seen OfPin p.1.held) (map row_name (lines_under "pin" us))) (sym p.1.own) (pins-fresh len p.1.more (new_component p.0) p.1.held p.1.runs (has-none 2)) in
      subst Unique (map-through row_name name_laid (λ (x : List ℕ). name_laid (row_name x)) (λ x. refl) ls ∙ sym (map-through pin_in (λ (x : Pin). x.name) (λ (x : List ℕ). name_laid (row_name x)) pin-name ls))
      (names-unique (map row_name ls) (seen OfPin p.1.held) (pins-fit ls fine) fresh)

  choices-unique : SectionPasses len (selector w ts) → Every ChoiceLine (under ts) → Unique (map (λ (x : Choice). x.model) (choices_in ts))
  unfolding choices_in
  choices-unique p fine =
      let ls : List (List ℕ) = under ts in
      let fresh : Fresh (seen OfChoice p.1.held) (map row_name ls) = subst (λ (us : List (List ℕ)). Fresh (seen OfChoice p.1.held) (map row_name us)) (sym (ap under p.1.own ∙ under-within p.1.more)) (choices-fresh len p.1.more (new_selector p.0) p.1.held p.1.runs) in
      subst Unique (map-through row_name name_laid (λ (x : List ℕ). name_laid (row_name x)) (λ x. refl) ls ∙ sym (map-through choice_in (λ (x : Choice). x.model) (λ (x : List ℕ). name_laid (row_name x)) choice-name ls))
      (names-unique (map row_name ls) (seen OfChoice p.1.held) (choices-fit ls fine) fresh)

  component-facts : SectionPasses len (component w ts) → (before : List Pin) (n : ℕ) → ComponentFacts (before ++ pins_in ts) (component_in n (behind before (pins_in ts)) w ts)
  unfolding component_in pins_in
  component-facts p before n =
      let c : ComponentState = new_component p.0 in
      let parts : Parts c ts = subst (Parts c) (sym p.1.own) (parts-read len p.1.more c p.1.held p.1.runs) in
      record {
        manufacturer = maker-least ts (parts.maker [] (not-given 0));
        resistance = parts.resistance no_cells (not-given 1);
        inductance = parts.inductance no_cells (not-given 1);
        capacitance = parts.capacitance no_cells (not-given 1);
        least = omega (arith, parts.least (has-none 2), length-map (lines_under "pin" ts) pin_in);
        within = omega (arith, length-append before (pins_in ts));
        unique = subst (λ (l : List Pin). Unique (map (λ (p : Pin). p.name) l)) (sym (span_last before (pins_in ts))) (pins-unique p parts.pins);
      }

  selector-facts : SectionPasses len (selector w ts) → (before : List Choice) (n : ℕ)
      → SelectorFacts (before ++ choices_in ts) (record { section = n; name = name_laid w; choices = behind before (choices_in ts) })
  unfolding choices_in
  selector-facts p before n =
      let s : SelectorState = new_selector p.0 in
      let rows : Rows false (under ts) = subst (Rows false) (sym (ap under p.1.own ∙ under-within p.1.more)) (rows-read p.1.more s (runs-pass len p.1.more p.1.held (InSelector s) p.1.runs)) in
      record {
        least = omega (arith, rows.least refl, length-map (under ts) choice_in);
        within = omega (arith, length-append before (choices_in ts));
        unique = subst (λ (l : List Choice). Unique (map (λ (c : Choice). c.model) l)) (sym (span_last before (choices_in ts))) (choices-unique p rows.choices);
      }

-- ---- section by section

pub record Sound (l : Laid) : Type 0 where
  pub components : Every (ComponentFacts l.pins) l.components
  pub selectors : Every (SelectorFacts l.choices) l.selectors
  pub models : Every (ModelFacts l.rows l.waveforms) l.models
  pub waveforms : Every (WaveformFacts l.rows) l.waveforms

with-model : (len : Lengths) (l : Laid) (n : ℕ) (w : List ℕ) (ts : List Text) → SectionPasses len (model w ts) → Sound l → Sound (with_section l n (model w ts))
with-model len l n w ts p so =
    let store : List Row = l.rows ++ flat_map rows_of (tables_in ts) in
    let waves : List laid_waveform.Waveform = waveforms_laid (tables_in ts) (length l.rows) in
    record {
      components = so.components;
      selectors = so.selectors;
      models =
          every_append (ModelFacts store (l.waveforms ++ waves)) l.models (model_in n (table_at (tables_in ts) (length l.rows)) (behind l.waveforms waves) w ts ∷ [])
          (every_map (ModelFacts l.rows l.waveforms) (ModelFacts store (l.waveforms ++ waves)) l.models (model-more l.rows (flat_map rows_of (tables_in ts)) l.waveforms waves) so.models)
          (model-facts len w ts p l.rows n l.waveforms, tt);
      waveforms =
          every_append (WaveformFacts store) l.waveforms waves
          (every_map (WaveformFacts l.rows) (WaveformFacts store) l.waveforms (waveform-more l.rows (flat_map rows_of (tables_in ts))) so.waveforms)
          (model-waves len w ts p l.rows);
    }

with-section : (len : Lengths) (l : Laid) (n : ℕ) (s : SectionIs) → SectionPasses len s → Sound l → Sound (with_section l n s)
with-section len l n (component w ts) p so =
    let pins : List Pin = l.pins ++ pins_in ts in
    record {
      components =
          every_append (ComponentFacts pins) l.components (component_in n (behind l.pins (pins_in ts)) w ts ∷ [])
          (every_map (ComponentFacts l.pins) (ComponentFacts pins) l.components (component-more l.pins (pins_in ts)) so.components)
          (component-facts len w ts p l.pins n, tt);
      selectors = so.selectors;
      models = so.models;
      waveforms = so.waveforms;
    }
with-section len l n (selector w ts) p so =
    let choices : List Choice = l.choices ++ choices_in ts in
    record {
      components = so.components;
      selectors =
          every_append (SelectorFacts choices) l.selectors (record { section = n; name = name_laid w; choices = behind l.choices (choices_in ts) } ∷ [])
          (every_map (SelectorFacts l.choices) (SelectorFacts choices) l.selectors (selector-more l.choices (choices_in ts)) so.selectors)
          (selector-facts len w ts p l.choices n, tt);
      models = so.models;
      waveforms = so.waveforms;
    }
with-section len l n (model w ts) p so = with-model len l n w ts p so

sound-from : (len : Lengths) (ss : List SectionIs) (l : Laid) (n : ℕ) → Every (SectionPasses len) ss → Sound l → Sound (laid_from l n ss)
unfolding laid_from
sound-from len [] l n p so = so
sound-from len (s ∷ ss) l n p so = sound-from len ss (with_section l n s) (n + 1) p.1 (with-section len l n s p.0 so)

pub sound : (len : Lengths) (f : FileIs) → Every (SectionPasses len) f.sections → Sound (laid f)
unfolding laid
sound len f p = sound-from len f.sections (tables [] [] [] [] [] [] []) 0 p (record { components = tt; selectors = tt; models = tt; waveforms = tt })
