-- A section's keyword: what document 01 lays of the section is its note's record, and what is then ahead. By cases on the section.
use Prim.Native.Nat.{ℕ, ◌+◌}
use mathlib.Core.Path.{◌≡◌, refl, sym, ap, subst, ◌∙◌}
use mathlib.Core.List.{List, [], ◌∷◌, ◌++◌, map, flat_map, reverse, append-nil}
use native.Mathlib.Omega.{arith}
use lib.ListN.{length, length-append}
use Rattle.laws.specs.Lists.{front}
use Rattle.words.specs.Words.{word, words}
use Rattle.keywords.specs.Form.{argument}
use Rattle.keywords.specs.declared.Section.{Section}
use Rattle.keywords.specs.declared.Section.TheVariants.{Component, Selector, Model}
use Rattle.cut_lines.specs.Texts.{Text, plain}
use Rattle.rules.specs.Reading.{pins_in, component_in, choice_in, choices_in, model_in, is_within, sections_in}
use Rattle.rules.specs.Keys.{section_in}
use Rattle.layout.specs.Laid.{table_at, waveforms_laid, with_section, laid_from}
use Rattle.records.specs.Stored.{name_laid}
use Rattle.records.specs.declared.Kind.TheVariants.{OfComponent, OfPin, OfSelector, OfChoice, OfModel}
use Rattle.records.specs.declared.Row.{Row}
use Rattle.records.specs.declared.Component as laid_component
use Rattle.records.specs.declared.Selector as laid_selector
use Rattle.records.specs.declared.Model as laid_model
use Rattle.rules.specs.declared.Event.TheVariants.{Opened}
use Rattle.notes.specs.Noted.{Note, Log, sections, section_note}
use Rattle.layout_by_notes.specs.Lies.{pick, is_of, noted, component_noted, pin_noted, selector_noted, choice_noted, model_noted, rows_noted, waveforms_noted}
use Rattle.layout_by_notes.proofs.Lists.{latest-last, latest-length-only, latest-flat}
use Rattle.layout_by_notes.proofs.Keys.{Open, section_opens}
use Rattle.layout_by_notes.proofs.Ahead.{tables_ahead, Ahead, none_ahead, ahead, under-within}
use Rattle.layout_by_notes.proofs.Counts.{log_after, Counted}
use Rattle.layout_by_notes.proofs.Lying.{finished, Filled, Waved, same-laid, Onward}

module _ (k : ℕ) (w : List ℕ) (ts : List Text) (h : Log) (c : Counted h) where
  -- the section's texts
  abbrev own : List Text
  own = front is_within ts

  -- its pins are those ahead, and they start where the pins so far end
  component-laid : with_section (finished none_ahead h) (sections h.counts) (section_in (argument w) own Component)
      ≡ finished (ahead (section_opens Component) ts) (log_after h (plain k w) ts (Opened Component))
  unfolding finished noted pick component_noted pins_in
  component-laid =
      let read : ℕ → laid_component.Component = λ n. component_in (sections h.counts) (record { start = n; count = length (pins_in own) }) (argument w) own in
      let notes : List Note = pick (is_of OfPin) h.notes in
      let before : List _ = map component_noted (reverse (pick (is_of OfComponent) h.notes)) in
      let laid_pins : List _ = map pin_noted (reverse notes) in
      let start : length (laid_pins ++ []) ≡ h.counts.pins = latest-length-only pin_noted notes ∙ sym c.pins in
      same-laid
      (ap (λ (n : ℕ). before ++ (read n ∷ [])) start
      ∙ latest-last component_noted (section_note h.counts k (argument w) ts Component) (pick (is_of OfComponent) h.notes))
      (ap (λ (l : List _). l ++ pins_in own) (append-nil laid_pins))
      refl refl refl refl refl

  -- its rows are the lines under its keyword
  selector-laid : with_section (finished none_ahead h) (sections h.counts) (section_in (argument w) own Selector)
      ≡ finished (ahead (section_opens Selector) ts) (log_after h (plain k w) ts (Opened Selector))
  unfolding finished noted pick selector_noted choices_in
  selector-laid =
      let read : ℕ → laid_selector.Selector = λ n. record { section = sections h.counts; name = name_laid (word 0 (words (argument w))); choices = record { start = n; count = length (choices_in own) } } in
      let notes : List Note = pick (is_of OfChoice) h.notes in
      let before : List _ = map selector_noted (reverse (pick (is_of OfSelector) h.notes)) in
      let laid_choices : List _ = map choice_noted (reverse notes) in
      let start : length (laid_choices ++ []) ≡ h.counts.choices = latest-length-only choice_noted notes ∙ sym c.choices in
      same-laid refl refl
      (ap (λ (n : ℕ). before ++ (read n ∷ [])) start
      ∙ latest-last selector_noted (section_note h.counts k (argument w) ts Selector) (pick (is_of OfSelector) h.notes))
      (ap (λ (l : List _). l ++ choices_in own) (append-nil laid_choices)
      ∙ ap (λ (l : List (List ℕ)). laid_choices ++ map choice_in l) (under-within ts))
      refl refl refl

  rows-so-far : Filled none_ahead h → length (flat_map rows_noted (reverse (pick (is_of OfModel) h.notes))) ≡ h.counts.rows
  unfolding noted flat_map
  rows-so-far f = omega arith

  waves-so-far : Waved none_ahead h → length (flat_map waveforms_noted (reverse (pick (is_of OfModel) h.notes))) ≡ h.counts.waveforms
  unfolding noted waveforms_laid
  waves-so-far v = omega arith

  -- its tables are those ahead, and their rows start where the rows so far end
  model-laid : Filled none_ahead h → Waved none_ahead h
      → with_section (finished none_ahead h) (sections h.counts) (section_in (argument w) own Model)
      ≡ finished (ahead (section_opens Model) ts) (log_after h (plain k w) ts (Opened Model))
  unfolding finished noted pick model_noted rows_noted waveforms_noted flat_map
  model-laid f v =
      let read : ℕ → ℕ → laid_model.Model = λ row n.
      model_in (sections h.counts) (table_at (tables_ahead ts) row) (record { start = n; count = length (waveforms_laid (tables_ahead ts) row) }) (word 0 (words (argument w))) own
      in
      let models : List Note = pick (is_of OfModel) h.notes in
      let before : List _ = map model_noted (reverse models) in
      let laid_rows : List Row = flat_map rows_noted (reverse models) in
      let laid_waveforms : List _ = flat_map waveforms_noted (reverse models) in
      let row : length laid_rows ≡ h.counts.rows = rows-so-far f in
      let start : length laid_waveforms ≡ h.counts.waveforms = waves-so-far v in
      same-laid refl refl refl refl
      (ap (λ (n : ℕ). before ++ (read n (length laid_waveforms) ∷ [])) row
      ∙ ap (λ (n : ℕ). before ++ (read h.counts.rows n ∷ [])) start
      ∙ latest-last model_noted (section_note h.counts k (argument w) ts Model) models)
      (ap (λ (n : ℕ). laid_waveforms ++ waveforms_laid (tables_ahead ts) n) row
      ∙ latest-flat waveforms_noted (section_note h.counts k (argument w) ts Model) models)
      (latest-flat rows_noted (section_note h.counts k (argument w) ts Model) models)

  -- the rows of the new model are all ahead
  model-filled : Filled none_ahead h → Filled (ahead (section_opens Model) ts) (log_after h (plain k w) ts (Opened Model))
  unfolding noted pick rows_noted flat_map
  model-filled f =
      let models : List Note = pick (is_of OfModel) h.notes in
      let n : Note = section_note h.counts k (argument w) ts Model in
      let e = ap length (latest-flat rows_noted n models) in
      let d = length-append (flat_map rows_noted (reverse models)) (rows_noted n) in
      omega (arith, e, d)

  -- its waveforms are all ahead
  model-waved : Filled none_ahead h → Waved none_ahead h → Waved (ahead (section_opens Model) ts) (log_after h (plain k w) ts (Opened Model))
  unfolding noted pick waveforms_noted
  model-waved f v =
      let models : List Note = pick (is_of OfModel) h.notes in
      let n : Note = section_note h.counts k (argument w) ts Model in
      let z : h.counts.rows + 0 ≡ h.counts.rows = omega arith in
      let e = ap length (latest-flat waveforms_noted n models) in
      let d = length-append (flat_map waveforms_noted (reverse models)) (waveforms_noted n) in
      let q = ap (λ (j : ℕ). length (waveforms_laid (tables_ahead ts) j)) z in
      omega (arith, e, d, q, waves-so-far v)

  -- the section is laid, and its note with what is ahead is the same
  opened-on : (o : Open) (s : Section) → ahead o (plain k w ∷ ts) ≡ none_ahead
      → sections_in (plain k w ∷ ts) ≡ section_in (argument w) own s ∷ sections_in ts
      → (Filled none_ahead h → Waved none_ahead h → with_section (finished none_ahead h) (sections h.counts) (section_in (argument w) own s)
      ≡ finished (ahead (section_opens s) ts) (log_after h (plain k w) ts (Opened s)))
      → sections h.counts + 1 ≡ sections (log_after h (plain k w) ts (Opened s)).counts
      → (Filled none_ahead h → Filled (ahead (section_opens s) ts) (log_after h (plain k w) ts (Opened s)))
      → (Filled none_ahead h → Waved none_ahead h → Waved (ahead (section_opens s) ts) (log_after h (plain k w) ts (Opened s)))
      → Onward o (plain k w) ts h (section_opens s) (Opened s)
  unfolding laid_from
  opened-on o s p q laying n filling waving f v =
      let g : Filled none_ahead h = subst (λ (y : Ahead). Filled y h) p f in
      let d : Waved none_ahead h = subst (λ (y : Ahead). Waved y h) p v in (
        (λ i. laid_from (finished (p i) h) (sections h.counts) (q i)) ∙ (λ i. laid_from (laying g d i) (n i) (sections_in ts)),
        filling g,
        waving g d,
      )

  pub section-onward : (o : Open) (s : Section) → ahead o (plain k w ∷ ts) ≡ none_ahead
      → sections_in (plain k w ∷ ts) ≡ section_in (argument w) own s ∷ sections_in ts
      → Onward o (plain k w) ts h (section_opens s) (Opened s)
  unfolding sections noted pick
  section-onward o Component p q =
      opened-on o Component p q (λ f v. component-laid) (omega arith) (λ f. f) (λ f v. v)
  section-onward o Selector p q =
      opened-on o Selector p q (λ f v. selector-laid) (omega arith) (λ f. f) (λ f v. v)
  section-onward o Model p q = opened-on o Model p q model-laid (omega arith) model-filled model-waved
