-- What an accepted file's notes make is what document 01 reads: each table is as noted, and what is noted lies as document 01 says.
use Prim.Native.Nat.{ℕ, zero, suc, ◌*◌, ◌/◌, ◌≤◌}
use mathlib.Core.Path.{◌≡◌, refl, sym, ap, ◌∙◌, subst}
use mathlib.Core.List.{List, [], ◌∷◌, ◌++◌, map, flat_map, append-nil}
use native.Mathlib.Omega.{arith}
use lib.ListN.{length, length-map}
use Rattle.rules.specs.Reading.{file_in}
use Rattle.layout.specs.Laid.{Laid, laid, counts_of}
use Rattle.records.specs.Bounds.{most_rows}
use Rattle.records.specs.Stored.{stored}
use Rattle.rules.specs.Whole.{texts_of}
use Rattle.room_for_rows.proofs.Laid.{laid-fit}
use Rattle.records.specs.declared.Lengths.{Lengths}
use Rattle.records.specs.declared.Kind.TheVariants.{OfComponent, OfPin, OfSelector, OfChoice, OfModel}
use Rattle.notes.specs.Noted.{Note}
use Rattle.layout_by_notes.specs.Lies.{noted, component_noted, pin_noted, selector_noted, choice_noted, model_noted, waveforms_noted, rows_noted, Lies, Fits}
use Rattle.layout_by_notes.proofs.Lists.{flat_append}
use Rattle.layout_by_notes.proofs.Tables.{lies, fits}
use Rattle.table_rows.proofs.Stores.{stored-length}
use Rattle.from_notes.specs.Made.{note_by, joined_to, component_at, pin_at, selector_at, choice_at, model_at, waveforms_at, rows_at}
use Rattle.file_answer.specs.Sorted.{up_to, Sorted}
use Rattle.file_answer.proofs.UpTo.{up_to-length, map-up_to}

-- ---- a table as noted is what is made of its notes

made-up_to : {A B : Type 0} (g : A → B) (f : ℕ → A) (l : List A) (new : List B) → new ≡ map g l → l ≡ up_to f (length l) → new ≡ up_to (λ (i : ℕ). g (f i)) (length new)
made-up_to g f l new e h =
    let m : new ≡ up_to (λ (i : ℕ). g (f i)) (length l) = e ∙ ap (map g) h ∙ map-up_to g f (length l) in
    let n : length new ≡ length l = ap length m ∙ up_to-length (λ (i : ℕ). g (f i)) (length l) in
    m ∙ ap (up_to (λ (i : ℕ). g (f i))) (sym n)

-- ---- of the models, one after the other

joined-up_to : {A : Type 0} (f : Note → List A) (s ns : List ℕ) (n : ℕ) → joined_to (λ (k : ℕ). f (note_by s ns OfModel k)) n ≡ flat_map f (up_to (note_by s ns OfModel) n)
unfolding joined_to up_to flat_map
joined-up_to f s ns zero = refl
joined-up_to {A} f s ns (suc n) =
    ap (λ (l : List A). l ++ f (note_by s ns OfModel n)) (joined-up_to f s ns n)
    ∙ ap (λ (l : List A). flat_map f (up_to (note_by s ns OfModel) n) ++ l) (sym (append-nil (f (note_by s ns OfModel n))))
    ∙ sym (flat_append f (up_to (note_by s ns OfModel) n) (note_by s ns OfModel n ∷ []))

whole-rows : (n : ℕ) → 4 * (n / 4) ≤ n
whole-rows n = omega arith

module _ (l : Lengths) (s ns : List ℕ) (sorted : Sorted l s ns) where
  abbrev pub file : Laid
  file = laid (file_in (texts_of s))

  lie : Lies sorted.log file
  lie = lies l sorted.past (texts_of s) sorted.log sorted.run

  pub fit : Fits l (counts_of file)
  fit = subst (Fits l) lie.counts (fits l sorted.past (texts_of s) sorted.log sorted.run)

  pub components-made : file.components ≡ up_to (component_at s ns) (length file.components)
  unfolding component_at
  components-made = made-up_to component_noted (note_by s ns OfComponent) (noted OfComponent sorted.log) file.components lie.components (sorted.names OfComponent)

  pub pins-made : file.pins ≡ up_to (pin_at s ns) (length file.pins)
  unfolding pin_at
  pins-made = made-up_to pin_noted (note_by s ns OfPin) (noted OfPin sorted.log) file.pins lie.pins (sorted.names OfPin)

  pub selectors-made : file.selectors ≡ up_to (selector_at s ns) (length file.selectors)
  unfolding selector_at
  selectors-made = made-up_to selector_noted (note_by s ns OfSelector) (noted OfSelector sorted.log) file.selectors lie.selectors (sorted.names OfSelector)

  pub choices-made : file.choices ≡ up_to (choice_at s ns) (length file.choices)
  unfolding choice_at
  choices-made = made-up_to choice_noted (note_by s ns OfChoice) (noted OfChoice sorted.log) file.choices lie.choices (sorted.names OfChoice)

  pub models-made : file.models ≡ up_to (model_at s ns) (length file.models)
  unfolding model_at
  models-made = made-up_to model_noted (note_by s ns OfModel) (noted OfModel sorted.log) file.models lie.models (sorted.names OfModel)

  -- ---- what is noted of the models, one after the other

  by-models : {A : Type 0} (f : Note → List A) → flat_map f (noted OfModel sorted.log) ≡ joined_to (λ (k : ℕ). f (note_by s ns OfModel k)) (length file.models)
  by-models f =
      let n : length file.models ≡ length (noted OfModel sorted.log) = ap length lie.models ∙ length-map (noted OfModel sorted.log) model_noted in
      ap (flat_map f) (sorted.names OfModel ∙ ap (up_to (note_by s ns OfModel)) (sym n)) ∙ sym (joined-up_to f s ns (length file.models))

  pub waveforms-made : file.waveforms ≡ waveforms_at s ns (length file.models)
  waveforms-made = lie.waveforms ∙ by-models waveforms_noted

  pub rows_made : file.rows ≡ rows_at s ns (length file.models)
  rows_made = lie.rows ∙ by-models rows_noted

  pub rows_fit : (rs : List ℕ) → most_rows ≤ length rs / 4 → length (stored (rows_at s ns (length file.models))) ≤ length rs
  rows_fit rs e = rw (sym rows_made) (omega (arith, stored-length file.rows, laid-fit s sorted.clean, e, whole-rows (length rs)))
