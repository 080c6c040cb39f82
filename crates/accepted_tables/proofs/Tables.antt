-- The names in the tables are the notes' names, table by table; so what is proved of the notes holds of the tables.
use Prim.Native.Nat.{ℕ}
use mathlib.Core.Path.{◌≡◌, refl, sym, ap, subst, ◌∙◌}
use mathlib.Core.List.{List, map}
use mathlib.Core.Logic.{◌⊎◌}
use Rattle.laws.specs.Lists.{Every}
use Rattle.records.specs.Texts.{Name}
use Rattle.records.specs.declared.Kind.TheVariants.{OfComponent, OfPin, OfSelector, OfChoice, OfModel}
use Rattle.records.specs.declared.Component as laid_component
use Rattle.records.specs.declared.Pin as laid_pin
use Rattle.records.specs.declared.Selector as laid_selector
use Rattle.records.specs.declared.Choice as laid_choice
use Rattle.records.specs.declared.Model as laid_model
use Rattle.records.specs.declared.Lengths.{Lengths}
use Rattle.rules.specs.Component.{pin_in}
use Rattle.rules.specs.Reading.{component_in, choice_in, model_in}
use Rattle.layout.specs.Laid.{Laid}
use Rattle.notes.specs.Noted.{Note, Log}
use Rattle.layout_by_notes.specs.Lies.{noted, component_noted, pin_noted, selector_noted, choice_noted, model_noted, Lies}
use Rattle.accepted_tables.specs.Facts.{Among, Unique, component_names, selector_names, model_names, pin_models, choice_models, no_models, NameFacts}
use Rattle.accepted_tables.proofs.Run.{Passed}
use Rattle.accepted_tables.proofs.Events.{Fine, all-fine}
use Rattle.accepted_tables.proofs.Members.{map-through}
use Rattle.accepted_tables.proofs.Names.{note_name, pin_model, choice_model, of, pins-found, choices-found, models-listed, selectors-listed, components-unique, models-unique, selectors-unique, together-unique}

-- ---- the name in a note's record

component-name : (n : Note) → (component_noted n).name ≡ note_name n
unfolding component_noted component_in
component-name n = refl

selector-name : (n : Note) → (selector_noted n).name ≡ note_name n
unfolding selector_noted
selector-name n = refl

model-name : (n : Note) → (model_noted n).name ≡ note_name n
unfolding model_noted model_in
model-name n = refl

pin-model : (n : Note) → (pin_noted n).model ≡ pin_model n
unfolding pin_noted pin_in
pin-model n = refl

choice-model : (n : Note) → (choice_noted n).model ≡ choice_model n
unfolding choice_noted choice_in
choice-model n = refl

-- ---- the tables

module _ (g : Log) (a : Laid) (lies : Lies g a) (fine : Every Fine g.notes) where
  components-are : component_names a ≡ map note_name (of g.notes fine OfComponent)
  unfolding noted
  components-are = ap (map (λ (c : laid_component.Component). c.name)) lies.components ∙ map-through component_noted _ note_name component-name (noted OfComponent g)

  selectors-are : selector_names a ≡ map note_name (of g.notes fine OfSelector)
  unfolding noted
  selectors-are = ap (map (λ (s : laid_selector.Selector). s.name)) lies.selectors ∙ map-through selector_noted _ note_name selector-name (noted OfSelector g)

  models-are : model_names a ≡ map note_name (of g.notes fine OfModel)
  unfolding noted
  models-are = ap (map (λ (m : laid_model.Model). m.name)) lies.models ∙ map-through model_noted _ note_name model-name (noted OfModel g)

  pins-are : pin_models a ≡ map pin_model (of g.notes fine OfPin)
  unfolding noted
  pins-are = ap (map (λ (p : laid_pin.Pin). p.model)) lies.pins ∙ map-through pin_noted _ pin_model pin-model (noted OfPin g)

  choices-are : choice_models a ≡ map choice_model (of g.notes fine OfChoice)
  unfolding noted
  choices-are = ap (map (λ (c : laid_choice.Choice). c.model)) lies.choices ∙ map-through choice_noted _ choice_model choice-model (noted OfChoice g)

pub names-facts : (l : Lengths) (s : List ℕ) (p : Passed l s) (a : Laid) → Lies p.log a → NameFacts a
names-facts l s p a lies =
    let g : Log = p.log in
    let ns : List Note = g.notes in
    let fine : Every Fine ns = all-fine l p.past g s p.run in
    let ms = models-are g a lies fine in
    let ss = selectors-are g a lies fine in
    let ps = pins-are g a lies fine in
    let hs = choices-are g a lies fine in
    record {
      components = subst Unique (sym (components-are g a lies fine)) (components-unique ns fine p.unused);
      models = subst Unique (sym ms) (models-unique ns fine p.unused);
      selectors = subst Unique (sym ss) (selectors-unique ns fine p.unused);
      together =
          subst (λ (x : List Name). Every (λ (n : Name). Among n (model_names a) → ⊥) x) (sym ss)
          (subst (λ (y : List Name). Every (λ (n : Name). Among n y → ⊥) (map note_name (of ns fine OfSelector))) (sym ms) (together-unique ns fine p.unused));
      pins =
          subst (λ (x : List Name). Every (λ (n : Name). Among n no_models ⊎ (Among n (model_names a) ⊎ Among n (selector_names a))) x) (sym ps)
          (subst (λ (y : List Name). Every (λ (n : Name). Among n no_models ⊎ (Among n (model_names a) ⊎ Among n y)) (map pin_model (of ns fine OfPin))) (sym ss)
          (subst (λ (y : List Name). Every (λ (n : Name). Among n no_models ⊎ (Among n y ⊎ Among n (map note_name (of ns fine OfSelector)))) (map pin_model (of ns fine OfPin))) (sym ms)
          (pins-found ns fine p.checked.found)));
      choices =
          subst (λ (x : List Name). Every (λ (n : Name). Among n (model_names a)) x) (sym hs)
          (subst (λ (y : List Name). Every (λ (n : Name). Among n y) (map choice_model (of ns fine OfChoice))) (sym ms) (choices-found ns fine p.checked.found));
      listed =
          subst (λ (x : List Name). Every (λ (n : Name). Among n (pin_models a) ⊎ Among n (choice_models a)) x) (sym ms)
          (subst (λ (y : List Name). Every (λ (n : Name). Among n y ⊎ Among n (choice_models a)) (map note_name (of ns fine OfModel))) (sym ps)
          (subst (λ (y : List Name). Every (λ (n : Name). Among n (map pin_model (of ns fine OfPin)) ⊎ Among n y) (map note_name (of ns fine OfModel))) (sym hs)
          (models-listed ns fine p.checked.listed)));
      selected =
          subst (λ (x : List Name). Every (λ (n : Name). Among n (pin_models a)) x) (sym ss)
          (subst (λ (y : List Name). Every (λ (n : Name). Among n y) (map note_name (of ns fine OfSelector))) (sym ps) (selectors-listed ns fine p.checked.listed));
    }
