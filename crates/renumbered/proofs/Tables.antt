-- What is read under a new numbering of lines: the header and the tables are the same. By induction over the texts; each part of a section reads no number.
use Rattle.std.specs.Prelude.{Option, None, Some}
use Prim.Native.Nat.{ℕ, ◌+◌}
use mathlib.Core.Path.{◌≡◌, refl, sym, ap, ◌∙◌}
use mathlib.Core.List.{List, [], ◌∷◌, map}
use Rattle.laws.specs.Lists.{front}
use Rattle.words.specs.Words.{word, words}
use Rattle.cut_lines.specs.Texts.{Text, plain, change}
use Rattle.cut_lines.proofs.Renumbered.{text_at}
use Rattle.keywords.specs.declared.Section.{Section}
use Rattle.keywords.specs.declared.Section.TheVariants.{Component, Selector, Model}
use Rattle.rules.specs.Keys.{key_at, opens, onto_sections}
use Rattle.rules.proofs.Keys.{section-at}
use Rattle.rules.specs.Reading.{argument_at, component, selector, model, is_within, sections_in, file_in}
use Rattle.rules.proofs.Numberless.{Numberless, component-numberless, pins-numberless, choices-numberless, model-numberless, tables-within-numberless}
use Rattle.layout.specs.Laid.{Laid, tables, with_section, laid_from, laid}

-- ---- a section lies the same

module _ (f : ℕ → ℕ) (l : Laid) (n : ℕ) (w : List ℕ) (ts : List Text) where
  abbrev within : List Text
  within = front is_within ts

  abbrev anew : List Text
  anew = front is_within (map (text_at f) ts)

  component-lies : with_section l n (component w anew) ≡ with_section l n (component w within)
  component-lies = rw (pins-numberless f ts, component-numberless n _ w f ts)

  selector-lies : with_section l n (selector w anew) ≡ with_section l n (selector w within)
  selector-lies = rw (choices-numberless f ts)

  model-lies : with_section l n (model w anew) ≡ with_section l n (model w within)
  model-lies = rw (tables-within-numberless f ts, model-numberless n _ _ w f ts)

-- ---- so do all

module _ (f : ℕ → ℕ) where
  key-at : (t : Text) → key_at (text_at f t) ≡ key_at t
  key-at (plain k w) = refl
  key-at (change k x) = refl

  argument-at : (t : Text) → argument_at (text_at f t) ≡ argument_at t
  argument-at (plain k w) = refl
  argument-at (change k x) = refl

  onto-lies : (l : Laid) (n : ℕ) (w : List ℕ) (ts : List Text) → ((m : Laid) (k : ℕ) → laid_from m k (sections_in (map (text_at f) ts)) ≡ laid_from m k (sections_in ts)) → (o : Option Section)
      → laid_from l n (onto_sections w (front is_within (map (text_at f) ts)) (sections_in (map (text_at f) ts)) o) ≡ laid_from l n (onto_sections w (front is_within ts) (sections_in ts) o)
  unfolding laid_from
  onto-lies l n w ts more None = more l n
  onto-lies l n w ts more (Some Component) = ap (λ (m : Laid). laid_from m (n + 1) (sections_in (map (text_at f) ts))) (component-lies f l n w ts) ∙ more _ (n + 1)
  onto-lies l n w ts more (Some Selector) = ap (λ (m : Laid). laid_from m (n + 1) (sections_in (map (text_at f) ts))) (selector-lies f l n (word 0 (words w)) ts) ∙ more _ (n + 1)
  onto-lies l n w ts more (Some Model) = ap (λ (m : Laid). laid_from m (n + 1) (sections_in (map (text_at f) ts))) (model-lies f l n (word 0 (words w)) ts) ∙ more _ (n + 1)

  sections-lie : (l : Laid) (n : ℕ) (ts : List Text) → laid_from l n (sections_in (map (text_at f) ts)) ≡ laid_from l n (sections_in ts)
  unfolding sections_in
  sections-lie l n [] = refl
  sections-lie l n (t ∷ ts) =
      ap (laid_from l n) (section-at (text_at f t) (map (text_at f) ts))
      ∙ rw (key-at t, argument-at t) (onto-lies l n (argument_at t) ts (λ m k. sections-lie m k ts) (opens (key_at t)))
      ∙ ap (laid_from l n) (sym (section-at t ts))

pub laid-at : Numberless (λ (ts : List Text). laid (file_in ts))
unfolding laid file_in
laid-at f ts = sections-lie f (tables [] [] [] [] [] [] []) 0 ts
