-- Sections only add to the tables, and what they add carries their numbers: section by section.
use Prim.Native.Nat.{ℕ, ◌+◌, ◌≤◌}
use mathlib.Core.Path.{◌≡◌, refl, sym, ◌∙◌}
use mathlib.Core.List.{List, [], ◌∷◌, ◌++◌, append_assoc, append-nil}
use native.Mathlib.Omega.{arith}
use Rattle.rules.specs.Reading.{component_in, model_in, SectionIs, component, selector, model}
use Rattle.layout.specs.Laid.{Laid, tables, with_section, laid_from}
use Rattle.records.specs.declared.Component.{Component}
use Rattle.records.specs.declared.Selector.{Selector}
use Rattle.records.specs.declared.Model.{Model}

-- the first of these records, if there is one, has number n or a later one
abbrev pub From : {A : Type 0} → (A → ℕ) → ℕ → List A → Type 0
From number n [] = Unit {0}
From number n (x ∷ xs) = n ≤ number x

from-later : {A : Type 0} (number : A → ℕ) (n : ℕ) (xs : List A) → From number (n + 1) xs → From number n xs
from-later number n [] h = tt
from-later number n (x ∷ xs) h = omega (arith, h)

from-both : {A : Type 0} (number : A → ℕ) (n : ℕ) (xs ys : List A) → From number n xs → From number (n + 1) ys → From number n (xs ++ ys)
from-both number n [] ys h k = from-later number n ys k
from-both number n (x ∷ xs) ys h k = h

-- tables u are tables t and more behind, of sections from n on
pub record Extends (n : ℕ) (t u : Laid) : Type 0 where
  pub later : Laid
  pub components : u.components ≡ t.components ++ later.components
  pub pins : u.pins ≡ t.pins ++ later.pins
  pub selectors : u.selectors ≡ t.selectors ++ later.selectors
  pub choices : u.choices ≡ t.choices ++ later.choices
  pub models : u.models ≡ t.models ++ later.models
  pub waveforms : u.waveforms ≡ t.waveforms ++ later.waveforms
  pub rows : u.rows ≡ t.rows ++ later.rows
  pub components_from : From (λ (c : Component). c.section) n later.components
  pub selectors_from : From (λ (s : Selector). s.section) n later.selectors
  pub models_from : From (λ (m : Model). m.section) n later.models

extends-none : (n : ℕ) (t : Laid) → Extends n t t
extends-none n t =
    record {
      later = tables [] [] [] [] [] [] [];
      components = sym (append-nil t.components);
      pins = sym (append-nil t.pins);
      selectors = sym (append-nil t.selectors);
      choices = sym (append-nil t.choices);
      models = sym (append-nil t.models);
      waveforms = sym (append-nil t.waveforms);
      rows = sym (append-nil t.rows);
      components_from = tt;
      selectors_from = tt;
      models_from = tt;
    }

extends-section : (n : ℕ) (t : Laid) (x : SectionIs) → Extends n t (with_section t n x)
unfolding component_in model_in
extends-section n t (component w ts) =
    record {
      later = tables _ _ [] [] [] [] [];
      components = refl;
      pins = refl;
      selectors = sym (append-nil t.selectors);
      choices = sym (append-nil t.choices);
      models = sym (append-nil t.models);
      waveforms = sym (append-nil t.waveforms);
      rows = sym (append-nil t.rows);
      components_from = omega arith;
      selectors_from = tt;
      models_from = tt;
    }
extends-section n t (selector w ts) =
    record {
      later = tables [] [] _ _ [] [] [];
      components = sym (append-nil t.components);
      pins = sym (append-nil t.pins);
      selectors = refl;
      choices = refl;
      models = sym (append-nil t.models);
      waveforms = sym (append-nil t.waveforms);
      rows = sym (append-nil t.rows);
      components_from = tt;
      selectors_from = omega arith;
      models_from = tt;
    }
extends-section n t (model w ts) =
    record {
      later = tables [] [] [] [] _ _ _;
      components = sym (append-nil t.components);
      pins = sym (append-nil t.pins);
      selectors = sym (append-nil t.selectors);
      choices = sym (append-nil t.choices);
      models = refl;
      waveforms = refl;
      rows = refl;
      components_from = tt;
      selectors_from = tt;
      models_from = omega arith;
    }

behind-both : {A : Type 0} {ys zs : List A} (xs more others : List A) → ys ≡ xs ++ more → zs ≡ ys ++ others → zs ≡ xs ++ (more ++ others)
behind-both xs more others e f = f ∙ rw e (append_assoc xs more others)

extends-both : (n : ℕ) (t u v : Laid) → Extends n t u → Extends (n + 1) u v → Extends n t v
extends-both n t u v x y =
    let a = x.later in
    let b = y.later in
    record {
      later =
          tables (a.components ++ b.components) (a.pins ++ b.pins) (a.selectors ++ b.selectors) (a.choices ++ b.choices)
          (a.models ++ b.models) (a.waveforms ++ b.waveforms) (a.rows ++ b.rows);
      components = behind-both t.components a.components b.components x.components y.components;
      pins = behind-both t.pins a.pins b.pins x.pins y.pins;
      selectors = behind-both t.selectors a.selectors b.selectors x.selectors y.selectors;
      choices = behind-both t.choices a.choices b.choices x.choices y.choices;
      models = behind-both t.models a.models b.models x.models y.models;
      waveforms = behind-both t.waveforms a.waveforms b.waveforms x.waveforms y.waveforms;
      rows = behind-both t.rows a.rows b.rows x.rows y.rows;
      components_from = from-both _ n a.components b.components x.components_from y.components_from;
      selectors_from = from-both _ n a.selectors b.selectors x.selectors_from y.selectors_from;
      models_from = from-both _ n a.models b.models x.models_from y.models_from;
    }

pub extends-from : (n : ℕ) (t : Laid) (xs : List SectionIs) → Extends n t (laid_from t n xs)
unfolding laid_from
extends-from n t [] = extends-none n t
extends-from n t (x ∷ xs) = extends-both n t (with_section t n x) _ (extends-section n t x) (extends-from (n + 1) (with_section t n x) xs)
