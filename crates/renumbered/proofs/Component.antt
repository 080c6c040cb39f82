-- A component's steps under a new numbering of lines.
use Prim.Native.Nat.{ℕ}
use mathlib.Core.Path.{◌≡◌, refl}
use mathlib.Core.List.{List}
use Rattle.keywords.specs.declared.ComponentPart.{ComponentPart}
use Rattle.keywords.specs.declared.ComponentPart.TheVariants.{Manufacturer, Package, Pin}
use Rattle.line_rules.specs.Fields.{line_at}
use Rattle.line_rules.specs.Tables.{component_lines, package_lines}
use Rattle.rules.specs.Component.{component_line, component_opens, component_part, component_shut, component_done}
use Rattle.rules.specs.declared.ComponentList.{ComponentList}
use Rattle.rules.specs.declared.ComponentList.TheVariants.{ComponentFirst, ComponentShut, PackageLines, PinRows}
use Rattle.rules.specs.declared.ComponentState.{ComponentState}
use Rattle.renumbered.proofs.Stages.{component_list_at, component_at, went_at, passes_at, refuse-at, named-at}

module _ (f : ℕ → ℕ) where
  pub component-line-at : (c : ComponentState) (k : ℕ) (w : List ℕ) (l : ComponentList)
      → went_at f (component_line c k w l) ≡ component_line (component_at f c) (f k) w (component_list_at f l)
  component-line-at c k w ComponentFirst = named-at f c.first (line_at component_lines w) _ k w _ _ (λ g. refl)
  component-line-at c k w ComponentShut = refl
  component-line-at c k w (PackageLines o g) = named-at f g (line_at package_lines w) _ k w _ _ (λ h. refl)
  component-line-at c k w (PinRows o long any) = simp (passes_at f)

  opens_at : (k : ℕ) (w : List ℕ) (p : ComponentPart) → component_list_at f (component_opens k w p) ≡ component_opens (f k) w p
  opens_at k w Manufacturer = refl
  opens_at k w Package = refl
  opens_at k w Pin = refl

  pub component-part-at : (c : ComponentState) (k : ℕ) (w : List ℕ) (p : ComponentPart) → went_at f (component_part c k w p) ≡ component_part (component_at f c) (f k) w p
  unfolding component_part
  component-part-at c k w p = simp (refuse-at f, passes_at f, opens_at)

  pub component-shut-at : (c : ComponentState) (l : ComponentList) → went_at f (component_shut c l) ≡ component_shut (component_at f c) (component_list_at f l)
  component-shut-at c ComponentFirst = refl
  component-shut-at c ComponentShut = refl
  component-shut-at c (PackageLines o g) = simp (refuse-at f)
  component-shut-at c (PinRows o long any) = simp (refuse-at f)

  pub component-done-at : (c : ComponentState) → component_done (component_at f c) ≡ component_done c
  unfolding component_done
  component-done-at c = refl
