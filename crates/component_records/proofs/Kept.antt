-- The words for no model are kept in capitals, one law a word.
use Prim.Native.Nat.{ℕ}
use mathlib.Core.Path.{◌≡◌}
use mathlib.Core.List.{List, map}
use mathlib.Core.Bool.{true, false}
use Rattle.laws.specs.Bytes.{bytes, capital}
use Rattle.laws.specs.Lists.{eqs, one_of}
use Rattle.laws.proofs.Same.{eqs-eq}
use Rattle.line_rules.specs.Fields.{needs_no_model}
use Rattle.rules.specs.Component.{kept_model}

module _ (w : List ℕ) where
  pub kept-power : eqs (map capital w) (bytes "POWER") ≡ true → kept_model w ≡ bytes "POWER"
  unfolding kept_model needs_no_model one_of
  kept-power h = rw h (eqs-eq (map capital w) (bytes "POWER") h)

  module _ (p : eqs (map capital w) (bytes "POWER") ≡ false) where
    pub kept-ground : eqs (map capital w) (bytes "GND") ≡ true → kept_model w ≡ bytes "GND"
    unfolding kept_model needs_no_model one_of
    kept-ground h = rw (p, h) (eqs-eq (map capital w) (bytes "GND") h)

    module _ (g : eqs (map capital w) (bytes "GND") ≡ false) where
      pub kept-none : eqs (map capital w) (bytes "NC") ≡ true → kept_model w ≡ bytes "NC"
      unfolding kept_model needs_no_model one_of
      kept-none h = rw (p, g, h) (eqs-eq (map capital w) (bytes "NC") h)

      pub kept-other : eqs (map capital w) (bytes "NC") ≡ false → kept_model w ≡ w
      unfolding kept_model needs_no_model one_of
      kept-other h = rw (p, g, h)
