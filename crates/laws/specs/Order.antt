-- The order of texts by their bytes.
use Rattle.std.specs.Prelude.{ℕ, List, [], ◌∷◌, Bool, true, false, ◌&&◌, ◌||◌, eqb, ltb}

-- the first byte that differs decides; a text comes before a longer one that begins with it
unfoldable pub comes_before : List ℕ → List ℕ → Bool
comes_before w [] = false
comes_before [] (b ∷ n) = true
comes_before (a ∷ w) (b ∷ n) = ltb a b || (eqb a b && comes_before w n)
