-- "A line whose first word begins with a letter", by the places that the code has of that word.
use Prim.Native.Nat.{ℕ, ◌≤◌, ◌<◌}
use mathlib.Core.Path.{◌≡◌, refl, ap, ◌∙◌}
use mathlib.Core.List.{List, [], ◌∷◌}
use mathlib.Core.Bool.{false}
use native.Mathlib.Omega.{arith}
use lib.ListN.{length, get_or}
use Rattle.laws.specs.Bytes.{is_letter}
use Rattle.laws.specs.Lists.{part}
use Rattle.laws.proofs.Lists.{none_of, part_length, part-first}
use Rattle.rules.specs.Model.{begins_letter}

begins-first : (l : List ℕ) → 0 < length l → begins_letter l ≡ is_letter (get_or l 0 0)
unfolding begins_letter
begins-first [] h = absurd (omega arith)
begins-first (b ∷ bs) h = refl

pub begins-none : (w : List ℕ) (a e : ℕ) → e ≤ a → e ≤ length w → begins_letter (part a e w) ≡ false
unfolding begins_letter
begins-none w a e h g = ap begins_letter (none_of (part a e w) (omega (arith, part_length w a e g)))

pub begins-some : (w : List ℕ) (a e : ℕ) → a < e → e ≤ length w → begins_letter (part a e w) ≡ is_letter (get_or w a 0)
begins-some w a e h g =
    begins-first (part a e w) (omega (arith, part_length w a e g)) ∙ ap is_letter (part-first w a e 0 h)
