-- An element of a list below its length.
use mathlib.Core.Path.{◌≡◌, refl}
use Prim.Native.Nat.{ℕ, zero, suc, ◌<◌}
use native.Mathlib.Nat.{not-suc-le-zero, le_of_suc-le-suc}
use mathlib.Core.List.{List, [], ◌∷◌}
use lib.ListN.{length, get_or}

-- ---- lists: an element below the length, whatever stands for one past the end
pub nth : {X : Type 0} (ys : List X) (i : ℕ) → i < length ys → X
nth [] i l = absurd (not-suc-le-zero l)
nth (y ∷ ys) i l = y

pub get_d_any : {X : Type 0} (ys : List X) (i : ℕ) (d d' : X) → i < length ys → get_or ys i d ≡ get_or ys i d'
get_d_any [] i d d' l = absurd (not-suc-le-zero l)
get_d_any (y ∷ ys) zero d d' l = refl
get_d_any (y ∷ ys) (suc i) d d' l = get_d_any ys i d d' (le_of_suc-le-suc l)
