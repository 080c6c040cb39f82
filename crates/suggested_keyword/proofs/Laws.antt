-- Laws of `specs/Suggestion.antt`: the keywords as they are written are the table's, by computing both; and the name in a line.
use Prim.Native.Nat.{ℕ}
use mathlib.Core.Path.{◌≡◌, refl, ap}
use mathlib.Core.List.{List, [], ◌∷◌, map}
use native.Mathlib.Omega.{arith}
use lib.ListN.{length}
use Rattle.laws.specs.Bytes.{is_capital, small, spelled_byte}
use Rattle.laws.specs.Lists.{front}
use Rattle.near_names.specs.Near.{nearest}
use Rattle.hierarchy.specs.Hierarchy.{hierarchy}
use Rattle.keywords.specs.Form.{inside, spelled}
use Rattle.suggested_keyword.specs.Suggestion.{written_names, asked, suggestion}

pub written-as-spelled : map spelled written_names ≡ hierarchy
unfolding written_names hierarchy spelled spelled_byte small is_capital
written-as-spelled = refl

-- ---- the name in a line

-- a line with nothing in it
pub inside-none : (line : List ℕ) → length line ≡ 0 → line ≡ inside line
unfolding inside front
inside-none [] h = refl
inside-none (b ∷ line) h = absurd (omega arith)

pub suggested : (line w : List ℕ) → w ≡ inside line → asked (nearest (spelled w) hierarchy) ≡ suggestion line
unfolding suggestion
suggested line w e = ap (λ (x : List ℕ). asked (nearest (spelled x) hierarchy)) e
