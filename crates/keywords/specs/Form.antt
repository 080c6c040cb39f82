-- Document 01, "Lines and words": the form of a keyword line. Its text begins with `[`.
use Rattle.std.specs.Prelude.{ℕ, List, [], ◌∷◌, map, Bool, true, false, cond, ◌&&◌, ◌||◌, drop, eqb}
use Prim.Native.Char.{code}
use Rattle.laws.specs.Bytes.{is_blank, spelled_byte}
use Rattle.laws.specs.Lists.{front, after, other}

-- the text up to the first `]`
unfoldable pub inside : List ℕ → List ℕ
inside w = front (other (code "]")) (drop 1 w)

-- what stands from there on, the `]` first
unfoldable pub closing : List ℕ → List ℕ
closing w = after (other (code "]")) (drop 1 w)

-- one space or one underscore joins two parts
unfoldable pub is_joint : ℕ → Bool
is_joint b = eqb b (code " ") || eqb b (code "_")

-- one or more parts, of characters other than blanks and underscores, joined by one space or one underscore;
-- the first argument says whether a part's character stands just before
unfoldable pub in_parts : Bool → List ℕ → Bool
in_parts part [] = part
in_parts part (b ∷ bs) =
    cond (is_joint b) (part && in_parts false bs)
    (cond (is_blank b) false (in_parts true bs))

-- there is a `]`, and after it comes nothing or a blank
unfoldable pub is_closed : List ℕ → Bool
is_closed [] = false
is_closed (b ∷ []) = true
is_closed (b ∷ c ∷ cs) = is_blank c

unfoldable pub is_formed : List ℕ → Bool
is_formed w = in_parts false (inside w) && is_closed (closing w)

-- letter case is ignored, and space equals underscore
unfoldable pub spelled : List ℕ → List ℕ
spelled w = map spelled_byte w

-- what follows the keyword, without the blanks before it
unfoldable pub argument : List ℕ → List ℕ
argument w = after is_blank (drop 1 (closing w))
