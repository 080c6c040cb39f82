-- Characters and texts of the paper as the bytes that stand in a file.
use Rattle.std.specs.Prelude.{ℕ, ◌+◌, ◌-◌, List, [], ◌∷◌, Bool, cond, ◌&&◌, ◌||◌, eqb, leb}
use Prim.Native.Char.{code}
use Prim.Native.String.{String, [] as none, ◌∷◌ as ◌then◌}

-- the bytes of a quoted text
abbrev pub bytes : String → List ℕ
bytes none = []
bytes (c then s) = code c ∷ bytes s

-- blanks are space and tab
unfoldable pub is_blank : ℕ → Bool
is_blank b = eqb b (code " ") || eqb b (code "\t")

unfoldable pub is_digit : ℕ → Bool
is_digit b = leb (code "0") b && leb b (code "9")

unfoldable pub is_capital : ℕ → Bool
is_capital b = leb (code "A") b && leb b (code "Z")

unfoldable pub is_small : ℕ → Bool
is_small b = leb (code "a") b && leb b (code "z")

unfoldable pub is_letter : ℕ → Bool
is_letter b = is_capital b || is_small b

-- a small letter as its capital, and a capital as its small letter; any other byte stays
unfoldable pub capital : ℕ → ℕ
capital b = cond (is_small b) (b - 32) b

unfoldable pub small : ℕ → ℕ
small b = cond (is_capital b) (b + 32) b

-- a keyword's byte as the tables spell it: letter case is ignored, and space equals underscore
unfoldable pub spelled_byte : ℕ → ℕ
spelled_byte b = cond (eqb b (code " ")) (code "_") (small b)
