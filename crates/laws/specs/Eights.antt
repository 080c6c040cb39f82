-- Texts in numbers: eight bytes lie in each, the first one lowest.
use Rattle.std.specs.Prelude.{ℕ, zero, suc, ◌/◌, ◌%◌, ◌^◌, List, [], ◌∷◌, ◌++◌, get_or}

-- byte k of a text
unfoldable pub byte_in : List ℕ → ℕ → ℕ
byte_in ws k = get_or ws (k / 8) 0 / 256 ^ (k % 8) % 256

-- its first n bytes
unfoldable pub bytes_from : List ℕ → ℕ → List ℕ
bytes_from ws zero = []
bytes_from ws (suc n) = bytes_from ws n ++ (byte_in ws n ∷ [])
