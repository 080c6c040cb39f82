-- A list of texts, one for each fault, by the fault's number; and how the code has such a list.
use Rattle.std.specs.Prelude.{ℕ, List, [], get_or}
use Prim.Native.Char.{code}
use Rattle.text_buffer.specs.Parts.{parts}

-- the first is for every number that no fault has
unfoldable pub text_for : List (List ℕ) → ℕ → List ℕ
text_for texts number = get_or texts number (get_or texts 0 [])

-- the texts of a table, a line each
abbrev pub texts_in : List ℕ → List (List ℕ)
texts_in table = parts (code "\n") table
