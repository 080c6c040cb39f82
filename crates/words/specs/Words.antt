-- A word is a longest run without blanks.
use Rattle.std.specs.Prelude.{ℕ, zero, suc, List, [], ◌∷◌, Bool, cond, not, get_or}
use Rattle.laws.specs.Bytes.{is_blank}
use Rattle.laws.specs.Lists.{after}

-- the byte goes in front of the first word
unfoldable pub onto_word : ℕ → List (List ℕ) → List (List ℕ)
onto_word b [] = (b ∷ []) ∷ []
onto_word b (w ∷ ws) = (b ∷ w) ∷ ws

-- a byte of a word, what follows it, and the words there: the byte is a word by itself if a blank or nothing follows
unfoldable pub grown : ℕ → List ℕ → List (List ℕ) → List (List ℕ)
grown b [] ws = (b ∷ []) ∷ ws
grown b (x ∷ xs) ws = cond (is_blank x) ((b ∷ []) ∷ ws) (onto_word b ws)

unfoldable pub words : List ℕ → List (List ℕ)
words [] = []
words (b ∷ bs) = cond (is_blank b) (words bs) (grown b bs (words bs))

-- the word at a place, from 0; past the last an empty one
unfoldable pub word : ℕ → List (List ℕ) → List ℕ
word n ws = get_or ws n []

-- what a word is made of
unfoldable pub is_ink : ℕ → Bool
is_ink b = not (is_blank b)

-- the rest of a text from its word at a place on, from 0; nothing where there are no more
unfoldable pub rest_from : ℕ → List ℕ → List ℕ
rest_from zero w = after is_blank w
rest_from (suc n) w = rest_from n (after is_ink (after is_blank w))
