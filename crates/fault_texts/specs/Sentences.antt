-- The sentence for each fault of document 01, and of document 02.
use Rattle.std.specs.Prelude.{ℕ, List, [], ◌∷◌}
use Rattle.laws.specs.Bytes.{bytes}
use Rattle.fault_texts.specs.Texts.{text_for}

abbrev pub no_sentence : List ℕ
no_sentence = bytes "No fault has this number."

-- by the fault's number; the first is for every number that no fault has, and stands for those between too
unfoldable pub sentences : List (List ℕ)
sentences =
    no_sentence
    ∷ bytes "The file has more than 65,536 bytes."
    ∷ bytes "The line has a forbidden byte."
    ∷ bytes "The line is longer than 120 characters."
    ∷ bytes "The last line is not ended."
    ∷ bytes "The keyword is badly formed."
    ∷ bytes "The standard has this keyword, but it is not carried here."
    ∷ bytes "The line is out of place."
    ∷ bytes "The line gives for the second time what may be given once."
    ∷ bytes "A required part is missing."
    ∷ bytes "A word, a name or the count of words is wrong."
    ∷ bytes "A word is not a number, and must be one."
    ∷ bytes "A number is out of range."
    ∷ bytes "A row is out of order, or a divisor is not above zero; or a table's row count or end typ is wrong."
    ∷ bytes "The name is already used."
    ∷ bytes "The model name is not found."
    ∷ bytes "The model or selector is not listed."
    ∷ bytes "A bound is passed."
    ∷ no_sentence
    ∷ bytes "There is no [End]."
    ∷ bytes "Vinl is not below Vinh."
    ∷ bytes "No keyword has this name."
    ∷ no_sentence
    ∷ no_sentence
    ∷ no_sentence
    ∷ bytes "Fewer than 8,192 rows are lent."
    ∷ []

unfoldable pub sentence_of : ℕ → List ℕ
sentence_of n = text_for sentences n
