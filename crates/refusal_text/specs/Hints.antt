-- What to look at: where a fault tells its column, the word that stands there is named.
use Rattle.std.specs.Prelude.{ℕ, ◌-◌, List, [], ◌∷◌, ◌++◌, map, Bool, cond, eqb, drop}
use Prim.Native.Char.{code}
use Rattle.laws.specs.Bytes.{bytes}
use Rattle.laws.specs.Lists.{front, one_of}
use Rattle.decimal.specs.Decimal.{is_missing}
use Rattle.records.specs.declared.Fault.{Fault}
use Rattle.words.specs.Words.{words, word, is_ink}
use Rattle.fault_texts.specs.Hints.{hint_of}
use Rattle.refusal_text.specs.Places.{text_of_line}
use Rattle.refusal_text.specs.Shown.{visible}

-- the word at a place of a line's text: what stands there up to the next blank; nothing where a word is missing
unfoldable pub word_at : List ℕ → ℕ → List ℕ
word_at w place = front is_ink (drop place w)

-- a word in a sentence
unfoldable pub quoted : List ℕ → List ℕ
quoted v = bytes "`" ++ map visible v ++ bytes "`"

-- ---- 10: a word is missing, too many or wrong

unfoldable pub wrong_text : List ℕ → List ℕ
wrong_text v =
    quoted v ++ bytes " is wrong here: look at the spelling, the letter case and the length (blanks count), and whether `=` belongs before it."

unfoldable pub surplus_text : List ℕ → List ℕ
surplus_text v = quoted v ++ bytes " is one word too many, or misspelled: those before it are enough, and `=` counts as one."

abbrev pub missing_text : List ℕ
missing_text = bytes "A word is missing behind what stands here; a comment does not count."

abbrev pub equals_text : List ℕ
equals_text = bytes "No `=` may stand here: leave it out, with a blank in its place."

unfoldable pub word_hint : Bool → List ℕ → List ℕ
word_hint surplus [] = missing_text
word_hint surplus (b ∷ v) =
    cond surplus (surplus_text (b ∷ v))
    (cond (eqb b (code "=")) equals_text
    (wrong_text (b ∷ v)))

-- ---- 11: NA where a number must stand, a slope that is none, or no number

abbrev pub absent_text : List ℕ
absent_text = bytes "Here a number must stand: NA is for min and max, for a pin's own values and inside a table."

unfoldable pub slope_text : List ℕ → List ℕ
slope_text v = quoted v ++ bytes " is not two numbers with one `/` between. " ++ hint_of 11

unfoldable pub number_text : List ℕ → List ℕ
number_text v = quoted v ++ bytes " is no number. " ++ hint_of 11

-- a line of slopes
unfoldable pub has_slopes : List ℕ → Bool
has_slopes w = one_of (word 0 (words w)) (bytes "dV/dt_r" ∷ bytes "dV/dt_f" ∷ [])

unfoldable pub number_hint : List ℕ → List ℕ → List ℕ
number_hint w v = cond (is_missing v) absent_text (cond (has_slopes w) (slope_text v) (number_text v))

-- ---- 12: a number out of range

unfoldable pub range_hint : List ℕ → List ℕ
range_hint v = bytes "Look at " ++ quoted v ++ bytes ". " ++ hint_of 12

-- ---- all of them

-- of a fault at a word v of the text w; surplus is whether v is too many
unfoldable pub hint_at : List ℕ → List ℕ → ℕ → Bool → List ℕ
hint_at w v n surplus =
    cond (eqb n 10) (word_hint surplus v)
    (cond (eqb n 11) (number_hint w v)
    (cond (eqb n 12) (range_hint v)
    (hint_of n)))

-- columns are counted from 1, places from 0; column 0 is none
unfoldable pub hint_text : List ℕ → Fault → Bool → List ℕ
hint_text s f surplus =
    let w = text_of_line s f.line in
    cond (eqb f.column 0) (hint_of f.number) (hint_at w (word_at w (f.column - 1)) f.number surplus)
