-- What stands on a line: names, cells, numbers behind `=`, rows and slopes. Each says its value, or has a fault of document 01's numbers; a word's
-- fault is a number, a line's a number and where, said by the rest of the line from there on.
use Rattle.std.specs.Prelude.{ℕ, List, [], ◌∷◌, map, Bool, true, false, cond, not, ◌&&◌, ◌||◌, length, drop, eqb, leb, Result, Ok, Err, Option}
use Prim.Native.Char.{code}
use Prim.Native.String.{String}
use Rattle.laws.specs.Bytes.{bytes, is_blank, is_digit, is_small, capital}
use Rattle.laws.specs.Lists.{front, after, begins, among, other, eqs, one_of}
use Rattle.laws.specs.Said.{Said, fault_in, or_else, read_on, or_fault}
use Rattle.decimal.specs.Decimal.{number_of, given_cell, cell_of, is_missing, above_zero}
use Rattle.decimal.specs.declared.Decimal.{Decimal}
use Rattle.decimal.specs.declared.Cell.{Cell}
use Rattle.words.specs.Words.{word, words, rest_from}
use Rattle.name_table.specs.Names.{Naming, meaning, place_from}
use Rattle.records.specs.Flaws.{Flaw, Reads, sound, flaw, said_at}
use Rattle.records.specs.declared.Triple.{Triple}
use Rattle.records.specs.declared.Range.{Range}
use Rattle.records.specs.declared.Row.{Row}
use Rattle.records.specs.declared.RampCell.{RampCell}
use Rattle.records.specs.declared.RampCell.TheVariants.{Ratio, Absent}
use Rattle.records.specs.declared.RampTriple.{RampTriple}

-- ---- names

-- 1 to n characters
unfoldable pub is_sized : ℕ → List ℕ → Bool
is_sized n w = leb 1 (length w) && leb (length w) n

-- "begins with `[`"
unfoldable pub is_bracketed : List ℕ → Bool
is_bracketed w = begins (code "[") w

-- "POWER, GND, NC, NA and CIRCUITCALL count in any letter case": the three that need no model, and the two that are none
unfoldable pub needs_no_model : List ℕ → Bool
needs_no_model w = one_of (map capital w) (bytes "POWER" ∷ bytes "GND" ∷ bytes "NC" ∷ [])

unfoldable pub is_no_model : List ℕ → Bool
is_no_model w = one_of (map capital w) (bytes "NA" ∷ bytes "CIRCUITCALL" ∷ [])

-- "no model or selector name, in selector rows too, is one of the five"
unfoldable pub is_model_name : List ℕ → Bool
is_model_name w = is_sized 40 w && (not (is_bracketed w) && (not (needs_no_model w) && not (is_no_model w)))

-- a pin row's model: "POWER, GND and NC need no model; NA and CIRCUITCALL are fault 10"
unfoldable pub is_pin_model : List ℕ → Bool
is_pin_model w = is_sized 40 w && (not (is_bracketed w) && not (is_no_model w))

unfoldable pub is_pin_name : List ℕ → Bool
is_pin_name w = is_sized 8 w && not (is_bracketed w)

-- "1 to 40 of a–z, 0–9, ``_^$~!#%&-{})(@'` `` then `.ibs`"
unfoldable pub is_file_byte : ℕ → Bool
is_file_byte b = is_small b || (is_digit b || among b (bytes "_^$~!#%&-{})(@'`"))

unfoldable pub is_file_name : List ℕ → Bool
is_file_name w = is_sized 40 (front is_file_byte w) && eqs (after is_file_byte w) (bytes ".ibs")

-- "[IBIS Ver] is the first keyword, argument `5.0`"
unfoldable pub is_version : List ℕ → Bool
is_version v = eqs v (bytes "5.0")

-- ---- words

-- what the word at place n of a text says, read so; a fault of it is told where it begins
unfoldable pub word_by : {A : Type 0} → (List ℕ → Said A) → ℕ → List ℕ → Reads A
word_by read n v = said_at (rest_from n v) (read (word n (words v)))

-- just n words; another count is 10, told at the first that is too many, or behind the last where one is missing
unfoldable pub exactly : {A : Type 0} → ℕ → Reads A → List ℕ → Reads A
exactly n said v = cond (eqb (length (words v)) n) said (Err (flaw 10 (rest_from n v)))

-- what was read, if nothing is left; what is left is at fault
unfoldable pub ended : {A : Type 0} → A → List ℕ → Reads A
ended a rest = cond (eqb (length rest) 0) (Ok a) (Err (flaw 10 rest))

-- the first word, read so, and none behind it: what is wrong with the word stands left of what is too many
unfoldable pub alone : {A : Type 0} → (List ℕ → Said A) → List ℕ → Reads A
alone read v = read_on (word_by read 0 v) (λ a. ended a (rest_from 1 v))

-- a word that passes the test; another is 10
unfoldable pub passing : (List ℕ → Bool) → List ℕ → Said (List ℕ)
passing p w = cond (p w) (Ok w) (Err 10)

-- what a word means in a table; one that is none of the table's is 10
unfoldable pub word_in : {A : Type 0} → List (Naming A) → List ℕ → Said A
word_in table w = or_fault 10 (meaning w table)

-- what stands behind a keyword that takes no argument is at fault
unfoldable pub no_argument : List ℕ → Flaw
no_argument v = cond (eqb (length v) 0) sound (flaw 10 v)

-- ---- cells and rows

-- "typ min max": the leftmost fault counts
abbrev pub typ_min_max : {F A B : Type 0} → (A → A → A → B) → Result A F → Result A F → Result A F → Result B F
typ_min_max kept typ min max = read_on typ (λ a. read_on min (λ b. read_on max (λ c. Ok (kept a b c))))

-- three cells, of which typ is read by `typ`
unfoldable pub cells_by : (List ℕ → Said Cell) → List ℕ → Reads Triple
cells_by typ v =
    exactly 3 (typ_min_max (λ a b c. record { typ = a; min = b; max = c }) (word_by typ 0 v) (word_by cell_of 1 v) (word_by cell_of 2 v)) v

unfoldable pub three_cells : List ℕ → Reads Triple
three_cells v = cells_by given_cell v

-- "A row is a number and three cells"; inside a table typ may be missing
unfoldable pub row_of : List ℕ → Reads Row
row_of w =
    exactly 4 (read_on (word_by number_of 0 w) (λ d. read_on (cells_by cell_of (rest_from 1 w)) (λ c. Ok (record { number = d; cells = c })))) w

-- ---- a ramp's cells: "each one word of two numbers with one `/` between (else 11), the second above zero, or NA for min and max"

-- the word is the unit: 11 of either number before 12 of either
abbrev pub ratio_of : Said Decimal → Said Decimal → Said RampCell
ratio_of (Ok d) b = read_on b (λ e. Ok (Ratio d e))
ratio_of (Err n) b = Err (cond (eqb (fault_in b) 11) 11 n)

unfoldable pub slope_from : List ℕ → List ℕ → Said RampCell
slope_from before [] = Err 11
slope_from before (slash ∷ behind) =
    cond (among (code "/") behind) (Err 11) (ratio_of (number_of before) (number_of behind))

unfoldable pub slope_of : List ℕ → Said RampCell
slope_of w = slope_from (front (other (code "/")) w) (after (other (code "/")) w)

unfoldable pub slope_or_missing : List ℕ → Said RampCell
slope_or_missing w = cond (is_missing w) (Ok Absent) (slope_of w)

-- 13: a divisor that is not above zero, told after 11 and 12 of all words, and with no column
abbrev pub is_upward : RampCell → Bool
is_upward (Ratio d e) = above_zero e
is_upward Absent = true

unfoldable pub upward : RampTriple → Reads RampTriple
upward t = cond (is_upward t.typ && (is_upward t.min && is_upward t.max)) (Ok t) (Err (flaw 13 []))

unfoldable pub three_slopes : List ℕ → Reads RampTriple
three_slopes v =
    exactly 3 (read_on (typ_min_max (λ a b c. record { typ = a; min = b; max = c }) (word_by slope_of 0 v) (word_by slope_or_missing 1 v) (word_by slope_or_missing 2 v)) upward) v

-- ---- named lines; a line's name is "the text up to a blank or `=`", blanks before the first word meaning nothing

unfoldable pub name_of : List ℕ → List ℕ
name_of w = front (other (code "=")) (word 0 (words w))

unfoldable pub is_named : String → List ℕ → Bool
is_named name w = eqs (name_of w) (bytes name)

-- the place of a line's name among the names that may stand there, which a text lists with a blank between
unfoldable pub line_at : String → List ℕ → Option ℕ
line_at table w = place_from 0 (name_of w) (words (bytes table))

-- what follows the name
unfoldable pub after_name : List ℕ → List ℕ
after_name w = drop (length (name_of w)) (after is_blank w)

-- the name is a word, and others follow: "=" right behind it is at fault itself
unfoldable pub behind_name : {A : Type 0} → (List ℕ → Reads A) → List ℕ → Reads A
behind_name read w = cond (begins (code "=") (after_name w)) (Err (flaw 10 (after_name w))) (read (after_name w))

-- a name and a word of a table; a name and three cells; a name and three of a ramp's cells
unfoldable pub word_line : {A : Type 0} → List (Naming A) → List ℕ → Reads A
word_line table w = behind_name (alone (word_in table)) w

unfoldable pub cells_line : List ℕ → Reads Triple
cells_line w = behind_name three_cells w

-- the same, where it may be absent as a whole
unfoldable pub group_line : List ℕ → Reads Range
group_line w = read_on (cells_line w) (λ c. Ok (record { given = true; cells = c }))

unfoldable pub slopes_line : List ℕ → Reads RampTriple
slopes_line w = behind_name three_slopes w

-- "name, `=`, number, blanks free around it": behind `=` stands just one word; what stands where `=` must is at fault
unfoldable pub behind_equals : List ℕ → Reads Cell
behind_equals v = cond (begins (code "=") v) (exactly 1 (word_by given_cell 0 (drop 1 v)) (drop 1 v)) (Err (flaw 10 v))

unfoldable pub number_line : List ℕ → Reads Cell
number_line w = behind_equals (after is_blank (after_name w))

-- what a line says if it has this name, else what was said before
unfoldable pub takes : {A : Type 0} → String → (List ℕ → Reads A) → A → List ℕ → A
takes name read before w = cond (is_named name w) (or_else before (read w)) before

-- what the line of this name says; where there is none, what was said before
unfoldable pub line_says : {A : Type 0} → String → (List ℕ → Reads A) → A → List (List ℕ) → A
line_says name read before [] = before
line_says name read before (w ∷ ws) = line_says name read (takes name read before w) ws

-- ---- the heading of [Pin]: "`signal_name model_name`, or those and `R_pin L_pin C_pin`"

unfoldable pub same_words : List (List ℕ) → List (List ℕ) → Bool
same_words [] [] = true
same_words [] (b ∷ bs) = false
same_words (a ∷ xs) [] = false
same_words (a ∷ xs) (b ∷ bs) = eqs a b && same_words xs bs

abbrev pub long_heading : List (List ℕ)
long_heading = words (bytes "signal_name model_name R_pin L_pin C_pin")

-- the rest of a text from the first word on that differs from those listed
unfoldable pub differing : List (List ℕ) → List ℕ → List ℕ
differing [] v = rest_from 0 v
differing (n ∷ ns) v = cond (eqs (word 0 (words v)) n) (differing ns (rest_from 1 v)) (rest_from 0 v)

-- whether it is the long one; else told is what differs from the long one
unfoldable pub heading : List ℕ → Reads Bool
heading v =
    cond (same_words (words v) (words (bytes "signal_name model_name"))) (Ok false)
    (cond (same_words (words v) long_heading) (Ok true) (Err (flaw 10 (differing long_heading v))))
