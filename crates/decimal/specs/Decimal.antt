-- What a word says as a number and as a cell, how numbers are ordered, and a cell as one word: document 01, "Numbers".
-- A word is the list of its bytes. All numbers here are unbounded.
use Rattle.std.specs.Prelude.{ℕ, ◌+◌, ◌-◌, ◌*◌, ◌%◌, ◌^◌, List, [], ◌∷◌, ◌++◌, map, Bool, false, cond, ◌||◌, ltb, leb, eqb, length, drop, Ok, Err}
use Prim.Native.Char.{code}
use Rattle.laws.specs.Bytes.{bytes, is_digit, is_letter, capital}
use Rattle.laws.specs.Lists.{front, after, trim, begins, all, eqs}
use Rattle.laws.specs.Said.{Said, read_on}
use Rattle.decimal.specs.declared.Decimal.{Decimal}
use Rattle.decimal.specs.declared.Cell.{Cell}
use Rattle.decimal.specs.declared.Cell.TheVariants.{Number, Missing}

-- ---- "Optional sign"

unfoldable pub is_minus : List ℕ → Bool
is_minus w = begins (code "-") w

unfoldable pub after_sign : List ℕ → List ℕ
after_sign w = cond (begins (code "+") w || begins (code "-") w) (drop 1 w) w

-- ---- "digits with at most one point"

-- where a point stands first: the places, which are the digits after it, and what follows them
unfoldable pub point_places : List ℕ → List ℕ
point_places s = cond (begins (code ".") s) (front is_digit (drop 1 s)) []

unfoldable pub after_point : List ℕ → List ℕ
after_point s = cond (begins (code ".") s) (after is_digit (drop 1 s)) s

-- of a word without its sign: all digits, and what follows them
unfoldable pub figures : List ℕ → List ℕ
figures s = front is_digit s ++ point_places (after is_digit s)

unfoldable pub after_figures : List ℕ → List ℕ
after_figures s = after_point (after is_digit s)

-- ---- digits as a number

-- the number that digits say, read after n
unfoldable pub numeral_from : ℕ → List ℕ → ℕ
numeral_from n [] = n
numeral_from n (d ∷ ds) = numeral_from (n * 10 + (d - code "0")) ds

unfoldable pub numeral : List ℕ → ℕ
numeral ds = numeral_from 0 ds

-- "with no trailing zero": the digits without the zeros at their end, and how many zeros were cut
unfoldable pub significant : List ℕ → List ℕ
significant ds = trim (λ b. eqb b (code "0")) ds

unfoldable pub zeros_cut : List ℕ → ℕ
zeros_cut ds = length ds - length (significant ds)

-- ---- "optionally `e` or `E`, optional sign, digits"

-- what follows the e, and the exponent's digits
unfoldable pub after_e : List ℕ → List ℕ
after_e s = cond (begins (code "e") s || begins (code "E") s) (drop 1 s) []

unfoldable pub exponent_digits : List ℕ → List ℕ
exponent_digits s = front is_digit (after_sign (after_e s))

-- what the exponent adds to the power, and what it takes away
unfoldable pub plus_exponent : List ℕ → ℕ
plus_exponent s = cond (is_minus (after_e s)) 0 (numeral (exponent_digits s))

unfoldable pub minus_exponent : List ℕ → ℕ
minus_exponent s = cond (is_minus (after_e s)) (numeral (exponent_digits s)) 0

-- ---- "then letters only". "An `e` without digits after it is such a letter"

unfoldable pub letters : List ℕ → List ℕ
letters s = cond (eqb (length (exponent_digits s)) 0) s (after is_digit (after_sign (after_e s)))

-- "The first of those letters scales: T 12, G 9, M 6, k 3, m −3, u −6, n −9, p −12, f −15; another letter scales nothing"
unfoldable pub scale_up : List ℕ → ℕ
scale_up [] = 0
scale_up (b ∷ bs) =
    cond (eqb b (code "T")) 12 (cond (eqb b (code "G")) 9 (cond (eqb b (code "M")) 6 (cond (eqb b (code "k")) 3 0)))

unfoldable pub scale_down : List ℕ → ℕ
scale_down [] = 0
scale_down (b ∷ bs) =
    cond (eqb b (code "m")) 3 (cond (eqb b (code "u")) 6 (cond (eqb b (code "n")) 9 (cond (eqb b (code "p")) 12 (cond (eqb b (code "f")) 15 0))))

-- ---- "The result is a whole number times a power of ten": n, and the power as up less down, kept with the offset added

abbrev pub offset : ℕ
offset = 40

-- "zero is 0 and power 0". "More than 15 digits, or a power outside −40 to 24, is fault 12"
unfoldable pub ranged : Bool → ℕ → ℕ → ℕ → Said Decimal
ranged minus n up down =
    cond (eqb n 0) (Ok (record { negative = false; digits = 0; power = offset }))
    (cond (leb (10 ^ 15) n || ltb (up + offset) down || ltb (down + 24) up) (Err 12)
    (Ok (record { negative = minus; digits = n; power = up + offset - down })))

-- from the digits, the count of places, and what follows them
unfoldable pub result_of : Bool → List ℕ → ℕ → List ℕ → Said Decimal
result_of minus ds count s =
    ranged minus (numeral (significant ds))
    (zeros_cut ds + scale_up (letters s) + plus_exponent s)
    (count + scale_down (letters s) + minus_exponent s)

-- "at least one digit", "then letters only": else fault 11, not a number
unfoldable pub unsigned : Bool → List ℕ → Said Decimal
unsigned minus s =
    cond (eqb (length (figures s)) 0) (Err 11)
    (cond (all is_letter (letters (after_figures s))) (result_of minus (figures s) (length (point_places (after is_digit s))) (after_figures s)) (Err 11))

unfoldable pub number_of : List ℕ → Said Decimal
number_of w = unsigned (is_minus w) (after_sign w)

-- ---- "A cell is a number or is missing (NA)", NA in any letter case

unfoldable pub is_missing : List ℕ → Bool
is_missing w = eqs (map capital w) (bytes "NA")

-- a number where none may be missing
unfoldable pub given_cell : List ℕ → Said Cell
given_cell w = read_on (number_of w) (λ d. Ok (Number d))

unfoldable pub cell_of : List ℕ → Said Cell
cell_of w = cond (is_missing w) (Ok Missing) (given_cell w)

-- ---- "Order between numbers is exact": sizes count in units of ten to the −40

abbrev pub size_of : Decimal → ℕ
size_of d = d.digits * 10 ^ d.power

-- below: of two negative numbers the larger; of a negative and another, unless both are zero
unfoldable pub less_than : Decimal → Decimal → Bool
less_than a b =
    cond a.negative
    (cond b.negative (ltb (size_of b) (size_of a)) (ltb 0 (size_of a + size_of b)))
    (cond b.negative false (ltb (size_of a) (size_of b)))

-- "above zero"
unfoldable pub above_zero : Decimal → Bool
above_zero d = cond d.negative false (ltb 0 d.digits)

-- ---- a cell as one word of the row store: digits, power and sign, or the word that means missing

abbrev pub missing_word : ℕ
missing_word = 2 ^ 64 - 1

abbrev pub word_of : Cell → ℕ
word_of (Number d) = d.digits % 10 ^ 15 * 512 + d.power * 2 + cond d.negative 1 0
word_of Missing = missing_word
