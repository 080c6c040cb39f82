-- What the private functions answer about the parts of a word. The code keeps a long number as itself or `cap`, whichever is less.
use Rattle.std.specs.Prelude.{ℕ, ◌+◌, ◌^◌, ◌≤◌, ◌<◌, min, ◌≡◌, List, ◌++◌, Bool, cond, eqb, length, drop}
use Prim.Native.Char.{code}
use Rattle.laws.specs.Bytes.{is_digit}
use Rattle.laws.specs.Lists.{front, after}
use Rattle.decimal.specs.Decimal.{after_sign, is_minus, point_places, figures, after_figures, numeral_from, numeral, significant, zeros_cut, exponent_digits, letters, after_e}
use Rattle.decimal.specs.declared.Begun.{Begun}
use Rattle.decimal.specs.declared.word.Sign.{Sign}
use Rattle.decimal.specs.declared.word.Figures.{Figures}
use Rattle.decimal.specs.declared.word.Plain.{Plain}
use Rattle.decimal.specs.declared.word.Mantissa.{Mantissa}
use Rattle.decimal.specs.declared.word.Exponent.{Exponent}

-- above every length, so that a capped exponent is as far out of range as the whole one
abbrev pub cap : ℕ
cap = 10 ^ 19

-- the bytes of a short word at the most: no digits of it say the cap
abbrev pub short : ℕ
short = 19

abbrev pub is_zero : ℕ → Bool
is_zero b = eqb b (code "0")

-- of a word without its sign
abbrev pub places : List ℕ → List ℕ
places s = point_places (after is_digit s)

abbrev pub sign_bit : Bool → ℕ
sign_bit t = cond t 1 0

-- n and zeros stand for the digits ds
pub record StandsFor (n zeros : ℕ) (ds : List ℕ) : Type 0 where
  pub number : n ≡ min (numeral (significant ds)) cap
  pub cut : zeros ≡ zeros_cut ds

-- the sign, in the word w at a place
pub record SignRead (w : List ℕ) (at : ℕ) (r : Sign) : Type 0 where
  pub minus : r.minus ≡ is_minus (drop at w)
  pub rest : drop r.at w ≡ after_sign (drop at w)
  pub within : r.at ≤ length w

-- after the digits that n and zeros stand for, the digits from `at` on
pub record DigitsRead (w : List ℕ) (at n zeros : ℕ) (r : Figures) : Type 0 where
  pub stands : (ds : List ℕ) → StandsFor n zeros ds → StandsFor r.number r.zeros (ds ++ front is_digit (drop at w))
  pub stop : r.at ≡ at + length (front is_digit (drop at w))
  pub within : r.at ≤ length w
  pub capped : r.number ≤ cap
  pub few : r.zeros ≤ r.at

-- the same where the number that they say is kept as it is
pub record PlainRead (w : List ℕ) (at n : ℕ) (r : Plain) : Type 0 where
  pub number : r.number ≡ numeral_from n (front is_digit (drop at w))
  pub stop : r.at ≡ at + length (front is_digit (drop at w))
  pub within : r.at ≤ length w
  pub small : r.number < 10 ^ r.at

-- the digits from `at` on, in any word
pub record CappedRead (w : List ℕ) (at : ℕ) (r : Plain) : Type 0 where
  pub number : r.number ≡ min (numeral (front is_digit (drop at w))) cap
  pub stop : r.at ≡ at + length (front is_digit (drop at w))
  pub within : r.at ≤ length w

-- where the digits with their point lie in the word w, where s begins with them; the bounds keep sums small
pub record Spans (w s : List ℕ) (r : Mantissa) : Type 0 where
  pub count : r.count ≡ length (figures s)
  pub places : r.places ≡ length (places s)
  pub rest : drop r.at w ≡ after_figures s
  pub within : r.at ≤ length w
  pub some : r.count ≤ length w
  pub short : r.places ≤ length w

pub record MantissaRead (w s : List ℕ) (r : Mantissa) : Type 0 where
  pub stands : StandsFor r.number r.zeros (figures s)
  pub spans : Spans w s r
  pub few : r.zeros ≤ length w

-- the number with its trailing zeros
pub record ShortRead (w s : List ℕ) (r : Mantissa) : Type 0 where
  pub number : r.number ≡ numeral (figures s)
  pub spans : Spans w s r
  pub small : r.number < cap

-- the sign and the digits of a short word, which has some
pub record BegunRead (w : List ℕ) (r : Begun) : Type 0 where
  pub start : ℕ
  pub zeros : ℕ
  pub count : ℕ
  pub few : length w ≤ short
  pub sign : SignRead w 0 (record { minus = r.minus; at = start })
  pub mantissa : ShortRead w (drop start w) (record { number = r.number; zeros = zeros; count = count; places = r.places; at = r.at })
  pub some : 0 < count

-- the exponent, in the word w, where s begins with it or with a letter
pub record ExponentRead (w s : List ℕ) (r : Exponent) : Type 0 where
  pub minus : r.minus ≡ is_minus (after_e s)
  pub size : r.size ≡ min (numeral (exponent_digits s)) cap
  pub rest : drop r.at w ≡ letters s
  pub within : r.at ≤ length w
