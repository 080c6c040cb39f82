-- What was written comes back: the values in a record's words. A byte by its place in its word, a case by its number.
use Rattle.std.specs.Prelude.{Some, None, Option}
use Prim.Native.Nat.{ℕ, zero, suc, ◌+◌, ◌*◌, ◌^◌, ◌/◌, ◌%◌, ◌≤◌, ◌<◌}
use mathlib.Core.Path.{◌≡◌, refl, sym, ap, ap₂, ◌∙◌}
use mathlib.Core.Bool.{Bool, true, false}
use mathlib.Core.List.{List, [], ◌∷◌, ◌++◌}
use native.Mathlib.Nat.{min-eq_left}
use native.Mathlib.Omega.{arith}
use lib.ListN.{length, take, get_or}
use lib.Seq.{take_all, take-suc}
use Rattle.records.specs.declared.Location.{Location}
use Rattle.records.specs.declared.Location.TheVariants.{AtPin, AtDie}
use Rattle.records.specs.declared.Polarity.{Polarity}
use Rattle.records.specs.declared.Polarity.TheVariants.{Inverting, NonInverting}
use Rattle.records.specs.declared.Enable.{Enable}
use Rattle.records.specs.declared.Enable.TheVariants.{ActiveHigh, ActiveLow}
use Rattle.records.specs.declared.Edge.{Edge}
use Rattle.records.specs.declared.Edge.TheVariants.{Rising, Falling}
use Rattle.records.specs.Texts.{Name, Words}
use Rattle.laws.specs.Eights.{byte_in, bytes_from}
use Rattle.record_words.specs.Values.{eight_at, flag_number, location_number, polarity_number, enable_number, edge_number}
use Rattle.record_words.specs.Records.{name_words, text_words}
use Rattle.table_records.specs.Values.{number_at, flag_in, location_in, polarity_in, enable_in, edge_in}
use Rattle.table_records.specs.Records.{name_from, text_from}
use Rattle.table_records.specs.Fine.{AreBytes, FineName, FineWords}

-- ---- the case of a number

pub flag-back : (t : Bool) → flag_in (flag_number t) ≡ t
unfolding flag_in
flag-back true = refl
flag-back false = refl

pub location-back : (l : Location) → location_in (location_number l) ≡ l
unfolding location_in
location-back AtPin = refl
location-back AtDie = refl

pub polarity-back : (p : Option Polarity) → polarity_in (polarity_number p) ≡ p
unfolding polarity_in
polarity-back None = refl
polarity-back (Some Inverting) = refl
polarity-back (Some NonInverting) = refl

pub enable-back : (e : Option Enable) → enable_in (enable_number e) ≡ e
unfolding enable_in
enable-back None = refl
enable-back (Some ActiveHigh) = refl
enable-back (Some ActiveLow) = refl

pub edge-back : (e : Edge) → edge_in (edge_number e) ≡ e
unfolding edge_in
edge-back Rising = refl
edge-back Falling = refl

-- ---- bytes

byte_small : (b : List ℕ) (i : ℕ) → AreBytes b → get_or b i 0 < 256
byte_small [] zero h = omega arith
byte_small [] (suc i) h = omega arith
byte_small (x ∷ b) zero h = h.0
byte_small (x ∷ b) (suc i) h = byte_small b i h.1

-- eight bytes and their places in a word
module _ (a b c d e f g h : ℕ) (la : a < 256) (lb : b < 256) (lc : c < 256) (ld : d < 256) (le : e < 256) (lf : f < 256) (lg : g < 256) (lh : h < 256) where
  abbrev eight : ℕ
  eight = a + 256 * b + 65536 * (c + 256 * d) + 4294967296 * (e + 256 * f + 65536 * (g + 256 * h))

  byte-0 : eight / 256 ^ 0 % 256 ≡ a
  byte-0 = omega arith

  byte-1 : eight / 256 ^ 1 % 256 ≡ b
  byte-1 = omega arith

  byte-2 : eight / 256 ^ 2 % 256 ≡ c
  byte-2 = omega arith

  byte-3 : eight / 256 ^ 3 % 256 ≡ d
  byte-3 = omega arith

  byte-4 : eight / 256 ^ 4 % 256 ≡ e
  byte-4 = omega arith

  byte-5 : eight / 256 ^ 5 % 256 ≡ f
  byte-5 = omega arith

  byte-6 : eight / 256 ^ 6 % 256 ≡ g
  byte-6 = omega arith

  byte-7 : eight / 256 ^ 7 % 256 ≡ h
  byte-7 = omega arith

-- place r of the eight bytes from i on
module _ (b : List ℕ) (i : ℕ) (are : AreBytes b) where
  at_place : (r k j : ℕ) → k ≡ j → eight_at b i / 256 ^ r % 256 ≡ get_or b k 0 → eight_at b i / 256 ^ r % 256 ≡ get_or b j 0
  at_place r k j e h = h ∙ ap (λ (n : ℕ). get_or b n 0) e

  eight-byte : (r : ℕ) → r < 8 → eight_at b i / 256 ^ r % 256 ≡ get_or b (i + r) 0
  unfolding eight_at
  eight-byte zero l = at_place 0 i (i + 0) (omega arith) (byte-0 (get_or b i 0) (get_or b (i + 1) 0) (get_or b (i + 2) 0) (get_or b (i + 2 + 1) 0) (get_or b (i + 4) 0) (get_or b (i + 4 + 1) 0) (get_or b (i + 4 + 2) 0) (get_or b (i + 4 + 2 + 1) 0) (byte_small b i are) (byte_small b (i + 1) are) (byte_small b (i + 2) are) (byte_small b (i + 2 + 1) are) (byte_small b (i + 4) are) (byte_small b (i + 4 + 1) are) (byte_small b (i + 4 + 2) are) (byte_small b (i + 4 + 2 + 1) are))
  eight-byte (suc zero) l = at_place 1 (i + 1) (i + 1) (omega arith) (byte-1 (get_or b i 0) (get_or b (i + 1) 0) (get_or b (i + 2) 0) (get_or b (i + 2 + 1) 0) (get_or b (i + 4) 0) (get_or b (i + 4 + 1) 0) (get_or b (i + 4 + 2) 0) (get_or b (i + 4 + 2 + 1) 0) (byte_small b i are) (byte_small b (i + 1) are) (byte_small b (i + 2) are) (byte_small b (i + 2 + 1) are) (byte_small b (i + 4) are) (byte_small b (i + 4 + 1) are) (byte_small b (i + 4 + 2) are) (byte_small b (i + 4 + 2 + 1) are))
  eight-byte (suc (suc zero)) l = at_place 2 (i + 2) (i + 2) (omega arith) (byte-2 (get_or b i 0) (get_or b (i + 1) 0) (get_or b (i + 2) 0) (get_or b (i + 2 + 1) 0) (get_or b (i + 4) 0) (get_or b (i + 4 + 1) 0) (get_or b (i + 4 + 2) 0) (get_or b (i + 4 + 2 + 1) 0) (byte_small b i are) (byte_small b (i + 1) are) (byte_small b (i + 2) are) (byte_small b (i + 2 + 1) are) (byte_small b (i + 4) are) (byte_small b (i + 4 + 1) are) (byte_small b (i + 4 + 2) are) (byte_small b (i + 4 + 2 + 1) are))
  eight-byte (suc (suc (suc zero))) l = at_place 3 (i + 2 + 1) (i + 3) (omega arith) (byte-3 (get_or b i 0) (get_or b (i + 1) 0) (get_or b (i + 2) 0) (get_or b (i + 2 + 1) 0) (get_or b (i + 4) 0) (get_or b (i + 4 + 1) 0) (get_or b (i + 4 + 2) 0) (get_or b (i + 4 + 2 + 1) 0) (byte_small b i are) (byte_small b (i + 1) are) (byte_small b (i + 2) are) (byte_small b (i + 2 + 1) are) (byte_small b (i + 4) are) (byte_small b (i + 4 + 1) are) (byte_small b (i + 4 + 2) are) (byte_small b (i + 4 + 2 + 1) are))
  eight-byte (suc (suc (suc (suc zero)))) l = at_place 4 (i + 4) (i + 4) (omega arith) (byte-4 (get_or b i 0) (get_or b (i + 1) 0) (get_or b (i + 2) 0) (get_or b (i + 2 + 1) 0) (get_or b (i + 4) 0) (get_or b (i + 4 + 1) 0) (get_or b (i + 4 + 2) 0) (get_or b (i + 4 + 2 + 1) 0) (byte_small b i are) (byte_small b (i + 1) are) (byte_small b (i + 2) are) (byte_small b (i + 2 + 1) are) (byte_small b (i + 4) are) (byte_small b (i + 4 + 1) are) (byte_small b (i + 4 + 2) are) (byte_small b (i + 4 + 2 + 1) are))
  eight-byte (suc (suc (suc (suc (suc zero))))) l = at_place 5 (i + 4 + 1) (i + 5) (omega arith) (byte-5 (get_or b i 0) (get_or b (i + 1) 0) (get_or b (i + 2) 0) (get_or b (i + 2 + 1) 0) (get_or b (i + 4) 0) (get_or b (i + 4 + 1) 0) (get_or b (i + 4 + 2) 0) (get_or b (i + 4 + 2 + 1) 0) (byte_small b i are) (byte_small b (i + 1) are) (byte_small b (i + 2) are) (byte_small b (i + 2 + 1) are) (byte_small b (i + 4) are) (byte_small b (i + 4 + 1) are) (byte_small b (i + 4 + 2) are) (byte_small b (i + 4 + 2 + 1) are))
  eight-byte (suc (suc (suc (suc (suc (suc zero)))))) l = at_place 6 (i + 4 + 2) (i + 6) (omega arith) (byte-6 (get_or b i 0) (get_or b (i + 1) 0) (get_or b (i + 2) 0) (get_or b (i + 2 + 1) 0) (get_or b (i + 4) 0) (get_or b (i + 4 + 1) 0) (get_or b (i + 4 + 2) 0) (get_or b (i + 4 + 2 + 1) 0) (byte_small b i are) (byte_small b (i + 1) are) (byte_small b (i + 2) are) (byte_small b (i + 2 + 1) are) (byte_small b (i + 4) are) (byte_small b (i + 4 + 1) are) (byte_small b (i + 4 + 2) are) (byte_small b (i + 4 + 2 + 1) are))
  eight-byte (suc (suc (suc (suc (suc (suc (suc zero))))))) l = at_place 7 (i + 4 + 2 + 1) (i + 7) (omega arith) (byte-7 (get_or b i 0) (get_or b (i + 1) 0) (get_or b (i + 2) 0) (get_or b (i + 2 + 1) 0) (get_or b (i + 4) 0) (get_or b (i + 4 + 1) 0) (get_or b (i + 4 + 2) 0) (get_or b (i + 4 + 2 + 1) 0) (byte_small b i are) (byte_small b (i + 1) are) (byte_small b (i + 2) are) (byte_small b (i + 2 + 1) are) (byte_small b (i + 4) are) (byte_small b (i + 4 + 1) are) (byte_small b (i + 4 + 2) are) (byte_small b (i + 4 + 2 + 1) are))
  eight-byte (suc (suc (suc (suc (suc (suc (suc (suc r)))))))) l = absurd (omega arith)

-- a text of m words
module _ (b ws : List ℕ) (m : ℕ) (are : AreBytes b) (words : (j : ℕ) → j < m → number_at ws j ≡ eight_at b (8 * j)) where
  byte-back : (k : ℕ) → k < 8 * m → byte_in ws k ≡ get_or b k 0
  unfolding byte_in
  byte-back k h =
      let e : 8 * (k / 8) + k % 8 ≡ k = omega arith in
      ap (λ (w : ℕ). w / 256 ^ (k % 8) % 256) (words (k / 8) (omega arith)) ∙ eight-byte b (8 * (k / 8)) are (k % 8) (omega arith) ∙ ap (λ (n : ℕ). get_or b n 0) e

  bytes-to : (k : ℕ) → k ≤ 8 * m → k ≤ length b → bytes_from ws k ≡ take k b
  unfolding bytes_from
  bytes-to zero h l = refl
  bytes-to (suc k) h l =
      ap₂ (λ (f : List ℕ) (x : ℕ). f ++ (x ∷ [])) (bytes-to k (omega arith) (omega arith)) (byte-back k (omega arith)) ∙ sym (take-suc b k 0 l)

  bytes_back : length b ≡ 8 * m → bytes_from ws (8 * m) ≡ b
  bytes_back e = bytes-to (8 * m) (omega arith) (omega arith) ∙ take_all (8 * m) b (omega arith)

-- whatever follows the name
pub name_back : (n : Name) (rest : List ℕ) → FineName n → name_from (name_words n ++ rest) ≡ n
unfolding name_from
name_back n rest f =
    ap₂ (λ (b : List ℕ) (l : ℕ). record { bytes = b; len = l }) (bytes_back n.bytes (name_words n ++ rest) 5 f.bytes words f.size) (min-eq_left f.len)
  where
    words : (j : ℕ) → j < 5 → number_at (name_words n ++ rest) j ≡ eight_at n.bytes (8 * j)
    words zero l = refl
    words (suc zero) l = refl
    words (suc (suc zero)) l = refl
    words (suc (suc (suc zero))) l = refl
    words (suc (suc (suc (suc zero)))) l = refl
    words (suc (suc (suc (suc (suc j))))) l = absurd (omega arith)

pub text-back : (t : Words) (rest : List ℕ) → FineWords t → text_from (text_words t ++ rest) ≡ t
unfolding text_from
text-back t rest f =
    ap₂ (λ (b : List ℕ) (l : ℕ). record { bytes = b; len = l }) (bytes_back t.bytes (text_words t ++ rest) 15 f.bytes words f.size) (min-eq_left f.len)
  where
    words : (j : ℕ) → j < 15 → number_at (text_words t ++ rest) j ≡ eight_at t.bytes (8 * j)
    words zero l = refl
    words (suc zero) l = refl
    words (suc (suc zero)) l = refl
    words (suc (suc (suc zero))) l = refl
    words (suc (suc (suc (suc zero)))) l = refl
    words (suc (suc (suc (suc (suc zero))))) l = refl
    words (suc (suc (suc (suc (suc (suc zero)))))) l = refl
    words (suc (suc (suc (suc (suc (suc (suc zero))))))) l = refl
    words (suc (suc (suc (suc (suc (suc (suc (suc zero)))))))) l = refl
    words (suc (suc (suc (suc (suc (suc (suc (suc (suc zero))))))))) l = refl
    words (suc (suc (suc (suc (suc (suc (suc (suc (suc (suc zero)))))))))) l = refl
    words (suc (suc (suc (suc (suc (suc (suc (suc (suc (suc (suc zero))))))))))) l = refl
    words (suc (suc (suc (suc (suc (suc (suc (suc (suc (suc (suc (suc zero)))))))))))) l = refl
    words (suc (suc (suc (suc (suc (suc (suc (suc (suc (suc (suc (suc (suc zero))))))))))))) l = refl
    words (suc (suc (suc (suc (suc (suc (suc (suc (suc (suc (suc (suc (suc (suc zero)))))))))))))) l = refl
    words (suc (suc (suc (suc (suc (suc (suc (suc (suc (suc (suc (suc (suc (suc (suc j))))))))))))))) l = absurd (omega arith)
