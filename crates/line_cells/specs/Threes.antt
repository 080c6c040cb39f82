-- What the code's places say of the words of a line: a word within it, three words that are all, and how they are read.
use denote.Ref.{Bor}
use Rattle.std.specs.Prelude.{ℕ, ◌≤◌, ◌≡◌, Result, Ok, Err, List, [], ◌∷◌, length, drop}
use Rattle.std.specs.Fn.{Shared, FnReturnsAt}
use Rattle.laws.specs.Lists.{part}
use Rattle.laws.specs.Said.{Said}
use Rattle.records.specs.Flaws.{Reads, at_place}
use Rattle.records.specs.declared.LineFault.{LineFault}
use Rattle.records.proofs.Columns.{Columns}
use Rattle.line_rules.specs.Fields.{word_by, exactly, typ_min_max}
use Rattle.words.specs.Words.{words, rest_from}
use Rattle.words.specs.declared.Word.{Word}

abbrev pub bytes_of : List ℕ → Word → List ℕ
bytes_of s r = part r.start r.end s

pub record Within (s : List ℕ) (r : Word) : Type 0 where
  pub starts : r.start ≤ r.end
  pub ends : r.end ≤ length s

pub record ThreeAre (s : List ℕ) (at : ℕ) (a b c : Word) : Type 0 where
  pub are : words (drop at s) ≡ bytes_of s a ∷ bytes_of s b ∷ bytes_of s c ∷ []
  pub begin : rest_from 0 (drop at s) ≡ drop a.start s
  pub middle : rest_from 1 (drop at s) ≡ drop b.start s
  pub last : rest_from 2 (drop at s) ≡ drop c.start s
  pub first : Within s a
  pub second : Within s b
  pub third : Within s c

-- another number of words: a fourth begins at p, or fewer end there
pub record NotThree (s : List ℕ) (at p : ℕ) : Type 0 where
  pub count : length (words (drop at s)) ≡ 3 → ⊥
  pub rest : rest_from 3 (drop at s) ≡ drop p s
  pub within : p ≤ length s

-- the words from `at` on: just these three, or another number of them
abbrev pub ThreeFrom : List ℕ → ℕ → Result (Word × Word × Word) ℕ → Type 0
ThreeFrom s at (Ok (a, b, c)) = ThreeAre s at a b c
ThreeFrom s at (Err p) = NotThree s at p

-- the same, told of the line
abbrev pub ThreeTold : List ℕ → ℕ → Result (Word × Word × Word) LineFault → Type 0
ThreeTold s at (Ok (a, b, c)) = ThreeAre s at a b c
ThreeTold s at (Err f) = (p : ℕ) × NotThree s at p × (f ≡ at_place 10 p)

-- three words, of which the first is read by p and the others by q
unfoldable pub three_by : {A : Type 0} → (List ℕ → Said A) → (List ℕ → Said A) → List ℕ → Reads (A × A × A)
three_by p q v = exactly 3 (typ_min_max (λ a b c. (a, b, c)) (word_by p 0 v) (word_by q 1 v) (word_by q 2 v)) v

-- f reads each word within s as p does, and a word's fault is one that tells a column
pub record ReadsWords {F A : Type 0} (g : Shared F (Bor (List ℕ) × Unit {0}) (Said A)) (f : F) (s : List ℕ) (p : List ℕ → Said A) : Type 0 where
  pub reads : (r : Word) (a : Said A) → Within s r → FnReturnsAt g f (bytes_of s r) a → a ≡ p (bytes_of s r)
  pub columns : (w : List ℕ) → Columns (p w)
