-- Two readings of the same words: they have the same faults, and what they say is related.
use Rattle.std.specs.Prelude.{Result, Ok, Err}
use Prim.Native.Nat.{ℕ}
use Prim.Native.Char.{code}
use mathlib.Core.Path.{◌≡◌, refl, ap}
use mathlib.Core.List.{List}
use mathlib.Core.Bool.{Bool, true, false, cond}
use lib.ListN.{length}
use lib.Dec.{eqb}
use Rattle.laws.specs.Lists.{begins}
use Rattle.laws.specs.Said.{Said, read_on}
use Rattle.words.specs.Words.{word, words, rest_from}
use Rattle.records.specs.Flaws.{Flaw, Reads, flaw, said_at}
use Rattle.line_rules.specs.Fields.{word_by, ended, alone, after_name, behind_name}

abbrev pub Alike : {F A B : Type 0} → (A → B → Type 0) → Result A F → Result B F → Type 0
Alike R (Ok a) (Ok b) = R a b
Alike R (Err f) (Err g) = f ≡ g
Alike R (Ok a) (Err g) = ⊥
Alike R (Err f) (Ok b) = ⊥

module _ {A B : Type 0} (R : A → B → Type 0) where
  alike-cond : (t : Bool) (a b : Reads A) (x y : Reads B) → Alike R a x → Alike R b y → Alike R (cond t a b) (cond t x y)
  alike-cond true a b x y h k = h
  alike-cond false a b x y h k = k

  alike_at : (r : List ℕ) (a : Said A) (x : Said B) → Alike R a x → Alike R (said_at r a) (said_at r x)
  alike_at r (Ok a) (Ok x) h = h
  alike_at r (Err n) (Err m) h = ap (λ (k : ℕ). flaw k r) h
  alike_at r (Ok a) (Err m) h = h
  alike_at r (Err n) (Ok x) h = h

  alike-on : (a : Reads A) (x : Reads B) (go : A → Reads A) (gone : B → Reads B) → Alike R a x → ((b : A) (y : B) → R b y → Alike R (go b) (gone y))
      → Alike R (read_on a go) (read_on x gone)
  alike-on (Ok a) (Ok x) go gone h k = k a x h
  alike-on (Err f) (Err g) go gone h k = h
  alike-on (Ok a) (Err g) go gone h k = absurd h
  alike-on (Err f) (Ok x) go gone h k = absurd h

  module _ (read : List ℕ → Said A) (other : List ℕ → Said B) (same : (v : List ℕ) → Alike R (read v) (other v)) where
    alike-alone : (v : List ℕ) → Alike R (alone read v) (alone other v)
    unfolding alone word_by ended
    alike-alone v =
        let none : Flaw = flaw 10 (rest_from 1 v) in
        let first : List ℕ = word 0 (words v) in
        alike-on (word_by read 0 v) (word_by other 0 v) (λ b. ended b (rest_from 1 v)) (λ y. ended y (rest_from 1 v))
        (alike_at (rest_from 0 v) (read first) (other first) (same first))
        (λ b y h. alike-cond (eqb (length (rest_from 1 v)) 0) (Ok b) (Err none) (Ok y) (Err none) h refl)

    -- on a line of a name and a word
    pub alike-line : (w : List ℕ) → Alike R (behind_name (alone read) w) (behind_name (alone other) w)
    unfolding behind_name
    alike-line w =
        let rest : List ℕ = after_name w in
        alike-cond (begins (code "=") rest) (Err (flaw 10 rest)) (alone read rest) (Err (flaw 10 rest)) (alone other rest) refl (alike-alone rest)
