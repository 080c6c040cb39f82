-- What is said has it: by what is read on, by what stands in, and by the line of a name.
use Rattle.std.specs.Prelude.{Result, Ok, Err}
use Prim.Native.Nat.{ℕ}
use Prim.Native.String.{String}
use mathlib.Core.List.{List, [], ◌∷◌}
use lib.ListN.{length}
use lib.Dec.{eqb}
use Rattle.laws.specs.Said.{Said, or_else, read_on}
use Rattle.laws.proofs.Tests.{cond-all}
use Rattle.words.specs.Words.{word, words, rest_from}
use Rattle.records.specs.Flaws.{Reads, said_at}
use Rattle.line_rules.specs.Fields.{word_by, exactly, is_named, takes, line_says}

abbrev pub Says : {F A : Type 0} → (A → Type 0) → Result A F → Type 0
Says P (Ok a) = P a
Says P (Err f) = Unit {0}

module _ {A : Type 0} (P : A → Type 0) where
  pub says_on : {F B : Type 0} (Q : B → Type 0) (r : Result A F) (go : A → Result B F) → Says P r → ((a : A) → P a → Says Q (go a)) → Says Q (read_on r go)
  says_on Q (Ok a) go h k = k a h
  says_on Q (Err f) go h k = tt

  pub or-says : {F : Type 0} (a : A) (r : Result A F) → P a → Says P r → P (or_else a r)
  or-says a (Ok b) h k = k
  or-says a (Err f) h k = h

  pub line-says : (name : String) (read : List ℕ → Reads A) → ((w : List ℕ) → Says P (read w)) → (before : A) → P before → (ls : List (List ℕ)) → P (line_says name read before ls)
  unfolding line_says takes
  line-says name read k before h [] = h
  line-says name read k before h (w ∷ ws) =
      line-says name read k (takes name read before w) (cond-all P (is_named name w) _ _ (λ e. or-says before (read w) h (k w)) (λ e. h)) ws

  -- a word by its reading; words of the right count
  said_at_lem : (r : List ℕ) (x : Said A) → Says P x → Says P (said_at r x)
  said_at_lem r (Ok a) h = h
  said_at_lem r (Err n) h = tt

  pub word-says : (read : List ℕ → Said A) → ((w : List ℕ) → Says P (read w)) → (n : ℕ) (v : List ℕ) → Says P (word_by read n v)
  unfolding word_by
  word-says read h n v = said_at_lem (rest_from n v) (read (word n (words v))) (h (word n (words v)))

  pub exactly-says : (n : ℕ) (said : Reads A) (v : List ℕ) → Says P said → Says P (exactly n said v)
  unfolding exactly
  exactly-says n said v h = cond-all (Says P) (eqb (length (words v)) n) said _ (λ e. h) (λ e. tt)
