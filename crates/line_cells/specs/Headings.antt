-- The heading of the pins, as the code has it, and the part of it behind the first two names.
use Rattle.std.specs.Prelude.{List, [], ◌∷◌, Bool, true, false, cond, ℕ, ◌≤◌, ◌≡◌, length, drop, Result, Ok, Err}
use Rattle.laws.specs.Bytes.{bytes}
use Rattle.words.specs.Words.{words}
use Rattle.records.specs.Flaws.{Reads, flaw, told_in}
use Rattle.records.specs.declared.LineFault.{LineFault}
use Rattle.line_rules.specs.Fields.{same_words, differing}

-- the long one by its words that are still to come, and either by those of the short one too
unfoldable pub long_from : List (List ℕ) → List ℕ → Reads Bool
long_from long v = cond (same_words (words v) long) (Ok true) (Err (flaw 10 (differing long v)))

unfoldable pub heading_from : List (List ℕ) → List (List ℕ) → List ℕ → Reads Bool
heading_from short long v = cond (same_words (words v) short) (Ok false) (long_from long v)

abbrev pub cell_names : List (List ℕ)
cell_names = bytes "R_pin" ∷ bytes "L_pin" ∷ bytes "C_pin" ∷ []

-- the first word from `at` on is the name n and ends at p: the heading goes on there
pub record NameThere (s : List ℕ) (at : ℕ) (n : List ℕ) (p : ℕ) : Type 0 where
  pub within : p ≤ length s
  pub heading : (ms ns : List (List ℕ)) → heading_from (n ∷ ms) (n ∷ ns) (drop at s) ≡ heading_from ms ns (drop p s)
  pub long : (ns : List (List ℕ)) → long_from (n ∷ ns) (drop at s) ≡ long_from ns (drop p s)

-- it is another, or there is none: f is told
pub record NameOther (s : List ℕ) (at : ℕ) (n : List ℕ) (f : LineFault) : Type 0 where
  pub heading : (ms ns : List (List ℕ)) → told_in s (heading_from (n ∷ ms) (n ∷ ns) (drop at s)) ≡ Err f
  pub long : (ns : List (List ℕ)) → told_in s (long_from (n ∷ ns) (drop at s)) ≡ Err f

abbrev pub NameRead : List ℕ → ℕ → List ℕ → Result ℕ LineFault → Type 0
NameRead s at n (Ok p) = NameThere s at n p
NameRead s at n (Err f) = NameOther s at n f
