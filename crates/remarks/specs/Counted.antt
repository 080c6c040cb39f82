-- Document 02, §10: a file's "lines after cutting, empty ones dropped". A line stands here without its end, so LF and CR LF are alike.
use Rattle.std.specs.Prelude.{ℕ, zero, suc, ◌+◌, ◌-◌, List, [], ◌∷◌, ◌++◌, map, cond, length, get_or, Ok, Err}
use Prim.Native.Char.{code}
use Rattle.laws.specs.Bytes.{bytes}
use Rattle.records.specs.Flaws.{Reads}
use Rattle.lines.specs.Lines.{Physical, lines_of, cut}
use Rattle.cut_lines.specs.Change.{is_change, change_of}
use Rattle.cut_lines.specs.InForce.{char_after_line}

-- ---- what a line counts as

-- "A [Comment Char] line counts as its keyword and argument, a faulty one as the whole line"
abbrev pub change_counts : List ℕ → Reads ℕ → List ℕ
change_counts l (Ok x) = bytes "[Comment Char] " ++ (x ∷ bytes "_char")
change_counts l (Err f) = l

-- c is the comment character in force there
unfoldable pub counts_as : ℕ → List ℕ → List ℕ
counts_as c l = cond (is_change l) (change_counts l (change_of l)) (cut c l)

-- ---- the lines that count: each with its number

pub record Counted : Type 0 where
  pub line : ℕ
  pub text : List ℕ

-- "empty ones dropped": a line left empty is skipped
unfoldable pub onto_counted : ℕ → List ℕ → List Counted → List Counted
onto_counted k [] es = es
onto_counted k (b ∷ bs) es = record { line = k; text = b ∷ bs } ∷ es

-- c is the comment character in force at the first line, k its number
unfoldable pub counted_from : ℕ → ℕ → List Physical → List Counted
counted_from c k [] = []
counted_from c k (l ∷ ls) = onto_counted k (counts_as c l.bytes) (counted_from (char_after_line c l) (k + 1) ls)

unfoldable pub counted : List ℕ → List Counted
counted s = counted_from (code "|") 1 (lines_of s)

-- ---- the list, and where its entries stand

unfoldable pub list_of : List ℕ → List (List ℕ)
list_of s = map (λ (e : Counted). e.text) (counted s)

-- the line of the entry at place i, from 0; behind the last entry, the line after the last of the file
unfoldable pub line_at : List ℕ → ℕ → ℕ
line_at s i = get_or (map (λ (e : Counted). e.line) (counted s)) i (length (lines_of s) + 1)

-- 1 for a line that is skipped, w being what it counts as
abbrev pub skip : List ℕ → ℕ
skip [] = 1
skip (b ∷ bs) = 0

-- how many of the first n lines are skipped
unfoldable pub skipped_in : ℕ → ℕ → List Physical → ℕ
skipped_in c zero ls = 0
skipped_in c (suc n) [] = 0
skipped_in c (suc n) (l ∷ ls) = skip (counts_as c l.bytes) + skipped_in (char_after_line c l) n ls

-- "the skipped lines before" line k
unfoldable pub skipped_before : List ℕ → ℕ → ℕ
skipped_before s k = skipped_in (code "|") (k - 1) (lines_of s)
