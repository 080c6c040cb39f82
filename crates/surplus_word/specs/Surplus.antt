-- A word is too many exactly if the line is no 10 without it and what follows it: asked of the reader itself.
use Rattle.std.specs.Prelude.{ℕ, ◌+◌, ◌-◌, List, Bool, false, cond, not, ◌&&◌, eqb, ltb, length, replicate, Result, Ok, Err}
use Prim.Native.Char.{code}
use Rattle.std.proofs.lemmas.List.Edits.{sets}
use Rattle.laws.specs.Bytes.{is_blank}
use Rattle.laws.specs.Lists.{front, part}
use Rattle.records.specs.declared.Fault.{Fault}
use Rattle.records.specs.declared.Lengths.{Lengths}
use Rattle.words.specs.declared.Word.{Word}
use Rattle.lines.specs.Places.{line_from}
use Rattle.file_answer.specs.Answered.{answer_of}
use Rattle.refusal_text.specs.Places.{place_behind}

-- the place of a column, from 1, in a line, if a word stands before it and something at it; else the line's end
unfoldable pub rest_in : List ℕ → ℕ → ℕ
rest_in l column = cond (ltb (length (front is_blank l)) (column - 1) && ltb (column - 1) (length l)) (column - 1) (length l)

-- from there to the line's end
unfoldable pub rest_at : List ℕ → Fault → Word
rest_at s f =
    let start = place_behind s (f.line - 1) in
    let end = (line_from s start).end in
    record { start = start + rest_in (part start end s) f.column; end = end }

-- the file with blanks there
unfoldable pub blanked : List ℕ → Word → List ℕ
blanked s r = sets s r.start (replicate (r.end - r.start) (code " "))

-- 10 is told at this line
abbrev pub is_ten : ℕ → Result (Unit {0}) Fault → Bool
is_ten line (Ok tt) = false
is_ten line (Err f) = eqb f.number 10 && eqb f.line line

-- l are the lengths of the tables that would be lent
unfoldable pub is_surplus : Lengths → List ℕ → Fault → Bool
is_surplus l s f =
    let r = rest_at s f in
    ltb r.start r.end && not (is_ten f.line (answer_of l (blanked s r)).verdict)
