-- A refusal as a person reads it: where, which fault and what it means; then the line itself; then what to look at, and which keyword may be meant.
use Rattle.std.specs.Prelude.{ℕ, List, [], ◌∷◌, ◌++◌, Bool, cond, eqb}
use Rattle.laws.specs.Bytes.{bytes}
use Rattle.lines.specs.Lines.{Physical}
use Rattle.records.specs.declared.Fault.{Fault}
use Rattle.text_buffer.specs.Numerals.{numeral_of}
use Rattle.fault_texts.specs.Sentences.{sentence_of}
use Rattle.suggested_keyword.specs.Suggestion.{suggestion}
use Rattle.refusal_text.specs.Hints.{hint_text}
use Rattle.refusal_text.specs.Places.{of_line}
use Rattle.refusal_text.specs.Shown.{first_text}

-- ---- NAME:LINE:COLUMN: fault N: what it means

-- line 0 and column 0 are none
unfoldable pub place_text : ℕ → List ℕ
place_text n = cond (eqb n 0) [] (bytes ":" ++ numeral_of n)

unfoldable pub fault_text : List ℕ → Fault → List ℕ
fault_text name f =
    name ++ place_text f.line ++ place_text f.column ++ bytes ": fault " ++ numeral_of f.number ++ bytes ": " ++ sentence_of f.number ++ bytes "\n"

-- ---- a keyword that nobody has: the one that may have been meant

abbrev pub first_suggestion : List Physical → List ℕ
first_suggestion [] = []
first_suggestion (l ∷ ls) = suggestion l.bytes

unfoldable pub meant_text : List ℕ → Fault → List ℕ
meant_text s f = cond (eqb f.number 21) (of_line first_suggestion s f.line) []

-- ---- all of it; surplus is whether the word at fault is too many

unfoldable pub refusal_text : List ℕ → List ℕ → Fault → Bool → List ℕ
refusal_text name s f surplus =
    fault_text name f ++ of_line (first_text f.column) s f.line ++ hint_text s f surplus ++ meant_text s f ++ bytes "\n"
