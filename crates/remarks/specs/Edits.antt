-- What may be done to a file and changes nothing: its remarks added, changed and removed, on a [Comment Char] line too; blank lines; blanks at line ends; CR LF for LF.
use Rattle.std.specs.Prelude.{ℕ, ◌≡◌, List, [], ◌∷◌, ◌++◌, Bool, true, false, cond, eqb, Ok}
use Prim.Native.Char.{code}
use Rattle.laws.specs.Bytes.{is_blank}
use Rattle.laws.specs.Lists.{after}
use Rattle.lines.specs.Lines.{Physical, lines_of, bytes_fault}
use Rattle.cut_lines.specs.Change.{is_change, none_or, change_of}
use Rattle.cut_lines.specs.InForce.{char_after_lines}
use Rattle.remarks.specs.Alike.{Unchanged}

-- ---- one edit

-- blanks or none, and then nothing or a comment that begins with c
unfoldable pub is_remark : ℕ → List ℕ → Bool
is_remark c r = none_or c (after is_blank r)

-- nothing, or a blank first
unfoldable pub is_apart : List ℕ → Bool
is_apart [] = true
is_apart (b ∷ bs) = is_blank b

abbrev pub line_of : List ℕ → Physical
line_of w = record { bytes = w; ended = true }

-- an edit, c being the comment character in force there: the lines that stood there, and those that stand there now
pub data Edit (c : ℕ) : List Physical → List Physical → Type 0 where
  -- behind the text w of a line, a remark, blanks or nothing for another
  behind_text : (w q r : List ℕ) → is_change w ≡ false → is_remark c q ≡ true → is_remark c r ≡ true → Edit c (line_of (w ++ q) ∷ []) (line_of (w ++ r) ∷ [])
  -- the same behind the text w of a [Comment Char] line that sets x: a remark by the new character, with a blank before it
  behind_change : (x : ℕ) (w q r : List ℕ) → is_change w ≡ true → change_of w ≡ Ok x → is_apart q ≡ true → is_remark x q ≡ true → is_apart r ≡ true → is_remark x r ≡ true → Edit c (line_of (w ++ q) ∷ []) (line_of (w ++ r) ∷ [])
  -- a [Comment Char] line for another that sets the same character, however spelled
  respelled : (x : ℕ) (v w : List ℕ) → is_change v ≡ true → change_of v ≡ Ok x → is_change w ≡ true → change_of w ≡ Ok x → Edit c (line_of v ∷ []) (line_of w ∷ [])
  -- a line that is blank, or a remark alone, put in, and taken out
  put_in : (r : List ℕ) → is_remark c r ≡ true → Edit c [] (line_of r ∷ [])
  taken_out : (r : List ℕ) → is_remark c r ≡ true → Edit c (line_of r ∷ []) []

-- t has the lines of s, but for one edit
pub record Edited (s t : List ℕ) : Type 0 where
  pub before : List Physical
  pub old : List Physical
  pub new : List Physical
  pub behind : List Physical
  pub lines : lines_of s ≡ before ++ (old ++ behind)
  pub lines_too : lines_of t ≡ before ++ (new ++ behind)
  pub edit : Edit (char_after_lines (code "|") before) old new

-- ---- edit after edit, us being the files in between; at last the lines are the same, whatever their ends

abbrev pub EditedBy : List ℕ → List (List ℕ) → List ℕ → Type 0
EditedBy s [] t = lines_of s ≡ lines_of t
EditedBy s (u ∷ us) t = Edited s u × EditedBy u us t

abbrev pub EditsChangeNothing : Type 0
EditsChangeNothing =
    (s t : List ℕ) (us : List (List ℕ)) → EditedBy s us t → bytes_fault s ≡ Ok tt → bytes_fault t ≡ Ok tt → Unchanged s t

-- ---- line ends: files with the same bytes, the CRs left out

unfoldable pub without_returns : List ℕ → List ℕ
without_returns [] = []
without_returns (b ∷ bs) = cond (eqb b (code "\r")) (without_returns bs) (b ∷ without_returns bs)

abbrev pub EndsChangeNothing : Type 0
EndsChangeNothing =
    (s t : List ℕ) → without_returns s ≡ without_returns t → bytes_fault s ≡ Ok tt → bytes_fault t ≡ Ok tt → Unchanged s t
