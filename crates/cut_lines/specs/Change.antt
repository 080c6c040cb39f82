-- Document 01, "Lines and words": the [Comment Char] line.
use Rattle.std.specs.Prelude.{ℕ, List, [], ◌∷◌, Bool, true, cond, ◌&&◌, eqb, Ok, Err}
use Prim.Native.Char.{code}
use Rattle.laws.specs.Bytes.{bytes, is_blank}
use Rattle.laws.specs.Lists.{front, after, begins, eqs, among}
use Rattle.records.specs.Flaws.{Reads, flaw}
use Rattle.words.specs.Words.{is_ink}
use Rattle.keywords.specs.Form.{inside, closing, is_closed, spelled, argument}

-- it is known by its text up to `]`
unfoldable pub is_change : List ℕ → Bool
is_change w = begins (code "[") w && (begins (code "]") (closing w) && eqs (spelled (inside w)) (bytes "comment_char"))

-- the characters that may begin a comment
abbrev pub marks : List ℕ
marks = bytes "!\"#$%&'()*,:;<>?@\\^`{|}~"

-- nothing, or the character
unfoldable pub none_or : ℕ → List ℕ → Bool
none_or x [] = true
none_or x (b ∷ bs) = eqb b x

-- one of the characters and `_char` as a word, then nothing, or the new character and a comment; else 10
unfoldable pub change_to : List ℕ → Reads ℕ
change_to [] = Err (flaw 10 [])
change_to (x ∷ bs) =
    let behind = after is_blank (after is_ink bs) in
    cond (among x marks && eqs (front is_ink bs) (bytes "_char"))
    (cond (none_or x behind) (Ok x) (Err (flaw 10 behind)))
    (Err (flaw 10 (x ∷ bs)))

-- 5 where neither a blank nor nothing follows the `]`
unfoldable pub change_of : List ℕ → Reads ℕ
change_of w = cond (is_closed (closing w)) (change_to (argument w)) (Err (flaw 5 []))
