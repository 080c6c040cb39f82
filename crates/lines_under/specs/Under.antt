-- The lines under a keyword and the keywords that follow, by the cursors that the code answers.
use Rattle.std.specs.Prelude.{ℕ, ◌+◌, ◌≤◌, ◌<◌, ◌≡◌, List, [], ◌∷◌, Bool, true, false, cond, not, length, Option, None, Some, Err, Result}
use Rattle.laws.specs.Lists.{after, part}
use Rattle.keywords.specs.Answers.{key_read}
use Rattle.keywords.specs.declared.Keyword.{Keyword}
use Rattle.keywords.specs.declared.KeyFault.{KeyFault}
use Rattle.keywords.specs.declared.KeyFault.TheVariants.{Malformed}
use Rattle.cut_lines.specs.Texts.{Text, plain, change}
use Rattle.cut_lines.specs.Cursors.{rest, Placed}
use Rattle.cut_lines.specs.declared.Cursor.{Cursor}
use Rattle.line_rules.specs.Fields.{is_bracketed}
use Rattle.rules.specs.Reading.{under, argument_at}
use Rattle.rules.specs.Keys.{key_at}
use Rattle.lines_under.specs.declared.LineNext.{LineNext}
use Rattle.lines_under.specs.declared.LineNext.TheVariants.{Line, NoLine}
use Rattle.lines_under.specs.declared.Key.{Key}
use Rattle.lines_under.specs.declared.Lines.{Lines}

-- ---- lines

-- a text that is no keyword line
abbrev pub is_line : Text → Bool
is_line (plain k w) = not (is_bracketed w)
is_line (change k f) = true

pub record LineIs (s : List ℕ) (c : Cursor) (a e : ℕ) (n : Cursor) : Type 0 where
  pub more : under (rest s c) ≡ part a e s ∷ under (rest s n)
  pub behind : after is_line (rest s c) ≡ after is_line (rest s n)
  pub placed : Placed s n
  pub rises : c.at < n.at
  pub starts : a < e
  pub fits : e ≤ length s

-- n stands where the lines under a keyword end
pub record StopsAt (s : List ℕ) (c n : Cursor) : Type 0 where
  pub behind : after is_line (rest s c) ≡ rest s n
  pub placed : Placed s n
  pub rises : c.at ≤ n.at

pub record NoLineIs (s : List ℕ) (c n : Cursor) : Type 0 where
  pub more : under (rest s c) ≡ []
  pub stops : StopsAt s c n

abbrev pub LineNextIs : List ℕ → Cursor → LineNext → Type 0
LineNextIs s c (Line a e n) = LineIs s c a e n
LineNextIs s c (NoLine n) = NoLineIs s c n

-- every line has a byte
pub record LinesAre (s : List ℕ) (c : Cursor) (r : Lines) : Type 0 where
  pub count : r.count ≡ length (under (rest s c))
  pub stops : StopsAt s c r.next
  pub bounded : c.at + r.count ≤ r.next.at

-- ---- keywords

-- what a text is as a keyword line; one that is none counts as badly formed
unfoldable pub text_read : List ℕ → Result (Keyword × ℕ) KeyFault
text_read w = cond (is_bracketed w) (key_read w) (Err Malformed)

abbrev pub is_some : Option Keyword → Bool
is_some None = false
is_some (Some k) = true

abbrev pub is_keyless : Text → Bool
is_keyless t = not (is_some (key_at t))

pub record KeyIs (s : List ℕ) (c : Cursor) (k : Keyword) (a e : ℕ) (n : Cursor) : Type 0 where
  pub text : Text
  pub more : after is_keyless (rest s c) ≡ text ∷ rest s n
  pub key : key_at text ≡ Some k
  pub said : argument_at text ≡ part a e s
  pub placed : Placed s n
  pub rises : c.at < n.at
  pub starts : a ≤ e
  pub fits : e ≤ length s

abbrev pub KeyNextIs : List ℕ → Cursor → Option Key → Type 0
KeyNextIs s c (Some k) = KeyIs s c k.keyword k.start k.end k.next
KeyNextIs s c None = after is_keyless (rest s c) ≡ []
