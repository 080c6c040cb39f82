-- What the places that the code answers say of a line's words and of its name.
use Rattle.std.specs.Prelude.{ℕ, ◌≤◌, ◌≡◌, List, Bool, ◌&&◌, length, drop}
use Prim.Native.Char.{code}
use Rattle.laws.specs.Lists.{begins, other, part}
use Rattle.words.specs.Words.{word, words, is_ink}
use Rattle.words.specs.declared.Word.{Word}
use Rattle.line_rules.specs.Fields.{name_of, after_name}

-- the first word lies from start to end, and the others follow end
pub record FirstWordIs (w : List ℕ) (r : Word) : Type 0 where
  pub text : part r.start r.end w ≡ word 0 (words w)
  pub others : words (drop r.end w) ≡ drop 1 (words w)
  pub starts : r.start ≤ r.end
  pub ends : r.end ≤ length w

-- what a name is made of: it ends at a blank or `=`
unfoldable pub is_name_byte : ℕ → Bool
is_name_byte b = is_ink b && other (code "=") b

-- `=` stands here
abbrev pub has_equals : List ℕ → Bool
has_equals v = begins (code "=") v

-- the line's name lies from start to end, and what follows it follows end
pub record NameIs (w : List ℕ) (r : Word) : Type 0 where
  pub text : part r.start r.end w ≡ name_of w
  pub behind : drop r.end w ≡ after_name w
  pub starts : r.start ≤ r.end
  pub ends : r.end ≤ length w
