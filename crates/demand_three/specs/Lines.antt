-- Lines one by one, as document 01 reads them: the text that a line leaves, and whether it opens a section. In each, c is the comment
-- character in force at the first line.
use Rattle.std.specs.Prelude.{ℕ, List, [], ◌∷◌, Bool, false, cond, not, ◌&&◌, length}
use Rattle.laws.specs.Lists.{all}
use Rattle.records.specs.Flaws.{bare}
use Rattle.lines.specs.Lines.{Physical, cut}
use Rattle.cut_lines.specs.Change.{is_change}
use Rattle.cut_lines.specs.InForce.{char_after_line}
use Rattle.cut_lines.specs.Texts.{Text, plain, change, texts_from}
use Rattle.rules.specs.Reading.{is_key, is_within, sections_in}

-- what cutting leaves of a line; its number and a [Comment Char] line's fault do not count here
unfoldable pub text_on : ℕ → Physical → Text
text_on c l = cond (is_change l.bytes) (change 0 (bare 0)) (plain 0 (cut c l.bytes))

-- how many sections are read from the lines
unfoldable pub sections_on : ℕ → List Physical → ℕ
sections_on c ls = length (sections_in (texts_from c 1 ls))

-- the first line opens a section or is [End]
unfoldable pub begins_another : ℕ → List Physical → Bool
begins_another c [] = false
begins_another c (l ∷ ls) = not (is_within (text_on c l))

-- a [Model] line, and then lines none of which opens a section or is [End]
unfoldable pub is_model_section : ℕ → List Physical → Bool
is_model_section c [] = false
is_model_section c (l ∷ ls) = is_key "model" (text_on c l) && all is_within (texts_from (char_after_line c l) 1 ls)
