-- The forms of names by number, the word behind a name by its place in a list, and the code's answers to it.
use Rattle.std.specs.Prelude.{ℕ, List, Bool, Ok, Err, Option, Some, None}
use Rattle.laws.specs.Said.{Said}
use Rattle.name_table.specs.Names.{place_from}
use Rattle.name_table.specs.Listed.{names_in}
use Rattle.name_table.specs.declared.NameList.{NameList}
use Rattle.records.specs.Flaws.{Reads}
use Rattle.line_rules.specs.Fields.{is_version, is_file_name, is_model_name, alone, behind_name}
use Rattle.named_lines.specs.declared.Form.{Form}
use Rattle.named_lines.specs.declared.Form.TheVariants.{Version, FileName, ModelName}

abbrev pub has_form : Form → List ℕ → Bool
has_form Version w = is_version w
has_form FileName w = is_file_name w
has_form ModelName w = is_model_name w

-- ---- the word behind a name

-- a place that was found; nothing is 10
abbrev pub place_said : Option ℕ → Said ℕ
place_said None = Err 10
place_said (Some k) = Ok k

-- a word's place in a list
unfoldable pub place_in : NameList → List ℕ → Said ℕ
place_in list v = place_said (place_from 0 v (names_in list))

-- a line of a name and a word of a list
unfoldable pub place_line : NameList → List ℕ → Reads ℕ
place_line list w = behind_name (alone (place_in list)) w

-- ---- the answer that says this
