-- What the definitions must keep, by computing: a line is known by its whole name, so `Vinh_ac` is not `Vinh`.
use Rattle.std.specs.Prelude.{Some, None}
use mathlib.Core.Path.{◌≡◌, refl}
use Rattle.laws.specs.Bytes.{bytes, is_blank}
use Rattle.laws.specs.Lists.{front, other, eqs}
use Rattle.words.specs.Words.{word, words, grown, onto_word}
use Rattle.name_table.specs.Names.{place_from}
use Rattle.line_rules.specs.Fields.{name_of, line_at}
use Rattle.line_rules.specs.Tables.{model_lines}

pub threshold : line_at model_lines (bytes "Vinh = 2.0") ≡ Some 9
unfolding line_at name_of word words grown onto_word is_blank front other eqs place_from
threshold = refl

pub distance : line_at model_lines (bytes "Vinh_ac = 0.2") ≡ None
unfolding line_at name_of word words grown onto_word is_blank front other eqs place_from
distance = refl
