-- The table's names are the list's, by computing both: where `returns` is refused, they differ. The type's number is its place there.
use Prim.Native.Nat.{ℕ}
use mathlib.Core.Path.{ap, ◌∙◌}
use mathlib.Core.List.{[]}
use lib.ListN.{get_or}
use Rattle.laws.specs.Lists.{other}
use Rattle.words.specs.Words.{onto_word}
use Rattle.name_table.specs.Places.{names_of}
use Rattle.line_rules.specs.Tables.{model_types, type_name}
use Rattle.text_buffer.specs.Pages.{sheet}
use Rattle.text_buffer.specs.Parts.{parts}
use Rattle.text_buffer.specs.Put.{put}
use Rattle.type_text.proofs.put_type.Goals as goal

pub returns : goal.returns
unfolding parts onto_word other names_of model_types type_name
returns c = c.put_part.ensures ∙ ap (λ (n : ℕ). put (get_or (names_of model_types) n []) (sheet c.args.page.now)) c.type_number.ensures
