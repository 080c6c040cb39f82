-- Document 01, "Sections": [Model Selector].
use Rattle.std.specs.Prelude.{ℕ, List, true, not, Ok}
use Rattle.records.specs.Flaws.{flaw_in, told}
use Rattle.line_rules.specs.Fields.{is_model_name, word_by, passing}
use Rattle.rules.specs.Going.{passes, refuse, quietly, Went}
use Rattle.rules.specs.declared.SelectorState.{SelectorState}
use Rattle.rules.specs.declared.Stage.TheVariants.{InSelector}
use Rattle.rules.specs.declared.Event.TheVariants.{ChoiceRow}

-- "rows of a model name (1 to 40) and a free description, maybe empty"
unfoldable pub selector_line : SelectorState → ℕ → List ℕ → Went
selector_line s k w =
    passes (told w (flaw_in (word_by (passing is_model_name) 0 w))) k (Ok (InSelector (record { line = s.line; any = true }), ChoiceRow))

-- "at least one": the rows are a list, which any keyword line closes
unfoldable pub selector_shut : SelectorState → Went
selector_shut s = refuse (not s.any) 9 s.line (quietly (InSelector s))
