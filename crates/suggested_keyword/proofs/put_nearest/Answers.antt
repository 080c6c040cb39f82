-- The constant's words are the table, by computing both.
use Rattle.hierarchy.specs.Hierarchy.{hierarchy}
use Rattle.keywords.specs.Form.{spelled}
use Rattle.laws.specs.Bytes.{is_blank}
use Rattle.suggested_keyword.specs.Suggestion.{asked}
use Rattle.text_buffer.proofs.Laws.{put-text}
use Rattle.text_buffer.specs.Pages.{sheet}
use Rattle.words.specs.Words.{words, grown, onto_word}
use mathlib.Core.Path.{sym, ap, ◌∙◌}
use Rattle.suggested_keyword.proofs.put_nearest.Goals as goal

pub returns-in-Some : goal.returns-in-Some
unfolding words grown onto_word is_blank hierarchy spelled
returns-in-Some c = c.put_question.ensures ∙ put-text (sheet c.args.page.now) (ap asked (sym c.in-Some.is ∙ c.nearest.ensures))

pub returns-in_default : goal.returns-in_default
unfolding words grown onto_word is_blank hierarchy spelled
returns-in_default c = put-text (sheet c.args.page.now) (ap asked (sym c.in_default.is ∙ c.nearest.ensures))
