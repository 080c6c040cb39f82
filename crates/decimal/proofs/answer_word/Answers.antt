-- `decimal::answer_word`: the number's word, or the fault's.
use mathlib.Core.Path.{sym, ap, ◌∙◌}
use Rattle.decimal.specs.Answers.{number_word}
use Rattle.decimal.proofs.answer_word.Goals as goal

pub returns-in-Ok : goal.returns-in-Ok
returns-in-Ok c = c.word_of_number.ensures ∙ ap number_word (sym c.in-Ok.is)

pub returns-in-Err : goal.returns-in-Err
returns-in-Err c = ap number_word (sym c.in-Err.is)
