-- The first word by `word-from`; what follows it, behind its blanks, by `choice-behind`.
use Rattle.laws.proofs.Lists.{part-rest}
use Rattle.rules.specs.Reading.{choice_in}
use Rattle.component_records.proofs.Words.{word-from, choice-fits, choice-behind}
use Rattle.component_records.proofs.rows.choice_of.Goals as goal

pub skip_blanks-at-requires : goal.skip_blanks-at-requires
skip_blanks-at-requires c = choice-fits c.args.w.now c.word_at-model.result c.skip_blanks-start.result (word-from c.args.w.now 0 c.word_at-model.result c.word_at-model.ensures) c.skip_blanks-start.ensures.value

pub returns : goal.returns
unfolding choice_in
returns c =
    let w = c.args.w.now in
    let m = word-from w 0 _ c.word_at-model.ensures in
    rw (c.name_of.ensures, c.of.ensures, c.words_of.ensures, m.text, part-rest w c.skip_blanks-at.result, choice-behind w _ _ m c.skip_blanks-start.ensures.value _ c.skip_blanks-at.ensures.value)
