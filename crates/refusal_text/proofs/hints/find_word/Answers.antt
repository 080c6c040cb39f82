-- By whether the text goes so far.
use Rattle.refusal_text.proofs.HintLaws.{word-past, word-there}
use Rattle.refusal_text.proofs.hints.find_word.Goals as goal

pub returns-then-w-place : goal.returns-then-w-place
returns-then-w-place c = word-past c.args.w.now c.args.place c.if-w-place.true

pub returns : goal.returns
returns c = word-there c.args.w.now c.args.place c.skip_ink-end.result c.skip_ink-end.ensures.value c.skip_ink-end.ensures.lower_bound
