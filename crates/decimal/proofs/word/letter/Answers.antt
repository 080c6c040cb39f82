-- `decimal::letter`: the two say the same.
use Rattle.std.proofs.Common.{rules}
use Rattle.laws.specs.Bytes.{is_letter, is_capital, is_small}
use Rattle.decimal.proofs.word.letter.Goals as goal

pub returns : goal.returns
unfolding is_letter is_capital is_small
returns c = search rules
