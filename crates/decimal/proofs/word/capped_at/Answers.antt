-- `decimal::capped_at`: the digits stand for their number.
use Rattle.decimal.proofs.Parts.{capped-read}
use Rattle.decimal.proofs.word.capped_at.Goals as goal

pub returns : goal.returns
returns c = capped-read _ _ _ _ c.digits_at-digits.ensures c.grow.ensures
