-- By whether each is a number.
use Rattle.rules.proofs.types.is_below.Goals as goal

pub returns : goal.returns
returns c = rw (c.in-Number.is, c.in-Number-vinh.is) c.less.ensures
