-- What the comparison promises, at a keyword's spelling.
use Rattle.keywords.specs.Form.{spelled}
use Rattle.keywords.proofs.same_spelled.Goals as goal

pub returns : goal.returns
unfolding spelled
returns c = c.same_as.ensures
