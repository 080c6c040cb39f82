-- The header is read from the top.
use mathlib.Core.Path.{refl}
use Rattle.file_answer.proofs.Accepts.{first-placed}
use Rattle.file_answer.proofs.settling.accepted.Goals as goal

pub header_of-requires : goal.header_of-requires
header_of-requires c = first-placed c.args.src.now c.first.result c.first.ensures

pub returns : goal.returns
returns c = rw c.header_of.ensures rw c.first.ensures refl
