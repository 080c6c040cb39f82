-- By computing.
use mathlib.Core.Path.{refl}
use Rattle.program_output.specs.Kept.{file_buffer}
use Rattle.program_output.proofs.file_buffer.Goals as goal

pub returns : goal.returns
unfolding file_buffer
returns c = refl
