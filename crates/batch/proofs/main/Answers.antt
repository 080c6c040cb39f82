-- One record after another; the buffers keep their lengths.
use native.Mathlib.Omega.{arith}
use borrow.Author.Rules.{rules}
use Rattle.batch.proofs.main.Goals as goal

pub overflow_add-files : goal.overflow_add-files
overflow_add-files c = omega (arith, c.loop-files-test.true)

pub loop-files-smaller : goal.loop-files-smaller
loop-files-smaller c = omega (arith, c.loop-files-test.true)

pub loop-files-preserved : goal.loop-files-preserved
loop-files-preserved c = (omega (arith, c.loop-files-test.true), search rules, search rules)
