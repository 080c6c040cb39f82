-- The reader stands where the lines begin that have so many before them.
use native.Mathlib.Omega.{arith}
use Rattle.refusal_text.proofs.Laws.{stands-behind, all-passed}
use Rattle.refusal_text.proofs.places.skip_lines.Goals as goal

pub returns-then-src-before : goal.returns-then-src-before
returns-then-src-before c = record {
  value = all-passed c.args.src.now c.args.before c.if-src-before.true;
  upper_bound = omega arith;
}

pub returns : goal.returns
returns c = record {
  value = c.pass_lines.ensures;
  upper_bound = rw c.pass_lines.ensures (stands-behind c.args.src.now c.args.before).within;
}
