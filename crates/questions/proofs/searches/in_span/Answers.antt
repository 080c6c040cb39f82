-- As far from the first place as `within-span` says, or else before it.
use mathlib.Core.Path.{refl}
use borrow.Author.Tests.{lt-ltb, lt-leb}
use Rattle.questions.specs.Searched.{in_span}
use Rattle.questions.proofs.Laws.{within-span}
use Rattle.questions.proofs.searches.in_span.Goals as goal

pub returns-then-s-k : goal.returns-then-s-k
unfolding in_span
returns-then-s-k c = within-span c.args.k c.args.s.start c.args.s.count c.if-s-k.true

pub returns-else-s-k : goal.returns-else-s-k
unfolding in_span
returns-else-s-k c = rw (lt-ltb c.args.k c.args.s.start c.if-s-k.false, lt-leb _ _ c.if-s-k.false) refl
