-- A part whose end comes first, or that begins past the end, is empty; one that ends there is cut.
use Rattle.from_notes.proofs.Words.{part_turned, part-past, part_cut}
use Rattle.from_notes.proofs.places.part_of.Goals as goal

pub returns-then-e-a : goal.returns-then-e-a
returns-then-e-a c = part_turned c.args.src.now c.args.a c.args.e c.if-e-a.true

pub returns-then-src-a : goal.returns-then-src-a
returns-then-src-a c = part-past c.args.src.now c.args.a c.args.e c.if-src-a.true

pub returns-then-src-e : goal.returns-then-src-e
returns-then-src-e c = part_cut c.args.src.now c.args.a c.args.e c.if-src-e.true
