-- By how the part lies: turned round, inside, over the end, behind it.
use mathlib.Core.Path.{refl}
use native.Mathlib.Omega.{arith}
use lib.ListN.{length}
use borrow.Author.Rules.{rules}
use Rattle.name_checks.proofs.NoteLaws.{part_turned, part_cut, part-past, moved-turned, moved-kept, moved-cut, moved-past}
use Rattle.name_checks.proofs.places.within.Goals as goal

pub returns-then-e-a : goal.returns-then-e-a
returns-then-e-a c =
    let s = c.args.src.now in
    let w = c.args.w in
    record { is = moved-turned (length s) w.start w.end c.if-e-a.true; order = search rules; inside = search rules; same = part_turned s w.start w.end c.if-e-a.true }

pub returns-then-e-src : goal.returns-then-e-src
returns-then-e-src c =
    let s = c.args.src.now in
    let w = c.args.w in
    record { is = moved-kept (length s) w.start w.end (omega arith) c.if-e-src.true; order = search rules; inside = search rules; same = refl }

pub returns-then-a-src : goal.returns-then-a-src
returns-then-a-src c =
    let s = c.args.src.now in
    let w = c.args.w in
    record { is = moved-cut (length s) w.start w.end (omega arith) c.if-e-src.false c.if-a-src.true; order = search rules; inside = search rules; same = part_cut s w.start w.end c.if-e-src.false }

pub returns : goal.returns
returns c =
    let s = c.args.src.now in
    let w = c.args.w in
    record { is = moved-past (length s) w.start w.end (omega arith) c.if-a-src.false; order = search rules; inside = search rules; same = part-past s w.start w.end c.if-a-src.false }
