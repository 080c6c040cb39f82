-- By whether all names are found, and all are listed.
use Rattle.name_checks.proofs.MarkLaws.{none-marked, concludes-missing, concludes-unlisted, concludes-fine}
use Rattle.name_checks.proofs.marking.last_fault.Goals as goal

pub mark_targets-missing-requires : goal.mark_targets-missing-requires
mark_targets-missing-requires c =
    record {
      n_le_names_held = c.requires.n_le_names_held;
      n_value = c.requires.n_value;
      clear = none-marked c.args.n c.requires.n_le_names_held;
    }

pub returns-then-missing-n : goal.returns-then-missing-n
returns-then-missing-n c =
    let a = c.args in
    let m = c.mark_targets-missing in
    concludes-missing a.src.now a.notes.now _ a.n m.result m.ensures c.if-missing-n.true c.faulty.result c.faulty.ensures

pub returns-then-unlisted-n : goal.returns-then-unlisted-n
returns-then-unlisted-n c =
    let a = c.args in
    let m = c.mark_targets-missing in
    let u = c.first_unlisted-unlisted in
    concludes-unlisted a.src.now a.notes.now _ a.n m.result m.ensures u.result u.ensures c.if-missing-n.false c.if-unlisted-n.true c.faulty-then-unlisted-n.result c.faulty-then-unlisted-n.ensures

pub returns : goal.returns
returns c =
    let a = c.args in
    let m = c.mark_targets-missing in
    let u = c.first_unlisted-unlisted in
    concludes-fine a.src.now a.notes.now _ a.n m.result m.ensures u.result u.ensures c.if-missing-n.false c.if-unlisted-n.false
