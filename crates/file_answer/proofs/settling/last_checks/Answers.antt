-- By what the last checks say.
use mathlib.Core.Path.{ap, ◌∙◌}
use Rattle.name_checks.specs.Lookup.{last_is}
use Rattle.notes.specs.Noted.{held_of}
use Rattle.noted_events.specs.Events.{log_of}
use Rattle.rules.specs.Whole.{passed}
use Rattle.noted_events.proofs.EventLaws.{names-small}
use Rattle.file_answer.proofs.Accepts.{refuses, accepts, through}
use Rattle.file_answer.proofs.settling.last_checks.Goals as goal

pub last_fault-requires : goal.last_fault-requires
last_fault-requires c = record {
  n_le_names_held = names-small c.args.t c.requires.within;
  n_value = c.requires.names;
}

pub returns-in-Ok : goal.returns-in-Ok
returns-in-Ok c =
    let a = c.args in
    let s = a.src.now in
    let xs = a.notes.now in
    let read = c.requires in
    let done = passed (held_of (log_of s xs a.t)) in
    accepts a.l s xs a.t read _ _ (through a.l s xs a.t read ∙ c.last_fault.ensures done ∙ ap (last_is done) c.in-Ok.is) c.accepted.ensures

pub returns-in-Err : goal.returns-in-Err
returns-in-Err c =
    let a = c.args in
    let s = a.src.now in
    let xs = a.notes.now in
    let done = passed (held_of (log_of s xs a.t)) in
    refuses a.l s _ _ _ (through a.l s xs a.t c.requires ∙ c.last_fault.ensures done ∙ ap (last_is done) c.in-Err.is) c.refused.ensures
