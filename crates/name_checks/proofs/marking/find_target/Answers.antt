-- A key that was not seen names nothing; where no name is used twice, a name in the slot that is named is what the search would find.
use mathlib.Core.Path.{sym, ap, ◌∙◌}
use Rattle.name_checks.specs.Lookup.{target_key}
use Rattle.name_checks.proofs.NoteLaws.{model-said}
use Rattle.name_checks.proofs.ListingLaws.{unseen-nothing, hit-target}
use Rattle.name_checks.proofs.marking.find_target.Goals as goal

pub returns-then-not-is_seen : goal.returns-then-not-is_seen
returns-then-not-is_seen c =
    let a = c.args in
    unseen-nothing a.src.now a.notes.now a.i a.n a.seen.now c.requires.n_value.1 c.target_key-key.result
    (c.target_key-key.ensures ∙ ap target_key (model-said a.src.now a.notes.now c.part_at-model.result a.i c.part_at-model.ensures))
    (sym c.is_seen.ensures ∙ c.if-not-is_seen.true)

pub returns-then-is_target : goal.returns-then-is_target
returns-then-is_target c =
    let a = c.args in
    hit-target a.src.now a.notes.now a.i a.n c.requires.n_value.0 c.place_of-place.result (sym c.is_target.ensures ∙ c.if-is_target.true)
