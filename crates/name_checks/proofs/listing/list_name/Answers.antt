-- By the kind: another's is passed over.
use mathlib.Core.Path.{sym, ap, ◌∙◌}
use Rattle.name_checks.specs.Lookup.{target_key}
use Rattle.name_checks.proofs.NoteLaws.{name-said}
use Rattle.name_checks.proofs.ListingLaws.{list-other, list-named}
use Rattle.name_checks.proofs.listing.list_name.Goals as goal

pub returns-then-not-model_or_selector : goal.returns-then-not-model_or_selector
returns-then-not-model_or_selector c =
    let a = c.args in
    let old : _ × _ = list-other a.src.now a.notes.now a.i c.kind_at.result c.kind_at.ensures a.seen.now a.slots.now (sym c.model_or_selector.ensures ∙ c.if-not-model_or_selector.true) in record { seen_after = old.0; slots_after = old.1 }

pub returns : goal.returns
returns c =
    let a = c.args in
    let old : _ × _ = list-named a.src.now a.notes.now a.i c.kind_at.result c.kind_at.ensures a.seen.now a.slots.now (sym c.model_or_selector.ensures ∙ c.if-not-model_or_selector.false)
    c.target_key-key.result (c.target_key-key.ensures ∙ ap target_key (name-said a.src.now a.notes.now c.part_at-name.result a.i c.part_at-name.ensures)) _ c.see.ensures in record { seen_after = old.0; slots_after = old.1 }
