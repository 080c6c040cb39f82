-- No clash among the names before place i, their keys were seen, and the section is theirs; the name there is among those before it if it is among those to meet.
use Rattle.std.specs.Prelude.{Some}
use mathlib.Core.Path.{sym, ap, ◌∙◌}
use Rattle.name_checks.proofs.ClashLaws.{section-none, section-next, key-own, used-meets, used-before, seen_none, seen_next, clash-next, clash-here, clash-none}
use Rattle.name_checks.proofs.clashes.first_clash.Goals as goal

pub loop-i-init : goal.loop-i-init
loop-i-init c = (clash-none c.args.src.now c.args.notes.now, seen_none c.args.src.now c.args.notes.now, section-none c.args.notes.now)

pub returns-then-is_used : goal.returns-then-is_used
returns-then-is_used c =
    let a = c.args in
    let p = c.loop-i in
    let own = key-own a.src.now a.notes.now p.i c.kind_at-k.result c.part_at-name.result c.kind_at-k.ensures c.part_at-name.ensures p.section c.key_of-key.result p.invariant.2 c.key_of-key.ensures in
    let before = used-before a.src.now a.notes.now p.seen p.i c.key_of-key.result own p.invariant.1 c.to_meet.result c.to_meet.ensures in
    let met = used-meets a.src.now a.notes.now p.i c.kind_at-k.result c.part_at-name.result c.kind_at-k.ensures c.part_at-name.ensures c.to_meet.result in
    (ap Some c.line_at.ensures ∙ sym (clash-here a.src.now a.notes.now p.i a.n c.loop-i-test.true p.invariant.0 (sym before.1 ∙ met ∙ sym c.is_used.ensures ∙ c.if-is_used.true)))

pub loop-i-preserved : goal.loop-i-preserved
loop-i-preserved c =
    let a = c.args in
    let p = c.loop-i in
    let own = key-own a.src.now a.notes.now p.i c.kind_at-k.result c.part_at-name.result c.kind_at-k.ensures c.part_at-name.ensures p.section c.key_of-key.result p.invariant.2 c.key_of-key.ensures in
    let before = used-before a.src.now a.notes.now p.seen p.i c.key_of-key.result own p.invariant.1 c.to_meet.result c.to_meet.ensures in
    let met = used-meets a.src.now a.notes.now p.i c.kind_at-k.result c.part_at-name.result c.kind_at-k.ensures c.part_at-name.ensures c.to_meet.result in (
      clash-next a.src.now a.notes.now p.i p.invariant.0 (sym before.1 ∙ met ∙ sym c.is_used.ensures ∙ c.if-is_used.false),
      seen_next a.src.now a.notes.now p.seen p.i c.key_of-key.result own p.invariant.1 c.see.new.seen c.see.ensures,
      section-next a.notes.now p.i c.kind_at-k.result p.section c.section_behind-section.result c.kind_at-k.ensures p.invariant.2 c.section_behind-section.ensures,
    )
