-- By the next text: what follows it is all but the first.
use mathlib.Core.Path.{sym, ap, ◌∙◌, subst}
use lib.ListN.{drop}
use Rattle.cut_lines.specs.Cursors.{NextIs}
use Rattle.from_notes.proofs.places.behind_text.Goals as goal

pub returns-in-Text : goal.returns-in-Text
returns-in-Text c =
    let t = subst (NextIs c.args.src.now c.args.c) c.in-Text.is c.next_text.ensures in
    record { placed = t.goes.placed; texts = sym (ap (drop 1) t.more) }

pub returns-in-Change : goal.returns-in-Change
returns-in-Change c =
    let t = subst (NextIs c.args.src.now c.args.c) c.in-Change.is c.next_text.ensures in
    record { placed = t.goes.placed; texts = sym (ap (drop 1) t.more) }

pub returns-in-Out : goal.returns-in-Out
returns-in-Out c =
    let t = subst (NextIs c.args.src.now c.args.c) c.in-Out.is c.next_text.ensures in
    record { placed = c.requires; texts = t.more ∙ sym (ap (drop 1) t.more) }
