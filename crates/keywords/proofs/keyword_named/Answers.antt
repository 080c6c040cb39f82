-- The place found stands for the meaning (`meaning-found`); what stands at a place is `keyword_at`'s.
use mathlib.Core.Path.{sym, ap, ◌∙◌}
use Rattle.name_table.specs.Places.{meaning_of}
use Rattle.keywords.specs.Carried.{carried}
use Rattle.keywords.proofs.Laws.{meaning-found}
use Rattle.keywords.proofs.keyword_named.Goals as goal

pub returns-in-Some : goal.returns-in-Some
unfolding meaning_of
returns-in-Some c =
    let w = c.args.w.now in
    let p = c.place_as in
    c.keyword_at.ensures ∙ (sym (meaning-found w p.result p.ensures ∙ ap (meaning_of carried) c.in-Some.is))

pub returns-in-None : goal.returns-in-None
unfolding meaning_of
returns-in-None c =
    let w = c.args.w.now in
    let p = c.place_as in
    (sym (meaning-found w p.result p.ensures ∙ ap (meaning_of carried) c.in-None.is))
