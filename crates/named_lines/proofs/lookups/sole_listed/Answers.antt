-- The word is none of the list's, another follows it, or it stands alone.
use Rattle.std.specs.Prelude.{Err}
use mathlib.Core.Path.{sym, ap, ◌∙◌}
use Rattle.named_lines.proofs.TableLaws.{listed-wrong, listed_more, listed-alone}
use Rattle.named_lines.proofs.lookups.sole_listed.Goals as goal

pub returns-in_default : goal.returns-in_default
returns-in_default c =
    let a = c.args in
    ap Err c.at_fault.ensures
    ∙ sym ((listed-wrong a.list a.w.now a.at _ c.word_at-word.ensures c.place.ensures c.in_default.is))

pub returns-then-next-w : goal.returns-then-next-w
returns-then-next-w c =
    let a = c.args in
    ap Err c.at_fault-then-next-w.ensures
    ∙ sym ((listed_more a.list a.w.now a.at _ c.word_at-word.ensures c.place.ensures c.in-Some.is _ c.skip_blanks-next.ensures.value c.if-next-w.true))

pub returns : goal.returns
returns c =
    let a = c.args in
    sym ((listed-alone a.list a.w.now a.at _ c.word_at-word.ensures c.place.ensures c.in-Some.is _ c.skip_blanks-next.ensures.value c.if-next-w.false))
