-- Name by name, as each is there or another; behind the second, and behind the last, a word more or none.
use Rattle.std.proofs.Common.{rules, sym, ap, ◌∙◌, Err}
use Rattle.records.specs.Flaws.{told_in}
use Rattle.line_cells.proofs.Headings.{heading-from, heading-second, heading-short, heading-cells, long-none, long-more}
use Rattle.line_cells.proofs.heading_of.Goals as goal

pub returns-in_err-signal : goal.returns-in_err-signal
returns-in_err-signal c =
    let o = ap (told_in c.args.w.now) (heading-from _) ∙ c.in_err-signal.ensures.heading _ _ in
    search rules

pub returns-in_err-model : goal.returns-in_err-model
returns-in_err-model c =
    let o = ap (told_in c.args.w.now) (heading-second c.in_ok-signal.ensures) ∙ c.in_err-model.ensures.heading _ _ in
    search rules

pub returns-then-w-more : goal.returns-then-w-more
returns-then-w-more c = sym (ap (told_in c.args.w.now) (heading-short c.in_ok-signal.ensures c.in_ok-model.ensures c.word_at-more.ensures c.if-w-more.true))

pub returns-in_err-resistance : goal.returns-in_err-resistance
returns-in_err-resistance c =
    let h = heading-cells c.in_ok-signal.ensures c.in_ok-model.ensures c.word_at-more.ensures c.if-w-more.false in
    let o = ap (told_in c.args.w.now) h ∙ c.in_err-resistance.ensures.long _ in
    search rules

pub returns-in_err-inductance : goal.returns-in_err-inductance
returns-in_err-inductance c =
    let h = heading-cells c.in_ok-signal.ensures c.in_ok-model.ensures c.word_at-more.ensures c.if-w-more.false in
    let o = ap (told_in c.args.w.now) (h ∙ c.in_ok-resistance.ensures.long _) ∙ c.in_err-inductance.ensures.long _ in
    search rules

pub returns-in_err-capacitance : goal.returns-in_err-capacitance
returns-in_err-capacitance c =
    let h = heading-cells c.in_ok-signal.ensures c.in_ok-model.ensures c.word_at-more.ensures c.if-w-more.false in
    let o = ap (told_in c.args.w.now) (h ∙ c.in_ok-resistance.ensures.long _ ∙ c.in_ok-inductance.ensures.long _) ∙ c.in_err-capacitance.ensures.long _ in
    search rules

pub returns-then-surplus-w : goal.returns-then-surplus-w
returns-then-surplus-w c =
    let w = c.args.w.now in
    let h = heading-cells c.in_ok-signal.ensures c.in_ok-model.ensures c.word_at-more.ensures c.if-w-more.false in
    ap Err c.at_fault.ensures
    ∙ sym (ap (told_in w) (h ∙ c.in_ok-resistance.ensures.long _ ∙ c.in_ok-inductance.ensures.long _ ∙ c.in_ok-capacitance.ensures.long _) ∙ long-more w _ _ c.word_at-surplus.ensures c.if-surplus-w.true)

pub returns : goal.returns
returns c =
    let w = c.args.w.now in
    let h = heading-cells c.in_ok-signal.ensures c.in_ok-model.ensures c.word_at-more.ensures c.if-w-more.false in
    sym (ap (told_in w) (h ∙ c.in_ok-resistance.ensures.long _ ∙ c.in_ok-inductance.ensures.long _ ∙ c.in_ok-capacitance.ensures.long _ ∙ long-none w _ _ c.word_at-surplus.ensures c.if-surplus-w.false))
