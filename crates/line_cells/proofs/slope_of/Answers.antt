-- No slash, a second one, or two numbers: `slope-none`, `slope-two`, `slope-one`.
use mathlib.Core.Path.{◌∙◌}
use Rattle.line_cells.proofs.Laws.{slope-none, slope-two, slope-one}
use Rattle.line_cells.proofs.slope_of.Goals as goal

pub returns-then-w-slash : goal.returns-then-w-slash
returns-then-w-slash c = slope-none c.args.w.now _ c.find-slash.ensures.value c.if-w-slash.true

pub returns-then-find-w : goal.returns-then-find-w
returns-then-find-w c = slope-two c.args.w.now _ c.find-slash.ensures.value c.if-w-slash.false _ c.find.ensures.value c.if-find-w.true

pub returns : goal.returns
returns c =
    c.ratio_of.ensures
    ∙ slope-one c.args.w.now _ c.find-slash.ensures.value c.if-w-slash.false _ c.find.ensures.value c.if-find-w.false
    c.number_of.ensures c.number_of-2.ensures
