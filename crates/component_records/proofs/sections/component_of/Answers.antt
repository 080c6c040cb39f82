-- The locations are the lines under [Component]; the keywords that follow them are those of the section: `component-is`.
use mathlib.Core.Path.{sym, ◌∙◌}
use Rattle.cut_lines.specs.Cursors.{rest}
use Rattle.lines_under.proofs.Keyed.{keys-stop, keys-same}
use Rattle.component_records.specs.Views.{no_parts}
use Rattle.component_records.proofs.Keys.{part-fold, component-is}
use Rattle.component_records.proofs.sections.component_of.Goals as goal

pub returns : goal.returns
returns c =
    let a = c.args in
    let ts = rest a.src.now a.c in
    let t = c.under.ensures in
    let q = c.parts_from-parts.ensures ∙ sym (keys-same part-fold no_parts ts (rest a.src.now _) (keys-stop t.stops)) in
    rw (c.name_of.ensures, t.sites, q) (component-is ts a.section a.start a.name.now)
