-- A name that fails, then the cells or nothing: `row-checked`, `row-cells`, `row-short`, `row-names`.
use Rattle.std.specs.Prelude.{Err}
use Prim.Native.Nat.{ℕ}
use mathlib.Core.List.{List}
use mathlib.Core.Path.{sym, ap, ◌∙◌}
use lib.ListN.{drop}
use Rattle.laws.proofs.Handed.{handed_on}
use Rattle.laws.proofs.Lists.{part-rest}
use Rattle.records.specs.Flaws.{told_in}
use Rattle.line_rules.proofs.Fair.{fault_of, fair-checked}
use Rattle.rules.specs.Component.{pin_cells}
use Rattle.rules.proofs.Fair.{pin-cells-fair}
use Rattle.component_steps.proofs.Laws.{row-checked, row-cells, row-short, row-names}
use Rattle.component_steps.proofs.row_fault.Goals as goal

pub returns-in_err-names_fault : goal.returns-in_err-names_fault
returns-in_err-names_fault c =
    let a = c.args in
    handed_on _ c.from_residual.ensures.1 ∙ row-checked a.w.now a.names c.requires c.names_fault.ensures a.long c.in_err-names_fault.was

pub pin_cells-requires : goal.pin_cells-requires
pin_cells-requires c = rw (part-rest c.args.w.now 0) c.requires.model.ends

pub returns-in_err-pin_cells : goal.returns-in_err-pin_cells
returns-in_err-pin_cells c =
    let a = c.args in
    let w = a.w.now in
    let v = drop a.names.model.end w in
    handed_on _ c.from_residual-in_err-pin_cells.ensures.1
    ∙ ap fault_of (sym c.in_err-pin_cells.was ∙ c.pin_cells.ensures ∙ ap (λ (l : List ℕ). told_in l (pin_cells (drop a.names.model.end l))) (part-rest w 0))
    ∙ fair-checked w (pin-cells-fair v)
    ∙ row-cells w a.names c.requires c.names_fault.ensures a.long c.in_ok-names_fault.was c.if-long.true

pub returns-then-long : goal.returns-then-long
returns-then-long c =
    let a = c.args in
    let w = a.w.now in
    let v = drop a.names.model.end w in
    ap fault_of (sym c.in_ok-pin_cells.was ∙ c.pin_cells.ensures ∙ ap (λ (l : List ℕ). told_in l (pin_cells (drop a.names.model.end l))) (part-rest w 0))
    ∙ fair-checked w (pin-cells-fair v)
    ∙ row-cells w a.names c.requires c.names_fault.ensures a.long c.in_ok-names_fault.was c.if-long.true

pub returns-then-cell-w : goal.returns-then-cell-w
returns-then-cell-w c =
    let a = c.args in
    ap Err c.at_fault.ensures ∙ row-short a.w.now a.names c.requires c.names_fault.ensures a.long c.in_ok-names_fault.was c.word_at-cell.ensures c.if-long.false c.if-cell-w.true

pub returns : goal.returns
returns c =
    let a = c.args in
    row-names a.w.now a.names c.requires c.names_fault.ensures a.long c.in_ok-names_fault.was c.word_at-cell.ensures c.if-cell-w.false
