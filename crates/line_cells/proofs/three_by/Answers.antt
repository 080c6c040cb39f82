-- The leftmost fault counts, `first-stops` to `none-stops`; another number of words is told, `three-other`.
use Rattle.std.proofs.Common.{rules}
use Rattle.line_cells.proofs.Laws.{read-so, three-other, first-stops, second-stops, third-stops, none-stops}
use Rattle.line_cells.proofs.three_by.Goals as goal

pub returns-in_err-a : goal.returns-in_err-a
returns-in_err-a g c p q h k =
    let e = c.in_err-a.ensures in
    let o = three-other e.1 p q in
    let f = e.2 in
    search rules

pub returns-in_err-typ : goal.returns-in_err-typ
returns-in_err-typ g c p q h k =
    let t = c.in_ok-a.ensures in
    let x = read-so h t.first c.of.ensures c.first.ensures in
    let o = first-stops p q h.columns k.columns t x c.in_err-typ.ensures in
    search rules

pub returns-in_err-min : goal.returns-in_err-min
returns-in_err-min g c p q h k =
    let t = c.in_ok-a.ensures in
    let x = read-so h t.first c.of.ensures c.first.ensures in
    let y = read-so k t.second c.of-2.ensures c.others.ensures in
    let o = second-stops p q h.columns k.columns t x c.in_ok-typ.ensures y c.in_err-min.ensures in
    search rules

pub returns-in_err-max : goal.returns-in_err-max
returns-in_err-max g c p q h k =
    let t = c.in_ok-a.ensures in
    let x = read-so h t.first c.of.ensures c.first.ensures in
    let y = read-so k t.second c.of-2.ensures c.others.ensures in
    let z = read-so k t.third c.of-3.ensures c.others-2.ensures in
    let o = third-stops p q h.columns k.columns t x c.in_ok-typ.ensures y c.in_ok-min.ensures z c.in_err-max.ensures in
    search rules

pub returns : goal.returns
returns g c p q h k =
    let t = c.in_ok-a.ensures in
    let x = read-so h t.first c.of.ensures c.first.ensures in
    let y = read-so k t.second c.of-2.ensures c.others.ensures in
    let z = read-so k t.third c.of-3.ensures c.others-2.ensures in
    none-stops p q h.columns k.columns t x c.in_ok-typ.ensures y c.in_ok-min.ensures z c.in_ok-max.ensures
