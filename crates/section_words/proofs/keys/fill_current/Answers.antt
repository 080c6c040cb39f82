-- As many rows are counted as are written, four words each: `current-filled`.
use Prim.Native.Nat.{ℕ, ◌/◌}
use mathlib.Core.Path.{sym, ap, ◌∙◌}
use mathlib.Core.List.{[], ◌∷◌}
use mathlib.Core.Bool.{cond}
use lib.Dec.{eqb}
use lib.ListN.{get_or}
use lib.Seq.{sets}
use native.Mathlib.Omega.{arith}
use Rattle.section_words.specs.Parts.{table_from}
use Rattle.section_words.proofs.Written.{current-filled}
use Rattle.section_words.proofs.keys.fill_current.Goals as goal

pub returns : goal.returns
returns c =
    λ b w waves i l.
    let a = c.args in
    let m = a.model.now in
    let k = c.fill_table-filled.result.words / 4 in
    current-filled c.fill_table-filled.ensures b (omega (arith, i, c.requires.placed.1)) l w a.table m c.fill_span.new.model waves
    (c.fill_span.ensures
    ∙ ap (λ (n : ℕ). cond (eqb (get_or m n 0) 0) (sets m n (1 ∷ a.row ∷ k ∷ [])) m) c.table_from.ensures.value
    ∙ ap (λ (x : ℕ). cond (eqb (get_or m (table_from a.table) 0) 0) (sets m (table_from a.table) (1 ∷ x ∷ k ∷ [])) m) (sym i))
