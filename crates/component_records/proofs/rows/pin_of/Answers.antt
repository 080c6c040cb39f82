-- Three words, each from where the one before ends, by `word-from`; with the cells behind them, by `pin-is`.
use Rattle.component_records.proofs.Words.{word-from, pin-is}
use Rattle.component_records.proofs.rows.pin_of.Goals as goal

pub returns : goal.returns
returns c =
    let w = c.args.w.now in
    rw (c.name_of.ensures, c.of.ensures, c.name_of-2.ensures, c.of-2.ensures, c.model_kept.ensures, c.of-3.ensures, c.triple_is-cells.ensures)
    (pin-is w _ _ _ (word-from w _ _ c.word_at-name.ensures) (word-from w _ _ c.word_at-signal.ensures) (word-from w _ _ c.word_at-model.ensures) _ c.pin_cells.ensures)
