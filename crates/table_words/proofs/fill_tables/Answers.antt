-- Each table by its fill; the rows of the models are their rows one after the other by `rows_words`.
use mathlib.Core.Path.{sym, ap, ◌∙◌}
use Rattle.records.specs.Stored.{over}
use Rattle.table_words.proofs.Models.{rows_words}
use Rattle.table_words.proofs.fill_tables.Goals as goal

pub fill_models-requires : goal.fill_models-requires
fill_models-requires c =
    let a = c.args in
    record {
      n_in_bounds = c.requires.models;
      n_in_bounds_2 = c.requires.waveforms;
      n_in_bounds_3 = rw (sym (rows_words a.src.now a.notes.now a.o.models)) c.requires.rows;
    }

pub returns : goal.returns
returns c =
    let a = c.args in
    let r = c.fill_models.ensures in
    rw (c.fill_components.ensures, c.fill_pins.ensures, c.fill_selectors.ensures, c.fill_choices.ensures, r.models_after, r.waveforms_after, r.rows_after ∙ ap (over a.rows.now) (sym (rows_words a.src.now a.notes.now a.o.models)))
