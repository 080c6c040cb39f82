-- The first lines stop where the keywords begin, and the keywords turn the record that those leave: `counted-lies`.
use borrow.Author.Rules.{rules}
use mathlib.Core.Path.{sym, ap, ◌∙◌}
use native.Mathlib.Omega.{arith}
use lib.ListN.{length}
use Rattle.records.specs.Stored.{over}
use Rattle.section_words.proofs.Walks.{waves-ahead, rows-ahead}
use Rattle.section_words.proofs.Counted.{counted-lies}
use Rattle.section_words.proofs.models.fill_model.Goals as goal

pub fill_body-used-requires : goal.fill_body-used-requires
fill_body-used-requires c =
    let h = c.put_firsts-next.ensures.stops_at in
    record {
      placed = (h.placed, c.requires.placed.1, omega (arith, c.model-1.given, c.requires.model_size_in_bounds));
      c_in_bounds = rw (waves-ahead h c.args.row) at c.requires.c_in_bounds;
      c_in_bounds_2 = rw (rows-ahead h c.args.row) at c.requires.c_in_bounds_2;
    }

pub shape_of-model : goal.shape_of-model
shape_of-model c = search (rules, c.model-2-1.given, c.model-1.given)

pub returns : goal.returns
returns c =
    let a = c.args in
    let r = c.put_firsts-next.ensures in
    let f = c.fill_body-used.ensures in
    let w = waves-ahead r.stops_at a.row in
    let v = rows-ahead r.stops_at a.row in
    record {
      model_after = counted-lies a.src.now a.c a.section a.row a.start a.name.now a.model.now r.stops_at c.put_firsts-next.new.model c.fill_body-used.new.model r.model_after f;
      waveforms_after = f.waveforms.store ∙ ap (over a.waveforms.now) (sym w);
      rows_after = f.rows.store ∙ ap (over a.rows.now) (sym v);
      value = (λ i. record { waveforms = (f.waveforms.used ∙ ap length (sym w)) i; rows = (f.rows.used ∙ ap length (sym v)) i });
    }
