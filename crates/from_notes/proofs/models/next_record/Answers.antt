-- What the keywords up to a waveform say, with what is left of the model, is what the notes say: `goes`.
use mathlib.Core.Path.{refl}
use native.Mathlib.Omega.{arith}
use Rattle.table_rows.proofs.Stores.{rest-room}
use Rattle.from_notes.proofs.Steps.{goes, room-here, room-taken}
use Rattle.from_notes.proofs.models.next_record.Goals as goal

pub opening-from-requires : goal.opening-from-requires
opening-from-requires c = c.requires.sound

pub offset_bounds-rows-words : goal.offset_bounds-rows-words
offset_bounds-rows-words c = omega (arith, room-here c.requires c.opening-from.ensures, c.well_formed)

pub slice_bounds-take_keys-count : goal.slice_bounds-take_keys-count
slice_bounds-take_keys-count c = omega (arith, room-here c.requires c.opening-from.ensures)

pub slice_bounds-take_keys-start : goal.slice_bounds-take_keys-start
slice_bounds-take_keys-start c = omega (arith, room-here c.requires c.opening-from.ensures)

pub take_keys-taken-requires : goal.take_keys-taken-requires
take_keys-taken-requires c =
    let o = c.opening-from.ensures in
    record {
      placed = (o.placed, o.fits);
      c_in_bounds = rest-room c.args.rows.now c.args.p.words _ (room-here c.requires o);
    }

pub overflow_add-used : goal.overflow_add-used
overflow_add-used c = omega (arith, room-taken c.requires c.opening-from.ensures c.take_keys-taken.ensures, c.well_formed)

pub returns : goal.returns
returns c = λ waves rowed store r l room. goes c.opening-from.ensures c.take_keys-taken.ensures r l room refl
