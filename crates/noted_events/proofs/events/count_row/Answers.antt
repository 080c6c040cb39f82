-- A row more is counted: every row stands behind a byte of the file, so the count stays small.
use Rattle.noted_events.proofs.EventLaws.{row-going, kept_row}
use Rattle.noted_events.proofs.events.count_row.Goals as goal

pub returns : goal.returns
returns c =
    let a = c.args in
    record {
      p_value = row-going a.src.now a.notes.now a.l a.t a.p c.requires;
      kept_by = kept_row a.src.now a.notes.now a.l a.t a.p c.requires;
    }
