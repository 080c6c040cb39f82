-- By what is not there.
use Rattle.from_notes.proofs.models.no_record.Goals as goal

pub returns : goal.returns
returns c = rw (c.no_waveform.ensures, c.bare_body.ensures, c.bare_lines.ensures)
