-- The ramp that its lines say.
use Rattle.section_words.proofs.parts.fill_ramp.Goals as goal

pub returns : goal.returns
returns c = record {
  model_after = rw (c.put.ensures, c.ramp_words-words.ensures, c.ramp_lines-read.ensures.ramp);
  stops_at = c.ramp_lines-read.ensures.stops;
}
