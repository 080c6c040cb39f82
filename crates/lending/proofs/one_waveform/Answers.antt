-- One record, over and over.
use mathlib.Core.Path.{ap}
use lib.ListN.{replicate}
use Rattle.records.specs.declared.Waveform.{Waveform}
use Rattle.lending.specs.Lent.{one_waveform}
use Rattle.lending.proofs.one_waveform.Goals as goal

pub returns : goal.returns
unfolding one_waveform
returns c = ap (λ (x : Waveform). replicate 1 x) c.blank_waveform-waveform.ensures
