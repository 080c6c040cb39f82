-- By the case.
use Rattle.dump_model_text.proofs.put_enable.Goals as goal

pub returns-in-ActiveHigh : goal.returns-in-ActiveHigh
returns-in-ActiveHigh c = rw c.in-ActiveHigh.is c.put_bytes.ensures

pub returns-in-ActiveLow : goal.returns-in-ActiveLow
returns-in-ActiveLow c = rw c.in-ActiveLow.is c.put_bytes-in-ActiveLow.ensures
