-- By the case.
use Rattle.dump_model_text.proofs.put_polarity.Goals as goal

pub returns-in-Inverting : goal.returns-in-Inverting
returns-in-Inverting c = rw c.in-Inverting.is c.put_bytes.ensures

pub returns-in-NonInverting : goal.returns-in-NonInverting
returns-in-NonInverting c = rw c.in-NonInverting.is c.put_bytes-in-NonInverting.ensures
