-- By the case.
use Rattle.dump_model_text.proofs.put_edge.Goals as goal

pub returns-in-Rising : goal.returns-in-Rising
returns-in-Rising c = rw c.in-Rising.is c.put_bytes.ensures

pub returns-in-Falling : goal.returns-in-Falling
returns-in-Falling c = rw c.in-Falling.is c.put_bytes-in-Falling.ensures
