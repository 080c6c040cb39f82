-- By the answer; no double of a cell is a NaN.
use Rattle.std.specs.Prelude.{Ok}
use Rattle.doubles.proofs.Faithful.{double-number}
use mathlib.Core.Path.{sym, ap, ◌∙◌}
use Rattle.double_text.proofs.cells.put_double.Goals as goal

pub float_to_bits-x : goal.float_to_bits-x
float_to_bits-x c = double-number _ _ (sym c.double_of.ensures ∙ c.in-Ok.is ∙ ap Ok c.in-Double.is)

pub returns-in-Double : goal.returns-in-Double
returns-in-Double c = rw (sym c.double_of.ensures ∙ c.in-Ok.is ∙ ap Ok c.in-Double.is) c.put_hexadecimal.ensures

pub returns-in-Missing : goal.returns-in-Missing
returns-in-Missing c = rw (sym c.double_of.ensures ∙ c.in-Ok.is ∙ ap Ok c.in-Missing.is) c.put_bytes.ensures

pub returns-in-Err : goal.returns-in-Err
returns-in-Err c = rw (sym c.double_of.ensures ∙ c.in-Err.is) c.put_number.ensures
