-- By whether the pin is there.
use Prim.Native.Nat.{◌/◌}
use mathlib.Core.Path.{refl, ap, ◌∙◌}
use lib.ListN.{length}
use borrow.Author.Tests.{lt-ltb, le-ltb}
use Rattle.record_words.specs.Records.{pin_size}
use Rattle.questions.specs.Chosen.{model_for, model_of_pin}
use Rattle.questions.proofs.choices.model_of_pin.Goals as goal

pub returns-then-k-pins : goal.returns-then-k-pins
unfolding model_of_pin
returns-then-k-pins c = rw (lt-ltb c.args.k (length c.args.pins.now / pin_size) c.if-k-pins.true) (c.model_for.ensures ∙ ap (model_for c.args.selectors.now c.args.choices.now c.args.models.now) c.pin_in.ensures)

pub returns : goal.returns
unfolding model_of_pin
returns c = rw (le-ltb c.args.k (length c.args.pins.now / pin_size) c.if-k-pins.false) refl
