-- By whether the keyword is closed.
use Rattle.noted_events.proofs.PartLaws.{argument-none, argument-some}
use Rattle.noted_events.proofs.places.argument_in.Goals as goal

pub returns-then-w-stop : goal.returns-then-w-stop
returns-then-w-stop c = argument-none c.args.src.now c.args.a c.args.e c.find-stop.result c.requires.0 c.requires.1 c.find-stop.ensures.value c.if-w-stop.true

pub returns : goal.returns
returns c = argument-some c.args.src.now c.args.a c.args.e c.find-stop.result c.requires.0 c.requires.1 c.find-stop.ensures.value c.skip_blanks.result c.skip_blanks.ensures.value c.skip_blanks.ensures.lower_bound.1
