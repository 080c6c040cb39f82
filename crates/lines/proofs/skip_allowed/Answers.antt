-- What the test answered at each place says where the front ends.
use Rattle.lines.specs.Lines.{is_allowed}
use Rattle.words.proofs.ByPlaces.{front-places}
use Rattle.lines.proofs.skip_allowed.Goals as goal

pub returns-clause-value : goal.returns-clause-value
returns-clause-value c =
    let e = c.skip_eights.ensures in
    front-places is_allowed _ _ _ e.lower_bound e.passed e.stopped
