-- What the test answered at each place says where the front ends.
use Rattle.named_lines.specs.Places.{is_name_byte}
use Rattle.words.proofs.ByPlaces.{front-places}
use Rattle.named_lines.proofs.lines.skip_name.Goals as goal

pub returns-clause-value : goal.returns-clause-value
returns-clause-value c =
    let e = c.skip.ensures in
    front-places is_name_byte _ _ _ e.lower_bound e.passed e.stopped
