-- What the test answered at each place says where the front ends.
use Rattle.line_rules.specs.Fields.{is_file_byte}
use Rattle.words.proofs.ByPlaces.{front-places}
use Rattle.named_lines.proofs.forms.skip_file_bytes.Goals as goal

pub returns-clause-value : goal.returns-clause-value
returns-clause-value c =
    let e = c.skip.ensures in
    front-places is_file_byte _ _ _ e.lower_bound e.passed e.stopped
