-- By the form.
use Rattle.line_rules.specs.Fields.{is_version}
use Rattle.named_lines.proofs.forms.has_form.Goals as goal

pub returns-in-Version : goal.returns-in-Version
unfolding is_version
returns-in-Version c = rw c.in-Version.is c.same.ensures
