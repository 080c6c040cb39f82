-- By cases on the part.
use Rattle.component_records.proofs.sections.Parts.with_part.Goals as goal

pub returns-in-Package : goal.returns-in-Package
returns-in-Package c = rw c.in-Package.is (c.with_package.ensures c.args.argument.now)

pub returns-in-Pin : goal.returns-in-Pin
returns-in-Pin c = rw c.in-Pin.is (c.with_pins.ensures c.args.argument.now)
