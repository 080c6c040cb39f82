-- The last checks of one entry, as the code asks them.
use Rattle.std.specs.Prelude.{List, Bool}
use Rattle.rules.specs.Outline.{Entry, is_found, is_listed}

abbrev pub found : List Entry → Entry → Bool
found all e = is_found all e e.kind

abbrev pub listed_in : List Entry → Entry → Bool
listed_in all e = is_listed all e e.kind
