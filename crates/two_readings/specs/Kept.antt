-- "Kept is all that is read": two files that are accepted, answered alike and left as the same tables say the same, whatever the tables held.
use Rattle.std.specs.Prelude.{ℕ, ◌≡◌, List, Ok}
use Rattle.rules.specs.Whole.{texts_of}
use Rattle.rules.specs.Reading.{file_in}
use Rattle.rules.specs.Same.{SaysTheSame}
use Rattle.records.specs.declared.Answer.{Answer}
use Rattle.reader.specs.Promise.{Lent, Reads}

abbrev pub KeptByRead : Type 0
KeptByRead =
    (s t : List ℕ) (a b u : Lent) (r : Answer) → Reads s a r u → Reads t b r u → r.verdict ≡ Ok tt
    → SaysTheSame (file_in (texts_of s)) (file_in (texts_of t))
