-- What is answered to a file: that it is accepted, how much of each table is used, and its header; or the fault that document 01 puts first.
use Rattle.std.specs.Prelude.{ℕ, List, [], Ok, Err}
use Rattle.rules.specs.Reading.{FileIs, file_in}
use Rattle.layout.specs.Laid.{laid, counts_of}
use Rattle.records.specs.Stored.{words_laid}
use Rattle.rules.specs.Whole.{Outcome, passed, refused, outcome, loading, texts_of}
use Rattle.records.specs.declared.Fault.{Fault}
use Rattle.records.specs.declared.Lengths.{Lengths}
use Rattle.records.specs.declared.Lending.{Lending}
use Rattle.notes.specs.Noted.{nothing_used}
use Rattle.records.specs.declared.Answer.{Answer}

-- of a refused file nothing is told but the fault
abbrev pub refusal : Fault → Answer
refusal f = record { verdict = Err f; counts = nothing_used; header = record { name = words_laid []; revision = words_laid [] } }

abbrev pub acceptance : FileIs → Answer
acceptance f = record { verdict = (Ok tt); counts = counts_of (laid f); header = record { name = words_laid f.name; revision = words_laid f.revision } }

abbrev pub answer_for : FileIs → Outcome → Answer
answer_for f (passed h) = acceptance f
answer_for f (refused n k c) = refusal (record { number = n; line = k; column = c })

-- to a file that is checked; l are the lengths of the tables that would be lent
unfoldable pub answer_of : Lengths → List ℕ → Answer
answer_of l s = answer_for (file_in (texts_of s)) (outcome l s)

-- to a file that is loaded into what is lent
unfoldable pub answer_in : Lending → List ℕ → Answer
answer_in l s = answer_for (file_in (texts_of s)) (loading l s)
