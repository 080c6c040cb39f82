-- Where the record of a section lies in a table.
use Rattle.std.specs.Prelude.{ℕ, ◌/◌, List, eqb, length, Option}
use Rattle.table_records.specs.Values.{record_at, number_at}
use Rattle.questions.specs.Searched.{first_place}

-- the first record of a table whose first word is k; each record has so many words
unfoldable pub with_section : ℕ → List ℕ → ℕ → Option ℕ
with_section size table k = first_place (λ i. eqb (number_at (record_at size table i) 0) k) 0 (length table / size)
