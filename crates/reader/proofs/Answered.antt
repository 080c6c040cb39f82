-- An answer as plain data for the walks of `table_walks`.
use Rattle.table_walks.proofs.Elem.{Data, Elem, of_struct, struct-elem}
use Rattle.records.specs.contracts.Answer as Answer
use Rattle.records.proofs.Answer.TheLaws as Answer'

abbrev pub answer : Data
answer = of_struct Answer.the_type Answer'.the_laws

pub answer-elem : Elem answer
answer-elem = struct-elem Answer.the_type Answer'.the_laws Answer'.the_copy Answer'.the_plain
