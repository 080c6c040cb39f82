-- The shift leaves the byte lowest (`shifted-byte`).
use Rattle.laws.proofs.Eights.{shifted-byte}
use Rattle.table_records.proofs.values.byte_in.Goals as goal

pub returns : goal.returns
returns c = let a = c.args in shifted-byte a.words.now a.k c.number_at.result c.number_at.ensures
