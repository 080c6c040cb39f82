-- The word that was read, with the bit, is written back.
use mathlib.Core.Path.{ap}
use lib.ListN.{set}
use Rattle.given.specs.declared.Given.{Given}
use Rattle.name_checks.specs.Lookup.{seen_word, with_seen}
use Rattle.name_checks.proofs.seen.see.Goals as goal

pub returns : goal.returns
unfolding with_seen
returns c =
    let a = c.args in
    ap (λ (x : Given). set a.seen.now (seen_word a.key) x.bits) c.also-more.ensures
