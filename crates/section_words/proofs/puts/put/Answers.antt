-- What lies before the words and behind them stays: `put_mid-paste`, `sets-eq`.
use mathlib.Core.Path.{refl, sym, ◌∙◌}
use lib.ListN.{length}
use lib.Seq.{take-length, sets-eq}
use native.Mathlib.Omega.{arith}
use Rattle.std.proofs.lemmas.Slice.{put_mid-paste}
use Rattle.section_words.proofs.puts.put.Goals as goal

pub returns : goal.returns
returns c =
    let out = c.args.out.now in
    let words = c.args.words.now in
    put_mid-paste c.args.at _ out _ words (length words) c.copy_from_slice.ensures.after (omega arith) refl
    ∙ rw take-length (sym (sets-eq words out c.args.at c.requires))
