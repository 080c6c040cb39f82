-- The page holds the file: what it writes there is the file's.
use Prim.Native.Nat.{ℕ, ◌-◌}
use mathlib.Core.List.{List}
use mathlib.Core.Path.{ap, ◌∙◌}
use native.Mathlib.Omega.{arith}
use lib.ListN.{replicate}
use Rattle.std.proofs.Common.{rules}
use Rattle.text_buffer.specs.Put.{Sheet}
use Rattle.surplus_word.specs.Surplus.{blanked}
use Rattle.surplus_word.proofs.Laws.{blank_none}
use Rattle.text_buffer.specs.Pages.{sheet}
use Rattle.text_buffer.proofs.Laws.{put-at, put-lent}
use Rattle.surplus_word.proofs.put_blanks.Goals as goal

pub returns-then-word : goal.returns-then-word
unfolding blanked
returns-then-word c =
    let r = c.args.word in
    let page = c.at-page.ensures in
    let blanks : List ℕ = replicate (r.end - r.start) 32 in
    let named = put-lent blanks (sheet c.at-page.result) (omega (arith, c.at-page.result.within)) in
    let kept = ap (λ (t : Sheet). t.lent) c.put_repeated.ensures ∙ named ∙ page.same_reference in
    (search rules) ∙ put-at blanks c.args.file.now r.start (sheet c.at-page.result) (sheet c.put_repeated.new.self) page.same_bytes page.at_place c.put_repeated.ensures

pub returns-else-word : goal.returns-else-word
returns-else-word c = blank_none c.args.file.now c.args.word c.if-word.false
