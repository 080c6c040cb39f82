-- With the digits that are left, the page is as with all of them.
use Prim.Native.Nat.{ℕ, ◌-◌}
use mathlib.Core.Path.{ap, ◌∙◌}
use mathlib.Core.List.{List, ◌∷◌}
use Rattle.text_buffer.specs.Numerals.{hexadecimal}
use Rattle.text_buffer.specs.Pages.{sheet}
use Rattle.text_buffer.specs.Put.{put}
use Rattle.text_buffer.proofs.HexadecimalLaws.{digit-then, no-digits}
use Rattle.text_buffer.proofs.page.Page.put_hexadecimal.Goals as goal

pub loop-behind-preserved : goal.loop-behind-preserved
loop-behind-preserved c =
    let l = c.loop-behind in
    let n = c.args.number in
    let digit = c.digit_before.ensures in
    let turn = ap (λ (d : ℕ). d ∷ hexadecimal (l.behind - 1) n) digit ∙ digit-then l.behind n c.loop-behind-test.true in
    ap (put (hexadecimal (l.behind - 1) n)) c.put_byte.ensures ∙ ap (λ (t : List ℕ). put t (sheet l.self)) turn ∙ l.invariant

pub returns : goal.returns
returns c =
    let l = c.loop-behind in
    ap (λ (t : List ℕ). put t (sheet l.self)) (no-digits l.behind c.args.number c.loop-behind-test.false) ∙ l.invariant
