-- By whether digits stand before the point; the parts lent are parts of the digits.
use Prim.Native.Nat.{ℕ, ◌-◌, ◌≤◌, ◌<◌}
use mathlib.Core.Path.{sym, ap, ◌∙◌}
use native.Mathlib.Omega.{arith}
use borrow.Author.Tests.{lt-ltb, le-ltb}
use mathlib.Core.List.{List}
use lib.ListN.{length, replicate}
use Rattle.text_buffer.specs.Pages.{sheet}
use Rattle.text_buffer.specs.Put.{put}
use Rattle.text_buffer.specs.Numerals.{numeral_of, pointed}
use Rattle.text_buffer.proofs.Laws.{put_append}
use Rattle.text_buffer.proofs.NumeralLaws.{digits-rest, digits-count, digits-before, digits-behind}
use Rattle.text_buffer.proofs.page.Page.put_pointed.Goals as goal

pub returns-then-places-count : goal.returns-then-places-count
unfolding pointed
returns-then-places-count c =
    let d = c.digits_of-digits in
    let n = c.args.number in
    let k = c.args.places in
    let h : k < length (numeral_of n) = omega (arith, digits-count n d.result d.ensures, c.if-places-count.true) in
    rw (lt-ltb k (length (numeral_of n)) h) rw (sym (digits-before n d.result d.ensures k)) rw (sym (digits-behind n d.result d.ensures k c.if-places-count.true)) (grind (arith, put_append))

pub returns : goal.returns
unfolding pointed
returns c =
    let d = c.digits_of-digits in
    let n = c.args.number in
    let k = c.args.places in
    let h : length (numeral_of n) ≤ k = omega (arith, digits-count n d.result d.ensures, c.if-places-count.false) in
    let t : List ℕ = numeral_of n in
    let zeros : List ℕ = replicate (k - (20 - d.result.first)) 48 in
    let digits = ap (λ (xs : List ℕ). put xs (sheet c.put_repeated.new.self)) (digits-rest n d.result d.ensures) in
    let all = c.put_bytes-3.ensures ∙ digits ∙ ap (put t) (c.put_repeated.ensures ∙ ap (put zeros) c.put_bytes-2.ensures) ∙ sym (put_append zeros t _) in
    rw (le-ltb k (length t) h) rw (digits-count n d.result d.ensures) all
