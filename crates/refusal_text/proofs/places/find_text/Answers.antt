-- The text sought from this cursor on is the one sought from the first: a law for each way out, and for each turn.
use Prim.Native.Nat.{ℕ}
use mathlib.Core.Path.{subst}
use mathlib.Core.List.{List}
use native.Mathlib.Omega.{arith}
use Rattle.cut_lines.specs.Cursors.{NextIs}
use Rattle.refusal_text.specs.Places.{Lies}
use Rattle.refusal_text.proofs.TextLaws.{sought-first, text-found, text-passed, change-found, change-passed, text_out}
use Rattle.refusal_text.proofs.places.find_text.Goals as goal

pub loop-line-init : goal.loop-line-init
loop-line-init c = rw c.first-cursor.ensures (sought-first c.args.src.now c.args.number)

pub next_text-requires : goal.next_text-requires
next_text-requires c = c.loop-line.invariant.placed

pub returns-then-line-number : goal.returns-then-line-number
returns-then-line-number c =
    let t = subst (NextIs c.args.src.now c.loop-line.cursor) c.in-Text.is c.next_text.ensures in
    text-found c.loop-line.invariant t c.if-line-number.true

pub loop-line-smaller-in-Text : goal.loop-line-smaller-in-Text
loop-line-smaller-in-Text c =
    let t = subst (NextIs c.args.src.now c.loop-line.cursor) c.in-Text.is c.next_text.ensures in
    omega (arith, t.goes.rises, t.goes.placed.within)

pub loop-line-preserved-in-Text : goal.loop-line-preserved-in-Text
loop-line-preserved-in-Text c =
    let t = subst (NextIs c.args.src.now c.loop-line.cursor) c.in-Text.is c.next_text.ensures in
    text-passed c.loop-line.invariant t c.if-line-number.false

pub returns-then-line-number-2 : goal.returns-then-line-number-2
returns-then-line-number-2 c =
    let t = subst (NextIs c.args.src.now c.loop-line.cursor) c.in-Change.is c.next_text.ensures in
    subst (λ (w : List ℕ). Lies c.args.src.now w c.whole_line.result) (change-found c.loop-line.invariant t c.if-line-number-2.true) c.whole_line.ensures

pub loop-line-smaller : goal.loop-line-smaller
loop-line-smaller c =
    let t = subst (NextIs c.args.src.now c.loop-line.cursor) c.in-Change.is c.next_text.ensures in
    omega (arith, t.goes.rises, t.goes.placed.within)

pub loop-line-preserved : goal.loop-line-preserved
loop-line-preserved c =
    let t = subst (NextIs c.args.src.now c.loop-line.cursor) c.in-Change.is c.next_text.ensures in
    change-passed c.loop-line.invariant t c.if-line-number-2.false

pub returns-in-Out : goal.returns-in-Out
returns-in-Out c =
    let t = subst (NextIs c.args.src.now c.loop-line.cursor) c.in-Out.is c.next_text.ensures in
    text_out c.loop-line.invariant t
