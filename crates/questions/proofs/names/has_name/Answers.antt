-- Equality from i on is equality of all: `same-go` at a turn; the ways out are another length, `same-differ` and `same_end`.
use Prim.Native.Nat.{ℕ, ◌≤◌, ◌<◌}
use mathlib.Core.Path.{sym, ap, ◌∙◌}
use mathlib.Core.List.{List}
use lib.ListN.{length}
use native.Mathlib.Omega.{arith}
use borrow.Author.Tests.{le-leb}
use Rattle.laws.specs.Lists.{eqs}
use Rattle.laws.proofs.Eights.{bytes-length, bytes-get}
use Rattle.laws.proofs.Same.{same_end, same-differ, same-go, map_same}
use Rattle.questions.proofs.Laws.{named_in, other_length}
use Rattle.questions.proofs.names.has_name.Invariants.{kept, text}
use Rattle.questions.proofs.names.has_name.Goals as goal

pub returns-then-name_length-name : goal.returns-then-name_length-name
returns-then-name_length-name c =
    let a = c.args in
    sym (other_length a.words.now a.name.now c.name_length.result (sym c.name_length.ensures) c.if-name_length-name.true)

pub loop-i-init : goal.loop-i-init
loop-i-init c =
    let a = c.args in
    ap (λ (l : List ℕ). eqs l a.name.now) (map_same (text a.words.now a.name.now))
    ∙ sym (named_in a.words.now a.name.now (length a.name.now) (sym c.name_length.ensures ∙ c.if-name_length-name.false))

pub returns-then-byte_in-b : goal.returns-then-byte_in-b
returns-then-byte_in-b c =
    let a = c.args in
    let l = c.loop-i in
    let here = c.loop-i-test.true in
    let within : l.i < length (text a.words.now a.name.now) = omega (arith, here, bytes-length a.words.now (length a.name.now)) in
    sym (same-differ kept (text a.words.now a.name.now) a.name.now l.i within here (λ e. c.if-byte_in-b.true (c.byte_in.ensures ∙ sym (bytes-get a.words.now (length a.name.now) l.i here) ∙ e)))
    ∙ l.invariant

pub loop-i-preserved : goal.loop-i-preserved
loop-i-preserved c =
    let a = c.args in
    let l = c.loop-i in
    let here = c.loop-i-test.true in
    let within : l.i < length (text a.words.now a.name.now) = omega (arith, here, bytes-length a.words.now (length a.name.now)) in
    same-go kept (text a.words.now a.name.now) a.name.now l.i within here (bytes-get a.words.now (length a.name.now) l.i here ∙ sym c.byte_in.ensures ∙ c.if-byte_in-b.false)
    ∙ l.invariant

pub returns : goal.returns
returns c =
    let a = c.args in
    let l = c.loop-i in
    let all : length (text a.words.now a.name.now) ≤ l.i = omega (arith, c.loop-i-test.false, bytes-length a.words.now (length a.name.now)) in
    sym (le-leb (length a.name.now) l.i c.loop-i-test.false)
    ∙ sym (same_end kept (text a.words.now a.name.now) a.name.now l.i all)
    ∙ l.invariant
