-- A word a turn, `take_more_set`, and the count behind the last one.
use Prim.Native.Nat.{ℕ, ◌+◌, ◌<◌, ◌≤◌, ◌/◌}
use mathlib.Core.Path.{◌≡◌, refl, sym, ap, ◌∙◌}
use mathlib.Core.List.{List, [], ◌∷◌, ◌++◌}
use native.Mathlib.Numerals.{add-one}
use lib.ListN.{length, set, length-set, length-replicate}
use lib.Seq.{take_all}
use native.Mathlib.Omega.{arith}
use Rattle.std.proofs.lemmas.List.{take_more_set}
use Rattle.record_words.specs.Records.{eights, laid_words}
use Rattle.record_words.proofs.tables.laid_words.Goals as goal

pub loop-k-init : goal.loop-k-init
unfolding eights
loop-k-init g c = (length-replicate _ _, refl)

pub loop-k-preserved : goal.loop-k-preserved
unfolding eights
loop-k-preserved g c =
    let l = c.loop-k in
    let h : l.k < length l.words = omega arith in
    (length-set l.words l.k _ ∙ l.invariant.0, take_more_set l.words l.k _ h ∙ rw (l.invariant.1, c.eight_at.ensures, add-one) refl)

pub returns : goal.returns
unfolding laid_words
returns g c =
    let l = c.loop-k in
    let e : l.k ≡ g.row.N / 8 = omega arith in
    let h : l.k < length l.words = omega arith in
    let all : length (set l.words l.k c.args.t.len) ≤ l.k + 1 = omega (arith, length-set l.words l.k c.args.t.len) in
    rw (sym e) (sym (take_all (l.k + 1) (set l.words l.k c.args.t.len) all) ∙ take_more_set l.words l.k c.args.t.len h ∙ ap (λ (x : List ℕ). x ++ (c.args.t.len ∷ [])) l.invariant.1)
