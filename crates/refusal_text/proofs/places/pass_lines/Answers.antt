-- All that the proof knows of `new` and `next` is that they meet their contracts.
use Prim.Native.Nat.{ℕ, ◌+◌}
use mathlib.Core.Path.{◌≡◌, refl, ap, ◌∙◌}
use mathlib.Core.List.{List}
use native.Mathlib.Numerals.{add-one}
use Rattle.lines.specs.Places.{line_from}
use Rattle.lines.specs.declared.LineReader.{LineReader}
use Rattle.refusal_text.specs.Places.{place_behind}
use Rattle.refusal_text.proofs.places.pass_lines.Goals as goal

goes_on : (s t : List ℕ) (a k : ℕ) → s ≡ t → a ≡ place_behind t k → (line_from s a).next ≡ place_behind t (k + 1)
unfolding place_behind
goes_on s t a k e h = rw (e, h, add-one k) refl

pub loop-init : goal.loop-init
unfolding place_behind
loop-init c = (ap (λ (r : LineReader). r.src.now) c.new-reader.ensures, ap (λ (r : LineReader). r.at) c.new-reader.ensures)

pub loop-preserved : goal.loop-preserved
loop-preserved c =
    let l = c.loop in
    let e = c.next.ensures.1 in
    (ap (λ (r : LineReader). r.src.now) e ∙ l.invariant.0, ap (λ (r : LineReader). r.at) e ∙ goes_on _ _ _ l.counter l.invariant.0 l.invariant.1)
