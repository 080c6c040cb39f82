-- From place k on the search finds what it finds from the start.
use Rattle.std.specs.Prelude.{Some}
use Prim.Native.Nat.{ℕ, ◌+◌}
use mathlib.Core.Path.{◌≡◌, sym, ap, ◌∙◌}
use mathlib.Core.Bool.{Bool, true, false}
use mathlib.Core.List.{List}
use native.Mathlib.Omega.{arith}
use Rattle.records.specs.declared.Component.{Component}
use Rattle.questions.specs.Searched.{component_there, in_span, component_with}
use Rattle.questions.proofs.Laws.{seeks-first, seeks-found, seeks-next, seeks-none}
use Rattle.questions.proofs.searches.component_with.Goals as goal

-- the component has the pin; the search counts from 0
has : (components : List ℕ) (pin k : ℕ) (there : Component) (r t : Bool) → there ≡ component_there components k → r ≡ in_span there.pins pin → r ≡ t → in_span (component_there components (0 + k)).pins pin ≡ t
has components pin k there r t a d e = let z : 0 + k ≡ k = omega arith in rw z (ap (λ (x : Component). in_span x.pins pin) (sym a) ∙ sym d ∙ e)

pub loop-k-init : goal.loop-k-init
loop-k-init c = seeks-first _ _ _

pub returns-then-in_span : goal.returns-then-in_span
unfolding component_with
returns-then-in_span c =
    let z : c.loop-k.k ≡ 0 + c.loop-k.k = omega arith in
    ap Some z ∙ seeks-found _ _ _ c.loop-k.k c.loop-k-test.true c.loop-k.invariant (has c.args.components.now c.args.pin c.loop-k.k _ _ true c.component_in.ensures c.in_span.ensures c.if-in_span.true)

pub loop-k-preserved : goal.loop-k-preserved
loop-k-preserved c = seeks-next _ _ _ c.loop-k.k c.loop-k-test.true c.loop-k.invariant (has c.args.components.now c.args.pin c.loop-k.k _ _ false c.component_in.ensures c.in_span.ensures c.if-in_span.false)

pub returns : goal.returns
unfolding component_with
returns c = seeks-none _ _ _ c.loop-k.k c.loop-k-test.false c.loop-k.invariant
