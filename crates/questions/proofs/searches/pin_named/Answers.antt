-- A search among the component's pins.
use Prim.Native.Nat.{ℕ, ◌/◌}
use mathlib.Core.Path.{ap, ◌∙◌}
use mathlib.Core.Bool.{Bool}
use lib.ListN.{length}
use native.Mathlib.Omega.{arith}
use Rattle.records.specs.declared.Component.{Component}
use Rattle.record_words.specs.Records.{pin_size}
use Rattle.table_records.specs.Records.{pin_from}
use Rattle.questions.specs.Named.{is_named}
use Rattle.questions.specs.Searched.{pin_there, first_place, places_in, pin_named}
use Rattle.questions.proofs.searches.pin_named.Goals as goal

pub first_named-requires : goal.first_named-requires
unfolding places_in
first_named-requires c = omega (arith, c.places_in-n.ensures)

pub returns : goal.returns
unfolding pin_named pin_from
returns c =
    let pins = c.args.pins.now in
    let test : ℕ → Bool = λ k. is_named (pin_there pins k).name c.args.name.now in
    c.first_named.ensures
    ∙ ap (first_place test c.component_in.result.pins.start) c.places_in-n.ensures
    ∙ ap (λ (x : Component). first_place test x.pins.start (places_in x.pins (length pins / pin_size))) c.component_in.ensures
