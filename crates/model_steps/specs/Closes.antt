-- The tests of `model_shut` and `model_done`, each by itself and by the places of what was given.
use Rattle.std.specs.Prelude.{Bool, not, ◌&&◌, ◌||◌}
use Rattle.given.specs.Given.{has}
use Rattle.rules.specs.Types.{is_input, is_driven, thresholds, is_below}
use Rattle.given.specs.declared.Given.{Given}
use Rattle.rules.specs.declared.ModelState.{ModelState}

abbrev pub both_given : Given → Bool
both_given g = has g 0 && has g 1

abbrev pub is_whole : ModelState → Bool
is_whole m = has m.first 0 && (has m.first 3 && (has m.parts 0 && (not (is_driven m.kind) || has m.parts 6)))

abbrev pub is_crossed : ModelState → Bool
is_crossed m =
    let t = thresholds m.kind m.vinl m.vinh in
    is_input m.kind && not (is_below t.vinl t.vinh)
