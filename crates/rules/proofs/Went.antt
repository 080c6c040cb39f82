-- Two steps that go on alike: their stages are one, and so is what their lines add.
use Rattle.std.specs.Prelude.{◌≡◌, Ok, Err}
use mathlib.Core.Path.{ap}
use Rattle.rules.specs.Going.{Went}
use Rattle.rules.specs.declared.Stage.{Stage}
use Rattle.rules.specs.declared.Event.{Event}

abbrev stage_or : Stage → Went → Stage
stage_or s (Ok (u, e)) = u
stage_or s (Err f) = s

abbrev event_or : Event → Went → Event
event_or d (Ok (u, e)) = e
event_or d (Err f) = d

pub stage-of : {s u : Stage} {d e : Event} → ◌≡◌ {A = Went} (Ok (s, d)) (Ok (u, e)) → s ≡ u
stage-of {s} q = ap (stage_or s) q

pub event-of : {s u : Stage} {d e : Event} → ◌≡◌ {A = Went} (Ok (s, d)) (Ok (u, e)) → d ≡ e
event-of {d = d} q = ap (event_or d) q
