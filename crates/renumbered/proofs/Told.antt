-- An outcome with its lines numbered anew, by what is noted of each line: f is the new number of each.
use Prim.Native.Nat.{ℕ}
use mathlib.Core.List.{map}
use Rattle.rules.specs.Outline.{Entry}
use Rattle.rules.specs.Whole.{Held, Outcome, passed, refused}

abbrev pub entry_at : (ℕ → ℕ) → Entry → Entry
entry_at f e = record { kind = e.kind; line = f e.line; name = e.name; names = e.names }

abbrev pub held_at : (ℕ → ℕ) → Held → Held
held_at f h = record { entries = map (entry_at f) h.entries; waveforms = h.waveforms }

abbrev pub outcome_at : (ℕ → ℕ) → Outcome → Outcome
outcome_at f (passed h) = passed (held_at f h)
outcome_at f (refused n k c) = refused n (f k) c
