-- By the word that says where the note lies.
use Prim.Native.Nat.{ℕ}
use mathlib.Core.Path.{ap, ◌∙◌}
use Rattle.rules.specs.Outline.{place}
use Rattle.note_words.specs.Store.{kind_by}
use Rattle.name_checks.specs.Lookup.{place_at}
use Rattle.name_checks.proofs.places.kind_at.Goals as goal

pub returns : goal.returns
unfolding place_at
returns c = c.kind_by.ensures ∙ ap (λ (a : ℕ). place (kind_by a)) c.word.ensures.value
