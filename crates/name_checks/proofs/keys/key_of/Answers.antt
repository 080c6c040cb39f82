-- The key of the name, moved into the file, from where its kind and section let it start.
use Prim.Native.Nat.{ℕ}
use mathlib.Core.Path.{ap, ◌∙◌}
use Rattle.laws.specs.Lists.{part}
use Rattle.name_checks.specs.Lookup.{key_from}
use Rattle.name_checks.proofs.keys.key_of.Goals as goal

pub returns : goal.returns
returns c =
    let a = c.args in
    c.name_key.ensures
    ∙ ap (key_from c.start_of-start.result) c.within-w.ensures.same
    ∙ ap (λ (k : ℕ). key_from k (part a.name.start a.name.end a.src.now)) c.start_of-start.ensures
