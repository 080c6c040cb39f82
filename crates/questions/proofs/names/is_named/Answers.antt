-- The bytes compared are the name's.
use Prim.Native.Nat.{ℕ}
use mathlib.Core.Path.{ap, ◌∙◌}
use mathlib.Core.List.{List}
use Rattle.laws.specs.Lists.{eqs}
use Rattle.questions.specs.Named.{is_named, name_bytes}
use Rattle.questions.proofs.names.is_named.Goals as goal

pub returns : goal.returns
unfolding is_named name_bytes
returns c =
    let a = c.args in
    c.same.ensures ∙ ap (λ (l : List ℕ). eqs l a.w.now) c.first_bytes.ensures
