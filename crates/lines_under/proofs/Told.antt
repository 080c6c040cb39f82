-- A named line by what it tells, as the code answers it: what it says stays, and a flaw changes nothing.
use Rattle.std.specs.Prelude.{Ok, Err}
use Prim.Native.Nat.{ℕ}
use Prim.Native.String.{String}
use mathlib.Core.Path.{◌≡◌, sym, ap, ◌∙◌}
use mathlib.Core.List.{List}
use mathlib.Core.Bool.{cond}
use Rattle.laws.specs.Said.{or_else}
use Rattle.laws.proofs.Tests.{cond_same, impossible}
use Rattle.records.specs.Flaws.{Reads, told_in}
use Rattle.records.specs.declared.LineFault.{LineFault}
use Rattle.records.proofs.Columns.{told-else}
use Rattle.line_rules.specs.Fields.{is_named, takes}

pub told-says : {A : Type 0} (w : List ℕ) {a : A} (r : Reads A) → told_in w r ≡ Ok a → r ≡ Ok a
told-says w (Ok b) e = cc
told-says w (Err f) e = let z : ◌≡◌ {A = ℕ} 0 1 = cc in impossible z

pub takes-flawed : {A : Type 0} (name : String) (read : List ℕ → Reads A) (x : A) (w : List ℕ) {f : LineFault} → told_in w (read w) ≡ Err f → takes name read x w ≡ x
unfolding takes
takes-flawed {A} name read x w e =
    let kept : or_else x (read w) ≡ x = sym (told-else w x (read w)) ∙ ap (or_else x) e in
    ap (λ (y : A). cond (is_named name w) y x) kept ∙ sym (cond_same (is_named name w) x)
