-- A stage of another kind than the one looked for: its number is none of those that are left. And what is told of [End]'s own line.
use Rattle.std.specs.Prelude.{None}
use Rattle.std.specs.Option.{unwrap_or}
use Rattle.std.specs.Result.{result_err}
use Prim.Native.Nat.{ℕ}
use mathlib.Core.Path.{◌≡◌, refl}
use mathlib.Core.List.{List, [], ◌∷◌}
use mathlib.Core.Bool.{false}
use mathlib.Core.Logic.{⊎_elim}
use lib.ListN.{length}
use lib.Dec.{eqb}
use borrow.Author.Tests.{eqb-false}
use types.Run.{OneOf}
use denote.Enum.Declared.{tag_of}
use Rattle.laws.specs.Lists.{among}
use Rattle.laws.proofs.Tests.{by-test, or_left, or_right}
use Rattle.records.specs.Flaws.{column_in, told, checked, bare}
use Rattle.line_rules.specs.Fields.{no_argument}
use Rattle.rules.specs.contracts.Stage.{the_type}
use Rattle.rules.specs.Steps.{header_of, component_of, model_of}
use Rattle.rules.specs.declared.Stage.{Stage}
use Rattle.rules.specs.declared.Stage.TheVariants.{BeforeVersion, InHeader, InComponent, InSelector, InModel, AfterEnd}

one_apart : (ks : List ℕ) (j : ℕ) → among j ks ≡ false → OneOf ks j → ⊥
unfolding among
one_apart [] j h o = o
one_apart (k ∷ []) j h o = eqb-false j k (or_left (eqb j k) false h) o
one_apart (k ∷ l ∷ ks) j h o =
    ⊎_elim (λ e. eqb-false j k (or_left (eqb j k) (among j (l ∷ ks)) h) e) (λ e. one_apart (l ∷ ks) j (or_right (eqb j k) (among j (l ∷ ks)) h) e) o

pub not-header : (s : Stage) → OneOf (0 ∷ 2 ∷ 3 ∷ 4 ∷ 5 ∷ []) (tag_of the_type s) → header_of s ≡ None
unfolding among
not-header BeforeVersion o = refl
not-header (InHeader h) o = absurd (one_apart (0 ∷ 2 ∷ 3 ∷ 4 ∷ 5 ∷ []) 1 refl o)
not-header (InComponent c) o = refl
not-header (InSelector l) o = refl
not-header (InModel m) o = refl
not-header AfterEnd o = refl

pub not-component : (s : Stage) → OneOf (0 ∷ 1 ∷ 3 ∷ 4 ∷ 5 ∷ []) (tag_of the_type s) → component_of s ≡ None
unfolding among
not-component BeforeVersion o = refl
not-component (InHeader h) o = refl
not-component (InComponent c) o = absurd (one_apart (0 ∷ 1 ∷ 3 ∷ 4 ∷ 5 ∷ []) 2 refl o)
not-component (InSelector l) o = refl
not-component (InModel m) o = refl
not-component AfterEnd o = refl

pub not-model : (s : Stage) → OneOf (0 ∷ 1 ∷ 2 ∷ 3 ∷ 5 ∷ []) (tag_of the_type s) → model_of s ≡ None
unfolding among
not-model BeforeVersion o = refl
not-model (InHeader h) o = refl
not-model (InComponent c) o = refl
not-model (InSelector l) o = refl
not-model (InModel m) o = absurd (one_apart (0 ∷ 1 ∷ 2 ∷ 3 ∷ 5 ∷ []) 4 refl o)
not-model AfterEnd o = refl

-- ---- what stands behind [End]: its fault, or the one that is none

pub surplus-own : (w v : List ℕ) → unwrap_or (result_err (checked (told w (no_argument v)))) (bare 0) ≡ told w (no_argument v)
unfolding no_argument column_in
surplus-own w v = by-test (eqb (length v) 0) (λ h. rw h refl) (λ h. rw h refl)
