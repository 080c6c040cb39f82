-- A file that is loaded: by whether enough rows are lent.
use Prim.Native.Nat.{ℕ, ◌<◌}
use mathlib.Core.Path.{◌≡◌, refl, sym, subst, ◌∙◌}
use mathlib.Core.List.{List, ◌∷◌}
use mathlib.Core.Bool.{true, false}
use native.Mathlib.Omega.{arith}
use Rattle.laws.specs.Lists.{all, among}
use Rattle.laws.proofs.Tests.{by_order, impossible}
use Rattle.records.specs.Bounds.{most_rows}
use Rattle.records.specs.declared.Lending.{Lending}
use Rattle.rules.specs.Whole.{refused, outcome, loading}
use Rattle.rules.proofs.Outcomes.{loaded-few, loaded-enough}
use Rattle.fault_numbers.specs.Numbers.{of_files, LoadingNumbers, LoadingRunsOut, TooFewRows}
use Rattle.laws.proofs.Known.{Known, listed, is_among, more-known}
use Rattle.fault_numbers.proofs.Whole.{numbers, runs-out}

-- too few rows and 25, or what a check tells
by_rows : {X : Type 0} (l : Lending) (s : List ℕ) (n k c : ℕ) → loading l s ≡ refused n k c
    → (l.rows < most_rows → 25 ≡ n → X) → (outcome l.tables s ≡ refused n k c → X) → X
by_rows l s n k c q few enough =
    by_order most_rows l.rows
    (λ h. enough (sym (loaded-enough l s h) ∙ q))
    (λ h. let z : refused 25 0 0 ≡ refused n k c = sym (loaded-few l s h) ∙ q in few h (cc))

pub loading-numbers : LoadingNumbers
unfolding all among
loading-numbers l s n k c q =
    is_among
    (by_rows l s n k c q
    (λ h e. subst (Known (25 ∷ 19 ∷ of_files)) e (listed refl))
    (λ z. more-known {few = 19 ∷ of_files} refl (listed (numbers l.tables s n k c z))))

pub loading-runs-out : LoadingRunsOut
loading-runs-out l s k c q = by_rows l s 19 k c q (λ h e. absurd (omega arith)) (runs-out l.tables s k c)

pub too-few-rows : TooFewRows
unfolding among
too-few-rows l s k c q = by_rows l s 25 k c q (λ h e. h) (λ z. let no : false ≡ true = numbers l.tables s 25 k c z in impossible (cc))
