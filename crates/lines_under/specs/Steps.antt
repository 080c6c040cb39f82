-- Folds over the lines of a text, and a function that is their step.
use Rattle.std.specs.Prelude.{ℕ, ◌≡◌, List, [], ◌∷◌}
use Rattle.std.specs.Fn.{Shared}
use denote.Ref.{Bor}

-- f x l is what the elements of l make of x, one after another: step is one more
pub record Folds {X A : Type 0} (f : X → List A → X) (step : X → A → X) : Type 0 where
  pub none : (x : X) → f x [] ≡ x
  pub more : (x : X) (a : A) (l : List A) → f x (a ∷ l) ≡ f (step x a) l

-- f makes of x and a text what step makes of them
pub record StepsBy {F X : Type 0} (g : Shared F (X × (Bor (List ℕ) × Unit {0})) X) (f : F) (step : X → List ℕ → X) : Type 0 where
  pub makes : (x : X) (w : Bor (List ℕ)) (y : X) → g.post f (x, (w, tt)) y → y ≡ step x w.now
