-- A table whose first places are filled; what stood further on stays.
use Rattle.std.specs.Prelude.{ℕ, zero, suc, List, set}

-- the table with f k at each place k below n
abbrev pub filled_to : {A : Type 0} → (ℕ → A) → ℕ → List A → List A
filled_to f zero xs = xs
filled_to f (suc n) xs = set (filled_to f n xs) n (f n)
