-- A scan by a test: where it stands while every byte before passes, one byte more, and where it stops. Over any test.
use Prim.Native.Nat.{ℕ, ◌+◌, ◌≤◌, ◌<◌}
use mathlib.Core.Path.{◌≡◌, refl, sym, ◌∙◌}
use mathlib.Core.List.{List}
use mathlib.Core.Bool.{Bool, true, false}
use native.Mathlib.Omega.{arith}
use lib.ListN.{length, drop, get_or}
use Rattle.laws.specs.Lists.{front}
use Rattle.laws.proofs.Fronts.{front-more, front-stop, front-end}

-- the scan from `at` stands at i: the front from i on ends where the front from `at` on does
abbrev pub Scan : (ℕ → Bool) → List ℕ → ℕ → ℕ → Type 0
Scan p s at i = ((at ≤ i) × (i ≤ length s)) × (i + length (front p (drop i s)) ≡ at + length (front p (drop at s)))

-- it stops there
abbrev pub Stops : (ℕ → Bool) → List ℕ → ℕ → ℕ → Type 0
Stops p s at i = (i ≡ at + length (front p (drop at s))) × ((at ≤ i) × (i ≤ length s))

module _ (p : ℕ → Bool) (s : List ℕ) (at : ℕ) where
  pub scan-none : at ≤ length s → Scan p s at at
  scan-none h = ((omega arith, h), refl)

  module _ (i : ℕ) (w : Scan p s at i) where
    pub scan-more : i < length s → p (get_or s i 0) ≡ true → Scan p s at (i + 1)
    scan-more h e = ((omega (arith, w.0), omega arith), front-more p s i 0 h e ∙ w.1)

    pub scan-stop : i < length s → p (get_or s i 0) ≡ false → Stops p s at i
    scan-stop h e = (sym (front-stop p s i 0 h e) ∙ w.1, w.0)

    pub scan-end : length s ≤ i → Stops p s at i
    scan-end h = (sym (front-end p s i h) ∙ w.1, w.0)

    -- a scan from there on stands where this one does, and stops where this one does
    pub scan-from : (r : ℕ) → Scan p s i r → Scan p s at r
    scan-from r t = ((omega (arith, w.0, t.0), t.0.1), t.1 ∙ w.1)

    pub scan-on : (r : ℕ) → Stops p s i r → Stops p s at r
    scan-on r t = (t.0 ∙ w.1, (omega (arith, w.0, t.1), t.1.1))
