-- Where a text stops: two scans side by side, of which the first to stop says where.
use Rattle.std.proofs.Common.{ℕ, ◌+◌, ◌-◌, ◌≤◌, ◌<◌, ◌≡◌, ◌⊎◌, inl, inr, List, Bool, true, false, length, take, get_or, arith, sym, ◌∙◌}
use mathlib.Core.Path.{subst}
use Rattle.std.proofs.lemmas.List.{get_or-take}
use Rattle.laws.specs.Lists.{other}
use Rattle.laws.proofs.Tests.{by_order}
use Rattle.words.proofs.Scans.{Scan, scan-stop, scan-end}
use Rattle.words.proofs.ByPlaces.{scan-places}
use Rattle.lines.specs.Places.{text_stop}

module _ (s : List ℕ) (at r : ℕ) (b : (at ≤ r) × (r ≤ length s)) where
  module _ (p : ℕ → Bool) where
    pub goes-on : ((k : ℕ) → at + k < r → p (get_or s (at + k) 0) ≡ true) → Scan p s at r
    goes-on y =
        let e : at + (r - at) ≡ r = omega (arith, b) in
        subst (Scan p s at) e (scan-places p s at (r - at) (omega (arith, b)) (λ k h. sym (y k (omega (arith, b)))))

  pub text-stops : (c : ℕ) → Scan (other 10) s at r → Scan (other c) s at r → (r < length s → (other 10 (get_or s r 0) ≡ false) ⊎ (other c (get_or s r 0) ≡ false)) → r ≡ text_stop s at c
  text-stops c v w o =
      by_order (length s) r
      (λ h. omega (arith, (scan-end (other 10) s at r v h).0, w.1))
      (λ h. elim (o h) [
        | inl e ↦ omega (arith, (scan-stop (other 10) s at r v h e).0, w.1)
        | inr e ↦ omega (arith, (scan-stop (other c) s at r w h e).0, v.1)
      ])

-- a byte of the front is the whole's
pub near-byte : (x n i : ℕ) (s : List ℕ) → i < n → (get_or (take n s) i 0 ≡ x → ⊥) → get_or s i 0 ≡ x → ⊥
near-byte x n i s h f q = f (get_or-take n s i 0 h ∙ q)

-- what holds of each byte up to a place, and of each from there on
pub up-to : (P : ℕ → Type 0) (s : List ℕ) (at m r : ℕ) → ((k : ℕ) → at + k < m → P (get_or s (at + k) 0)) → ((k : ℕ) → m + k < r → P (get_or s (m + k) 0)) → (k : ℕ) → at + k < r → P (get_or s (at + k) 0)
up-to P s at m r y z k h =
    by_order m (at + k)
    (λ g.
    let e : m + (at + k - m) ≡ at + k = omega arith in
    subst (λ (i : ℕ). P (get_or s i 0)) e (z (at + k - m) (omega arith)))
    (λ g. y k g)
