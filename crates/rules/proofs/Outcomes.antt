-- Laws of `specs/Whole.antt`: what an outcome says of what led to it, by cases; and of a file that is loaded, by whether enough rows are lent.
use Rattle.std.specs.Prelude.{Result, Ok, Err}
use Prim.Native.Nat.{ℕ, ◌≤◌, ◌<◌}
use mathlib.Core.Path.{◌≡◌, refl, sym, ◌∙◌}
use mathlib.Core.Logic.{◌⊎◌, inl, inr}
use mathlib.Core.List.{List}
use borrow.Author.Tests.{le-leb, lt-leb}
use Rattle.laws.proofs.Tests.{by_order, cond_yes, cond_no, impossible}
use Rattle.records.specs.Bounds.{most_rows}
use Rattle.records.specs.declared.Lending.{Lending}
use Rattle.records.specs.declared.Fault.{Fault}
use Rattle.rules.specs.Whole.{Held, Outcome, passed, refused, concluded, after_bytes, outcome, loading}

-- ---- a file that is checked

pub bytes-passed : (go : Outcome) (b : Result (Unit {0}) Fault) (z : Held) → after_bytes go b ≡ passed z → (b ≡ Ok tt) × (go ≡ passed z)
bytes-passed go (Ok tt) z q = (refl, q)
bytes-passed go (Err x) z q = impossible (cc)

pub concluded-passed : (o : Outcome) (z : Held) → concluded o ≡ passed z → (h : Held) × (o ≡ passed h)
concluded-passed (passed h) z q = (h, refl)
concluded-passed (refused n k c) z q = impossible (cc)

-- ---- a file that is loaded

module _ (l : Lending) (s : List ℕ) where
  pub loaded-few : l.rows < most_rows → loading l s ≡ refused 25 0 0
  unfolding loading
  loaded-few few = cond_no _ _ (lt-leb most_rows l.rows few)

  pub loaded-enough : most_rows ≤ l.rows → loading l s ≡ outcome l.tables s
  unfolding loading
  loaded-enough enough = cond_yes _ _ (le-leb most_rows l.rows enough)

  pub loaded-passes : (h : Held) → loading l s ≡ passed h → outcome l.tables s ≡ passed h
  loaded-passes h is =
      by_order most_rows l.rows
      (λ enough. sym (loaded-enough enough) ∙ is)
      (λ few. let z : refused 25 0 0 ≡ passed h = sym (loaded-few few) ∙ is in impossible (cc))

  pub loaded-refuses : (n k c : ℕ) → loading l s ≡ refused n k c → (outcome l.tables s ≡ refused n k c) ⊎ (0 ≡ k)
  loaded-refuses n k c is =
      by_order most_rows l.rows
      (λ enough. inl (sym (loaded-enough enough) ∙ is))
      (λ few. let z : refused 25 0 0 ≡ refused n k c = sym (loaded-few few) ∙ is in inr (cc))
