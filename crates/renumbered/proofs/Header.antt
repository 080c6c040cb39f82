-- The header's and the selectors' steps under a new numbering of lines.
use Prim.Native.Nat.{ℕ}
use mathlib.Core.Path.{◌≡◌, refl}
use mathlib.Core.List.{List}
use Rattle.laws.proofs.Tests.{cond_map}
use Rattle.keywords.specs.declared.HeaderPart.{HeaderPart}
use Rattle.rules.specs.Going.{stop, quietly}
use Rattle.rules.specs.Header.{version, header_part, header_line, header_done}
use Rattle.rules.specs.Selector.{selector_line, selector_shut}
use Rattle.rules.specs.declared.HeaderState.{HeaderState}
use Rattle.rules.specs.declared.SelectorState.{SelectorState}
use Rattle.rules.specs.declared.Stage.TheVariants.{InHeader}
use Rattle.renumbered.proofs.Stages.{header_at, selector_at, went_at, passes_at, refuse-at}

module _ (f : ℕ → ℕ) where
  pub version-at : (k : ℕ) (w : List ℕ) → went_at f (version k w) ≡ version (f k) w
  unfolding version
  version-at k w = simp (passes_at f)

  pub header-part-at : (h : HeaderState) (k : ℕ) (w : List ℕ) (p : HeaderPart) → went_at f (header_part h k w p) ≡ header_part (header_at f h) (f k) w p
  unfolding header_part
  header-part-at h k w p = simp (refuse-at f, passes_at f)

  pub header-line-at : (h : HeaderState) (k : ℕ) → went_at f (header_line h k) ≡ header_line (header_at f h) (f k)
  unfolding header_line
  header-line-at h k = cond_map (went_at f) h.text (quietly (InHeader h)) (stop 7 k)

  pub header-done-at : (h : HeaderState) → header_done (header_at f h) ≡ header_done h
  unfolding header_done
  header-done-at h = refl

  pub selector-line-at : (s : SelectorState) (k : ℕ) (w : List ℕ) → went_at f (selector_line s k w) ≡ selector_line (selector_at f s) (f k) w
  unfolding selector_line
  selector-line-at s k w = simp (passes_at f)

  pub selector-shut-at : (s : SelectorState) → went_at f (selector_shut s) ≡ selector_shut (selector_at f s)
  unfolding selector_shut
  selector-shut-at s = simp (refuse-at f)
