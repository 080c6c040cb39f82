-- Folds over the lines under a keyword: a loop over `next_line` that holds what the lines so far give, and the needs of every such loop.
use Prim.Native.Nat.{ℕ, ◌+◌, ◌-◌, ◌≤◌, ◌<◌}
use mathlib.Core.Path.{◌≡◌, refl, sym, ap, ◌∙◌, subst}
use mathlib.Core.List.{List}
use native.Mathlib.Omega.{arith}
use lib.ListN.{length}
use Rattle.laws.specs.Lists.{part}
use Rattle.cut_lines.specs.Cursors.{rest, Placed}
use Rattle.cut_lines.specs.declared.Cursor.{Cursor}
use Rattle.rules.specs.Reading.{under}
pub use Rattle.lines_under.specs.Steps.{Folds}
use Rattle.lines_under.specs.Under.{LineIs, StopsAt, LineNextIs}
use Rattle.lines_under.specs.declared.LineNext.{LineNext}
use Rattle.lines_under.specs.declared.LineNext.TheVariants.{Line, NoLine}
use Rattle.lines_under.proofs.Laws.{Along, along-start, along-line, along-end}

-- one more adds at most one to the size
abbrev pub Small : {X A : Type 0} → (X → A → X) → (X → ℕ) → Type 0
Small {X} {A} step size = (x : X) (a : A) → size (step x a) ≤ size x + 1

pub count-fold : {A : Type 0} → Folds (λ (n : ℕ) (l : List A). n + length l) (λ (n : ℕ) (a : A). n + 1)
count-fold = record { none = λ n. omega arith; more = λ n a l. omega arith }

pub count_small : {A : Type 0} → Small (λ (n : ℕ) (a : A). n + 1) (λ (n : ℕ). n)
count_small n a = omega arith

-- x₀ is held at c and x at d, and the lines from d on make of x what those from c on make of x₀;
-- a line has a byte, so what grows by at most one a line grows by at most the bytes passed
pub record Gathers {X : Type 0} {f : X → List (List ℕ) → X} {step : X → List ℕ → X} (k : Folds f step) (s : List ℕ) (c d : Cursor) (x₀ x : X) : Type 0 where
  pub along : Along s c d
  pub same : f x₀ (under (rest s c)) ≡ f x (under (rest s d))
  pub grows : (size : X → ℕ) → Small step size → c.at + size x ≤ size x₀ + d.at

pub gathers-start : {X : Type 0} {f : X → List (List ℕ) → X} {step : X → List ℕ → X} (k : Folds f step) (s : List ℕ) (c : Cursor) (x : X) → Placed s c → Gathers k s c c x x
gathers-start k s c x h = record { along = along-start s c h; same = refl; grows = λ size small. omega arith }

-- what is held at the end, and where that is
pub record Gathered {X : Type 0} {f : X → List (List ℕ) → X} {step : X → List ℕ → X} (k : Folds f step) (s : List ℕ) (c n : Cursor) (x₀ x : X) : Type 0 where
  pub whole : x ≡ f x₀ (under (rest s c))
  pub stops : StopsAt s c n
  pub grows : (size : X → ℕ) → Small step size → c.at + size x ≤ size x₀ + n.at

-- ---- a turn: r is the answer at d

module _ {X : Type 0} {f : X → List (List ℕ) → X} {step : X → List ℕ → X} {k : Folds f step} {s : List ℕ} {c d : Cursor} {x₀ x : X} (g : Gathers k s c d x₀ x) {r : LineNext} where
  module _ {a e : ℕ} {n : Cursor} (q : r ≡ Line a e n) (h : LineNextIs s d r) where
    line-is : LineIs s d a e n
    line-is = subst (LineNextIs s d) q h

    pub line-starts : a ≤ e
    line-starts = omega (arith, line-is.starts)

    pub line-fits : e ≤ length s
    line-fits = line-is.fits

    pub line-less : length s - n.at < length s - d.at
    line-less = omega (arith, line-is.rises, line-is.placed.within)

    -- y is x with this line
    pub gathers-line : {y : X} → y ≡ step x (part a e s) → Gathers k s c n x₀ y
    gathers-line {y} i =
        record {
          along = along-line g.along line-is;
          same = g.same ∙ ap (f x) line-is.more ∙ k.more x (part a e s) (under (rest s n)) ∙ ap (λ (z : X). f z (under (rest s n))) (sym i);
          grows = λ size small. omega (arith, g.grows size small, small x (part a e s), ap size i, line-is.rises);
        }

    -- there is room for one more
    pub gathers-room : (size : X → ℕ) → Small step size → size x < size x₀ + length s
    gathers-room size small = omega (arith, g.grows size small, line-is.rises, line-is.placed.within)

  pub gathers-end : {n : Cursor} → r ≡ NoLine n → LineNextIs s d r → Gathered k s c n x₀ x
  gathers-end q h =
      let l = subst (LineNextIs s d) q h in
      record {
        whole = sym (g.same ∙ ap (f x) l.more ∙ k.none x);
        stops = along-end g.along l;
        grows = λ size small. omega (arith, g.grows size small, l.stops.rises);
      }
