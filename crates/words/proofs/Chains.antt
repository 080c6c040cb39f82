-- Words looked for one behind the other: how many there are, and which. From the chain of what `word_at` answers alone.
use Prim.Native.Nat.{ℕ, ◌+◌, ◌≤◌, ◌<◌}
use mathlib.Core.Path.{◌≡◌, refl, ap, ◌∙◌}
use mathlib.Core.List.{List, [], ◌∷◌, ◌++◌}
use native.Mathlib.Omega.{arith}
use lib.ListN.{length, drop}
use Rattle.laws.specs.Lists.{part}
use Rattle.laws.proofs.Tests.{by_order}
use Rattle.words.specs.Words.{words}
use Rattle.words.specs.Places.{WordAt}
use Rattle.words.specs.declared.Word.{Word}

-- the answers from `at` on, each behind the end of the one before
pub data Chain (s : List ℕ) : ℕ → List Word → Type 0 where
  done : {at : ℕ} → Chain s at []
  link : {at : ℕ} {r : Word} {rs : List Word} → WordAt s at r → Chain s r.end rs → Chain s at (r ∷ rs)

-- the place behind the last of them
abbrev pub reached : ℕ → List Word → ℕ
reached at [] = at
reached at (r ∷ rs) = reached r.end rs

-- the bytes of each
abbrev pub parts : List ℕ → List Word → List (List ℕ)
parts s [] = []
parts s (r ∷ rs) = part r.start r.end s ∷ parts s rs

parts-length : (s : List ℕ) (rs : List Word) (l : List (List ℕ)) → length (parts s rs ++ l) ≡ length rs + length l
parts-length s [] l = omega arith
parts-length s (r ∷ rs) l = omega (arith, parts-length s rs l)

module _ {s : List ℕ} where
  step-le : {at : ℕ} {r : Word} → WordAt s at r → length (words (drop at s)) ≤ 1 + length (words (drop r.end s))
  step-le {at} {r} e =
      by_order (length s) r.start
      (λ h. omega (arith, ap length (e.none h)))
      (λ h. omega (arith, ap length (e.some h)))

  chain-le : {at : ℕ} {rs : List Word} → Chain s at rs
      → length (words (drop at s)) ≤ length rs + length (words (drop (reached at rs) s))
  chain-le done = omega arith
  chain-le (link e k) = omega (arith, step-le e, chain-le k)

  chain-rises : {at : ℕ} {rs : List Word} → Chain s at rs → at ≤ reached at rs
  chain-rises done = omega arith
  chain-rises (link e k) = omega (arith, e.from, e.starts, chain-rises k)

  chain-is : {at : ℕ} {rs : List Word} → Chain s at rs → reached at rs < length s
      → words (drop at s) ≡ parts s rs ++ words (drop (reached at rs) s)
  chain-is done h = refl
  chain-is (link {r} e k) h =
      e.some (omega (arith, e.starts, chain-rises k)) ∙ ap (λ (l : List (List ℕ)). part r.start r.end s ∷ l) (chain-is k h)

  module _ {at : ℕ} {rs : List Word} (k : Chain s at rs) {r : Word} (e : WordAt s (reached at rs) r) where
    -- there is no word at r: at most those before it
    pub words-under : length s ≤ r.start → length (words (drop at s)) ≤ length rs
    words-under h = omega (arith, chain-le k, ap length (e.none h))

    -- there is one: those before it, and it
    pub words-from : r.start < length s → words (drop at s) ≡ parts s rs ++ (part r.start r.end s ∷ words (drop r.end s))
    words-from h = chain-is k (omega (arith, e.from)) ∙ ap (λ (l : List (List ℕ)). parts s rs ++ l) (e.some h)

    pub words-past : r.start < length s → length rs < length (words (drop at s))
    words-past h =
        omega (arith, ap length (words-from h), parts-length s rs (part r.start r.end s ∷ words (drop r.end s)))

    -- and none behind it
    pub words-just : r.start < length s → {z : Word} → WordAt s r.end z → length s ≤ z.start
        → words (drop at s) ≡ parts s rs ++ (part r.start r.end s ∷ [])
    words-just h f g = words-from h ∙ ap (λ (l : List (List ℕ)). parts s rs ++ (part r.start r.end s ∷ l)) (f.none g)
