-- Folds over the keywords of a section: a loop over `next_key` that holds what the keywords so far give, and the needs of every such loop.
use Rattle.std.specs.Prelude.{None, Some, Option}
use Prim.Native.Nat.{ℕ}
use mathlib.Core.Path.{◌≡◌, refl, sym, ap, ◌∙◌, subst}
use mathlib.Core.List.{List, [], ◌∷◌}
use mathlib.Core.Bool.{true, false}
use Rattle.laws.specs.Lists.{front, after, part}
use Rattle.keywords.specs.declared.Keyword.{Keyword}
use Rattle.cut_lines.specs.Texts.{Text}
use Rattle.cut_lines.specs.Cursors.{rest}
use Rattle.cut_lines.specs.declared.Cursor.{Cursor}
use Rattle.rules.specs.Reading.{under, argument_at, is_within}
use Rattle.rules.specs.Keys.{key_at, is_end}
use Rattle.lines_under.specs.Under.{is_keyless, StopsAt, KeyIs, KeyNextIs}
use Rattle.lines_under.specs.declared.Key.{Key}
use Rattle.lines_under.proofs.Laws.{keys-behind, keys-within, within-stop, within-go, under-within}

-- f x ts is what the keywords of ts make of x, one after another: step is one more, with its argument and the lines under it
pub record KeyFold {X : Type 0} (f : X → List Text → X) (step : X → Keyword → List ℕ → List (List ℕ) → X) : Type 0 where
  pub empty : (x : X) → f x [] ≡ x
  pub skip : (x : X) (t : Text) (ts : List Text) → key_at t ≡ None → f x (t ∷ ts) ≡ f x ts
  pub more : (x : X) (t : Text) (ts : List Text) (k : Keyword) → key_at t ≡ Some k → f x (t ∷ ts) ≡ f (step x k (argument_at t) (under ts)) ts

-- r is the answer at d
pub key-found : {s : List ℕ} {d : Cursor} {r : Option Key} {k : Key} → r ≡ Some k → KeyNextIs s d r → KeyIs s d k.keyword k.start k.end k.next
key-found {s} {d} q h = subst (KeyNextIs s d) q h

pub key-out : (s : List ℕ) (d : Cursor) {r : Option Key} → r ≡ None → KeyNextIs s d r → after is_keyless (rest s d) ≡ []
key-out s d q h = subst (KeyNextIs s d) q h

-- where the lines under a keyword end, the same keywords follow
pub keys-stop : {s : List ℕ} {c n : Cursor} → StopsAt s c n → after is_keyless (rest s c) ≡ after is_keyless (rest s n)
keys-stop {s} {c} h = sym (keys-behind (rest s c)) ∙ ap (after is_keyless) h.behind

-- x₀ is held at c and x at d, and the keywords from d on, within the section, make of x what those from c on make of x₀
pub record Follows {X : Type 0} {f : X → List Text → X} {step : X → Keyword → List ℕ → List (List ℕ) → X} (k : KeyFold f step) (s : List ℕ) (c d : Cursor) (x₀ x : X) : Type 0 where
  pub same : f x₀ (front is_within (rest s c)) ≡ f x (front is_within (rest s d))

module _ {X : Type 0} {f : X → List Text → X} {step : X → Keyword → List ℕ → List (List ℕ) → X} (k : KeyFold f step) where
  pub follows-start : (s : List ℕ) (c : Cursor) (x : X) → Follows k s c c x x
  follows-start s c x = record { same = refl }

  -- texts without a keyword are passed over
  pub keys-same : (x : X) (ts us : List Text) → after is_keyless ts ≡ after is_keyless us → f x (front is_within ts) ≡ f x (front is_within us)
  keys-same x ts us h =
      keys-within (f x) (k.skip x) ts ∙ ap (λ (vs : List Text). f x (front is_within vs)) h ∙ sym (keys-within (f x) (k.skip x) us)

  module _ {s : List ℕ} {c d : Cursor} {x₀ x : X} (g : Follows k s c d x₀ x) where
    -- the same keywords follow n
    pub follows_jump : {n : Cursor} → after is_keyless (rest s d) ≡ after is_keyless (rest s n) → Follows k s c n x₀ x
    follows_jump {n} h = record { same = g.same ∙ keys-same x (rest s d) (rest s n) h }

    pub follows-out : after is_keyless (rest s d) ≡ [] → x ≡ f x₀ (front is_within (rest s c))
    unfolding front after
    follows-out h = sym (g.same ∙ keys-same x (rest s d) [] h ∙ k.empty x)

    module _ {j : Keyword} {a e : ℕ} {m : Cursor} (h : KeyIs s d j a e m) where
      here : f x (front is_within (rest s d)) ≡ f x (front is_within (h.text ∷ rest s m))
      here = keys-within (f x) (k.skip x) (rest s d) ∙ ap (λ (vs : List Text). f x (front is_within vs)) h.more

      pub follows-end : is_end (Some j) ≡ true → x ≡ f x₀ (front is_within (rest s c))
      follows-end q = sym (g.same ∙ here ∙ ap (f x) (within-stop h.text (rest s m) j h.key q) ∙ k.empty x)

      -- y is x with this keyword
      pub follows-key : {y : X} → is_end (Some j) ≡ false → y ≡ step x j (part a e s) (under (rest s m)) → Follows k s c m x₀ y
      follows-key {y} q i =
          record {
            same =
                g.same ∙ here ∙ ap (f x) (within-go h.text (rest s m) j h.key q)
                ∙ k.more x h.text (front is_within (rest s m)) j h.key
                ∙ ap (λ (w : List ℕ). f (step x j w (under (front is_within (rest s m)))) (front is_within (rest s m))) h.said
                ∙ ap (λ (ls : List (List ℕ)). f (step x j (part a e s) ls) (front is_within (rest s m))) (under-within (rest s m))
                ∙ ap (λ (z : X). f z (front is_within (rest s m))) (sym i);
          }
