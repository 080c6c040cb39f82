-- Models and selectors by their keys: their keys were seen, so that what names one has had its key seen; and a name that is named is the one that is searched for.
use Rattle.std.specs.Prelude.{None, Option, Some}
use Prim.Native.Nat.{ℕ, zero, suc, ◌+◌, ◌%◌, ◌<◌}
use mathlib.Core.Path.{◌≡◌, refl, sym, ap, ◌∙◌, subst}
use mathlib.Core.List.{List}
use mathlib.Core.Bool.{true, false, ◌&&◌}
use native.Mathlib.Omega.{arith}
use native.Mathlib.Numerals.{add-one}
use lib.ListN.{length, set, replicate, length-replicate}
use lib.Dec.{eqb, ltb}
use borrow.Author.Tests.{eqb-true, eqb-false, ltb-true}
use Rattle.laws.specs.Lists.{eqs}
use Rattle.laws.proofs.Tests.{by-test, by_order, cond_yes, cond_no, and_first, and_second, never}
use Rattle.laws.proofs.Same.{eqs-eq}
use Rattle.notes.specs.Noted.{clash}
use Rattle.note_words.specs.Store.{name_at}
use Rattle.name_checks.specs.Lookup.{place_at, model_at, entries_to, model_or_selector, seen_words, is_seen, with_seen, reaches, reaches_at, target_to, target_key, with_key, slot_count, with_slot, after, keys_to, Listed}
use Rattle.name_checks.proofs.SeenLaws.{seen-long, seen-own, seen-stays}
use Rattle.name_checks.proofs.TargetLaws.{reaches_some, target_found, target-missed, one-target}

-- ---- a table after a step for each place

module _ (step : List ℕ → ℕ → List ℕ) (t : List ℕ) where
  pub after_none : t ≡ after step t 0
  unfolding after
  after_none = refl

  pub after_turn : (i : ℕ) (u v : List ℕ) → u ≡ after step t i → v ≡ step u i → v ≡ after step t (i + 1)
  unfolding after
  after_turn i u v h e = rw (add-one i) (e ∙ ap (λ (x : List ℕ). step x i) h)

-- ---- a step, by the kind

module _ (s xs : List ℕ) (i k : ℕ) (kind : k ≡ place_at xs i) (seen slots : List ℕ) where
  pub list-other : model_or_selector k ≡ false → (seen ≡ with_key s xs seen i) × (slots ≡ with_slot s xs slots i)
  unfolding with_key with_slot
  list-other h =
      let e : model_or_selector (place_at xs i) ≡ false = rw (← kind) h in
      (sym (cond_no _ _ e), sym (cond_no _ _ e))

  pub list-named : model_or_selector k ≡ true → (key : ℕ) → key ≡ target_key (name_at s xs i) → (ys : List ℕ) → ys ≡ with_seen seen key
      → (ys ≡ with_key s xs seen i) × (set slots (key % slot_count) i ≡ with_slot s xs slots i)
  unfolding with_key with_slot
  list-named h key own ys e =
      let g : model_or_selector (place_at xs i) ≡ true = rw (← kind) h in
      (e ∙ ap (with_seen seen) own ∙ sym (cond_yes _ _ g), ap (λ (x : ℕ). set slots (x % slot_count) i) own ∙ sym (cond_yes _ _ g))

-- ---- the keys of all that are listed were seen

module _ (s xs seen : List ℕ) (i : ℕ) where
  key-long : length (with_key s xs seen i) ≡ length seen
  unfolding with_key
  key-long = by-test (model_or_selector (place_at xs i)) (λ t. rw t (seen-long seen (target_key (name_at s xs i)))) (λ t. rw t refl)

  module _ (long : length seen ≡ seen_words) where
    key-own : model_or_selector (place_at xs i) ≡ true → is_seen (with_key s xs seen i) (target_key (name_at s xs i)) ≡ true
    unfolding with_key
    key-own t = rw t (seen-own seen (target_key (name_at s xs i)) long)

    key-stays : (other : ℕ) → is_seen seen other ≡ true → is_seen (with_key s xs seen i) other ≡ true
    unfolding with_key
    key-stays other h = by-test (model_or_selector (place_at xs i)) (λ t. rw t (seen-stays seen (target_key (name_at s xs i)) long other h)) (λ t. rw t h)

module _ (s xs seen : List ℕ) (long : length seen ≡ seen_words) where
  keys-long : (n : ℕ) → length (keys_to s xs seen n) ≡ seen_words
  unfolding after
  keys-long zero = long
  keys-long (suc n) = key-long s xs (keys_to s xs seen n) n ∙ keys-long n

  keys-listed : (n : ℕ) → Listed s xs n (keys_to s xs seen n)
  unfolding after
  keys-listed zero j h t = absurd (omega (arith, h))
  keys-listed (suc n) j h t =
      by_order n j
      (λ a.
      let z : n ≡ j = omega (arith, a, h) in
      subst (λ (m : ℕ). model_or_selector (place_at xs m) ≡ true → is_seen (keys_to s xs seen (suc n)) (target_key (name_at s xs m)) ≡ true) z (key-own s xs (keys_to s xs seen n) n (keys-long n)) t)
      (λ a. key-stays s xs (keys_to s xs seen n) n (keys-long n) (target_key (name_at s xs j)) (keys-listed n j a t))

-- all names are listed, from an empty filter on
pub listed-all : (s xs : List ℕ) (n : ℕ) (seen : List ℕ) → seen ≡ keys_to s xs (replicate seen_words 0) n → Listed s xs n seen
listed-all s xs n seen e = rw e (keys-listed s xs (replicate seen_words 0) (length-replicate {A = ℕ} seen_words 0) n)

-- ---- what is named

module _ (s xs : List ℕ) (i n : ℕ) where
  -- what names one has had its key seen
  unseen-unreached : (seen : List ℕ) → Listed s xs n seen → is_seen seen (target_key (model_at s xs i)) ≡ false → (j : ℕ) → j < n → reaches_at s xs i j ≡ true → ⊥
  unfolding reaches_at
  unseen-unreached seen h u j g t =
      let R = reaches (place_at xs i) (place_at xs j) in
      let E = eqs (model_at s xs i) (name_at s xs j) in
      let e : model_at s xs i ≡ name_at s xs j = eqs-eq (model_at s xs i) (name_at s xs j) (and_second R E t) in
      never (is_seen seen (target_key (model_at s xs i))) (ap (λ (w : List ℕ). is_seen seen (target_key w)) e ∙ h j g (reaches_some (place_at xs i) (place_at xs j) (and_first R E t))) u

  unseen-by : (seen : List ℕ) → Listed s xs n seen → is_seen seen (target_key (model_at s xs i)) ≡ false → (t : Option ℕ) → target_to s xs i n ≡ t → None ≡ t
  unseen-by seen h u (Some j) e =
      let r = target_found s xs i n j e in
      absurd (unseen-unreached seen h u j r.0 r.1)
  unseen-by seen h u None e = refl

  pub unseen-nothing : (seen : List ℕ) → Listed s xs n seen → (key : ℕ) → key ≡ target_key (model_at s xs i) → is_seen seen key ≡ false → None ≡ target_to s xs i n
  unseen-nothing seen h key own u = unseen-by seen h (ap (is_seen seen) (sym own) ∙ u) (target_to s xs i n) refl

  hit-by : clash (entries_to s xs n) ≡ None → (j : ℕ) → j < n → reaches_at s xs i j ≡ true → (t : Option ℕ) → target_to s xs i n ≡ t → Some j ≡ t
  hit-by unique j g h (Some k) e =
      let r = target_found s xs i n k e in
      by-test (eqb j k)
      (λ q. ap Some (eqb-true j k q))
      (λ q. absurd (never (reaches_at s xs i j) h (one-target s xs n unique i j k g r.0 (eqb-false j k q) r.1)))
  hit-by unique j g h None e = absurd (never (reaches_at s xs i j) h (target-missed s xs i n j e g))

  -- where no name is used twice, one that is named is the one that is searched for
  pub hit-target : clash (entries_to s xs n) ≡ None → (j : ℕ) → (ltb j n && reaches_at s xs i j) ≡ true → Some j ≡ target_to s xs i n
  hit-target unique j h =
      hit-by unique j (ltb-true j n (and_first (ltb j n) (reaches_at s xs i j) h)) (and_second (ltb j n) (reaches_at s xs i j) h) (target_to s xs i n) refl
