-- What a pin or a selector row names: by its words and as the rules say it; and that it names one entry at most.
use Rattle.std.specs.Prelude.{Option, None, Some}
use Prim.Native.Nat.{ℕ, zero, suc, ◌+◌, ◌-◌, ◌≤◌, ◌<◌}
use mathlib.Core.Path.{◌≡◌, refl, sym, ap, ◌∙◌, subst}
use mathlib.Core.List.{List}
use mathlib.Core.Bool.{Bool, true, false, cond, not, ◌&&◌, ◌||◌}
use native.Mathlib.Omega.{arith}
use lib.Dec.{eqb}
use borrow.Author.Tests.{ne_eqb}
use Rattle.laws.specs.Lists.{eqs}
use Rattle.laws.proofs.Tests.{by-test, by_order, cond_yes, cond_no, and_left, and_first, and_second, and_both, never, or-none, or_left, or_right, impossible}
use Rattle.laws.proofs.Same.{eqs-refl, eqs-eq}
use Rattle.line_rules.specs.Fields.{needs_no_model}
use Rattle.rules.specs.Outline.{Entry, place, is, is_model_or_selector, named, is_used, is_found}
use Rattle.rules.specs.Last.{found}
use Rattle.records.specs.declared.Kind.{Kind}
use Rattle.records.specs.declared.Kind.TheVariants.{OfComponent, OfPin, OfSelector, OfChoice, OfModel}
use Rattle.notes.specs.Noted.{or_used, clash}
use Rattle.note_words.specs.Store.{noted_at, kind_at, name_at, note_of, note_at, notes_to}
use Rattle.note_words.proofs.Laws.{note-name}
use Rattle.name_checks.specs.Lookup.{place_at, model_at, entry_at, entries_to, entries_from, model_or_selector, enclosed, reaches, reaches_at, target_to, excused, missing, with_mark}
use Rattle.name_checks.proofs.NoteLaws.{note-kind}
use Rattle.name_checks.proofs.ClashLaws.{either_is, used_at}

-- ---- a pin or a selector row names another entry

row-names : (s xs : List ℕ) (i : ℕ) (k : Kind) → enclosed (place k) ≡ true → (note_of s xs (noted_at xs i) k).names ≡ model_at s xs i
unfolding enclosed
row-names s xs i OfComponent h = impossible cc
row-names s xs i OfPin h = refl
row-names s xs i OfSelector h = impossible cc
row-names s xs i OfChoice h = refl
row-names s xs i OfModel h = impossible cc

pub note-names : (s xs : List ℕ) (i : ℕ) → enclosed (place_at xs i) ≡ true → (note_at s xs i).names ≡ model_at s xs i
unfolding note_at place_at
note-names s xs i h = row-names s xs i (kind_at xs i) h

pub reaches-never : (k l : ℕ) → enclosed k ≡ false → reaches k l ≡ false
unfolding reaches enclosed
reaches-never k l h =
    let e : eqb k 1 ≡ false = or_left (eqb k 1) (eqb k 3) h in
    by-test (eqb l 4) (λ t. rw t h) (λ t. rw t (by-test (eqb l 2) (λ u. rw u e) (λ u. rw u refl)))

pub reaches_some : (k l : ℕ) → reaches k l ≡ true → model_or_selector l ≡ true
unfolding reaches model_or_selector
reaches_some k l h =
    by-test (eqb l 4) (λ t. rw t refl)
    (λ t. by-test (eqb l 2) (λ u. rw t rw u refl) (λ u. let z : false ≡ true = simp (t, u) at h in impossible cc))

-- the entry e names f
abbrev pub hits : Entry → Entry → Bool
hits e f = reaches (place e.kind) (place f.kind) && eqs e.names f.name

pub hits_at : (s xs : List ℕ) (i j : ℕ) → hits (entry_at s xs i) (entry_at s xs j) ≡ reaches_at s xs i j
unfolding reaches_at
hits_at s xs i j =
    rw (note-kind s xs i) rw (note-kind s xs j) rw (note-name s xs j)
    (by-test (enclosed (place_at xs i))
    (λ h. rw (note-names s xs i h) refl)
    (λ h. let z = reaches-never (place_at xs i) (place_at xs j) h in rw z refl))

-- ---- the search for what is named

abbrev is_at : Option ℕ → Bool
is_at (Some j) = true
is_at None = false

module _ (s xs : List ℕ) (i : ℕ) where
  target-here : (j : ℕ) → reaches_at s xs i j ≡ true → Some j ≡ target_to s xs i (suc j)
  unfolding target_to
  target-here j t = sym (cond_yes (Some j) (target_to s xs i j) t)

  target-sooner : (j : ℕ) → reaches_at s xs i j ≡ false → target_to s xs i j ≡ target_to s xs i (suc j)
  unfolding target_to
  target-sooner j t = sym (cond_no (Some j) (target_to s xs i j) t)

  pub turn-here : (j : ℕ) → 0 < j → reaches_at s xs i (j - 1) ≡ true → Some (j - 1) ≡ target_to s xs i j
  turn-here j h t =
      let e : suc (j - 1) ≡ j = omega (arith, h) in
      target-here (j - 1) t ∙ ap (target_to s xs i) e

  pub turn-sooner : (j : ℕ) → 0 < j → reaches_at s xs i (j - 1) ≡ false → target_to s xs i (j - 1) ≡ target_to s xs i j
  turn-sooner j h t =
      let e : suc (j - 1) ≡ j = omega (arith, h) in
      target-sooner (j - 1) t ∙ ap (target_to s xs i) e

  pub target_none : (j : ℕ) → j ≤ 0 → None ≡ target_to s xs i j
  unfolding target_to
  target_none j h =
      let e : j ≡ 0 = omega (arith, h) in
      rw e refl

  pub target_found : (n j : ℕ) → target_to s xs i n ≡ Some j → (j < n) × (reaches_at s xs i j ≡ true)
  unfolding target_to
  target_found zero j h = impossible cc
  target_found (suc n) j h =
      by-test (reaches_at s xs i n)
      (λ t.
      let e : Some n ≡ Some j = target-here n t ∙ h in
      let z : n ≡ j = cc in
      (omega (arith, z), subst (λ (k : ℕ). reaches_at s xs i k ≡ true) z t))
      (λ t.
      let r = target_found n j (target-sooner n t ∙ h) in
      (omega (arith, r.0), r.1))

  pub target-missed : (n j : ℕ) → target_to s xs i n ≡ None → j < n → reaches_at s xs i j ≡ false
  unfolding target_to
  target-missed zero j h g = absurd (omega (arith, g))
  target-missed (suc n) j h g =
      by-test (reaches_at s xs i n)
      (λ t. let e : Some n ≡ None = target-here n t ∙ h in impossible cc)
      (λ t.
      by_order (suc j) n
      (λ b. target-missed n j (target-sooner n t ∙ h) b)
      (λ b.
      let z : n ≡ j = omega (arith, b, g) in
      subst (λ (k : ℕ). reaches_at s xs i k ≡ false) z t))

  -- a section names nothing
  pub target-never : enclosed (place_at xs i) ≡ false → (n : ℕ) → target_to s xs i n ≡ None
  unfolding target_to reaches_at
  target-never h zero = refl
  target-never h (suc n) =
      cond_no (Some n) (target_to s xs i n) (and_left (reaches (place_at xs i) (place_at xs n)) (eqs (model_at s xs i) (name_at s xs n)) (reaches-never (place_at xs i) (place_at xs n) h))
      ∙ target-never h n

  pub target-within : (n j : ℕ) (t : Option ℕ) → t ≡ target_to s xs i n → t ≡ Some j → j < n
  target-within n j t e f = (target_found n j (sym e ∙ f)).0

  module _ (q : Entry → Bool) (h : (j : ℕ) → (q (entry_at s xs j) && eqs (note_at s xs i).names (note_at s xs j).name) ≡ reaches_at s xs i j) where
    named_some : (a m j : ℕ) → a ≤ j → j < a + m → reaches_at s xs i j ≡ true → named q (note_at s xs i).names (entries_from s xs a m) ≡ true
    unfolding named entries_from
    named_some a zero j g f t = absurd (omega (arith, g, f))
    named_some a (suc m) j g f t =
        rw (h a)
        (by-test (reaches_at s xs i a)
        (λ u. rw u refl)
        (λ u.
        by_order (a + 1) j
        (λ b. rw u (named_some (a + 1) m j b (omega (arith, f)) t))
        (λ b.
        let z : a ≡ j = omega (arith, b, g) in
        absurd (never (reaches_at s xs i a) (subst (λ (k : ℕ). reaches_at s xs i k ≡ true) (sym z) t) u))))

    named_none : (a m : ℕ) → ((j : ℕ) → j < a + m → reaches_at s xs i j ≡ false) → named q (note_at s xs i).names (entries_from s xs a m) ≡ false
    unfolding named entries_from
    named_none a zero g = refl
    named_none a (suc m) g = rw (h a) rw (g a (omega arith)) (named_none (a + 1) m (λ j f. g j (omega (arith, f))))

    named_by : (n : ℕ) (t : Option ℕ) → target_to s xs i n ≡ t → named q (note_at s xs i).names (entries_from s xs 0 n) ≡ is_at t
    named_by n (Some j) e =
        let r = target_found n j e in
        named_some 0 n j (omega arith) (omega (arith, r.0)) r.1
    named_by n None e = named_none 0 n (λ j f. target-missed n j e (omega (arith, f)))

    named-target : (n : ℕ) → named q (note_at s xs i).names (entries_from s xs 0 n) ≡ is_at (target_to s xs i n)
    named-target n = named_by n (target_to s xs i n) refl

-- ---- as the rules say it: found, or the line

pin-reaches : (y : Kind) → (eqb 4 (place y) || eqb 2 (place y)) ≡ reaches 1 (place y)
unfolding reaches enclosed
pin-reaches OfComponent = refl
pin-reaches OfPin = refl
pin-reaches OfSelector = refl
pin-reaches OfChoice = refl
pin-reaches OfModel = refl

row-reaches : (y : Kind) → eqb 4 (place y) ≡ reaches 3 (place y)
unfolding reaches enclosed
row-reaches OfComponent = refl
row-reaches OfPin = refl
row-reaches OfSelector = refl
row-reaches OfChoice = refl
row-reaches OfModel = refl

module _ (s xs : List ℕ) (i n : ℕ) (later : ℕ) where
  told-unless : (t : Option ℕ) → excused (place_at xs i) (model_at s xs i) ≡ true → later ≡ missing s xs i later t
  told-unless (Some j) h = refl
  told-unless None h = sym (cond_yes later i h)

  pin-told : (t : Option ℕ) → place_at xs i ≡ 1 → cond (needs_no_model (model_at s xs i) || is_at t) later i ≡ missing s xs i later t
  unfolding excused
  pin-told (Some j) h = by-test (needs_no_model (model_at s xs i)) (λ t. rw t refl) (λ t. rw t refl)
  pin-told None h = rw h rw (or-none (needs_no_model (model_at s xs i))) refl

  row_told : (t : Option ℕ) → place_at xs i ≡ 3 → cond (is_at t) later i ≡ missing s xs i later t
  unfolding excused
  row_told (Some j) h = refl
  row_told None h = rw h refl

  -- the number of its kind
  number : (k : Kind) → (note_at s xs i).kind ≡ k → place_at xs i ≡ place k
  number k e = sym (note-kind s xs i) ∙ ap place e

  hits-as : (k : Kind) → (note_at s xs i).kind ≡ k → (j : ℕ) → (reaches (place k) (place (note_at s xs j).kind) && eqs (note_at s xs i).names (note_at s xs j).name) ≡ reaches_at s xs i j
  hits-as k e j = subst (λ (x : Kind). (reaches (place x) (place (note_at s xs j).kind) && eqs (note_at s xs i).names (note_at s xs j).name) ≡ reaches_at s xs i j) e (hits_at s xs i j)

  found-kind : (k : Kind) → (note_at s xs i).kind ≡ k → cond (is_found (entries_from s xs 0 n) (entry_at s xs i) k) later i ≡ missing s xs i later (target_to s xs i n)
  unfolding excused enclosed
  found-kind OfComponent e = told-unless (target_to s xs i n) (rw (number OfComponent e) refl)
  found-kind OfPin e =
      let p = number OfPin e in
      let h : enclosed (place_at xs i) ≡ true = rw p refl in
      let q : (j : ℕ) → (is_model_or_selector (entry_at s xs j) && eqs (note_at s xs i).names (note_at s xs j).name) ≡ reaches_at s xs i j =
      λ j. ap (λ (b : Bool). b && eqs (note_at s xs i).names (note_at s xs j).name) (pin-reaches (note_at s xs j).kind) ∙ hits-as OfPin e j in
      rw (named-target s xs i is_model_or_selector q n) rw (note-names s xs i h) (pin-told (target_to s xs i n) p)
  found-kind OfSelector e = told-unless (target_to s xs i n) (rw (number OfSelector e) refl)
  found-kind OfChoice e =
      let q : (j : ℕ) → (is OfModel (entry_at s xs j) && eqs (note_at s xs i).names (note_at s xs j).name) ≡ reaches_at s xs i j =
      λ j. ap (λ (b : Bool). b && eqs (note_at s xs i).names (note_at s xs j).name) (row-reaches (note_at s xs j).kind) ∙ hits-as OfChoice e j in
      rw (named-target s xs i (is OfModel) q n) (row_told (target_to s xs i n) (number OfChoice e))
  found-kind OfModel e = told-unless (target_to s xs i n) (rw (number OfModel e) refl)

  pub found-told : cond (found (entries_from s xs 0 n) (entry_at s xs i)) later i ≡ missing s xs i later (target_to s xs i n)
  found-told = found-kind (note_at s xs i).kind refl

-- ---- by the tests that the code makes

module _ (s xs : List ℕ) (i j k l : ℕ) (kind_i : k ≡ place_at xs i) (kind_j : l ≡ place_at xs j) where
  pub reach-may : (t : Bool) → reaches k l ≡ true → t ≡ eqs (model_at s xs i) (name_at s xs j) → t ≡ reaches_at s xs i j
  unfolding reaches_at
  reach-may t h e = rw (← kind_i) rw (← kind_j) rw h e

  pub reach-not : reaches k l ≡ false → false ≡ reaches_at s xs i j
  unfolding reaches_at
  reach-not h = rw (← kind_i) rw (← kind_j) rw h refl

module _ (s xs : List ℕ) (i k : ℕ) (kind : k ≡ place_at xs i) where
  -- a section marks nothing
  pub section-marks : (marks : List ℕ) (later n : ℕ) → enclosed k ≡ false → (later ≡ missing s xs i later (target_to s xs i n)) × (marks ≡ with_mark marks (target_to s xs i n))
  unfolding excused enclosed
  section-marks marks later n h =
      let g : enclosed (place_at xs i) ≡ false = rw (← kind) h in
      rw (target-never s xs i g n)
      (rw (← kind) rw (or_left (eqb k 1) (eqb k 3) h) rw (or_right (eqb k 1) (eqb k 3) h) refl, refl)

  pub excused-pin : (t : Bool) → k ≡ 1 → t ≡ needs_no_model (model_at s xs i) → t ≡ excused (place_at xs i) (model_at s xs i)
  unfolding excused
  excused-pin t h e = rw (← kind) rw h e

  pub excused-other : (t : Bool) → (k ≡ 1 → ⊥) → t ≡ not (eqb k 3) → t ≡ excused (place_at xs i) (model_at s xs i)
  unfolding excused
  excused-other t h e = rw (← kind) rw (ne_eqb k 1 h) e

-- ---- models and selectors have names of their own

or-used : (e : Entry) (u : Bool) (c : Option ℕ) → or_used e u c ≡ None → (u ≡ false) × (c ≡ None)
or-used e u (Some k) h = impossible cc
or-used e true None h = impossible cc
or-used e false None h = (refl, refl)

used-either : (x : Kind) (w : List ℕ) (es : List Entry) → model_or_selector (place x) ≡ true → is_used x w es ≡ named is_model_or_selector w es
unfolding model_or_selector
used-either OfComponent w es h = impossible cc
used-either OfPin w es h = impossible cc
used-either OfSelector w es h = refl
used-either OfChoice w es h = impossible cc
used-either OfModel w es h = refl

module _ (s xs : List ℕ) where
  never-used : (n t : ℕ) → clash (entries_to s xs n) ≡ None → t < n → used_at s xs t t ≡ false
  unfolding notes_to clash
  never-used zero t h g = absurd (omega (arith, g))
  never-used (suc n) t h g =
      let q = or-used (entry_at s xs n) (used_at s xs n n) (clash (entries_to s xs n)) h in
      by_order (suc t) n
      (λ a. never-used n t q.1 a)
      (λ a.
      let z : t ≡ n = omega (arith, a, g) in
      subst (λ (m : ℕ). used_at s xs m m ≡ false) (sym z) q.0)

  named-each : (q : Entry → Bool) (w : List ℕ) (t j : ℕ) → named q w (entries_to s xs t) ≡ false → j < t → (q (entry_at s xs j) && eqs w (note_at s xs j).name) ≡ false
  unfolding named notes_to
  named-each q w zero j h g = absurd (omega (arith, g))
  named-each q w (suc t) j h g =
      let p = q (entry_at s xs t) && eqs w (note_at s xs t).name in
      by_order (suc j) t
      (λ a. named-each q w t j (or_right p (named q w (entries_to s xs t)) h) a)
      (λ a.
      let z : j ≡ t = omega (arith, a, g) in
      subst (λ (m : ℕ). (q (entry_at s xs m) && eqs w (note_at s xs m).name) ≡ false) (sym z) (or_left p (named q w (entries_to s xs t)) h))

  module _ (n : ℕ) (unique : clash (entries_to s xs n) ≡ None) where
    names_apart : (j t : ℕ) → j < t → t < n → model_or_selector (place_at xs j) ≡ true → model_or_selector (place_at xs t) ≡ true → name_at s xs t ≡ name_at s xs j → ⊥
    names_apart j t h g a b e =
        let k : model_or_selector (place (note_at s xs t).kind) ≡ true = rw (note-kind s xs t) b in
        let u : named is_model_or_selector (note_at s xs t).name (entries_to s xs t) ≡ false =
        sym (used-either (note_at s xs t).kind (note_at s xs t).name (entries_to s xs t) k) ∙ never-used n t unique g in
        let v = named-each is_model_or_selector (note_at s xs t).name t j u h in
        let m : is_model_or_selector (entry_at s xs j) ≡ true = either_is (note_at s xs j).kind ∙ rw (note-kind s xs j) a in
        let w : eqs (note_at s xs t).name (note_at s xs j).name ≡ true = rw (note-name s xs t) rw (note-name s xs j) rw e (eqs-refl (name_at s xs j)) in
        never (is_model_or_selector (entry_at s xs j) && eqs (note_at s xs t).name (note_at s xs j).name) (and_both (is_model_or_selector (entry_at s xs j)) (eqs (note_at s xs t).name (note_at s xs j).name) m w) v

    -- a row names one entry at most
    pub one-target : (i j k : ℕ) → j < n → k < n → (j ≡ k → ⊥) → reaches_at s xs i k ≡ true → reaches_at s xs i j ≡ false
    unfolding reaches_at
    one-target i j k h g d r =
        let R = reaches (place_at xs i) (place_at xs k) in
        let S = reaches (place_at xs i) (place_at xs j) in
        let p = reaches_some (place_at xs i) (place_at xs k) (and_first R (eqs (model_at s xs i) (name_at s xs k)) r) in
        let e : model_at s xs i ≡ name_at s xs k = eqs-eq (model_at s xs i) (name_at s xs k) (and_second R (eqs (model_at s xs i) (name_at s xs k)) r) in
        by-test (S && eqs (model_at s xs i) (name_at s xs j))
        (λ t.
        let q = reaches_some (place_at xs i) (place_at xs j) (and_first S (eqs (model_at s xs i) (name_at s xs j)) t) in
        let f : model_at s xs i ≡ name_at s xs j = eqs-eq (model_at s xs i) (name_at s xs j) (and_second S (eqs (model_at s xs i) (name_at s xs j)) t) in
        by_order j k
        (λ a. absurd (names_apart j k (omega (arith, a, d)) g q p (sym e ∙ f)))
        (λ a. absurd (names_apart k j a h p q (sym f ∙ e))))
        (λ t. t)
