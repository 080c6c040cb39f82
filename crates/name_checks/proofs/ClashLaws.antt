-- Names used twice: an earlier name taken in front of the rest, keys that equal names share where they are compared, and a clash that stays.
use Rattle.std.specs.Prelude.{Option, None, Some}
use Prim.Native.Nat.{ℕ, zero, suc, ◌+◌, ◌-◌, ◌*◌, ◌%◌, ◌≤◌, ◌<◌}
use mathlib.Core.Path.{◌≡◌, refl, sym, ap, ◌∙◌}
use mathlib.Core.List.{List, [], ◌∷◌}
use mathlib.Core.Bool.{Bool, true, false, cond, ◌&&◌, ◌||◌}
use native.Mathlib.Omega.{arith}
use native.Mathlib.Numerals.{add-one}
use lib.ListN.{length, drop, get_or, replicate, drop_of_length-le, length-replicate}
use lib.Dec.{eqb}
use borrow.Author.Tests.{eqb-true}
use Rattle.laws.proofs.Lists.{from_cons}
use Rattle.laws.proofs.Same.{eqs-eq}
use Rattle.laws.specs.Lists.{front, part, eqs}
use Rattle.laws.proofs.Tests.{by-test, by_order, cond_yes, cond_no, never, impossible}
use Rattle.words.specs.declared.Word.{Word}
use Rattle.rules.specs.Outline.{Entry, place, is, named, is_used}
use Rattle.records.specs.declared.Kind.{Kind}
use Rattle.records.specs.declared.Kind.TheVariants.{OfComponent, OfPin, OfSelector, OfChoice, OfModel}
use Rattle.notes.specs.Noted.{or_used, clash}
use Rattle.note_words.specs.Store.{noted_line, name_at, note_at, notes_to}
use Rattle.note_words.proofs.Laws.{note-name, note-line}
use Rattle.name_checks.specs.declared.Meeting.{Meeting}
use Rattle.name_checks.specs.declared.Meeting.TheVariants.{Equal, Differing, Beyond}
use Rattle.name_checks.specs.Lookup.{place_at, part_said, entry_at, entries_to, model_or_selector, rivals, enclosed, meeting, meeting_at, met, meets_to, section_behind, section_to, start_of, key_from, key_at, seen_words, is_seen, with_seen}
use Rattle.name_checks.proofs.NoteLaws.{note-kind, name-said}
use Rattle.name_checks.proofs.SeenLaws.{seen-long, seen-own, seen-stays}

-- ---- a name among earlier ones, the nearest of them taken first

-- all earlier ones that pass count
met-open : (p b u : Bool) → ((p && b) || u) ≡ met (cond p (cond b Equal Differing) Differing) u
met-open true true u = refl
met-open true false u = refl
met-open false b u = refl

-- those up to the first that does not pass count
met-closed : (q : Entry → Bool) (n : List ℕ) (f : Entry) (es : List Entry)
    → named q n (front q (f ∷ es)) ≡ met (cond (q f) (cond (eqs n f.name) Equal Differing) Beyond) (named q n (front q es))
unfolding named front
met-closed q n f es =
    by-test (q f) (λ h. by-test (eqs n f.name) (λ g. simp (h, g)) (λ g. simp (h, g))) (λ h. simp h)

pub either_is : (x : Kind) → (eqb 4 (place x) || eqb 2 (place x)) ≡ model_or_selector (place x)
unfolding model_or_selector
either_is OfComponent = refl
either_is OfPin = refl
either_is OfSelector = refl
either_is OfChoice = refl
either_is OfModel = refl

used-cons : (k : Kind) (n : List ℕ) (f : Entry) (es : List Entry)
    → is_used k n (f ∷ es) ≡ met (meeting (place k) (place f.kind) (eqs n f.name)) (is_used k n es)
unfolding named meeting rivals enclosed model_or_selector
used-cons OfComponent n f es = met-open (is OfComponent f) (eqs n f.name) (named (is OfComponent) n es)
used-cons OfPin n f es = met-closed (is OfPin) n f es
used-cons OfSelector n f es = rw (either_is f.kind) (met-open (model_or_selector (place f.kind)) (eqs n f.name) (is_used OfSelector n es))
used-cons OfChoice n f es = met-closed (is OfChoice) n f es
used-cons OfModel n f es = rw (either_is f.kind) (met-open (model_or_selector (place f.kind)) (eqs n f.name) (is_used OfModel n es))

used-none : (k : Kind) (n : List ℕ) → is_used k n [] ≡ false
unfolding named front
used-none OfComponent n = refl
used-none OfPin n = refl
used-none OfSelector n = refl
used-none OfChoice n = refl
used-none OfModel n = refl

module _ (s xs : List ℕ) (i : ℕ) where
  -- the name at place i is among those before place j
  abbrev pub used_at : ℕ → Bool
  used_at j = is_used (note_at s xs i).kind (note_at s xs i).name (entries_to s xs j)

  used-suc : (j : ℕ) → used_at (suc j) ≡ met (meeting_at s xs i j) (used_at j)
  unfolding notes_to meeting_at
  used-suc j =
      used-cons (note_at s xs i).kind (note_at s xs i).name (entry_at s xs j) (entries_to s xs j)
      ∙ rw (note-kind s xs i) rw (note-kind s xs j) rw (note-name s xs i) rw (note-name s xs j) refl

  pub used-zero : used_at 0 ≡ false
  unfolding notes_to
  used-zero = used-none (note_at s xs i).kind (note_at s xs i).name

  -- of its kind k, and its name at w
  module _ (k : ℕ) (w : Word) (kind : k ≡ place_at xs i) (said : w ≡ part_said xs i 1) where
    pub used-meets : (j : ℕ) → used_at j ≡ meets_to s xs k (part w.start w.end s) j
    unfolding meets_to meeting_at
    used-meets zero = used-zero
    used-meets (suc j) =
        let same : meeting_at s xs i j ≡ meeting k (place_at xs j) (eqs (part w.start w.end s) (name_at s xs j)) = sym (rw kind rw (name-said s xs w i said) refl) in
        used-suc j ∙ ap (λ (x : Meeting). met x (used_at j)) same ∙ ap (met _) (used-meets j)

    pub key-own : (section key : ℕ) → section ≡ section_to xs i → key ≡ key_from (start_of k section) (part w.start w.end s) → key ≡ key_at s xs i
    key-own section key h g = g ∙ rw kind rw h rw (name-said s xs w i said) refl

-- a name among the first ones, by the nearest of them
pub meets_turn : (s xs : List ℕ) (k : ℕ) (name : List ℕ) (j : ℕ) (m v : Meeting) → 0 < j → m ≡ meeting k (place_at xs (j - 1)) (eqs name (name_at s xs (j - 1))) → m ≡ v
    → meets_to s xs k name j ≡ met v (meets_to s xs k name (j - 1))
unfolding meets_to
meets_turn s xs k name j m v h e t =
    let q : j ≡ suc (j - 1) = omega (arith, h) in
    ap (meets_to s xs k name) q ∙ ap (λ (x : Meeting). met x (meets_to s xs k name (j - 1))) (sym e ∙ t)

-- ---- a meeting by its tests

module _ (s xs : List ℕ) (j k l : ℕ) (name : List ℕ) (kind : l ≡ place_at xs j) where
  pub meets-rival : (t : Bool) → rivals k l ≡ true → t ≡ eqs name (name_at s xs j) → cond t Equal Differing ≡ meeting k (place_at xs j) (eqs name (name_at s xs j))
  unfolding meeting
  meets-rival t h e = rw (← kind) rw h rw e refl

  pub meets-other : (t : Bool) → rivals k l ≡ false → t ≡ enclosed k → cond t Beyond Differing ≡ meeting k (place_at xs j) (eqs name (name_at s xs j))
  unfolding meeting
  meets-other t h e = rw (← kind) rw h rw e refl

-- ---- keys

pub key-next : (k : ℕ) (s : List ℕ) (i : ℕ) → i < length s → key_from (k % 67108864 * 33 + get_or s i 0) (drop (i + 1) s) ≡ key_from k (drop i s)
unfolding key_from
key-next k s i h = rw (from_cons s i 0 h) refl

pub key-end : (k : ℕ) (s : List ℕ) (i : ℕ) → length s ≤ i → k ≡ key_from k (drop i s)
unfolding key_from
key-end k s i h = rw (drop_of_length-le s h) refl

-- ---- where keys start

pub section-none : (xs : List ℕ) → 0 ≡ section_to xs 0
unfolding section_to
section-none xs = refl

pub section-next : (xs : List ℕ) (i k section r : ℕ) → k ≡ place_at xs i → section ≡ section_to xs i → r ≡ section_behind k i section → r ≡ section_to xs (i + 1)
unfolding section_to
section-next xs i k section r kind h e = rw (add-one i) (e ∙ ap (λ (l : ℕ). section_behind l i section) kind ∙ ap (section_behind (place_at xs i) i) h)

rivals-share : (k l section : ℕ) → rivals k l ≡ true → start_of l section ≡ start_of k section
unfolding rivals start_of
rivals-share k l section r =
    by-test (model_or_selector k)
    (λ t.
    let u : model_or_selector l ≡ true = sym (cond_yes (model_or_selector l) (eqb k l) t) ∙ r in
    rw t rw u refl)
    (λ t. ap (λ (m : ℕ). start_of m section) (sym (eqb-true k l (sym (cond_no (model_or_selector l) (eqb k l) t) ∙ r))))

-- of a kind that is not compared within a section alone the section does not matter
outside-shares : (k m n : ℕ) → enclosed k ≡ false → start_of k m ≡ start_of k n
unfolding start_of
outside-shares k m n h = rw h refl

-- a rival opens no other section for its rivals
rival-stays : (xs : List ℕ) (k j : ℕ) → rivals k (place_at xs j) ≡ true → start_of k (section_to xs (suc j)) ≡ start_of k (section_to xs j)
unfolding section_to section_behind
rival-stays xs k j r =
    by-test (enclosed (place_at xs j))
    (λ t. ap (start_of k) (cond_yes (section_to xs j) j t))
    (λ t.
    let l = place_at xs j in
    sym (rivals-share k l (section_to xs (suc j)) r) ∙ outside-shares l (section_to xs (suc j)) (section_to xs j) t ∙ rivals-share k l (section_to xs j) r)

-- ---- keys that were seen

-- the bits of the keys of the first n names are set
pub record Seen (s xs : List ℕ) (n : ℕ) (seen : List ℕ) : Type 0 where
  pub long : length seen ≡ seen_words
  pub each : (j : ℕ) → j < n → is_seen seen (key_at s xs j) ≡ true

pub seen_none : (s xs : List ℕ) → Seen s xs 0 (replicate seen_words 0)
seen_none s xs = record { long = length-replicate {A = ℕ} seen_words 0; each = λ j g. absurd (omega (arith, g)) }

-- a name that differs is not met
unmet : (k l : ℕ) (u : Bool) → u ≡ false → met (meeting k l false) u ≡ false
unfolding meeting
unmet k l u h = by-test (rivals k l) (λ r. simp (r, h)) (λ r. by-test (enclosed k) (λ e. simp (r, e)) (λ e. simp (r, e, h)))

-- nor is one that is no rival, where those before it are not or are not looked at
unmet-other : (k l : ℕ) (same u : Bool) → rivals k l ≡ false → (enclosed k ≡ false → u ≡ false) → met (meeting k l same) u ≡ false
unfolding meeting
unmet-other k l same u r h = by-test (enclosed k) (λ e. simp (r, e)) (λ e. simp (r, e, h e))

module _ (s xs seen : List ℕ) (i key : ℕ) (own : key ≡ key_at s xs i) (h : Seen s xs i seen) where
  -- where the key of this name would start in the section of the names before place j
  abbrev start_to : ℕ → ℕ
  start_to j = start_of (place_at xs i) (section_to xs j)

  unseen-apart : (j : ℕ) → j < i → is_seen seen key ≡ false → start_of (place_at xs j) (section_to xs j) ≡ start_to i → eqs (name_at s xs i) (name_at s xs j) ≡ false
  unseen-apart j g u e =
      by-test (eqs (name_at s xs i) (name_at s xs j))
      (λ t.
      let shared : key ≡ key_at s xs j = own ∙ ap (key_from (start_to i)) (eqs-eq (name_at s xs i) (name_at s xs j) t) ∙ ap (λ (k : ℕ). key_from k (name_at s xs j)) (sym e) in
      absurd (never (is_seen seen key) (ap (is_seen seen) shared ∙ h.each j g) u))
      (λ t. t)

  unseen-unused : (j : ℕ) → j ≤ i → is_seen seen key ≡ false → start_to j ≡ start_to i → used_at s xs i j ≡ false
  unfolding meeting_at
  unseen-unused zero g u e = used-zero s xs i
  unseen-unused (suc j) g u e =
      let k = place_at xs i in
      let l = place_at xs j in
      used-suc s xs i j
      ∙ by-test (rivals k l)
      (λ r.
      let stays : start_to j ≡ start_to i = sym (rival-stays xs k j r) ∙ e in
      ap (λ (b : Bool). met (meeting k l b) (used_at s xs i j)) (unseen-apart j g u (rivals-share k l (section_to xs j) r ∙ stays))
      ∙ unmet k l (used_at s xs i j) (unseen-unused j (omega (arith, g)) u stays))
      (λ r.
      unmet-other k l (eqs (name_at s xs i) (name_at s xs j)) (used_at s xs i j) r
      (λ o. unseen-unused j (omega (arith, g)) u (outside-shares k (section_to xs j) (section_to xs i) o)))

  -- whether all before it or none are looked at, the name is among these if it is among all
  pub used-before : (n : ℕ) → n ≡ cond (is_seen seen key) i 0 → (n ≤ i) × (used_at s xs i n ≡ used_at s xs i i)
  used-before n e =
      by-test (is_seen seen key)
      (λ t.
      let all : n ≡ i = e ∙ cond_yes i 0 t in
      (omega (arith, all), ap (used_at s xs i) all))
      (λ t.
      let nothing : n ≡ 0 = e ∙ cond_no i 0 t in
      (omega (arith, nothing), ap (used_at s xs i) nothing ∙ used-zero s xs i ∙ sym (unseen-unused i (omega arith) t refl)))

  pub seen_next : (ys : List ℕ) → ys ≡ with_seen seen key → Seen s xs (i + 1) ys
  seen_next ys e =
      rw e
      (record {
        long = seen-long seen key ∙ h.long;
        each = λ j g.
            by_order i j
            (λ a.
            let z : i ≡ j = omega (arith, a, g) in
            ap (is_seen (with_seen seen key)) (sym (own ∙ ap (key_at s xs) z)) ∙ seen-own seen key h.long)
            (λ a. seen-stays seen key h.long (key_at s xs j) (h.each j a));
      })

-- ---- the first name that is used twice

module _ (s xs : List ℕ) where
  clash-suc : (i : ℕ) → clash (entries_to s xs i) ≡ None → clash (entries_to s xs (suc i)) ≡ or_used (entry_at s xs i) (used_at s xs i i) None
  unfolding notes_to clash
  clash-suc i h = rw h refl

  pub clash-next : (i : ℕ) → clash (entries_to s xs i) ≡ None → used_at s xs i i ≡ false → clash (entries_to s xs (i + 1)) ≡ None
  clash-next i h u = rw (add-one i) (clash-suc i h ∙ rw u refl)

  clash-stays : (i n k : ℕ) → i ≤ n → clash (entries_to s xs i) ≡ Some k → clash (entries_to s xs n) ≡ Some k
  unfolding notes_to clash
  clash-stays i zero k h e =
      let z : i ≡ 0 = omega (arith, h) in
      sym (ap (λ (m : ℕ). clash (entries_to s xs m)) z) ∙ e
  clash-stays i (suc n) k h e =
      by_order i n (λ g. rw (clash-stays i n k g e) refl)
      (λ g.
      let z : i ≡ suc n = omega (arith, h, g) in
      sym (ap (λ (m : ℕ). clash (entries_to s xs m)) z) ∙ e)

  pub clash-here : (i n : ℕ) → i < n → clash (entries_to s xs i) ≡ None → used_at s xs i i ≡ true → clash (entries_to s xs n) ≡ Some (noted_line s xs i)
  clash-here i n g h u = clash-stays (suc i) n (noted_line s xs i) g (clash-suc i h ∙ rw u (ap Some (note-line s xs i)))

  pub clash-none : clash (entries_to s xs 0) ≡ None
  unfolding notes_to clash
  clash-none = refl

-- ---- what is answered says the clash

pub found-clash : (o : Option ℕ) (k : ℕ) → Some k ≡ o → o ≡ Some k
found-clash (Some l) k h = cc
found-clash None k h = impossible cc

pub no-clash : (o : Option ℕ) → None ≡ o → o ≡ None
no-clash (Some l) h = impossible cc
no-clash None h = refl
