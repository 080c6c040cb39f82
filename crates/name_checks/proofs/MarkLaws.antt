-- The marks that pins and selector rows leave on what they name, what is not marked, and the last checks by both.
use Rattle.std.specs.Prelude.{None, Option, Some, Result, Ok, Err}
use Prim.Native.Nat.{ℕ, zero, suc, ◌+◌, ◌-◌, ◌≤◌, ◌<◌}
use mathlib.Core.Path.{◌≡◌, refl, sym, ap, ◌∙◌}
use mathlib.Core.List.{List, [], ◌∷◌, ◌++◌, reverse, reverse-cons}
use mathlib.Core.Bool.{Bool, true, false, cond, ◌&&◌, ◌||◌}
use native.Mathlib.Omega.{arith}
use lib.ListN.{length, get_or, set, length-set, replicate, length-replicate, get_or-replicate}
use lib.Seq.{get_or-set_same, get_or-set_other}
use lib.Dec.{eqb}
use borrow.Author.Tests.{ne_eqb, lt-ltb, le-ltb, eqb-true, eqb-false}
use Rattle.laws.specs.Lists.{eqs}
use Rattle.laws.proofs.Tests.{by-test, cond_yes, cond_no, cond_map, never, impossible}
use Rattle.laws.proofs.Same.{eqs-refl, eqs-eq}
use Rattle.rules.specs.Outline.{Entry, place, is, lists, is_listed, first_failing}
use Rattle.rules.specs.Whole.{Outcome, refused, last_checks}
use Rattle.rules.specs.Last.{found, listed_in}
use Rattle.records.specs.declared.Fault.{Fault}
use Rattle.records.specs.declared.Kind.{Kind}
use Rattle.records.specs.declared.Kind.TheVariants.{OfComponent, OfPin, OfSelector, OfChoice, OfModel}
use Rattle.lines.specs.Places.{line_at}
use Rattle.lines.proofs.Numbers.{lines-fewer}
use Rattle.notes.specs.Noted.{clash}
use Rattle.note_words.specs.Store.{names_held, most_names, noted_line, note_at, notes_to}
use Rattle.note_words.proofs.Laws.{note-line}
use Rattle.name_checks.specs.Lookup.{place_at, entry_at, entries_to, entries_from, model_or_selector, enclosed, reaches, reaches_at, target_to, told_of, told_at, missing, is_marked, Clear, with_mark, marked, Marks, Marked, unmarked, unmarked_from, last_is, Concludes}
use Rattle.name_checks.proofs.NoteLaws.{note-kind}
use Rattle.name_checks.proofs.TargetLaws.{hits_at, target_found, target-missed, found-told, one-target}

-- no fault
abbrev fine : Result (Unit {0}) Fault
fine = Ok tt

-- ---- entries in file order

module _ (s xs : List ℕ) where
  from-last-one : (i m : ℕ) → entries_from s xs i (suc m) ≡ entries_from s xs i m ++ (entry_at s xs (i + m) ∷ [])
  unfolding entries_from
  from-last-one i zero =
      let e : i + 0 ≡ i = omega arith in
      rw e refl
  from-last-one i (suc m) =
      let e : i + suc m ≡ i + 1 + m = omega arith in
      rw e rw (from-last-one (i + 1) m) refl

  pub file-order : (n : ℕ) → reverse (entries_to s xs n) ≡ entries_from s xs 0 n
  unfolding notes_to entries_from
  file-order zero = refl
  file-order (suc n) =
      let e : 0 + n ≡ n = omega arith in
      reverse-cons (entry_at s xs n) (entries_to s xs n) ∙ rw (file-order n) (ap (λ (k : ℕ). entries_from s xs 0 n ++ (entry_at s xs k ∷ [])) (sym e) ∙ sym (from-last-one 0 n))

  -- one more in front
  pub from-turn : (i n : ℕ) → 0 < i → i ≤ n → entries_from s xs (i - 1) (n - (i - 1)) ≡ entry_at s xs (i - 1) ∷ entries_from s xs i (n - i)
  unfolding entries_from
  from-turn i n h g =
      let e : n - (i - 1) ≡ suc (n - i) = omega (arith, h, g) in
      let f : i - 1 + 1 ≡ i = omega (arith, h) in
      rw e rw f refl

pub from-none : (s xs : List ℕ) (n : ℕ) → entries_from s xs n (n - n) ≡ []
unfolding entries_from
from-none s xs n =
    let e : n - n ≡ 0 = omega arith in
    rw e refl

-- ---- a name that is not marked

module _ (xs marks : List ℕ) (i k later : ℕ) (kind : k ≡ place_at xs i) where
  pub unmarked-kept : model_or_selector k ≡ true → get_or marks i 0 ≡ 1 → later ≡ unmarked xs marks i later
  unfolding unmarked
  unmarked-kept h o = rw (← kind) rw h rw o refl

  pub unmarked-told : model_or_selector k ≡ true → (get_or marks i 0 ≡ 1 → ⊥) → i ≡ unmarked xs marks i later
  unfolding unmarked
  unmarked-told h o = rw (← kind) rw h rw (ne_eqb (get_or marks i 0) 1 o) refl

  pub unmarked-other : model_or_selector k ≡ false → later ≡ unmarked xs marks i later
  unfolding unmarked
  unmarked-other h = rw (← kind) rw h refl

module _ (xs marks : List ℕ) (n : ℕ) where
  pub unmarked-turn : (j : ℕ) → 0 < j → j ≤ n → unmarked_from xs marks (j - 1) (n - (j - 1)) ≡ unmarked xs marks (j - 1) (unmarked_from xs marks j (n - j))
  unfolding unmarked_from
  unmarked-turn j h g =
      let e : n - (j - 1) ≡ suc (n - j) = omega (arith, h, g) in
      let f : j - 1 + 1 ≡ j = omega (arith, h) in
      rw e rw f refl

  pub unmarked-none : n ≡ unmarked_from xs marks n (n - n)
  unfolding unmarked_from
  unmarked-none =
      let e : n - n ≡ 0 = omega arith in
      rw e refl

-- ---- no marks

pub none-marked : (n : ℕ) → n ≤ names_held → Clear (replicate most_names 0) n
none-marked n h = (omega (arith, h, length-replicate {A = ℕ} most_names 0), λ j g. get_or-replicate most_names j 0 0 (omega (arith, h, g)))

-- ---- a row's mark

eqs-turned : (l m : List ℕ) → eqs l m ≡ eqs m l
eqs-turned l m =
    by-test (eqs l m)
    (λ h. h ∙ sym (rw (eqs-eq l m h) (eqs-refl m)))
    (λ h. by-test (eqs m l) (λ g. absurd (never (eqs l m) (rw (eqs-eq m l g) (eqs-refl l)) h)) (λ g. h ∙ sym g))

pin-first : (x : Kind) (b m : Bool) → ((eqb 1 (place x) && b) || m) ≡ ((eqb (place x) 1 && b) || m)
pin-first OfComponent b m = refl
pin-first OfPin b m = refl
pin-first OfSelector b m = refl
pin-first OfChoice b m = refl
pin-first OfModel b m = refl

or-first : (b m n : Bool) → ((b || m) || n) ≡ (b || (m || n))
or-first true m n = refl
or-first false m n = refl

or-second : (b m n : Bool) → (m || (b || n)) ≡ (b || (m || n))
or-second b true n = by-test b (λ h. rw h refl) (λ h. rw h refl)
or-second b false n = refl

row_first : (x : Kind) (b m n : Bool) → (((eqb 1 (place x) && b) || m) || ((eqb 3 (place x) && b) || n)) ≡ ((enclosed (place x) && b) || (m || n))
unfolding enclosed
row_first OfComponent b m n = refl
row_first OfPin b m n = or-first b m n
row_first OfSelector b m n = refl
row_first OfChoice b m n = or-second b m n
row_first OfModel b m n = refl

marked_more : (e : Entry) (es : List Entry) (f : Entry) (y : Kind) → marked (e ∷ es) f y ≡ ((reaches (place e.kind) (place y) && eqs e.names f.name) || marked es f y)
unfolding lists reaches
marked_more e es f OfComponent = refl
marked_more e es f OfPin = refl
marked_more e es f OfSelector = rw (eqs-turned f.name e.names) (pin-first e.kind (eqs e.names f.name) (lists (is OfPin) f.name es))
marked_more e es f OfChoice = refl
marked_more e es f OfModel =
    rw (eqs-turned f.name e.names)
    (row_first e.kind (eqs e.names f.name) (lists (is OfPin) f.name es) (lists (is OfChoice) f.name es))

marked-none : (f : Entry) (y : Kind) → false ≡ marked [] f y
unfolding lists
marked-none f OfComponent = refl
marked-none f OfPin = refl
marked-none f OfSelector = refl
marked-none f OfChoice = refl
marked-none f OfModel = refl

mark-length : (marks : List ℕ) (t : Option ℕ) → length (with_mark marks t) ≡ length marks
mark-length marks (Some k) = length-set marks k 1
mark-length marks None = refl

module _ (s xs : List ℕ) (n : ℕ) (unique : clash (entries_to s xs n) ≡ None) where
  mark-each : (i : ℕ) (ys : List ℕ) (t : Option ℕ) → n ≤ length ys → target_to s xs i n ≡ t
      → (j : ℕ) → j < n → is_marked (with_mark ys t) j ≡ (reaches_at s xs i j || is_marked ys j)
  mark-each i ys (Some k) long e j h =
      let r = target_found s xs i n k e in
      by-test (eqb j k)
      (λ q.
      let z : j ≡ k = eqb-true j k q in
      let g : get_or (set ys k 1) k 0 ≡ 1 = get_or-set_same ys k 1 0 (omega (arith, r.0, long)) in
      rw z rw g rw r.1 refl)
      (λ q.
      let z : j ≡ k → ⊥ = eqb-false j k q in
      let g : get_or (set ys k 1) j 0 ≡ get_or ys j 0 = get_or-set_other ys k j 1 0 (λ y. z (omega (arith, y))) in
      rw g rw (one-target s xs n unique i j k h (omega (arith, r.0)) z r.1) refl)
  mark-each i ys None long e j h = rw (target-missed s xs i n j e h) refl

  mark-turn : (i : ℕ) (es : List Entry) (ys : List ℕ) → n ≤ length ys → Marks s xs es n ys → Marks s xs (entry_at s xs i ∷ es) n (with_mark ys (target_to s xs i n))
  mark-turn i es ys long m j h =
      mark-each i ys (target_to s xs i n) long refl j h
      ∙ rw (m j h) rw (← (hits_at s xs i j)) (sym (marked_more (entry_at s xs i) es (entry_at s xs j) (note_at s xs j).kind))

-- ---- the fault of a name, by its place

line-some : (s : List ℕ) (at : ℕ) → line_at s at ≡ 0 → ⊥
unfolding line_at
line-some s at e = omega (arith, e, lines-fewer s at)

module _ (s xs : List ℕ) (number n i : ℕ) where
  told_none : n ≤ i → told_at s xs number n i ≡ Ok tt
  told_none h = cond_no _ _ (le-ltb i n h)

  told_here : i < n → told_at s xs number n i ≡ told_of number (note_at s xs i).line
  told_here h = cond_yes _ _ (lt-ltb i n h) ∙ ap (told_of number) (sym (note-line s xs i))

  told-faulty : i < n → told_at s xs number n i ≡ Err (record { number = number; line = noted_line s xs i; column = 0 })
  unfolding told_of
  told-faulty h = cond_yes _ _ (lt-ltb i n h) ∙ cond_no _ _ (ne_eqb (noted_line s xs i) 0 (line-some s _))

-- ---- the marks from the last name up to place i, and the first of these names that names nothing

pub record Marking (s xs : List ℕ) (n i first : ℕ) (marks : List ℕ) : Type 0 where
  pub told : told_at s xs 15 n first ≡ told_of 15 (first_failing (found (entries_from s xs 0 n)) (entries_from s xs i (n - i)))
  pub room : n ≤ length marks
  pub says : Marks s xs (entries_from s xs i (n - i)) n marks

pub marking-none : (s xs marks : List ℕ) (n : ℕ) → Clear marks n → Marking s xs n n n marks
unfolding first_failing told_of
marking-none s xs marks n h =
    record {
      told = told_none s xs 15 n n (omega arith) ∙ rw (from-none s xs n) refl;
      room = h.0;
      says = rw (from-none s xs n) (λ j g. rw (h.1 j g) (marked-none (entry_at s xs j) (note_at s xs j).kind));
    }

pub marking-turn : (s xs : List ℕ) (n i first : ℕ) (ys : List ℕ) → clash (entries_to s xs n) ≡ None → Marking s xs n i first ys
    → 0 < i → i ≤ n → (r : ℕ) (zs : List ℕ) → r ≡ missing s xs (i - 1) first (target_to s xs (i - 1) n) → zs ≡ with_mark ys (target_to s xs (i - 1) n)
    → Marking s xs n (i - 1) r zs
unfolding first_failing
marking-turn s xs n i first ys unique m h g r zs e f =
    let k = i - 1 in
    let is : Bool = found (entries_from s xs 0 n) (entry_at s xs k) in
    let others : ℕ = first_failing (found (entries_from s xs 0 n)) (entries_from s xs i (n - i)) in
    record {
      told =
          ap (λ (j : ℕ). told_at s xs 15 n j) (e ∙ sym (found-told s xs k n first))
          ∙ cond_map (λ (j : ℕ). told_at s xs 15 n j) is first k
          ∙ ap (λ (l : Result (Unit {0}) Fault). cond is l (told_at s xs 15 n k)) m.told
          ∙ ap (cond is (told_of 15 others)) (told_here s xs 15 n k (omega (arith, h, g)))
          ∙ sym (cond_map (told_of 15) is others (note_at s xs k).line)
          ∙ ap (λ (es : List Entry). told_of 15 (first_failing (found (entries_from s xs 0 n)) es)) (sym (from-turn s xs i n h g));
      room = omega (arith, ap length f, mark-length ys (target_to s xs k n), m.room);
      says = rw f rw (from-turn s xs i n h g) (mark-turn s xs n unique k (entries_from s xs i (n - i)) ys m.room m.says);
    }

-- ---- what nobody lists

listed-kind : (es : List Entry) (f : Entry) (y : Kind) (later own : ℕ) → cond (model_or_selector (place y)) (cond (marked es f y) later own) later ≡ cond (is_listed es f y) later own
unfolding model_or_selector
listed-kind es f OfComponent later own = refl
listed-kind es f OfPin later own = refl
listed-kind es f OfSelector later own = refl
listed-kind es f OfChoice later own = refl
listed-kind es f OfModel later own = refl

module _ (s xs ys : List ℕ) (n : ℕ) (es : List Entry) (marks : Marks s xs es n ys) where
  unlisted-told : (j later : ℕ) → j < n → unmarked xs ys j later ≡ cond (listed_in es (entry_at s xs j)) later j
  unfolding unmarked
  unlisted-told j later h =
      rw (marks j h)
      rw (← (note-kind s xs j)) (listed-kind es (entry_at s xs j) (note_at s xs j).kind later j)

  unlisted-from : (j m : ℕ) → j + m ≡ n → told_at s xs 16 n (unmarked_from xs ys j m) ≡ told_of 16 (first_failing (listed_in es) (entries_from s xs j m))
  unfolding unmarked_from entries_from first_failing told_of
  unlisted-from j zero h = told_none s xs 16 n j (omega (arith, h))
  unlisted-from j (suc m) h =
      let is : Bool = listed_in es (entry_at s xs j) in
      let others : ℕ = first_failing (listed_in es) (entries_from s xs (j + 1) m) in
      ap (λ (u : ℕ). told_at s xs 16 n u) (unlisted-told j (unmarked_from xs ys (j + 1) m) (omega (arith, h)))
      ∙ cond_map (λ (u : ℕ). told_at s xs 16 n u) is (unmarked_from xs ys (j + 1) m) j
      ∙ ap (λ (l : Result (Unit {0}) Fault). cond is l (told_at s xs 16 n j)) (unlisted-from (j + 1) m (omega (arith, h)))
      ∙ ap (cond is (told_of 16 others)) (told_here s xs 16 n j (omega (arith, h)))
      ∙ sym (cond_map (told_of 16) is others (note_at s xs j).line)

-- ---- the last checks

-- the fault of the first that fails one test, else of the first that fails the other
module _ (a b : ℕ) (d : Outcome) where
  abbrev concluding : Outcome
  concluding = cond (eqb a 0) (cond (eqb b 0) d (refused 16 b 0)) (refused 15 a 0)

  first-told : (f : Fault) → told_of 15 a ≡ Err f → concluding ≡ last_is d (Err f)
  unfolding told_of
  first-told f h =
      by-test (eqb a 0)
      (λ t. let z : fine ≡ Err f = sym (cond_yes _ _ t) ∙ h in impossible cc)
      (λ t. let z : Err (record { number = 15; line = a; column = 0 }) ≡ Err f = sym (cond_no _ _ t) ∙ h in rw t (ap (last_is d) z))

  second-told : told_of 15 a ≡ Ok tt → concluding ≡ last_is d (told_of 16 b)
  unfolding told_of
  second-told h =
      by-test (eqb a 0)
      (λ t. rw t (by-test (eqb b 0) (λ u. rw u refl) (λ u. rw u refl)))
      (λ t. let z : Err (record { number = 15; line = a; column = 0 }) ≡ fine = sym (cond_no _ _ t) ∙ h in impossible cc)

module _ (s xs ys : List ℕ) (n r : ℕ) (m : Marked s xs ys n r) where
  pub concludes-missing : r < n → (v : Result (Unit {0}) Fault) → v ≡ Err (record { number = 15; line = noted_line s xs r; column = 0 }) → Concludes (entries_to s xs n) v
  unfolding last_checks
  concludes-missing h v q d =
      rw (file-order s xs n)
      (first-told _ (first_failing (listed_in (entries_from s xs 0 n)) (entries_from s xs 0 n)) d _ (sym m.first ∙ told-faulty s xs 15 n r h)
      ∙ ap (last_is d) (sym q))

  module _ (u : ℕ) (e : u ≡ unmarked_from xs ys 0 n) (h : n ≤ r) where
    listed-told : (v : Result (Unit {0}) Fault) → told_at s xs 16 n u ≡ v → Concludes (entries_to s xs n) v
    unfolding last_checks
    listed-told v q d =
        rw (file-order s xs n)
        (second-told _ _ d (sym m.first ∙ told_none s xs 15 n r h)
        ∙ ap (last_is d) (sym (ap (λ (w : ℕ). told_at s xs 16 n w) e ∙ unlisted-from s xs ys n (entries_from s xs 0 n) m.says 0 n (omega arith)) ∙ q))

    pub concludes-unlisted : u < n → (v : Result (Unit {0}) Fault) → v ≡ Err (record { number = 16; line = noted_line s xs u; column = 0 }) → Concludes (entries_to s xs n) v
    concludes-unlisted g v q = listed-told v (told-faulty s xs 16 n u g ∙ sym q)

    pub concludes-fine : n ≤ u → Concludes (entries_to s xs n) (Ok tt)
    concludes-fine g = listed-told (Ok tt) (told_none s xs 16 n u g)
