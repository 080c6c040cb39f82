-- The number of a kind; a part of the file moved into it.
use Prim.Native.Nat.{ℕ, ◌-◌, ◌≤◌, ◌<◌}
use mathlib.Core.Path.{◌≡◌, refl, sym, ap, ◌∙◌}
use mathlib.Core.List.{List, []}
use mathlib.Core.Bool.{false}
use native.Mathlib.Omega.{arith}
use lib.ListN.{length, drop, drop_of_length-le, length-drop}
use lib.Seq.{take_all}
use borrow.Author.Tests.{lt-ltb, le-ltb, le-leb, lt-leb}
use Rattle.laws.specs.Lists.{part, eqs}
use Rattle.laws.proofs.Lists.{part_length}
use Rattle.laws.proofs.Same.{eqs-apart}
use Rattle.words.specs.declared.Word.{Word}
use Rattle.rules.specs.Outline.{place}
use Rattle.note_words.specs.Store.{noted_at, part_start, part_end, name_at, note_at}
use Rattle.note_words.proofs.Laws as stored
use Rattle.name_checks.specs.Lookup.{place_at, model_at, part_said, moved_in, Within}

-- ---- the number of a kind

pub note-kind : (s xs : List ℕ) (i : ℕ) → place (note_at s xs i).kind ≡ place_at xs i
unfolding place_at
note-kind s xs i = ap place (stored.note-kind s xs i)

-- ---- a part that lies outside

module _ (s : List ℕ) (a e : ℕ) where
  pub part_turned : e < a → part 0 0 s ≡ part a e s
  part_turned h =
      let z : e - a ≡ 0 = omega (arith, h) in
      rw z refl

  pub part_cut : length s < e → part a (length s) s ≡ part a e s
  part_cut h =
      take_all (length s - a) (drop a s) (omega (arith, length-drop a s))
      ∙ sym (take_all (e - a) (drop a s) (omega (arith, length-drop a s, h)))

  pub part-past : length s < a → part 0 0 s ≡ part a e s
  part-past h = rw (drop_of_length-le s {i = a} (omega (arith, h))) (sym (take_all (e - a) [] (omega arith)))

-- where such a part is moved to
module _ (n a e : ℕ) where
  pub moved-turned : e < a → record { start = 0; end = 0 } ≡ moved_in n a e
  unfolding moved_in
  moved-turned h = rw (lt-ltb e a h) refl

  module _ (order : a ≤ e) where
    pub moved-kept : e ≤ n → record { start = a; end = e } ≡ moved_in n a e
    unfolding moved_in
    moved-kept h = rw (le-ltb e a order) rw (le-leb e n h) refl

    pub moved-cut : n < e → a ≤ n → record { start = a; end = n } ≡ moved_in n a e
    unfolding moved_in
    moved-cut h k = rw (le-ltb e a order) rw (lt-leb e n h) rw (le-leb a n k) refl

    pub moved-past : n < a → record { start = 0; end = 0 } ≡ moved_in n a e
    unfolding moved_in
    moved-past k =
        let h : n < e = omega (arith, k, order) in
        rw (le-ltb e a order) rw (lt-leb e n h) rw (lt-leb a n k) refl

-- two parts, moved into the file
module _ (s : List ℕ) (w v x y : Word) (p : Within s w.start w.end x) (q : Within s v.start v.end y) where
  pub within-apart : (x.end - x.start ≡ y.end - y.start → ⊥) → eqs (part w.start w.end s) (part v.start v.end s) ≡ false
  within-apart h =
      rw (← p.same) rw (← q.same)
      (eqs-apart (part x.start x.end s) (part y.start y.end s)
      (λ e. h (sym (part_length s x.start x.end p.inside) ∙ e ∙ part_length s y.start y.end q.inside)))

-- the part that a note says, by word j
said : (s xs : List ℕ) (w : Word) (i j : ℕ) → w ≡ part_said xs i j → part w.start w.end s ≡ part (part_start xs (noted_at xs i) j) (part_end xs (noted_at xs i) j) s
said s xs w i j q = ap (λ (z : Word). part z.start z.end s) q

module _ (s xs : List ℕ) (w : Word) (i : ℕ) where
  pub name-said : w ≡ part_said xs i 1 → part w.start w.end s ≡ name_at s xs i
  name-said q = said s xs w i 1 q

  pub model-said : w ≡ part_said xs i 2 → part w.start w.end s ≡ model_at s xs i
  model-said q = said s xs w i 2 q
