-- A line's place in a table of names is the place of one name alone: two names at one place are the name that stands there.
use Rattle.std.specs.Prelude.{Ok, Some, None}
use Prim.Native.Nat.{ℕ}
use Prim.Native.String.{String}
use mathlib.Core.Path.{◌≡◌, refl, sym, ap, ◌∙◌}
use mathlib.Core.List.{List, [], ◌∷◌, ◌++◌}
use mathlib.Core.Bool.{false, cond}
use lib.Dec.{eqb}
use borrow.Author.Tests.{eq-eqb, ne_eqb}
use Rattle.laws.specs.Bytes.{bytes}
use Rattle.laws.specs.Lists.{eqs}
use Rattle.laws.specs.Said.{or_else}
use Rattle.laws.proofs.Tests.{by-test, never, impossible}
use Rattle.laws.proofs.Same.{eqs-refl, eqs-eq}
use Rattle.words.specs.Words.{words}
use Rattle.records.specs.Flaws.{Reads}
use Rattle.name_table.specs.Names.{place_from}
use Rattle.name_table.proofs.Laws.{stands_at}
use Rattle.line_rules.specs.Fields.{name_of, is_named, line_at, takes, line_says}

at-is : (j k : ℕ) → Some j ≡ Some k → j ≡ k
at-is j k e = cc

absent : {X : Type 0} (k : ℕ) → None ≡ Some k → X
absent k e = let z : ◌≡◌ {A = ℕ} 0 1 = cc in impossible z

-- a name at the place of another is that one: the name that stands there
place_same : (w x : List ℕ) (ns : List (List ℕ)) (k : ℕ) → place_from 0 w ns ≡ Some k → place_from 0 x ns ≡ Some k → w ≡ x
place_same w x ns k e f = (stands_at w ns k e).1 ∙ sym (stands_at x ns k f).1

at_same : (k j : ℕ) (w x : List ℕ) (ns : List (List ℕ)) → place_from 0 w ns ≡ Some k → place_from 0 x ns ≡ Some j → eqs w x ≡ eqb k j
at_same k j w x ns e f =
    by-test (eqs w x)
    (λ q.
    let same : k ≡ j = at-is k j (sym e ∙ ap (λ (l : List ℕ). place_from 0 l ns) (eqs-eq w x q) ∙ f) in
    q ∙ sym (eq-eqb k j same))
    (λ q. q ∙ sym (ne_eqb k j (λ z. never (eqs w x) (ap (eqs w) (sym (place_same w x ns k e (f ∙ ap Some (sym z)))) ∙ eqs-refl w) q)))

-- ---- a line at a place has the name of that place, and no other of the table's

pub named-at : (table name : String) (w : List ℕ) (k j : ℕ) → line_at table w ≡ Some k → place_from 0 (bytes name) (words (bytes table)) ≡ Some j
    → is_named name w ≡ eqb k j
unfolding line_at is_named
named-at table name w k j e f = at_same k j (name_of w) (bytes name) (words (bytes table)) e f

-- and a line without a place has none of them
pub named-nothing : (table name : String) (w : List ℕ) (j : ℕ) → line_at table w ≡ None → place_from 0 (bytes name) (words (bytes table)) ≡ Some j
    → is_named name w ≡ false
unfolding line_at is_named
named-nothing table name w j e f =
    by-test (eqs (name_of w) (bytes name))
    (λ q. absent j (sym e ∙ ap (λ (l : List ℕ). place_from 0 l (words (bytes table))) (eqs-eq (name_of w) (bytes name) q) ∙ f))
    (λ q. q)

-- ---- what a line says at its place

module _ {A : Type 0} (name : String) (read : List ℕ → Reads A) (x : A) (w : List ℕ) where
  pub takes_at : {v : A} (table : String) (k j : ℕ) → line_at table w ≡ Some k → place_from 0 (bytes name) (words (bytes table)) ≡ Some j → read w ≡ Ok v
      → takes name read x w ≡ cond (eqb k j) v x
  unfolding takes
  takes_at {v} table k j e f q = rw (named-at table name w k j e f, q)

  -- whether it has a fault or none
  pub takes-place : (table : String) (k j : ℕ) → line_at table w ≡ Some k → place_from 0 (bytes name) (words (bytes table)) ≡ Some j
      → takes name read x w ≡ cond (eqb k j) (or_else x (read w)) x
  unfolding takes
  takes-place table k j e f = rw (named-at table name w k j e f)

  -- a line without a place changes nothing
  pub takes-nothing : (table : String) (j : ℕ) → line_at table w ≡ None → place_from 0 (bytes name) (words (bytes table)) ≡ Some j → takes name read x w ≡ x
  unfolding takes
  takes-nothing table j e f = rw (named-nothing table name w j e f)

pub says-append : {A : Type 0} (name : String) (read : List ℕ → Reads A) (x : A) (ls ks : List (List ℕ))
    → line_says name read x (ls ++ ks) ≡ line_says name read (line_says name read x ls) ks
unfolding line_says
says-append name read x [] ks = refl
says-append name read x (w ∷ ls) ks = says-append name read (takes name read x w) ls ks
