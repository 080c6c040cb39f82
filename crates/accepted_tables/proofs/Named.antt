-- Named lines, each at most once: what was given has been read. A line is at the place of its own name alone.
use Rattle.std.specs.Prelude.{Ok, Some}
use Prim.Native.Nat.{ℕ}
use Prim.Native.String.{String}
use mathlib.Core.Path.{◌≡◌, sym, ap, subst, ◌∙◌}
use mathlib.Core.List.{List}
use mathlib.Core.Bool.{true, false}
use lib.Dec.{eqb}
use borrow.Author.Tests.{eqb-true, eqb-false}
use Rattle.laws.specs.Bytes.{bytes}
use Rattle.records.specs.Flaws.{Reads}
use Rattle.laws.proofs.Tests.{by-test, cond_yes, cond_no, never}
use Rattle.words.specs.Words.{words}
use Rattle.name_table.specs.Names.{place_from}
use Rattle.line_rules.specs.Fields.{line_at, takes}
use Rattle.line_rules.proofs.Places.{named-at, takes_at}
use Rattle.given.specs.Given.{none_given, has, with, has_found, gave}
use Rattle.given.specs.declared.Given.{Given}
use Rattle.given.proofs.Laws.{has-none, has_other}

module _ (table name : String) (j : ℕ) (placed : place_from 0 (bytes name) (words (bytes table)) ≡ Some j) where
  gave-place : (g : Given) → gave g table name ≡ has g j
  unfolding gave
  gave-place g = ap (has_found g) placed

  pub gave-none : {X : Type 0} → gave none_given table name ≡ true → X
  gave-none h = absurd (never (gave none_given table name) h (gave-place none_given ∙ has-none j))

  pub gave-other : (g : Given) (i : ℕ) → eqb i j ≡ false → gave (with g i) table name ≡ gave g table name
  gave-other g i h = gave-place (with g i) ∙ has_other g j i (λ e. eqb-false i j h (sym e)) ∙ sym (gave-place g)

  module _ {A : Type 0} (read : List ℕ → Reads A) (x : A) (w : List ℕ) (i : ℕ) (at : line_at table w ≡ Some i) where
    pub takes-other : eqb i j ≡ false → takes name read x w ≡ x
    unfolding takes
    takes-other h = cond_no _ _ (named-at table name w i j at placed ∙ h)

    pub takes-own : {v : A} → eqb i j ≡ true → read w ≡ Ok v → takes name read x w ≡ v
    takes-own {v} h q = takes_at name read x w table i j at placed q ∙ cond_yes v x h

    -- what has been given has Q, a line more
    pub taken-on : (Q : A → Type 0) (g : Given) → (i ≡ j → (v : A) × (read w ≡ Ok v) × Q v)
        → (gave g table name ≡ true → Q x) → gave (with g i) table name ≡ true → Q (takes name read x w)
    taken-on Q g own so h =
        by-test (eqb i j)
        (λ t. let v = own (eqb-true i j t) in subst Q (sym (takes-own t v.1)) v.2)
        (λ t. subst Q (sym (takes-other t)) (so (sym (gave-other g i t) ∙ h)))
