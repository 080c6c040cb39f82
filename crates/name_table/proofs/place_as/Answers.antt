-- The place among the names from k on is that among all: the laws on a turn, with the next name of those lent.
use Prim.Native.Nat.{ℕ, ◌<◌}
use mathlib.Core.Path.{◌≡◌, sym, ap, ◌∙◌}
use mathlib.Core.List.{List, [], map}
use native.Mathlib.Omega.{arith}
use lib.ListN.{length, get_or, get_or-map, length-map}
use denote.Bor.{Bor}
use Rattle.words.specs.Words.{word}
use Rattle.words.specs.Spelled.{byte_as}
use Rattle.name_table.specs.Listed.{names_in}
use Rattle.name_table.proofs.Laws.{turn-none, turn-here, turn-later}
use Rattle.name_table.proofs.place_as.Goals as goal

module _ (items : List (Bor (List ℕ))) (ns : List (List ℕ)) (e : map (λ n. n.now) items ≡ ns) where
  as-many : length ns ≡ length items
  as-many = sym (ap length e) ∙ length-map items _

  named : (k : ℕ) → (get_or items k (record { ref_ptr = (0, 0); now = [] })).now ≡ word k ns
  unfolding word
  named k = sym (get_or-map (λ n. n.now) items k _) ∙ ap (λ (l : List (List ℕ)). get_or l k []) e

pub returns-then-same_name : goal.returns-then-same_name
returns-then-same_name c =
    let k = c.loop-k.k in
    let e = c.names_in-name-items.ensures in
    let here : k < length (names_in c.args.list) = omega (arith, c.loop-k-test.true, as-many _ _ e) in
    sym (turn-here (map (byte_as c.args.how) c.args.w.now) _ k here _ (named _ _ e k) _ c.same_name.ensures c.if-same_name.true) ∙ c.loop-k.invariant

pub loop-k-preserved : goal.loop-k-preserved
loop-k-preserved c =
    let k = c.loop-k.k in
    let e = c.names_in-name-items.ensures in
    let here : k < length (names_in c.args.list) = omega (arith, c.loop-k-test.true, as-many _ _ e) in
    sym (turn-later (map (byte_as c.args.how) c.args.w.now) _ k here _ (named _ _ e k) _ c.same_name.ensures c.if-same_name.false) ∙ c.loop-k.invariant

pub returns : goal.returns
returns c =
    let k = c.loop-k.k in
    let e = c.names_in-name-items.ensures in
    sym (turn-none (map (byte_as c.args.how) c.args.w.now) (names_in c.args.list) k (omega (arith, c.loop-k-test.false, as-many _ _ e))) ∙ c.loop-k.invariant
