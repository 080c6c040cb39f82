-- Where a keyword's argument begins: a rest of a list stands where its length says.
use Rattle.std.specs.Prelude.{Option, Some, None, Ok, Err, Result}
use Prim.Native.Nat.{ℕ, ◌+◌, ◌-◌, ◌≤◌}
use Prim.Native.Char.{code}
use mathlib.Core.Path.{◌≡◌, refl, sym, ap, ◌∙◌}
use mathlib.Core.List.{List}
use mathlib.Core.Bool.{Bool, true, false}
use native.Mathlib.Omega.{arith}
use lib.ListN.{length, drop, length-drop, drop_of_length-le}
use lib.Seq.{drop-drop}
use Rattle.laws.specs.Bytes.{is_blank}
use Rattle.laws.specs.Lists.{front, after, other, one_of}
use Rattle.laws.proofs.Tests.{by-test, by_order, cond_yes, cond_no}
use Rattle.laws.proofs.Fronts.{after-at}
use Rattle.name_table.specs.Names.{meaning}
use Rattle.hierarchy.specs.Hierarchy.{hierarchy}
use Rattle.keywords.specs.Form.{closing, is_formed, spelled, inside, argument}
use Rattle.keywords.specs.Carried.{carried}
use Rattle.keywords.specs.Answers.{known, key_read, ArgumentFrom}
use Rattle.keywords.specs.declared.Keyword.{Keyword}
use Rattle.keywords.specs.declared.KeyFault.{KeyFault}
use Rattle.keywords.proofs.Laws.{closing_at}

-- a rest, by its length
rest_at : (w x : List ℕ) (n : ℕ) → x ≡ drop n w → drop (length w - length x) w ≡ x
rest_at w x n e =
    by_order n (length w)
    (λ h.
    let m : length w - length x ≡ n = omega (arith, ap length e, length-drop n w) in
    ap (λ (j : ℕ). drop j w) m ∙ sym e)
    (λ h.
    let l : length w ≤ n = omega arith in
    let k : length w ≤ length w - length x = omega (arith, ap length e, length-drop n w) in
    drop_of_length-le w k ∙ sym (drop_of_length-le w l) ∙ sym e)

argument-rest : (w : List ℕ) → drop (length w - length (argument w)) w ≡ argument w
unfolding argument
argument-rest w =
    let stop : ℕ = 1 + length (front (other (code "]")) (drop 1 w)) in
    let start : ℕ = stop + 1 + length (front is_blank (drop (stop + 1) w)) in
    rest_at w (after is_blank (drop 1 (closing w))) start
    (ap (λ (x : List ℕ). after is_blank (drop 1 x)) (sym (closing_at w stop refl))
    ∙ ap (after is_blank) (drop-drop 1 stop w)
    ∙ after-at is_blank w (stop + 1) start refl)

-- the place in the answer
abbrev place : ℕ → Result (Keyword × ℕ) KeyFault → ℕ
place n (Ok (key, at)) = at
place n (Err f) = n

known-place : (n : ℕ) (listed : Bool) (x : Option Keyword) → place n (known n listed x) ≡ n
known-place n true None = refl
known-place n false None = refl
known-place n listed (Some key) = refl

module _ (w : List ℕ) {key : Keyword} {at : ℕ} (e : key_read w ≡ Ok (key, at)) where
  key-place : at ≡ length w - length (argument w)
  unfolding key_read
  key-place =
      let n : ℕ = length w - length (argument w) in
      sym (ap (place n) e)
      ∙ by-test (is_formed w)
      (λ h. ap (place n) (cond_yes _ _ h) ∙ known-place n (one_of (spelled (inside w)) hierarchy) (meaning (spelled (inside w)) carried))
      (λ h. ap (place n) (cond_no _ _ h))

  -- the place that the code hands on
  pub key-argument : ArgumentFrom w at
  key-argument = record { text = ap (λ (n : ℕ). drop n w) key-place ∙ argument-rest w; within = omega (arith, key-place) }
