-- Words past the end of a store, and parts of the file past its end.
use Prim.Native.Nat.{ℕ, ◌-◌, ◌≤◌}
use mathlib.Core.Path.{◌≡◌, refl, sym, ap, ◌∙◌}
use mathlib.Core.List.{List}
use native.Mathlib.Omega.{arith}
use lib.ListN.{length, take, drop, get_or, get_or-eq_default, length-drop, drop_of_length-le}
use lib.Seq.{take-nil, take_all}
use Rattle.laws.specs.Lists.{part}
use Rattle.laws.proofs.Lists.{part-rest}

pub word-past : (ns : List ℕ) (k : ℕ) → length ns ≤ k → 0 ≡ get_or ns k 0
word-past ns k h = sym (get_or-eq_default ns 0 h)

module _ (s : List ℕ) (a e : ℕ) where
  pub part_turned : e ≤ a → part 0 0 s ≡ part a e s
  part_turned h = let z : e - a ≡ 0 = omega arith in rw z refl

  pub part-past : length s ≤ a → part 0 0 s ≡ part a e s
  part-past h = sym (ap (take (e - a)) (drop_of_length-le s h) ∙ take-nil (e - a))

  pub part_cut : length s ≤ e → part a (length s) s ≡ part a e s
  part_cut h = part-rest s a ∙ sym (take_all (e - a) (drop a s) (omega (arith, length-drop a s)))
