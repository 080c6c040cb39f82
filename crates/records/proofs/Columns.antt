-- What a line tells of a flaw: the column of its place; and what `told_in` keeps.
use Rattle.std.specs.Prelude.{Result, Ok, Err}
use Prim.Native.Nat.{ℕ, ◌+◌, ◌-◌, ◌≤◌}
use mathlib.Core.Path.{◌≡◌, refl, ap, ◌∙◌}
use mathlib.Core.List.{List}
use native.Mathlib.Omega.{arith}
use lib.ListN.{length, drop, length-drop}
use lib.Dec.{leb}
use borrow.Author.Tests.{le-leb}
use Rattle.laws.specs.Said.{or_else, read_on}
use Rattle.laws.proofs.Tests.{cond_yes, and_both}
use Rattle.records.specs.Flaws.{Reads, flaw, flaw_in, sound, said_at, column_in, told, told_in, bare, at_place, said_there, line_fault_in}

-- 10, 11 and 12 are told where the rest begins
pub told_at : (w : List ℕ) (n p : ℕ) → 10 ≤ n → n ≤ 12 → p ≤ length w → told w (flaw n (drop p w)) ≡ at_place n p
unfolding column_in
told_at w n p a b h =
    let there : length w - length (drop p w) + 1 ≡ p + 1 = omega (arith, length-drop p w) in
    ap (λ (c : ℕ). record { number = n; column = c }) (cond_yes _ _ (and_both (leb 10 n) (leb n 12) (le-leb 10 n a) (le-leb n 12 b)) ∙ there)

pub told-sound : (w : List ℕ) → told w sound ≡ bare 0
unfolding column_in
told-sound w = refl

-- the fault of what is told is what is told of the flaw
pub told-fault : {A : Type 0} (w : List ℕ) (r : Reads A) → line_fault_in (told_in w r) ≡ told w (flaw_in r)
unfolding column_in
told-fault w (Ok a) = refl
told-fault w (Err f) = refl

-- what is said stays
pub told-else : {A : Type 0} (w : List ℕ) (a : A) (r : Reads A) → or_else a (told_in w r) ≡ or_else a r
told-else w a (Ok b) = refl
told-else w a (Err f) = refl

-- what is read on
pub told-on : {A B : Type 0} (w : List ℕ) (r : Reads A) (go : A → Reads B) → told_in w (read_on r go) ≡ read_on (told_in w r) (λ a. told_in w (go a))
told-on w (Ok a) go = refl
told-on w (Err f) go = refl

-- ---- a word, of which all faults are 10, 11 or 12

abbrev pub Columned : ℕ → Type 0
Columned n = (10 ≤ n) × (n ≤ 12)

abbrev pub Columns : {A : Type 0} → Result A ℕ → Type 0
Columns (Ok a) = Unit {0}
Columns (Err n) = Columned n

pub told-word : {A : Type 0} (w : List ℕ) (p : ℕ) (r : Result A ℕ) → Columns r → p ≤ length w → told_in w (said_at (drop p w) r) ≡ said_there p r
told-word w p (Ok a) k h = refl
told-word w p (Err n) k h = ap Err (told_at w n p k.0 k.1 h)
