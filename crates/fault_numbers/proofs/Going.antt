-- How the checks of one line follow each other: where each tells a step's number, so does what they come to.
use Rattle.std.specs.Prelude.{Option, None, Some, Err, Ok}
use Prim.Native.Nat.{ℕ}
use mathlib.Core.Path.{◌≡◌, refl}
use mathlib.Core.List.{List, [], ◌∷◌}
use mathlib.Core.Bool.{Bool, true, cond}
use lib.Dec.{eqb}
use Rattle.laws.specs.Lists.{all, among}
use Rattle.laws.proofs.Tests.{cond-all}
use Rattle.records.specs.Flaws.{Flaw, told}
use Rattle.records.specs.declared.Fault.{Fault}
use Rattle.records.specs.declared.LineFault.{LineFault}
use Rattle.given.specs.Given.{has, with}
use Rattle.given.specs.declared.Given.{Given}
use Rattle.rules.specs.Going.{unless, passes, refuse, quietly, named_line, and_then, Went}
use Rattle.rules.specs.Steps.{within}
use Rattle.rules.specs.declared.Stage.{Stage}
use Rattle.rules.specs.declared.Event.{Event}
use Rattle.fault_numbers.specs.Numbers.{of_steps, leaves, is_step}
use Rattle.laws.proofs.Known.{Known, listed, other-known, more-known}
use Rattle.fault_numbers.proofs.Flaws.{Marks}

-- one of a step's numbers, or 0 for no fault
abbrev pub Checks : ℕ → Type 0
Checks n = Known (0 ∷ of_steps) n

pub data Tells : Went → Type 0 where
  stops : {f : Fault} → Known of_steps f.number → Tells (Err f)
  goes : {s : Stage} {e : Event} → Known (0 ∷ 10 ∷ []) (leaves e) → Tells (Ok (s, e))

pub step_is : {x : Went} → Tells x → is_step x ≡ true
step_is (stops (listed h)) = h
step_is (goes (listed h)) = h

pub quiet : {s : Stage} → Tells (quietly s)
unfolding among
quiet = goes (listed refl)

pub either-tells : (t : Bool) {a b : Went} → Tells a → Tells b → Tells (cond t a b)
either-tells t {a} {b} p q = cond-all Tells t a b (λ h. p) (λ h. q)

pub refuse-tells : (t : Bool) {n : ℕ} (k : ℕ) {x : Went} → Known of_steps n → Tells x → Tells (refuse t n k x)
unfolding refuse
refuse-tells t k p q = either-tells t (stops p) q

check-tells : (f : Fault) {x : Went} → Checks f.number → Tells x → Tells (cond (eqb f.number 0) x (Err f))
check-tells f {x} p q = cond-all Tells (eqb f.number 0) x (Err f) (λ h. q) (λ h. stops (other-known f.number 0 h p))

pub unless-tells : {n : ℕ} (k : ℕ) {x : Went} → Checks n → Tells x → Tells (unless n k x)
unfolding unless
unless-tells {n} k p q = check-tells (record { number = n; line = k; column = 0 }) p q

pub passes-tells : (f : LineFault) (k : ℕ) {x : Went} → Checks f.number → Tells x → Tells (passes f k x)
unfolding passes
passes-tells f k p q = check-tells (record { number = f.number; line = k; column = f.column }) p q

-- a line's flaw
pub flaw-tells : (f : Flaw) (k : ℕ) (w : List ℕ) {x : Went} → Marks f → Tells x → Tells (passes (told w f) k x)
unfolding all among
flaw-tells f k w p q = passes-tells (told w f) k (more-known refl p) q

-- `once` as it unfolds: 8 if it was given, else its flaw
pub once-tells : (given : Bool) (f : Flaw) (k : ℕ) (w : List ℕ) (s : Stage) → Marks f → Tells (refuse given 8 k (passes (told w f) k (quietly s)))
unfolding among
once-tells given f k w s p = refuse-tells given k (listed refl) (flaw-tells f k w p quiet)

pub named-tells : (g : Given) (x : Option ℕ) (f : Flaw) (k : ℕ) (w : List ℕ) (on : Given → Stage) → Marks f → Tells (named_line g x f k w on)
unfolding among
named-tells g None f k w on p = stops (listed refl)
named-tells g (Some i) f k w on p = once-tells (has g i) f k w (on (with g i)) p

pub then-tells : {x : Went} {go : Stage → Went} → Tells x → ((s : Stage) → Tells (go s)) → Tells (and_then x go)
then-tells (goes {s = s} p) q = q s
then-tells (stops p) q = stops p

-- 7 out of place
pub within-tells : {A : Type 0} (k : ℕ) (x : Option A) {go : A → Went} → ((a : A) → Tells (go a)) → Tells (within k x go)
unfolding among
within-tells k None p = stops (listed refl)
within-tells k (Some a) p = p a
