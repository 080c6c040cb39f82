-- What holds of a step that goes on: past each check, the rest need hold only where the check passes.
use Rattle.std.specs.Prelude.{Option, Some, None, Err, Ok}
use Prim.Native.Nat.{ℕ}
use mathlib.Core.List.{List}
use mathlib.Core.Bool.{Bool}
use lib.Dec.{eqb}
use Rattle.laws.proofs.Tests.{cond-all}
use Rattle.records.specs.Flaws.{Flaw, told}
use Rattle.records.specs.declared.LineFault.{LineFault}
use Rattle.given.specs.Given.{has, with}
use Rattle.given.specs.declared.Given.{Given}
use Rattle.rules.specs.Going.{stop, stop_at, unless, passes, refuse, quietly, named_line, and_then, Went}
use Rattle.rules.specs.declared.Stage.{Stage}
use Rattle.rules.specs.declared.Event.{Event}
use Rattle.rules.specs.declared.Event.TheVariants.{Quiet}

abbrev pub Goes : (Stage → Event → Type 0) → Went → Type 0
Goes P (Ok (s, e)) = P s e
Goes P (Err f) = Unit {0}

module _ (P : Stage → Event → Type 0) where
  pub past-refuse : (t : Bool) (n k : ℕ) (went : Went) → Goes P went → Goes P (refuse t n k went)
  unfolding refuse
  past-refuse t n k went g = cond-all (Goes P) t (stop n k) went (λ h. tt) (λ h. g)

  pub past-unless : (n k : ℕ) (went : Went) → Goes P went → Goes P (unless n k went)
  unfolding unless
  past-unless n k went g = cond-all (Goes P) (eqb n 0) went (stop n k) (λ h. g) (λ h. tt)

  pub past-passes : (x : LineFault) (k : ℕ) (went : Went) → Goes P went → Goes P (passes x k went)
  unfolding passes
  past-passes x k went g = cond-all (Goes P) (eqb x.number 0) went (stop_at x k) (λ h. g) (λ h. tt)

  pub past-once : (t : Bool) (x : LineFault) (k : ℕ) (s : Stage) → P s Quiet → Goes P (refuse t 8 k (passes x k (quietly s)))
  past-once t x k s p = past-refuse t 8 k _ (past-passes x k (quietly s) p)

  pub past-named : (g : Given) (x : Option ℕ) (y : Flaw) (k : ℕ) (w : List ℕ) (on : Given → Stage) → ((h : Given) → P (on h) Quiet) → Goes P (named_line g x y k w on)
  past-named g None y k w on p = tt
  past-named g (Some i) y k w on p = past-once (has g i) (told w y) k (on (with g i)) (p (with g i))

  -- what a line closes, then the line itself
  pub past-closing : (Q : Stage → Type 0) (f : Stage → Went) (x : Went)
      → Goes (λ (s : Stage) (e : Event). Q s) x → ((s : Stage) → Q s → Goes P (f s)) → Goes P (and_then x f)
  past-closing Q f (Ok (s, e)) q g = g s q
  past-closing Q f (Err y) q g = tt

  pub past_all : (Q : Stage → Event → Type 0) (x : Went) → Goes Q x → ((s : Stage) (e : Event) → Q s e → P s e) → Goes P x
  past_all Q (Ok (s, e)) q g = g s e q
  past_all Q (Err y) q g = tt

pub anywhere : (x : Went) → Goes (λ (s : Stage) (e : Event). Unit {0}) x
anywhere (Ok (s, e)) = tt
anywhere (Err y) = tt
