-- A reading with its lines numbered anew: stages and steps, and how the checks of one line go through that.
use Rattle.std.specs.Prelude.{Option, Some, None, Err, Ok}
use Prim.Native.Nat.{ℕ}
use mathlib.Core.Path.{◌≡◌, refl}
use mathlib.Core.List.{List}
use mathlib.Core.Bool.{Bool}
use lib.Dec.{eqb}
use Rattle.laws.proofs.Tests.{cond_map}
use Rattle.records.specs.Flaws.{Flaw}
use Rattle.records.specs.declared.Fault.{Fault}
use Rattle.records.specs.declared.LineFault.{LineFault}
use Rattle.given.specs.declared.Given.{Given}
use Rattle.rules.specs.Going.{stop, stop_at, unless, passes, refuse, named_line, and_then, Went}
use Rattle.rules.specs.declared.HeaderState.{HeaderState}
use Rattle.rules.specs.declared.ComponentList.{ComponentList}
use Rattle.rules.specs.declared.ComponentList.TheVariants.{ComponentFirst, ComponentShut, PackageLines, PinRows}
use Rattle.rules.specs.declared.ComponentState.{ComponentState}
use Rattle.rules.specs.declared.SelectorState.{SelectorState}
use Rattle.rules.specs.declared.ModelList.{ModelList}
use Rattle.rules.specs.declared.ModelList.TheVariants.{ModelFirst, ModelShut, CurrentRows, RampLines, WaveformRows}
use Rattle.rules.specs.declared.ModelState.{ModelState}
use Rattle.rules.specs.declared.Stage.{Stage}
use Rattle.rules.specs.declared.Stage.TheVariants.{BeforeVersion, InHeader, InComponent, InSelector, InModel, AfterEnd}

-- ---- f is the new number of each line

abbrev pub header_at : (ℕ → ℕ) → HeaderState → HeaderState
header_at f h = record { line = f h.line; text = h.text; parts = h.parts }

abbrev pub component_list_at : (ℕ → ℕ) → ComponentList → ComponentList
component_list_at f ComponentFirst = ComponentFirst
component_list_at f ComponentShut = ComponentShut
component_list_at f (PackageLines o g) = PackageLines (f o) g
component_list_at f (PinRows o long any) = PinRows (f o) long any

abbrev pub component_at : (ℕ → ℕ) → ComponentState → ComponentState
component_at f c = record { line = f c.line; first = c.first; parts = c.parts; list = component_list_at f c.list }

abbrev pub selector_at : (ℕ → ℕ) → SelectorState → SelectorState
selector_at f s = record { line = f s.line; any = s.any }

abbrev pub model_list_at : (ℕ → ℕ) → ModelList → ModelList
model_list_at f ModelFirst = ModelFirst
model_list_at f ModelShut = ModelShut
model_list_at f (CurrentRows o r) = CurrentRows (f o) r
model_list_at f (RampLines o g) = RampLines (f o) g
model_list_at f (WaveformRows o g r) = WaveformRows (f o) g r

abbrev pub model_at : (ℕ → ℕ) → ModelState → ModelState
model_at f m =
    record { line = f m.line; first = m.first; kind = m.kind; vinl = m.vinl; vinh = m.vinh; parts = m.parts; waveforms = m.waveforms; list = model_list_at f m.list }

abbrev pub stage_at : (ℕ → ℕ) → Stage → Stage
stage_at f BeforeVersion = BeforeVersion
stage_at f (InHeader h) = InHeader (header_at f h)
stage_at f (InComponent c) = InComponent (component_at f c)
stage_at f (InSelector s) = InSelector (selector_at f s)
stage_at f (InModel m) = InModel (model_at f m)
stage_at f AfterEnd = AfterEnd

abbrev pub fault_at : (ℕ → ℕ) → Fault → Fault
fault_at f x = record { number = x.number; line = f x.line; column = x.column }

abbrev pub went_at : (ℕ → ℕ) → Went → Went
went_at f (Ok (s, e)) = Ok (stage_at f s, e)
went_at f (Err x) = Err (fault_at f x)

-- ---- the checks of one line

module _ (f : ℕ → ℕ) where
  pub unless-at : (n k : ℕ) (w : Went) → went_at f (unless n k w) ≡ unless n (f k) (went_at f w)
  unfolding unless
  unless-at n k w = cond_map (went_at f) (eqb n 0) w (stop n k)

  pub passes_at : (x : LineFault) (k : ℕ) (w : Went) → went_at f (passes x k w) ≡ passes x (f k) (went_at f w)
  unfolding passes
  passes_at x k w = cond_map (went_at f) (eqb x.number 0) w (stop_at x k)

  pub refuse-at : (t : Bool) (n k : ℕ) (w : Went) → went_at f (refuse t n k w) ≡ refuse t n (f k) (went_at f w)
  unfolding refuse
  refuse-at t n k w = cond_map (went_at f) t (stop n k) w

  pub named-at : (g : Given) (x : Option ℕ) (y : Flaw) (k : ℕ) (w : List ℕ) (on on_at : Given → Stage) → ((h : Given) → stage_at f (on h) ≡ on_at h)
      → went_at f (named_line g x y k w on) ≡ named_line g x y (f k) w on_at
  named-at g None y k w on on_at q = refl
  named-at g (Some i) y k w on on_at q = simp (refuse-at, passes_at, q)

  pub then_at : (w : Went) (g h : Stage → Went) → ((s : Stage) → went_at f (g s) ≡ h (stage_at f s)) → went_at f (and_then w g) ≡ and_then (went_at f w) h
  then_at (Ok (s, e)) g h q = q s
  then_at (Err x) g h q = refl
