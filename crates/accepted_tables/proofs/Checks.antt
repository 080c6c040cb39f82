-- What is known of a step that goes on: each of its checks passed. And that where a file passes, every step goes on.
use Rattle.std.specs.Prelude.{Result, Ok, Err, Option, Some, None}
use Prim.Native.Nat.{ℕ}
use mathlib.Core.Path.{◌≡◌, refl, subst}
use mathlib.Core.List.{List, [], ◌∷◌}
use mathlib.Core.Bool.{Bool, true, false, cond}
use lib.Dec.{eqb}
use Rattle.laws.specs.Lists.{front}
use Rattle.keywords.specs.declared.Keyword.{Keyword}
use borrow.Author.Tests.{eqb-true}
use Rattle.laws.proofs.Tests.{by-test, cond-all, impossible}
use Rattle.cut_lines.specs.Texts.{Text}
use Rattle.given.specs.Given.{has, with}
use Rattle.given.specs.declared.Given.{Given}
use Rattle.rules.specs.Going.{stop, stop_at, unless, passes, refuse, quietly, once, named_line, Went}
use Rattle.rules.specs.Steps.{is_ended, on_text}
use Rattle.rules.specs.Whole.{Held, Outcome, passed, refused, admit, text_of, line_of, after_admission, after_step, runs}
use Rattle.records.specs.Flaws.{Flaw, told}
use Rattle.records.specs.declared.LineFault.{LineFault}
use Rattle.records.specs.declared.Lengths.{Lengths}
use Rattle.rules.specs.Reading.{is_within}
use Rattle.rules.specs.Keys.{key_at, is_end}
use Rattle.rules.proofs.Keys.{within-key}
use Rattle.rules.specs.declared.Stage.{Stage}
use Rattle.rules.specs.declared.Event.{Event}
use Rattle.rules.specs.declared.Event.TheVariants.{Quiet}
use Rattle.layout_by_notes.proofs.Goes.{Goes}
use Rattle.accepted_tables.specs.Fallbacks.{Flawless}

module _ (P : Stage → Event → Type 0) where
  pub past-refuse : (t : Bool) (n k : ℕ) (went : Went) → (t ≡ false → Goes P went) → Goes P (refuse t n k went)
  unfolding refuse
  past-refuse t n k went g = cond-all (Goes P) t (stop n k) went (λ h. tt) g

  pub past-unless : (n k : ℕ) (went : Went) → (n ≡ 0 → Goes P went) → Goes P (unless n k went)
  unfolding unless
  past-unless n k went g = cond-all (Goes P) (eqb n 0) went (stop n k) (λ h. g (eqb-true n 0 h)) (λ h. tt)

  pub past-passes : (x : LineFault) (k : ℕ) (went : Went) → (x.number ≡ 0 → Goes P went) → Goes P (passes x k went)
  unfolding passes
  past-passes x k went g = cond-all (Goes P) (eqb x.number 0) went (stop_at x k) (λ h. g (eqb-true x.number 0 h)) (λ h. tt)

  pub past-once : (g : Given) (i : ℕ) (x : LineFault) (k : ℕ) (on : Given → Stage) → (has g i ≡ false → x.number ≡ 0 → P (on (with g i)) Quiet) → Goes P (once g i x k on)
  past-once g i x k on p = past-refuse (has g i) 8 k _ (λ h. past-passes x k (quietly (on (with g i))) (λ f. p h f))

  pub past-named : (g : Given) (x : Option ℕ) (y : Flaw) (k : ℕ) (w : List ℕ) (on : Given → Stage)
      → ((i : ℕ) → x ≡ Some i → has g i ≡ false → Flawless y → P (on (with g i)) Quiet) → Goes P (named_line g x y k w on)
  past-named g None y k w on p = tt
  past-named g (Some i) y k w on p = past-once g i (told w y) k on (p i refl)

  pub gone : (x : Went) (u : Stage) (e : Event) → Goes P x → x ≡ Ok (u, e) → P u e
  gone x u e g q = subst (Goes P) q g

-- ---- every step goes on, up to [End]

abbrev pub Passes : Stage → List Text → Type 0
Passes s [] = is_ended s ≡ true
Passes s (t ∷ ts) = (u : Stage) × (e : Event) × (on_text s t ≡ Ok (u, e)) × Passes u ts

-- and what each line adds is admitted, h being what the file holds so far
abbrev pub Runs : Lengths → Held → Stage → List Text → Type 0
Runs l h s [] = is_ended s ≡ true
Runs l h s (t ∷ ts) = (u : Stage) × (e : Event) × (on_text s t ≡ Ok (u, e)) × (g : Held) × (admit l h (line_of t) (text_of t) e ≡ Ok g) × Runs l g u ts

pub runs-pass : (l : Lengths) (ts : List Text) (h : Held) (s : Stage) → Runs l h s ts → Passes s ts
runs-pass l [] h s r = r
runs-pass l (t ∷ ts) h s r = (r.0, r.1, r.2, runs-pass l ts r.3 r.0 r.5)

ended : (past : ℕ) (s : Stage) (h z : Held) → cond (is_ended s) (passed h) (refused 19 past 0) ≡ passed z → is_ended s ≡ true
ended past s h z q =
    by-test (is_ended s) (λ t. t) (λ t. let e : refused 19 past 0 ≡ passed z = rw t at q in impossible (cc))

admitted : (k : ℕ) (go : Held → Outcome) (a : Result Held LineFault) (z : Held) → after_admission k go a ≡ passed z → (g : Held) × (a ≡ Ok g) × (go g ≡ passed z)
admitted k go (Ok g) z q = (g, refl, q)
admitted k go (Err x) z q = impossible (cc)

pub stepped : (l : Lengths) (h : Held) (t : Text) (go : Stage → Held → Outcome) (w : Went) (z : Held) → after_step l h t go w ≡ passed z
    → (u : Stage) × (e : Event) × (w ≡ Ok (u, e)) × (g : Held) × (admit l h (line_of t) (text_of t) e ≡ Ok g) × (go u g ≡ passed z)
stepped l h t go (Ok (u, e)) z q =
    let a = admitted (line_of t) (go u) (admit l h (line_of t) (text_of t) e) z q in
    (u, e, refl, a.0, a.1, a.2)
stepped l h t go (Err f) z q = impossible (cc)

pub runs_on : (l : Lengths) (past : ℕ) (ts : List Text) (s : Stage) (h z : Held) → runs l past s h ts ≡ passed z → Runs l h s ts
unfolding runs
runs_on l past [] s h z q = ended past s h z q
runs_on l past (t ∷ ts) s h z q =
    let b = stepped l h t (λ (u : Stage) (g : Held). runs l past u g ts) (on_text s t) z q in
    (b.0, b.1, b.2, b.3, b.4, runs_on l past ts b.0 b.3 z b.5)

-- ---- a section's texts: those up to a keyword that ends it

pub inside : (t : Text) (ts : List Text) {x : Option Keyword} → key_at t ≡ x → is_end x ≡ false → front is_within (t ∷ ts) ≡ t ∷ front is_within ts
unfolding front
inside t ts e h = rw (within-key t, e, h)

pub outside : (t : Text) (ts : List Text) {x : Option Keyword} → key_at t ≡ x → is_end x ≡ true → front is_within (t ∷ ts) ≡ []
unfolding front
outside t ts e h = rw (within-key t, e, h)
