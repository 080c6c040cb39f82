-- Texts whose steps all go on: they do so under any numbering, also after a renumbering; and where a file passes, they do.
use Rattle.std.specs.Prelude.{Result, Ok, Err}
use Prim.Native.Nat.{ℕ}
use mathlib.Core.Path.{◌≡◌, refl, sym, ap, subst, ◌∙◌}
use mathlib.Core.List.{List, [], ◌∷◌, ◌++◌, map}
use mathlib.Core.Bool.{true, ◌&&◌}
use Rattle.laws.specs.Lists.{all}
use Rattle.laws.proofs.Tests.{and_first, and_second, impossible}
use Rattle.cut_lines.specs.Texts.{Text}
use Rattle.rules.specs.Steps.{on_text}
use Rattle.rules.specs.Reading.{is_within}
use Rattle.rules.specs.Whole.{Held, Outcome, passed, admit, text_of, line_of, after_admission, after_step, runs}
use Rattle.records.specs.declared.Lengths.{Lengths}
use Rattle.records.specs.declared.LineFault.{LineFault}
use Rattle.rules.specs.declared.ModelState.{ModelState}
use Rattle.rules.specs.declared.Stage.{Stage}
use Rattle.rules.specs.declared.Stage.TheVariants.{BeforeVersion, InHeader, InComponent, InSelector, InModel, AfterEnd}
use Rattle.rules.specs.declared.Event.{Event}
use Rattle.rules.specs.Going.{Went}
use Rattle.rules.proofs.Went.{stage-of, event-of}
use Rattle.renumbered.proofs.Stages.{stage_at, went_at}
use Rattle.cut_lines.proofs.Renumbered.{text_at}
use Rattle.renumbered.proofs.Steps.{on-text-at}
use Rattle.demand_three.proofs.Within.{is_in_model, is_of_model, stays, text-stays}

-- from stage s the texts lead to stage v
abbrev pub Walks : Stage → List Text → Stage → Type 0
Walks s [] v = s ≡ v
Walks s (t ∷ ts) v = (u : Stage) × (e : Event) × (on_text s t ≡ Ok (u, e)) × Walks u ts v

-- ---- under another numbering

pub on-back : (f : ℕ → ℕ) (w : Went) (u : Stage) (e : Event) → went_at f w ≡ Ok (u, e) → (o : Stage) × (w ≡ Ok (o, e)) × (u ≡ stage_at f o)
on-back f (Ok (s, d)) u e q = (s, ap (λ (x : Event). Ok (s, x)) (event-of q), sym (stage-of q))
on-back f (Err x) u e q = impossible (cc)

module _ (f : ℕ → ℕ) where
  pub walks-back : (ts : List Text) (s v : Stage) → Walks (stage_at f s) (map (text_at f) ts) v → (o : Stage) × (v ≡ stage_at f o) × Walks s ts o
  walks-back [] s v h = (s, sym h, refl)
  walks-back (t ∷ ts) s v h =
      let b = on-back f (on_text s t) h.0 h.1 (on-text-at f s t ∙ h.2) in
      let r = walks-back ts b.0 v (subst (λ (x : Stage). Walks x (map (text_at f) ts) v) b.2 h.3) in
      (r.0, r.1, (b.0, h.1, b.1, r.2))

-- ---- within a model

pub in-model : (s : Stage) → is_in_model s ≡ true → (m : ModelState) × (s ≡ InModel m)
in-model BeforeVersion h = impossible (cc)
in-model (InHeader x) h = impossible (cc)
in-model (InComponent c) h = impossible (cc)
in-model (InSelector s) h = impossible (cc)
in-model (InModel m) h = (m, refl)
in-model AfterEnd h = impossible (cc)

-- a step that goes on stays in the model, and adds what a model's line may add
pub step_stays : (m : ModelState) (t : Text) (u : Stage) (e : Event) → is_within t ≡ true → on_text (InModel m) t ≡ Ok (u, e)
    → (is_in_model u && is_of_model e) ≡ true
step_stays m t u e h q = sym (ap stays q) ∙ text-stays m t h

pub walks-model : (ts : List Text) (m : ModelState) (v : Stage) → all is_within ts ≡ true → Walks (InModel m) ts v → (n : ModelState) × (v ≡ InModel n)
unfolding all
walks-model [] m v a h = (m, sym h)
walks-model (t ∷ ts) m v a h =
    let b = in-model h.0 (and_first _ _ (step_stays m t h.0 h.1 (and_first _ _ a) h.2)) in
    walks-model ts b.0 v (and_second (is_within t) _ a) (subst (λ (x : Stage). Walks x ts v) b.1 h.3)

-- ---- where a file passes

abbrev pub Onward : (Stage → Held → Outcome) → Held → Stage → Type 0
Onward go z u = (g : Held) × (go u g ≡ passed z)

admission-passed : (k : ℕ) (go : Held → Outcome) (a : Result Held LineFault) (z : Held) → after_admission k go a ≡ passed z → (g : Held) × (go g ≡ passed z)
admission-passed k go (Ok h) z q = (h, q)
admission-passed k go (Err x) z q = impossible (cc)

pub step-passed : (l : Lengths) (h : Held) (t : Text) (go : Stage → Held → Outcome) (w : Went) (z : Held) → after_step l h t go w ≡ passed z
    → (u : Stage) × (e : Event) × (w ≡ Ok (u, e)) × Onward go z u
step-passed l h t go (Ok (u, e)) z q = (u, e, refl, admission-passed (line_of t) (go u) (admit l h (line_of t) (text_of t) e) z q)
step-passed l h t go (Err x) z q = impossible (cc)

pub walked : (l : Lengths) (past : ℕ) (ts us : List Text) (s : Stage) (h z : Held) → runs l past s h (ts ++ us) ≡ passed z
    → (u : Stage) × Walks s ts u × Onward (λ (v : Stage) (g : Held). runs l past v g us) z u
unfolding runs
walked l past [] us s h z q = (s, refl, (h, q))
walked l past (t ∷ ts) us s h z q =
    let b = step-passed l h t (λ (u : Stage) (g : Held). runs l past u g (ts ++ us)) (on_text s t) z q in
    let r = walked l past ts us b.0 b.3.0 z b.3.1 in
    (r.0, (b.0, b.1, b.2, r.1), r.2)
