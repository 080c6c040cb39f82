-- A section that is accepted somewhere is sound: its keyword names a model, its texts all go on, and what they leave open can be closed. All
-- this with its lines numbered from 0, so that it holds wherever the section stands.
use Rattle.std.specs.Prelude.{Ok, Err}
use Prim.Native.Nat.{ℕ, ◌+◌}
use Prim.Native.Char.{code}
use mathlib.Core.Path.{◌≡◌, refl, sym, ap, subst, ◌∙◌}
use mathlib.Core.List.{List, [], ◌∷◌, ◌++◌, map}
use mathlib.Core.Bool.{true, false}
use native.Mathlib.Omega.{arith}
use lib.ListN.{length}
use Rattle.laws.specs.Lists.{all}
use Rattle.laws.proofs.Tests.{and_first, and_second, impossible}
use Rattle.laws.proofs.Fronts.{all_first, all-second}
use Rattle.lines.specs.Lines.{Physical, lines_of, bytes_fault, cut}
use Rattle.cut_lines.specs.Texts.{Text, plain, texts_from}
use Rattle.rules.proofs.Outcomes.{bytes-passed, concluded-passed, loaded-passes}
use Rattle.rules.specs.Going.{stop, and_then, Went}
use Rattle.rules.specs.Model.{new_model}
use Rattle.rules.specs.Steps.{on_plain}
use Rattle.rules.specs.Reading.{is_key, is_within}
use Rattle.rules.specs.Whole.{Held, nothing_held, passed, runs, texts_of, outcome}
use Rattle.records.specs.declared.Lengths.{Lengths}
use Rattle.records.specs.declared.Lending.{Lending}
use Rattle.rules.specs.declared.ModelState.{ModelState}
use Rattle.rules.specs.declared.Stage.{Stage}
use Rattle.rules.specs.declared.Stage.TheVariants.{BeforeVersion, InModel}
use Rattle.rules.specs.declared.Event.{Event}
use Rattle.rules.specs.declared.Event.TheVariants.{Opened}
use Rattle.rules.proofs.Went.{stage-of}
use Rattle.keywords.specs.declared.Section.TheVariants.{Model}
use Rattle.cut_lines.specs.InForce.{char_after_line}
use Rattle.demand_three.specs.Lines.{text_on, is_model_section}
use Rattle.demand_three.specs.Demand.{Stands, AcceptedFile}
use Rattle.renumbered.proofs.Stages.{stage_at}
use Rattle.cut_lines.proofs.Renumbered.{text_at, texts-map}
use Rattle.demand_three.proofs.Closing.{close, close_at, alone, Closer, misplaced, closes, closer, model-ends, model-key, alone-anywhere}
use Rattle.demand_three.proofs.Texts.{key-text, anywhere, within-numberless}
use Rattle.demand_three.proofs.Walks.{Walks, on-back, walks-back, walks-model, walked}
use Rattle.lines.proofs.Clean.{is_clean, clean-file}
use Rattle.demand_three.proofs.Split.{split}

-- ---- a file that passes

pub record Passing (l : Lengths) (s : List ℕ) : Type 0 where
  pub clean : bytes_fault s ≡ Ok tt
  pub held : Held
  pub runs_on : runs l (length (lines_of s) + 1) BeforeVersion nothing_held (texts_of s) ≡ passed held

pub passing : (l : Lending) (s : List ℕ) → AcceptedFile l s → Passing l.tables s
unfolding outcome
passing l s a =
    let b = bytes-passed _ (bytes_fault s) a.held (loaded-passes l s a.held a.passes) in
    let r = concluded-passed _ a.held b.1 in
    record { clean = b.0; held = r.0; runs_on = r.1 }

-- ---- the lines that a section's keyword and the keyword straight after it close

then-on : (w o : Went) (s : Stage) (e : Event) → and_then w (λ (t : Stage). o) ≡ Ok (s, e) → ((u : Stage) × (d : Event) × (w ≡ Ok (u, d))) × (o ≡ Ok (s, e))
then-on (Ok (u, d)) o s e q = ((u, d, refl), q)
then-on (Err x) o s e q = impossible (cc)

-- such a line that goes on closes what is open, as it would at line j, and goes on by itself
pub went_on : (j : ℕ) (s : Stage) (k : ℕ) (w : List ℕ) (u : Stage) (e : Event) → is_within (plain 0 w) ≡ false → on_plain s k w ≡ Ok (u, e)
    → ((v : Stage) × (d : Event) × (close j s ≡ Ok (v, d))) × (alone k w ≡ Ok (u, e))
went_on j s k w u e h q = by (closer s k w h)
  where
    by : Closer s k w → ((v : Stage) × (d : Event) × (close j s ≡ Ok (v, d))) × (alone k w ≡ Ok (u, e))
    by (misplaced x) = let z : stop 7 k ≡ Ok (u, e) = sym x ∙ q in impossible (cc)
    by (closes x) = then-on (close j s) (alone k w) u e (sym (x j) ∙ q)

-- ---- a section's texts in a file that passes: its keyword, with text w at line k, opens a model, the others walk, and what they leave closes

record Passed (w : List ℕ) (body : List Text) (k : ℕ) : Type 0 where
  opened : (i : ℕ) → alone i w ≡ Ok (InModel (new_model i), Opened Model)
  left : Stage
  walks : Walks (InModel (new_model k)) body left
  stage : Stage
  event : Event
  shuts : close k left ≡ Ok (stage, event)

passed-section : (l : Lengths) (past k j : ℕ) (w next : List ℕ) (body rest : List Text) (s : Stage) (h z : Held)
    → is_key "model" (plain 0 w) ≡ true → is_within (plain 0 next) ≡ false
    → runs l past s h (plain k w ∷ (body ++ (plain j next ∷ rest))) ≡ passed z → Passed w body k
passed-section l past k j w next body rest s h z m e q =
    let r = walked l past (plain k w ∷ body) (plain j next ∷ rest) s h z q in
    let n = walked l past (plain j next ∷ []) rest r.0 r.2.0 z r.2.1 in
    let key = went_on k s k w r.1.0 r.1.1 (model-ends (plain 0 w) m) r.1.2 in
    let shut = went_on k r.0 j next n.1.0 n.1.1 e n.1.2 in
    let opens_at : (i : ℕ) → alone i w ≡ Ok (InModel (new_model i), Opened Model) = λ i. alone-anywhere k i w r.1.0 r.1.1 (model-key 0 w m) key.1 in
    record {
      opened = opens_at;
      left = r.0;
      walks = subst (λ (x : Stage). Walks x body r.0) (stage-of (sym key.1 ∙ opens_at k)) r.1.3;
      stage = shut.0.0;
      event = shut.0.1;
      shuts = shut.0.2;
    }

-- ---- what does not hang on where the section stands

pub record Sound (c : ℕ) (first : Physical) (others : List Physical) : Type 0 where
  pub opened : (k : ℕ) → alone k (cut c first.bytes) ≡ Ok (InModel (new_model k), Opened Model)
  pub last : ModelState
  pub walks : Walks (InModel (new_model 0)) (texts_from (char_after_line c first) 1 others) (InModel last)
  pub stage : Stage
  pub event : Event
  pub shuts : close 0 (InModel last) ≡ Ok (stage, event)
  pub clean : all is_clean (first ∷ others) ≡ true

module _ (c : ℕ) (first : Physical) (others : List Physical) (h : is_model_section c (first ∷ others) ≡ true) where
  opens-model : is_key "model" (text_on c first) ≡ true
  unfolding is_model_section
  opens-model = and_first _ _ h

  pub key-ends : is_within (text_on c first) ≡ false
  key-ends = model-ends (text_on c first) opens-model

  -- the keyword's text
  pub key-model : is_key "model" (plain 0 (cut c first.bytes)) ≡ true
  key-model = sym (ap (is_key "model") (key-text c first key-ends)) ∙ opens-model

  pub body-within : (k : ℕ) → all is_within (texts_from (char_after_line c first) k others) ≡ true
  unfolding is_model_section
  body-within k = anywhere (all is_within) within-numberless (char_after_line c first) k 1 others ∙ and_second (is_key "model" (text_on c first)) _ h

  -- ---- numbered from 0, and at line k

  body_at : (k : ℕ) → map (text_at (λ n. n + k)) (texts_from (char_after_line c first) 1 others) ≡ texts_from (char_after_line c first) (k + 1) others
  body_at k = texts-map (λ n. n + k) (char_after_line c first) 1 (k + 1) others (λ i q. omega arith)

  new-at : (k : ℕ) → stage_at (λ n. n + k) (InModel (new_model 0)) ≡ InModel (new_model k)
  new-at k = let e : 0 + k ≡ k = omega arith in ap (λ (n : ℕ). InModel (new_model n)) e

  sound-at : (k : ℕ) → Passed (cut c first.bytes) (texts_from (char_after_line c first) (k + 1) others) k → all is_clean (first ∷ others) ≡ true → Sound c first others
  sound-at k p q =
      let f : ℕ → ℕ = λ n. n + k in
      let origin = texts_from (char_after_line c first) 1 others in
      let back = walks-back f origin (InModel (new_model 0)) p.left
      (subst (λ (x : Stage). Walks x (map (text_at f) origin) p.left) (sym (new-at k))
      (subst (λ (ts : List Text). Walks (InModel (new_model k)) ts p.left) (sym (body_at k)) p.walks)) in
      let final = walks-model origin (new_model 0) back.0 (body-within 1) back.2 in
      let left : p.left ≡ stage_at f (InModel final.0) = back.1 ∙ ap (stage_at f) final.1 in
      let zeroth : 0 + k ≡ k = omega arith in
      let shut = on-back f (close 0 (InModel final.0)) p.stage p.event
      (close_at f 0 (InModel final.0) ∙ ap (close (0 + k)) (sym left) ∙ ap (λ (j : ℕ). close j p.left) zeroth ∙ p.shuts) in
      record {
        opened = p.opened;
        last = final.0;
        walks = subst (λ (x : Stage). Walks (InModel (new_model 0)) origin x) final.1 back.2;
        stage = shut.0;
        event = p.event;
        shuts = shut.1;
        clean = q;
      }

  pub sound : (l : Lending) (s : List ℕ) → Stands c (first ∷ others) s → AcceptedFile l s → Sound c first others
  sound l s p a =
      let k = length p.before + 1 in
      let past = length (lines_of s) + 1 in
      let r = passing l s a in
      let sp = split c first others s key-ends p in
      let before = walked l.tables past (texts_from (code "|") 1 p.before) _ BeforeVersion nothing_held r.held (rw sp.texts at r.runs_on) in
      sound-at k
      (passed-section l.tables past k _ (cut c first.bytes) sp.next _ sp.rest before.0 before.2.0 r.held key-model sp.ends before.2.1)
      (all-second is_clean p.before (first ∷ others) (all_first is_clean (p.before ++ (first ∷ others)) p.after (rw p.lines at (clean-file s r.clean))))
