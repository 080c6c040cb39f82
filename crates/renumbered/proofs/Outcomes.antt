-- The outcome under a new numbering of lines: it is the same, and what it tells is numbered anew. By induction over the texts; what is named is looked up by
-- names and kinds alone.
use Rattle.std.specs.Prelude.{Result, Ok, Err}
use Prim.Native.Nat.{ℕ, ◌+◌, min}
use mathlib.Core.Path.{◌≡◌, refl, sym, ap, ◌∙◌}
use mathlib.Core.List.{List, [], ◌∷◌, map, reverse_aux, reverse}
use mathlib.Core.Bool.{Bool, cond, ◌||◌}
use lib.Dec.{eqb, leb}
use Rattle.laws.specs.Lists.{front}
use Rattle.laws.proofs.Tests.{cond_map}
use Rattle.laws.proofs.Fronts.{front-map}
use Rattle.line_rules.specs.Fields.{needs_no_model}
use Rattle.keywords.specs.declared.Section.TheVariants.{Component, Selector, Model}
use Rattle.records.specs.Flaws.{bare}
use Rattle.records.specs.Bounds.{most_waveforms}
use Rattle.records.specs.declared.Kind.{Kind}
use Rattle.records.specs.declared.Kind.TheVariants.{OfComponent, OfPin, OfSelector, OfChoice, OfModel}
use Rattle.records.specs.declared.LineFault.{LineFault}
use Rattle.records.specs.declared.Lengths.{Lengths}
use Rattle.cut_lines.specs.Texts.{Text, plain, change}
use Rattle.cut_lines.proofs.Renumbered.{text_at}
use Rattle.rules.specs.Steps.{is_ended, on_text}
use Rattle.rules.specs.Outline.{Entry, is, is_model_or_selector, named, lists, count, is_used, is_found, is_listed, first_failing}
use Rattle.rules.specs.Whole.{Held, nothing_held, Outcome, passed, refused, bound, admit_entry, admit, line_of, text_of, after_admission, after_step, runs, last_checks, concluded}
use Rattle.rules.specs.declared.Stage.{Stage}
use Rattle.rules.specs.declared.Stage.TheVariants.{BeforeVersion, InHeader, InComponent, InSelector, InModel, AfterEnd}
use Rattle.rules.specs.declared.Event.{Event}
use Rattle.rules.specs.declared.Event.TheVariants.{Quiet, Opened, PinRow, ChoiceRow, WaveformOpened, TableRow, Ended}
use Rattle.rules.specs.Going.{Went}
use Rattle.renumbered.proofs.Stages.{stage_at, went_at}
use Rattle.renumbered.proofs.Steps.{on-text-at}
use Rattle.renumbered.proofs.Told.{entry_at, held_at, outcome_at}

abbrev admitted_at : (ℕ → ℕ) → Result Held LineFault → Result Held LineFault
admitted_at f (Ok h) = Ok (held_at f h)
admitted_at f (Err x) = Err x

conds-map : {X Y : Type 0} (g : X → Y) (s t : Bool) (a b c : X) → g (cond s a (cond t b c)) ≡ cond s (g a) (cond t (g b) (g c))
conds-map g s t a b c = cond_map g s a (cond t b c) ∙ ap (cond s (g a)) (cond_map g t b c)

-- a line's number stays one: 0, which is no line's, is kept apart
pub record Numbering (f : ℕ → ℕ) : Type 0 where
  pub none : f 0 ≡ 0
  pub apart : (k : ℕ) → eqb (f k) 0 ≡ eqb k 0

module _ (f : ℕ → ℕ) where
  -- ---- what is named

  module _ (p : Entry → Bool) (blind : (e : Entry) → p (entry_at f e) ≡ p e) where
    named-at : (n : List ℕ) (es : List Entry) → named p n (map (entry_at f) es) ≡ named p n es
    unfolding named
    named-at n [] = refl
    named-at n (e ∷ es) = rw (blind e, named-at n es)

    lists_at : (n : List ℕ) (es : List Entry) → lists p n (map (entry_at f) es) ≡ lists p n es
    unfolding lists
    lists_at n [] = refl
    lists_at n (e ∷ es) = rw (blind e, lists_at n es)

    count_at : (es : List Entry) → count p (map (entry_at f) es) ≡ count p es
    unfolding count
    count_at [] = refl
    count_at (e ∷ es) = rw (blind e, count_at es)

    front-named-at : (n : List ℕ) (es : List Entry) → named p n (front p (map (entry_at f) es)) ≡ named p n (front p es)
    front-named-at n es = ap (named p n) (front-map p p (entry_at f) blind es) ∙ named-at n (front p es)

  used-at : (k : Kind) (n : List ℕ) (es : List Entry) → is_used k n (map (entry_at f) es) ≡ is_used k n es
  used-at OfComponent n es = named-at (is OfComponent) (λ e. refl) n es
  used-at OfPin n es = front-named-at (is OfPin) (λ e. refl) n es
  used-at OfSelector n es = named-at is_model_or_selector (λ e. refl) n es
  used-at OfChoice n es = front-named-at (is OfChoice) (λ e. refl) n es
  used-at OfModel n es = named-at is_model_or_selector (λ e. refl) n es

  found_at : (es : List Entry) (e : Entry) (k : Kind) → is_found (map (entry_at f) es) (entry_at f e) k ≡ is_found es e k
  found_at es e OfComponent = refl
  found_at es e OfPin = ap (λ (t : Bool). needs_no_model e.names || t) (named-at is_model_or_selector (λ x. refl) e.names es)
  found_at es e OfSelector = refl
  found_at es e OfChoice = named-at (is OfModel) (λ x. refl) e.names es
  found_at es e OfModel = refl

  listed_at : (es : List Entry) (e : Entry) (k : Kind) → is_listed (map (entry_at f) es) (entry_at f e) k ≡ is_listed es e k
  listed_at es e OfComponent = refl
  listed_at es e OfPin = refl
  listed_at es e OfSelector = lists_at (is OfPin) (λ x. refl) e.name es
  listed_at es e OfChoice = refl
  listed_at es e OfModel = rw (lists_at (is OfPin) (λ x. refl) e.name es, lists_at (is OfChoice) (λ x. refl) e.name es)

  -- ---- what a line adds

  module _ (l : Lengths) (h : Held) where
    admit-entry-at : (e : Entry) → admit_entry l (held_at f h) (entry_at f e) ≡ admitted_at f (admit_entry l h e)
    unfolding admit_entry
    admit-entry-at e =
        rw (used-at e.kind e.name h.entries, count_at (is e.kind) (λ x. refl) h.entries)
        (sym (conds-map (admitted_at f) (is_used e.kind e.name h.entries) (leb (bound l e.kind) (count (is e.kind) h.entries)) _ _ _))

    admit-at : (k : ℕ) (w : List ℕ) (e : Event) → admit l (held_at f h) (f k) w e ≡ admitted_at f (admit l h k w e)
    admit-at k w Quiet = refl
    admit-at k w (Opened Component) = admit-entry-at _
    admit-at k w (Opened Selector) = admit-entry-at _
    admit-at k w (Opened Model) = admit-entry-at _
    admit-at k w PinRow = admit-entry-at _
    admit-at k w ChoiceRow = admit-entry-at _
    admit-at k w WaveformOpened = sym (cond_map (admitted_at f) (leb (min most_waveforms l.waveforms) h.waveforms) (Err (bare 17)) (Ok (record { entries = h.entries; waveforms = h.waveforms + 1 })))
    admit-at k w TableRow = refl
    admit-at k w (Ended x) =
        rw (count_at (is OfComponent) (λ y. refl) h.entries)
        (sym (conds-map (admitted_at f) (eqb (count (is OfComponent) h.entries) 0) (eqb x.number 0) _ _ _))

  -- ---- lines from the top

  admission-at : (k : ℕ) (go go_at : Held → Outcome) → ((h : Held) → go_at (held_at f h) ≡ outcome_at f (go h)) → (r : Result Held LineFault)
      → after_admission (f k) go_at (admitted_at f r) ≡ outcome_at f (after_admission k go r)
  admission-at k go go_at q (Ok h) = q h
  admission-at k go go_at q (Err x) = refl

  line-at : (t : Text) → line_of (text_at f t) ≡ f (line_of t)
  line-at (plain k w) = refl
  line-at (change k x) = refl

  text_at_lem : (t : Text) → text_of (text_at f t) ≡ text_of t
  text_at_lem (plain k w) = refl
  text_at_lem (change k x) = refl

  step-at : (l : Lengths) (h : Held) (t : Text) (go go_at : Stage → Held → Outcome) → ((s : Stage) (g : Held) → go_at (stage_at f s) (held_at f g) ≡ outcome_at f (go s g)) → (w : Went)
      → after_step l (held_at f h) (text_at f t) go_at (went_at f w) ≡ outcome_at f (after_step l h t go w)
  step-at l h t go go_at q (Ok (s, e)) =
      rw (line-at t, text_at_lem t, admit-at l h (line_of t) (text_of t) e) (admission-at (line_of t) (go s) (go_at (stage_at f s)) (q s) (admit l h (line_of t) (text_of t) e))
  step-at l h t go go_at q (Err x) = refl

  ended_at : (s : Stage) → is_ended (stage_at f s) ≡ is_ended s
  ended_at BeforeVersion = refl
  ended_at (InHeader h) = refl
  ended_at (InComponent c) = refl
  ended_at (InSelector s) = refl
  ended_at (InModel m) = refl
  ended_at AfterEnd = refl

  pub runs-at : (l : Lengths) (past : ℕ) (s : Stage) (h : Held) (ts : List Text) → runs l (f past) (stage_at f s) (held_at f h) (map (text_at f) ts) ≡ outcome_at f (runs l past s h ts)
  unfolding runs
  runs-at l past s h [] = rw (ended_at s) (sym (cond_map (outcome_at f) (is_ended s) _ _))
  runs-at l past s h (t ∷ ts) =
      ap (after_step l (held_at f h) (text_at f t) _) (sym (on-text-at f s t)) ∙ step-at l h t _ _ (λ u g. runs-at l past u g ts) (on_text s t)

  -- ---- the last checks

  module _ (numbering : Numbering f) where
    failing-at : (p q : Entry → Bool) → ((e : Entry) → q (entry_at f e) ≡ p e) → (es : List Entry) → first_failing q (map (entry_at f) es) ≡ f (first_failing p es)
    unfolding first_failing
    failing-at p q same [] = sym numbering.none
    failing-at p q same (e ∷ es) = rw (same e, failing-at p q same es) (sym (cond_map f (p e) _ _))

    checks-at : (es : List Entry) (done : Outcome) → last_checks (map (entry_at f) es) (outcome_at f done) ≡ outcome_at f (last_checks es done)
    unfolding last_checks
    checks-at es done =
        let missing = first_failing (λ e. is_found es e e.kind) es in
        let unlisted = first_failing (λ e. is_listed es e e.kind) es in
        rw (failing-at (λ e. is_found es e e.kind) (λ e. is_found (map (entry_at f) es) e e.kind) (λ e. found_at es e e.kind) es, failing-at (λ e. is_listed es e e.kind) (λ e. is_listed (map (entry_at f) es) e e.kind) (λ e. listed_at es e e.kind) es, numbering.apart missing, numbering.apart unlisted)
        (sym (cond_map (outcome_at f) (eqb missing 0) _ _ ∙ ap (λ (o : Outcome). cond (eqb missing 0) o (refused 15 (f missing) 0)) (cond_map (outcome_at f) (eqb unlisted 0) _ _)))

    reverse-at : (es rs : List Entry) → reverse_aux (map (entry_at f) es) (map (entry_at f) rs) ≡ map (entry_at f) (reverse_aux es rs)
    reverse-at [] rs = refl
    reverse-at (e ∷ es) rs = reverse-at es (e ∷ rs)

    concluded-at : (o : Outcome) → concluded (outcome_at f o) ≡ outcome_at f (concluded o)
    concluded-at (passed h) = ap (λ (es : List Entry). last_checks es (passed (held_at f h))) (reverse-at h.entries []) ∙ checks-at (reverse h.entries) (passed h)
    concluded-at (refused n k c) = refl

    -- of a file that is checked, from its first text on
    pub whole-at : (l : Lengths) (past : ℕ) (ts : List Text)
        → concluded (runs l (f past) BeforeVersion nothing_held (map (text_at f) ts)) ≡ outcome_at f (concluded (runs l past BeforeVersion nothing_held ts))
    whole-at l past ts = ap concluded (runs-at l past BeforeVersion nothing_held ts) ∙ concluded-at (runs l past BeforeVersion nothing_held ts)
