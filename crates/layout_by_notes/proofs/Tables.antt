-- An accepted file lies in the tables as noted, and within them: one induction over the texts, for whatever a step keeps.
use Rattle.std.specs.Prelude.{Err, Ok}
use Prim.Native.Nat.{ℕ}
use mathlib.Core.Path.{◌≡◌, refl, sym, ap, subst, ◌∙◌}
use mathlib.Core.List.{List, [], ◌∷◌, map, flat_map, append-nil}
use native.Mathlib.Omega.{arith}
use lib.ListN.{length}
use Rattle.cut_lines.specs.Texts.{Text}
use Rattle.rules.specs.Steps.{on_text}
use Rattle.rules.specs.Reading.{sections_in, file_in}
use Rattle.layout.specs.Laid.{Laid, waveforms_laid, laid_from, laid}
use Rattle.records.specs.declared.Kind.TheVariants.{OfComponent, OfPin, OfSelector, OfChoice, OfModel}
use Rattle.records.specs.declared.Lengths.{Lengths}
use Rattle.rules.specs.declared.Stage.{Stage}
use Rattle.rules.specs.declared.Stage.TheVariants.{BeforeVersion, InHeader, InComponent, InSelector, InModel, AfterEnd}
use Rattle.rules.specs.declared.Event.{Event}
use Rattle.rules.specs.Going.{Went}
use Rattle.records.specs.declared.Fault.{Fault}
use Rattle.notes.specs.Noted.{Log, empty_log, sections, Logged, going, full, logged, Finish, whole, broken, out_of_lines, after_logged, after_went, run_log}
use Rattle.layout_by_notes.specs.Lies.{pick, is_of, noted, component_noted, pin_noted, selector_noted, choice_noted, model_noted, Lies, Bounded, Fits}
use Rattle.layout_by_notes.proofs.Goes.{Goes}
use Rattle.layout_by_notes.proofs.Keys.{Open, closed, open_at, Stepped, text-goes}
use Rattle.layout_by_notes.proofs.Lists.{latest-length, latest-length-only}
use Rattle.layout_by_notes.proofs.Ahead.{none_ahead, ahead}
use Rattle.layout_by_notes.proofs.Counts.{log_after, Room, Kept, kept-after, Counted, none-counted, counted-after, none-bounded, bounded-after, bounded-fits}
use Rattle.layout_by_notes.proofs.Lying.{finished, Filled, Waved, outlook}
use Rattle.layout_by_notes.proofs.Onward.{text-onward}

-- ---- what every step keeps holds at the end

never-whole : (f : Fault) (h g : Log) → broken f h ≡ whole g → ⊥
never-whole f h g e =
    let faults = ap (λ (x : Finish). x.fault) e in
    let z : ◌≡◌ {A = ℕ} 0 1 = cc in
    omega arith

module _ (l : Lengths) (past : ℕ) (P : Open → Log → List Text → Type 0) (g : Log) where
  -- the texts run out: only behind [End] is the file whole
  at-end : (s : Stage) (h : Log) → P (open_at s) h [] → out_of_lines past h s ≡ whole g → P closed g []
  at-end BeforeVersion h p e = absurd (never-whole _ h g e)
  at-end (InHeader s) h p e = absurd (never-whole _ h g e)
  at-end (InComponent s) h p e = absurd (never-whole _ h g e)
  at-end (InSelector s) h p e = absurd (never-whole _ h g e)
  at-end (InModel s) h p e = absurd (never-whole _ h g e)
  at-end AfterEnd h p e = subst (λ (y : Log). P closed y []) (ap (λ (x : Finish). x.log) e) p

  module _ (ts : List Text) (rest : (u : Stage) (h : Log) → P (open_at u) h ts → run_log l past u h ts ≡ whole g → P closed g []) where
    past-logged : (u : Stage) (x : Logged) → Kept (λ (y : Log). P (open_at u) y ts) x
        → after_logged (λ (y : Log). run_log l past u y ts) x ≡ whole g → P closed g []
    past-logged u (going y) p e = rest u y p e
    past-logged u (full f k y) p e = absurd (never-whole _ y g e)

    past-went : (s : Stage) (t : Text) (h : Log) (x : Went) → Goes (λ (u : Stage) (e : Event). Stepped (open_at s) t (open_at u) e) x
        → ((u : Open) (e : Event) → Stepped (open_at s) t u e → Room l h.counts e → P u (log_after h t ts e) ts)
        → after_went l h t ts (λ (u : Stage) (y : Log). run_log l past u y ts) x ≡ whole g → P closed g []
    past-went s t h (Ok (u, e)) y step r =
        past-logged u (logged l h t ts e) (kept-after (λ (z : Log). P (open_at u) z ts) l h t ts e (λ room. step (open_at u) e y room)) r
    past-went s t h (Err f) y step r = absurd (never-whole f h g r)

  kept-to-end : ((o : Open) (t : Text) (u : Open) (e : Event) (h : Log) (ts : List Text)
      → Stepped o t u e → Room l h.counts e → P o h (t ∷ ts) → P u (log_after h t ts e) ts)
      → (ts : List Text) (s : Stage) (h : Log) → P (open_at s) h ts → run_log l past s h ts ≡ whole g → P closed g []
  unfolding run_log
  kept-to-end step [] s h p e = at-end s h p e
  kept-to-end step (t ∷ ts) s h p e =
      past-went ts (kept-to-end step ts) s t h (on_text s t) (text-goes s t) (λ u x y room. step (open_at s) t u x h ts y room p) e

-- ---- the tables

-- behind any text: what the notes say, what is ahead and the sections behind make up all that document 01 reads
record Seen (a : Laid) (o : Open) (h : Log) (ts : List Text) : Type 0 where
  counted : Counted h
  filled : Filled (ahead o ts) h
  waved : Waved (ahead o ts) h
  tables : a ≡ outlook o ts h

seen-on : (a : Laid) (o : Open) (t : Text) (u : Open) (e : Event) (h : Log) (ts : List Text)
    → Stepped o t u e → Seen a o h (t ∷ ts) → Seen a u (log_after h t ts e) ts
seen-on a o t u e h ts y x =
    let on = text-onward y ts h x.counted x.filled x.waved in
    record { counted = counted-after h t ts e x.counted; filled = on.1; waved = on.2; tables = x.tables ∙ on.0 }

lies-at-end : (g : Log) → Counted g → Filled none_ahead g → Waved none_ahead g → Lies g (finished none_ahead g)
unfolding finished noted waveforms_laid flat_map
lies-at-end g c f v =
    let rest : g.counts.rows ≡ length (finished none_ahead g).rows = omega arith in
    let waved : g.counts.waveforms ≡ length (finished none_ahead g).waveforms = omega arith in
    record {
      components = refl;
      pins = append-nil (map pin_noted (noted OfPin g));
      selectors = refl;
      choices = append-nil (map choice_noted (noted OfChoice g));
      models = refl;
      waveforms = refl;
      rows = refl;
      counts =
          λ i.
          record {
            components = (c.components ∙ sym (latest-length component_noted (pick (is_of OfComponent) g.notes))) i;
            pins = (c.pins ∙ sym (latest-length-only pin_noted (pick (is_of OfPin) g.notes))) i;
            selectors = (c.selectors ∙ sym (latest-length selector_noted (pick (is_of OfSelector) g.notes))) i;
            choices = (c.choices ∙ sym (latest-length-only choice_noted (pick (is_of OfChoice) g.notes))) i;
            models = (c.models ∙ sym (latest-length model_noted (pick (is_of OfModel) g.notes))) i;
            waveforms = waved i;
            rows = rest i;
          };
    }

module _ (l : Lengths) (past : ℕ) (ts : List Text) (g : Log) (run : run_log l past BeforeVersion empty_log ts ≡ whole g) where
  -- what document 01 reads from the texts of an accepted file lies in the tables as noted
  pub lies : Lies g (laid (file_in ts))
  unfolding laid file_in laid_from finished noted pick sections waveforms_laid flat_map sections_in
  lies =
      let a : Laid = laid (file_in ts) in
      let first : Seen a closed empty_log ts = record { counted = none-counted; filled = refl; waved = refl; tables = refl } in
      let last : Seen a closed g [] =
      kept-to-end l past (Seen a) g (λ o t u e h rest y room x. seen-on a o t u e h rest y x) ts BeforeVersion empty_log first run
      in
      subst (Lies g) (sym last.tables) (lies-at-end g last.counted last.filled last.waved)

  -- no table is used beyond its bound, and so none beyond what is lent
  pub bounded : Bounded l g.counts
  bounded =
      kept-to-end l past (λ (o : Open) (h : Log) (rest : List Text). Bounded l h.counts) g
      (λ o t u e h rest y room b. bounded-after l h t rest e b room)
      ts BeforeVersion empty_log (none-bounded l) run

  pub fits : Fits l g.counts
  fits = bounded-fits l g.counts bounded
