-- Laws of `specs/Scans.antt`: one text more, by its step and by what it adds.
use Rattle.std.specs.Prelude.{Err, Ok}
use Prim.Native.Nat.{ℕ, ◌≤◌, min}
use mathlib.Core.Path.{◌≡◌, refl, sym, ap, ◌∙◌, subst}
use mathlib.Core.List.{List}
use mathlib.Core.Bool.{Bool, true, false, cond}
use native.Mathlib.Omega.{arith}
use lib.Dec.{eqb, leb}
use lib.ListN.{length}
use Rattle.laws.specs.Lists.{part}
use Rattle.laws.proofs.Tests.{by-test, cond_yes, cond_no, impossible}
use Rattle.records.specs.Flaws.{at_line}
use Rattle.records.specs.declared.Fault.{Fault}
use Rattle.records.specs.declared.LineFault.{LineFault}
use Rattle.cut_lines.specs.Texts.{Text}
use Rattle.cut_lines.specs.Cursors.{rest, past, first_cursor, CleanFrom, Goes, TextIs, ChangeIs, OutIs}
use Rattle.cut_lines.specs.declared.Cursor.{Cursor}
use Rattle.rules.specs.Going.{passes, refuse, quietly, Went}
use Rattle.rules.proofs.Went.{event-of}
use Rattle.rules.specs.Steps.{is_before, is_ended, on_plain, on_change}
use Rattle.rules.specs.Whole.{bound}
use Rattle.records.specs.Bounds.{most_waveforms}
use Rattle.records.specs.declared.Kind.{Kind}
use Rattle.records.specs.declared.Kind.TheVariants.{OfComponent, OfPin, OfSelector, OfChoice, OfModel}
use Rattle.records.specs.declared.Lengths.{Lengths}
use Rattle.rules.specs.declared.Stage.{Stage}
use Rattle.rules.specs.declared.Stage.TheVariants.{BeforeVersion}
use Rattle.rules.specs.declared.Event.{Event}
use Rattle.rules.specs.declared.Event.TheVariants.{Quiet}
use Rattle.rules.specs.declared.Event.TheVariants as event
use Rattle.notes.specs.Noted.{Note, Log, Logged, going, full, with_note, logged, used, broken, out_of_lines, run_log, empty_log, nothing_used}
use Rattle.note_words.specs.Store.{most_names, log_in, notes_to, store_length}
use Rattle.note_words.proofs.Laws.{filed-none}
use Rattle.noted_events.specs.Events.{Told, log_of, logged_at, told_is, Within, KeptCounts, KeptBy, Ready}
use Rattle.file_answer.specs.Scans.{finish_is, text_step, change_step, standing, run_from, Reached, Ground, Sound}
use Rattle.noted_events.specs.declared.Spot.{Spot}
use Rattle.noted_events.specs.declared.Tally.{Tally}
use Rattle.file_answer.specs.declared.Standing.{Standing}

-- ---- a line that cutting leaves

module _ (l : Lengths) (n : ℕ) (s xs ys : List ℕ) (g : Stage) (t : Tally) (p : Spot) where
  pub plain-going : (u : Stage) (e : Event) (v : Tally) → on_plain g p.line (part p.start p.end s) ≡ Ok (u, e) → logged_at l s xs t p e ≡ going (log_of s ys v)
      → text_step l n s xs g t p ≡ run_log l n u (log_of s ys v) (rest s p.next)
  plain-going u e v h k = rw h rw k refl

  pub plain-full : (u : Stage) (e : Event) (f : LineFault) (v : Tally) → on_plain g p.line (part p.start p.end s) ≡ Ok (u, e) → logged_at l s xs t p e ≡ full f p.line (log_of s ys v)
      → text_step l n s xs g t p ≡ broken (at_line p.line f) (log_of s ys v)
  plain-full u e f v h k = rw h rw k refl

  pub plain-stop : (f : Fault) → on_plain g p.line (part p.start p.end s) ≡ Err f → text_step l n s xs g t p ≡ finish_is s xs (record { ending = Err f; tally = t })
  plain-stop f h = rw h refl

-- ---- a line that has no room for what it adds has a fault with a number

abbrev number_of : Logged → ℕ
number_of (going g) = 1
number_of (full f k g) = f.number

numbered-cond : (b : Bool) (x y : Logged) → eqb (number_of x) 0 ≡ false → eqb (number_of y) 0 ≡ false → eqb (number_of (cond b x y)) 0 ≡ false
numbered-cond true x y h k = h
numbered-cond false x y h k = k

numbered-note : (l : Lengths) (g : Log) (n : Note) → eqb (number_of (with_note l g n)) 0 ≡ false
unfolding with_note
numbered-note l g n = numbered-cond (leb (bound l n.kind) (used g.counts n.kind)) _ _ refl refl

-- [End], by the fault of its own line
numbered-end : (k : ℕ) (g : Log) (f : LineFault) → eqb (number_of (cond (eqb f.number 0) (going g) (full f k g))) 0 ≡ false
numbered-end k g f =
    by-test (eqb f.number 0)
    (λ b. ap (λ (x : Logged). eqb (number_of x) 0) (cond_yes _ _ b))
    (λ b. ap (λ (x : Logged). eqb (number_of x) 0) (cond_no _ _ b) ∙ b)

numbered : (l : Lengths) (g : Log) (t : Text) (ts : List Text) (e : Event) → eqb (number_of (logged l g t ts e)) 0 ≡ false
numbered l g t ts event.Quiet = refl
numbered l g t ts (event.Opened o) = numbered-note l g _
numbered l g t ts event.PinRow = numbered-note l g _
numbered l g t ts event.ChoiceRow = numbered-note l g _
numbered l g t ts event.WaveformOpened = numbered-cond (leb (min most_waveforms l.waveforms) g.counts.waveforms) _ _ refl refl
numbered l g t ts event.TableRow = refl
numbered l g t ts (event.Ended f) = numbered-cond (eqb g.counts.components 0) _ _ refl (numbered-end _ g f)

-- ---- a [Comment Char] line adds nothing

stop-on : {X : Type 0} (f : Fault) (u : Stage) (e : Event) → ◌≡◌ {A = Went} (Err f) (Ok (u, e)) → X
stop-on f u e h = impossible (cc)

module _ (u : Stage) (e : Event) where
  quiet-refuse : (t : Bool) (n k : ℕ) (went : Went) → (went ≡ Ok (u, e) → e ≡ Quiet) → refuse t n k went ≡ Ok (u, e) → e ≡ Quiet
  unfolding refuse
  quiet-refuse t n k went q h = by-test t (λ b. stop-on _ u e (sym (cond_yes _ _ b) ∙ h)) (λ b. q (sym (cond_no _ _ b) ∙ h))

  quiet-passes : (f : LineFault) (k : ℕ) (s : Stage) → passes f k (quietly s) ≡ Ok (u, e) → e ≡ Quiet
  unfolding passes
  quiet-passes f k s h =
      by-test (eqb f.number 0)
      (λ b. sym (event-of (sym (cond_yes _ _ b) ∙ h)))
      (λ b. stop-on _ u e (sym (cond_no _ _ b) ∙ h))

  quiet-change : (g : Stage) (k : ℕ) (f : LineFault) → on_change g k f ≡ Ok (u, e) → e ≡ Quiet
  unfolding on_change
  quiet-change g k f =
      quiet-refuse (is_ended g) 7 k _
      (quiet-refuse (eqb f.number 5) 5 k _
      (quiet-refuse (is_before g) 7 k _
      (quiet-passes f k g)))

module _ (l : Lengths) (n : ℕ) (s xs : List ℕ) (g : Stage) (t : Tally) (k : ℕ) (f : LineFault) (c : Cursor) where
  pub change-on : (u : Stage) (e : Event) → on_change g k f ≡ Ok (u, e) → change_step l n s xs g t k f c ≡ run_log l n u (log_of s xs t) (rest s c)
  change-on u e h = rw h rw (quiet-change u e g k f h) refl

  pub change-stop : (x : Fault) → on_change g k f ≡ Err x → change_step l n s xs g t k f c ≡ finish_is s xs (record { ending = Err x; tally = t })
  change-stop x h = rw h refl

-- ---- a turn

pub reached-on : (s : List ℕ) (c n : Cursor) → Goes s c n → Reached s c → Reached s n
reached-on s c n g r = record { counted = sym g.ends ∙ r.counted; clean = g.clean r.clean }

module _ (l : Lengths) (s xs : List ℕ) (x : Standing) where
  pub run-text : (p : Spot) → TextIs s x.cursor p.line p.start p.end p.next → run_from l s xs x ≡ text_step l (past s x.cursor) s xs x.stage x.tally p
  unfolding run_log
  run-text p h = rw h.more refl

  pub run-change : (k : ℕ) (f : LineFault) (n : Cursor) → ChangeIs s x.cursor k f n → run_from l s xs x ≡ change_step l (past s x.cursor) s xs x.stage x.tally k f n
  unfolding run_log
  run-change k f n h = rw h.more refl

  pub run_out : (k : ℕ) → OutIs s x.cursor k → run_from l s xs x ≡ out_of_lines k (log_of s xs x.tally) x.stage
  unfolding run_log
  run_out k h = rw h.more rw h.ends refl

  pub ready : (p : Spot) → Sound s xs x → TextIs s x.cursor p.line p.start p.end p.next → Ready s xs x.tally p
  ready p h t =
      record { cursor = x.cursor; text = t; counted = h.reached.counted; clean = h.reached.clean; small = h.small; store = h.store; within = h.within; filed = h.filed; rows = omega (arith, h.rows, t.from) }

-- ---- from a place on, behind the text that stands there

module _ (l : Lengths) (s xs ys : List ℕ) (g : Stage) (c : Cursor) (t : Tally) (p : Spot) (text : TextIs s c p.line p.start p.end p.next) where
  pub text-going : (u : Stage) (e : Event) (v : Tally) → on_plain g p.line (part p.start p.end s) ≡ Ok (u, e) → logged_at l s xs t p e ≡ going (log_of s ys v)
      → run_from l s xs (standing g c t) ≡ run_from l s ys (standing u p.next v)
  text-going u e v h k =
      run-text l s xs (standing g c t) p text
      ∙ plain-going l (past s c) s xs ys g t p u e v h k
      ∙ ap (λ (m : ℕ). run_log l m u (log_of s ys v) (rest s p.next)) text.goes.ends

  text-full : (u : Stage) (e : Event) (f : LineFault) (v : Tally) → on_plain g p.line (part p.start p.end s) ≡ Ok (u, e) → logged_at l s xs t p e ≡ full f p.line (log_of s ys v)
      → run_from l s xs (standing g c t) ≡ finish_is s ys (record { ending = Err (at_line p.line f); tally = v })
  text-full u e f v h k = run-text l s xs (standing g c t) p text ∙ plain-full l (past s c) s xs ys g t p u e f v h k

  pub text-stop : (f : Fault) → on_plain g p.line (part p.start p.end s) ≡ Err f → run_from l s xs (standing g c t) ≡ finish_is s xs (record { ending = Err f; tally = t })
  text-stop f h = run-text l s xs (standing g c t) p text ∙ plain-stop l (past s c) s xs ys g t p f h

  text-sound : (v : Tally) → Ground s xs c t → length ys ≡ length xs → KeptCounts ys t v → Ground s ys p.next v
  text-sound v h e k =
      record { placed = text.goes.placed; reached = reached-on s c p.next text.goes h.reached; small = h.small; store = omega (arith, e, h.store); within = k.within; filed = k.filed; rows = omega (arith, k.rows, h.rows, text.goes.rises) }

-- as it was noted: q is the text p
module _ (l : Lengths) (s xs ys : List ℕ) (g : Stage) (c : Cursor) (t : Tally) (p q : Spot) (is : q ≡ p) (text : TextIs s c p.line p.start p.end p.next) (r : Told) (e : Event) (noted : logged_at l s xs t q e ≡ told_is s ys q.line r) where
  noted_here : logged_at l s xs t p e ≡ told_is s ys p.line r
  noted_here = subst (λ (z : Spot). logged_at l s xs t z e ≡ told_is s ys z.line r) is noted

  pub noted-going : (u : Stage) (v : Tally) → on_plain g p.line (part p.start p.end s) ≡ Ok (u, e) → r ≡ Ok v → run_from l s xs (standing g c t) ≡ run_from l s ys (standing u p.next v)
  noted-going u v h z = text-going l s xs ys g c t p text u e v h (noted_here ∙ ap (told_is s ys p.line) z)

  pub noted-full : (u : Stage) (f : LineFault) (v : Tally) → on_plain g p.line (part p.start p.end s) ≡ Ok (u, e) → r ≡ Err (f, v)
      → run_from l s xs (standing g c t) ≡ finish_is s ys (record { ending = Err (at_line p.line f); tally = v })
  noted-full u f v h z = text-full l s xs ys g c t p text u e f v h (noted_here ∙ ap (told_is s ys p.line) z)

pub noted-sound : (l : Lengths) (s xs ys : List ℕ) (g : Stage) (c : Cursor) (t : Tally) (p : Spot) → TextIs s c p.line p.start p.end p.next → (r : Told) (v : Tally) → Ground s xs c t → length ys ≡ length xs
    → KeptBy ys t r → r ≡ Ok v → Ground s ys p.next v
noted-sound l s xs ys g c t p text r v h k m z = text-sound l s xs ys g c t p text v h k (subst (KeptBy ys t) z m)

pub noted-names : (xs : List ℕ) (t : Tally) (r : Told) (f : LineFault) (v : Tally) → KeptBy xs t r → r ≡ Err (f, v) → v.names ≤ most_names
noted-names xs t r f v m z = subst (KeptBy xs t) z m

module _ (l : Lengths) (s xs : List ℕ) (g : Stage) (c : Cursor) (t : Tally) (k : ℕ) (f : LineFault) (n : Cursor) (line : ChangeIs s c k f n) where
  pub line_on : (u : Stage) (e : Event) → on_change g k f ≡ Ok (u, e) → run_from l s xs (standing g c t) ≡ run_from l s xs (standing u n t)
  line_on u e h =
      run-change l s xs (standing g c t) k f n line
      ∙ change-on l (past s c) s xs g t k f n u e h
      ∙ ap (λ (m : ℕ). run_log l m u (log_of s xs t) (rest s n)) line.goes.ends

  pub line-stop : (x : Fault) → on_change g k f ≡ Err x → run_from l s xs (standing g c t) ≡ finish_is s xs (record { ending = Err x; tally = t })
  line-stop x h = run-change l s xs (standing g c t) k f n line ∙ change-stop l (past s c) s xs g t k f n x h

  pub line-sound : Ground s xs c t → Ground s xs n t
  line-sound h = record { placed = line.goes.placed; reached = reached-on s c n line.goes h.reached; small = h.small; store = h.store; within = h.within; filed = h.filed; rows = omega (arith, h.rows, line.goes.rises) }

nothing-within : Within (record { names = 0; counts = nothing_used })
nothing-within =
    record { names = refl; components = omega arith; pins = omega arith; selectors = omega arith; choices = omega arith; models = omega arith; waveforms = omega arith }

none-used : (k : Kind) → used nothing_used k ≡ 0
none-used OfComponent = refl
none-used OfPin = refl
none-used OfSelector = refl
none-used OfChoice = refl
none-used OfModel = refl

nothing-logged : (s xs : List ℕ) → log_of s xs (record { names = 0; counts = nothing_used }) ≡ empty_log
unfolding log_in notes_to
nothing-logged s xs = refl

-- ---- at the top

pub first-sound : (s xs : List ℕ) → length s ≤ 65536 → store_length ≤ length xs → CleanFrom s first_cursor
    → Sound s xs (record { stage = BeforeVersion; cursor = first_cursor; tally = record { names = 0; counts = nothing_used } })
first-sound s xs h g k =
    record { placed = record { within = omega arith; lines = omega arith }; reached = record { counted = refl; clean = k }; small = h; store = g; within = nothing-within; filed = filed-none xs nothing_used none-used; rows = omega arith }

pub first_run : (l : Lengths) (s xs : List ℕ) (c : Cursor) (t : Tally) → c ≡ first_cursor → t ≡ record { names = 0; counts = nothing_used }
    → run_log l (past s first_cursor) BeforeVersion empty_log (rest s first_cursor) ≡ run_from l s xs (record { stage = BeforeVersion; cursor = c; tally = t })
first_run l s xs c t e f = rw e rw f rw (nothing-logged s xs) refl
