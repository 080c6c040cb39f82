-- What is noted of a file that passes: every name has passed its check, and stands on a line. Step by step, by what each line gives.
use Rattle.std.specs.Prelude.{Result, Ok, Err}
use Prim.Native.Nat.{ℕ, ◌+◌, ◌≤◌}
use Prim.Native.Char.{code}
use mathlib.Core.Path.{◌≡◌, refl, sym, ap, subst, ◌∙◌}
use mathlib.Core.List.{List, [], ◌∷◌}
use mathlib.Core.Bool.{Bool, true, false, not, ◌&&◌}
use native.Mathlib.Omega.{arith}
use lib.ListN.{length}
use lib.Dec.{eqb, leb}
use borrow.Author.Tests.{leb-true}
use Rattle.laws.specs.Said.{Said, or_else}
use Rattle.laws.specs.Lists.{Every}
use Rattle.laws.proofs.Tests.{by-test, cond-all, cond_yes, cond_no, and_first, and_second, impossible}
use Rattle.words.specs.Words.{word, words}
use Rattle.lines.specs.Lines.{Physical, lines_of, cut}
use Rattle.keywords.specs.Form.{argument}
use Rattle.keywords.specs.Carried.{key_of}
use Rattle.keywords.specs.declared.Keyword.{Keyword}
use Rattle.keywords.specs.declared.Keyword.TheVariants as key
use Rattle.keywords.specs.declared.Section.{Section}
use Rattle.keywords.specs.declared.Section.TheVariants.{Component, Selector, Model}
use Rattle.keywords.specs.declared.HeaderPart.{HeaderPart}
use Rattle.keywords.specs.declared.ComponentPart.{ComponentPart}
use Rattle.keywords.specs.declared.ModelPart.{ModelPart}
use Rattle.cut_lines.specs.Change.{is_change, change_of}
use Rattle.cut_lines.specs.Texts.{Text, plain, change, onto_texts, texts_from}
use Rattle.line_rules.specs.Fields.{is_bracketed, is_sized, is_pin_name, is_model_name, needs_no_model, is_no_model, line_at, row_of}
use Rattle.line_rules.specs.Tables.{component_lines, package_lines, model_lines, ramp_lines, fixtures}
use Rattle.given.specs.declared.Given.{Given}
use Rattle.records.specs.declared.Row.{Row}
use Rattle.records.specs.declared.Lengths.{Lengths}
use Rattle.records.specs.declared.Kind.{Kind}
use Rattle.records.specs.declared.Kind.TheVariants.{OfComponent, OfPin, OfSelector, OfChoice, OfModel}
use Rattle.rules.specs.Header.{version, header_part, header_line}
use Rattle.rules.specs.Component.{pin_flaw, component_line, component_part}
use Rattle.rules.specs.Selector.{selector_line}
use Rattle.rules.specs.Model.{with_parts, model_opens, begins_letter, row_line, waveform_line, model_line, model_place, single_part, waveform_part, model_part}
use Rattle.rules.specs.Steps.{header_of, component_of, model_of, shut, done, opened, within, on_version, on_keyword, keyed, on_line, on_plain, on_change, on_text, is_ended}
use Rattle.rules.specs.Whole.{text_of, line_of, texts_of}
use Rattle.rules.specs.declared.RowsSeen.{RowsSeen}
use Rattle.rules.specs.declared.ComponentList.{ComponentList}
use Rattle.rules.specs.declared.ComponentList.TheVariants.{ComponentFirst, ComponentShut, PackageLines, PinRows}
use Rattle.rules.specs.declared.ComponentState.{ComponentState}
use Rattle.rules.specs.declared.ModelList.{ModelList}
use Rattle.rules.specs.declared.ModelList.TheVariants.{ModelFirst, ModelShut, CurrentRows, RampLines, WaveformRows}
use Rattle.rules.specs.declared.ModelState.{ModelState}
use Rattle.rules.specs.declared.Stage.{Stage}
use Rattle.rules.specs.declared.Stage.TheVariants.{BeforeVersion, InHeader, InComponent, InSelector, InModel, AfterEnd}
use Rattle.rules.specs.declared.Event.{Event}
use Rattle.rules.specs.declared.Event.TheVariants.{Quiet, Opened, PinRow, ChoiceRow, WaveformOpened, TableRow, Ended}
use Rattle.rules.specs.Going.{Went}
use Rattle.notes.specs.Noted.{Note, Log, empty_log, Logged, going, full, logged, Finish, whole, broken, out_of_lines, after_logged, after_went, run_log}
use Rattle.layout_by_notes.proofs.Goes.{Goes, past-once as past-quiet, past-closing, anywhere}
use Rattle.layout_by_notes.proofs.Counts.{log_after, Kept, kept-after}
use Rattle.records.specs.Flaws.{told, told_in, bare, at_line}
use Rattle.records.specs.declared.Fault.{Fault}
use Rattle.records.specs.declared.LineFault.{LineFault}
use Rattle.accepted_tables.specs.Fallbacks.{Flawless}
use Rattle.accepted_tables.proofs.Checks.{past-refuse, past-passes, past-once, past-named}
use Rattle.accepted_tables.proofs.Faults.{word-passes, alone-passes, sized-passes}

-- ---- a line's event, w being its text: its name has passed

abbrev Named : List ℕ → Event → Type 0
Named w Quiet = Unit {0}
Named w (Opened Component) = is_sized 40 (argument w) ≡ true
Named w (Opened Selector) = is_model_name (word 0 (words (argument w))) ≡ true
Named w (Opened Model) = is_model_name (word 0 (words (argument w))) ≡ true
Named w PinRow = is_pin_name (word 0 (words w)) ≡ true
Named w ChoiceRow = is_model_name (word 0 (words w)) ≡ true
Named w WaveformOpened = Unit {0}
Named w TableRow = Unit {0}
Named w (Ended f) = Unit {0}

-- the stage that it leaves: [End] alone ends the file
abbrev Leaves : Stage → Event → Type 0
Leaves u Quiet = is_ended u ≡ false
Leaves u (Opened o) = is_ended u ≡ false
Leaves u PinRow = is_ended u ≡ false
Leaves u ChoiceRow = is_ended u ≡ false
Leaves u WaveformOpened = is_ended u ≡ false
Leaves u TableRow = is_ended u ≡ false
Leaves u (Ended f) = Unit {0}

abbrev pub Names : List ℕ → Stage → Event → Type 0
Names w u e = Named w e × Leaves u e

pub pin-named : (long : Bool) (w : List ℕ) → Flawless (pin_flaw long w) → is_pin_name (word 0 (words w)) ≡ true
unfolding pin_flaw
pin-named long w h = by-test (is_pin_name (word 0 (words w))) (λ t. t) (λ t. let e : 10 ≡ 0 = rw t at h in absurd (omega arith))

component-goes : (c : ComponentState) (k : ℕ) (w : List ℕ) (l : ComponentList) → Goes (Names w) (component_line c k w l)
component-goes c k w ComponentFirst = past-named (Names w) c.first (line_at component_lines w) _ k w _ (λ i a h f. (tt, refl))
component-goes c k w ComponentShut = tt
component-goes c k w (PackageLines o g) = past-named (Names w) g (line_at package_lines w) _ k w _ (λ i a h f. (tt, refl))
component-goes c k w (PinRows o long any) = past-passes (Names w) (told w (pin_flaw long w)) k _ (λ f. (pin-named long w f, refl))

row_goes : (w : List ℕ) (on : RowsSeen → ModelList) (m : ModelState) (r : RowsSeen) (k : ℕ) (x : Result Row LineFault) → Goes (Names w) (row_line on m r k x)
row_goes w on m r k (Err f) = tt
row_goes w on m r k (Ok y) = past-refuse (Names w) _ 13 k _ (λ h. (tt, refl))

waveform-goes : (m : ModelState) (o : ℕ) (g : Given) (r : RowsSeen) (k : ℕ) (w : List ℕ) → Goes (Names w) (waveform_line m o g r k w)
unfolding waveform_line
waveform-goes m o g r k w =
    cond-all (Goes (Names w)) (begins_letter (word 0 (words w))) _ _
    (λ b. past-refuse (Names w) _ 7 k _ (λ z. past-named (Names w) g (line_at fixtures w) _ k w _ (λ i a h f. (tt, refl))))
    (λ b. row_goes w (WaveformRows o g) m r k (told_in w (row_of w)))

model-goes : (m : ModelState) (k : ℕ) (w : List ℕ) (l : ModelList) → Goes (Names w) (model_line m k w l)
model-goes m k w ModelFirst = past-named (Names w) m.first (line_at model_lines w) _ k w _ (λ i a h f. (tt, refl))
model-goes m k w ModelShut = tt
model-goes m k w (CurrentRows o r) = row_goes w (CurrentRows o) m r k (told_in w (row_of w))
model-goes m k w (RampLines o g) = past-named (Names w) g (line_at ramp_lines w) _ k w _ (λ i a h f. (tt, refl))
model-goes m k w (WaveformRows o g r) = waveform-goes m o g r k w

line-goes : (s : Stage) (k : ℕ) (w : List ℕ) → Goes (Names w) (on_line s k w)
unfolding header_line selector_line
line-goes BeforeVersion k w = tt
line-goes (InHeader h) k w = cond-all (Goes (Names w)) h.text _ _ (λ e. (tt, refl)) (λ e. tt)
line-goes (InComponent c) k w = component-goes c k w c.list
line-goes (InSelector s) k w = past-passes (Names w) _ k _ (λ h. (word-passes is_model_name w h, refl))
line-goes (InModel m) k w = model-goes m k w m.list
line-goes AfterEnd k w = tt

-- ---- keywords

module _ (k : ℕ) (w : List ℕ) where
  opened-goes : (o : Section) → Goes (Names w) (opened k w o)
  unfolding opened
  opened-goes Component = past-passes (Names w) _ k _ (λ h. (sized-passes (argument w) h, refl))
  opened-goes Selector = past-passes (Names w) _ k _ (λ h. (alone-passes is_model_name (argument w) h, refl))
  opened-goes Model = past-passes (Names w) _ k _ (λ h. (alone-passes is_model_name (argument w) h, refl))

  part-goes : (m : ModelState) (p : ModelPart) → Goes (Names w) (model_part m k w p)
  unfolding single_part waveform_part
  part-goes m p =
      cond-all (Goes (Names w)) (eqb (model_place p) 7) _ _
      (λ z. past-passes (Names w) _ k _ (λ f. past-refuse (Names w) _ 17 k _ (λ h. (tt, refl))))
      (λ z. past-once (Names w) m.parts (model_place p) _ k (λ (g : Given). InModel (with_parts m g m.waveforms (model_opens k p))) (λ h f. (tt, refl)))

  version-goes : (s : Stage) → Goes (Names w) (on_version s k w)
  unfolding on_version version
  version-goes BeforeVersion = past-passes (Names w) _ k _ (λ h. (tt, refl))
  version-goes (InHeader h) = tt
  version-goes (InComponent c) = tt
  version-goes (InSelector l) = tt
  version-goes (InModel m) = tt
  version-goes AfterEnd = tt

  header-goes : (s : Stage) (p : HeaderPart) → Goes (Names w) (within k (header_of s) (λ h. header_part h k w p))
  unfolding header_part
  header-goes BeforeVersion p = tt
  header-goes (InHeader h) p = past-quiet (Names w) _ _ k _ (tt, refl)
  header-goes (InComponent c) p = tt
  header-goes (InSelector l) p = tt
  header-goes (InModel m) p = tt
  header-goes AfterEnd p = tt

  member-goes : (s : Stage) (p : ComponentPart) → Goes (Names w) (within k (component_of s) (λ c. component_part c k w p))
  unfolding component_part
  member-goes BeforeVersion p = tt
  member-goes (InHeader h) p = tt
  member-goes (InComponent c) p = past-quiet (Names w) _ _ k _ (tt, refl)
  member-goes (InSelector l) p = tt
  member-goes (InModel m) p = tt
  member-goes AfterEnd p = tt

  table-goes : (s : Stage) (p : ModelPart) → Goes (Names w) (within k (model_of s) (λ m. model_part m k w p))
  table-goes BeforeVersion p = tt
  table-goes (InHeader h) p = tt
  table-goes (InComponent c) p = tt
  table-goes (InSelector l) p = tt
  table-goes (InModel m) p = part-goes m p
  table-goes AfterEnd p = tt

  keyword-goes : (s : Stage) (x : Keyword) → Goes (Names w) (on_keyword s k w x)
  keyword-goes s key.IbisVer = version-goes s
  keyword-goes s (key.InHeader p) = header-goes s p
  keyword-goes s (key.Opens o) = past-closing (Names w) (λ (t : Stage). Unit {0}) _ (done k s) (anywhere (done k s)) (λ t q. opened-goes o)
  keyword-goes s (key.InComponent p) = member-goes s p
  keyword-goes s (key.InModel p) = table-goes s p
  keyword-goes s key.End = past-closing (Names w) (λ (t : Stage). Unit {0}) _ (done k s) (anywhere (done k s)) (λ t q. (tt, tt))

  keyed-goes : (s : Stage) (x : Said Keyword) → Goes (Names w) (keyed s k w x)
  keyed-goes s (Err n) = tt
  keyed-goes s (Ok x) = keyword-goes s x

pub text-goes : (s : Stage) (t : Text) → Goes (Names (text_of t)) (on_text s t)
unfolding on_plain on_change
text-goes s (plain k w) =
    cond-all (Goes (Names w)) (is_bracketed w) _ _
    (λ b. past-closing (Names w) (λ (t : Stage). Unit {0}) (λ (t : Stage). keyed t k w (key_of w)) (shut k s) (anywhere (shut k s)) (λ t q. keyed-goes k w t (key_of w)))
    (λ b. line-goes s k w)
text-goes s (change k f) = past-refuse _ _ 7 k _ (λ a. past-refuse _ _ 5 k _ (λ b. past-refuse _ _ 7 k _ (λ c. past-passes _ f k _ (λ d. (tt, a)))))

-- ---- a note, by what its line has passed

abbrev pub Own : Note → Kind → Type 0
Own n OfComponent = Unit {0}
Own n OfPin = (n.name ≡ word 0 (words n.text)) × (n.names ≡ word 2 (words n.text))
Own n OfSelector = needs_no_model n.name ≡ false
Own n OfChoice = (n.name ≡ word 0 (words n.text)) × (n.names ≡ word 0 (words n.text))
Own n OfModel = needs_no_model n.name ≡ false

pub record Fine (n : Note) : Type 0 where
  pub line : 1 ≤ n.line
  pub fits : length n.name ≤ 40
  pub own : Own n n.kind

sized : (k : ℕ) (w : List ℕ) → is_sized k w ≡ true → length w ≤ k
unfolding is_sized
sized k w h = leb-true (length w) k (and_second (leb 1 (length w)) (leb (length w) k) h)

pub pin-sized : (w : List ℕ) → is_pin_name w ≡ true → length w ≤ 40
unfolding is_pin_name
pin-sized w h = omega (arith, sized 8 w (and_first (is_sized 8 w) (not (is_bracketed w)) h))

pub model-sized : (w : List ℕ) → is_model_name w ≡ true → length w ≤ 40
unfolding is_model_name
model-sized w h = sized 40 w (and_first (is_sized 40 w) _ h)

not-true : (b : Bool) → not b ≡ true → b ≡ false
not-true true h = sym h
not-true false h = refl

model-needed : (w : List ℕ) → is_model_name w ≡ true → needs_no_model w ≡ false
unfolding is_model_name
model-needed w h =
    let a : Bool = not (is_bracketed w) in
    let b : Bool = not (needs_no_model w) in
    let c : Bool = not (is_no_model w) in
    not-true (needs_no_model w) (and_first b c (and_second a (b && c) (and_second (is_sized 40 w) (a && (b && c)) h)))

fine-after : (h : Log) (t : Text) (ts : List Text) (e : Event) → 1 ≤ line_of t → Named (text_of t) e → Every Fine h.notes → Every Fine (log_after h t ts e).notes
fine-after h t ts Quiet l n so = so
fine-after h t ts (Opened Component) l n so = (record { line = l; fits = sized 40 _ n; own = tt }, so)
fine-after h t ts (Opened Selector) l n so = (record { line = l; fits = model-sized _ n; own = model-needed _ n }, so)
fine-after h t ts (Opened Model) l n so = (record { line = l; fits = model-sized _ n; own = model-needed _ n }, so)
fine-after h t ts PinRow l n so = (record { line = l; fits = pin-sized _ n; own = (refl, refl) }, so)
fine-after h t ts ChoiceRow l n so = (record { line = l; fits = model-sized _ n; own = (refl, refl) }, so)
fine-after h t ts WaveformOpened l n so = so
fine-after h t ts TableRow l n so = so
fine-after h t ts (Ended f) l n so = so

-- ---- all lines

abbrev Numbered : Text → Type 0
Numbered t = 1 ≤ line_of t

numbered-onto : (k : ℕ) (w : List ℕ) (ts : List Text) → 1 ≤ k → Every Numbered ts → Every Numbered (onto_texts k w ts)
unfolding onto_texts
numbered-onto k [] ts h so = so
numbered-onto k (b ∷ bs) ts h so = (h, so)

numbered-from : (c k : ℕ) (ls : List Physical) → 1 ≤ k → Every Numbered (texts_from c k ls)
unfolding texts_from
numbered-from c k [] h = tt
numbered-from c k (l ∷ ls) h =
    cond-all (Every Numbered) (is_change l.bytes) _ _
    (λ t. (h, numbered-from (or_else c (change_of l.bytes)) (k + 1) ls (omega arith)))
    (λ t. numbered-onto k (cut c l.bytes) _ h (numbered-from c (k + 1) ls (omega arith)))

numbered : (s : List ℕ) → Every Numbered (texts_of s)
unfolding texts_of
numbered s = numbered-from (code "|") 1 (lines_of s) (omega arith)

-- ---- the run

broken-never : {X : Type 0} (f : Fault) (h g : Log) → broken f h ≡ whole g → X
broken-never f h g e = let faults = ap (λ (x : Finish). x.fault) e in impossible (cc)

module _ (l : Lengths) (past : ℕ) (g : Log) where
  at-end : (s : Stage) (h : Log) → Every Fine h.notes → out_of_lines past h s ≡ whole g → Every Fine g.notes
  at-end s h so e =
      let out : Finish = broken (at_line past (bare 19)) h in
      by-test (is_ended s)
      (λ t. subst (λ (y : Log). Every Fine y.notes) (ap (λ (x : Finish). x.log) (sym (cond_yes (whole h) out t) ∙ e)) so)
      (λ t. broken-never _ h g (sym (cond_no (whole h) out t) ∙ e))

  module _ (ts : List Text) (rest : (u : Stage) (h : Log) → Every Fine h.notes → run_log l past u h ts ≡ whole g → Every Fine g.notes) where
    past-logged : (u : Stage) (x : Logged) → Kept (λ (y : Log). Every Fine y.notes) x
        → after_logged (λ (y : Log). run_log l past u y ts) x ≡ whole g → Every Fine g.notes
    past-logged u (going y) so e = rest u y so e
    past-logged u (full f k y) so e = broken-never _ y g e

    past-went : (t : Text) (h : Log) (x : Went) → 1 ≤ line_of t → Every Fine h.notes → Goes (Names (text_of t)) x
        → after_went l h t ts (λ (u : Stage) (y : Log). run_log l past u y ts) x ≡ whole g → Every Fine g.notes
    past-went t h (Ok (u, e)) n so w q =
        past-logged u (logged l h t ts e) (kept-after (λ (y : Log). Every Fine y.notes) l h t ts e (λ room. fine-after h t ts e n w.0 so)) q
    past-went t h (Err f) n so w q = broken-never f h g q

  fine-run : (ts : List Text) (s : Stage) (h : Log) → Every Numbered ts → Every Fine h.notes → run_log l past s h ts ≡ whole g → Every Fine g.notes
  unfolding run_log
  fine-run [] s h n so e = at-end s h so e
  fine-run (t ∷ ts) s h n so e = past-went ts (λ u y. fine-run ts u y n.1) t h (on_text s t) n.0 so (text-goes s t) e

  pub all-fine : (s : List ℕ) → run_log l past BeforeVersion empty_log (texts_of s) ≡ whole g → Every Fine g.notes
  all-fine s e = fine-run (texts_of s) BeforeVersion empty_log (numbered s) tt e
