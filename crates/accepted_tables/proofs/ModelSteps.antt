-- The texts of a model, one after another: what each leaves, and what its checks say. By cases on the open list, and on the keyword.
use Rattle.std.specs.Prelude.{Ok, Err, Some}
use Prim.Native.Nat.{ℕ, ◌+◌}
use mathlib.Core.Path.{◌≡◌, refl, sym, subst, ◌∙◌}
use mathlib.Core.List.{List, [], ◌∷◌}
use mathlib.Core.Bool.{Bool, true, false, ◌&&◌}
use lib.Dec.{eqb, leb}
use borrow.Author.Tests.{not-false}
use Rattle.laws.specs.Lists.{front}
use Rattle.laws.specs.Said.{Said}
use Rattle.laws.proofs.Tests.{cond-all, and_first, and_second, impossible}
use Rattle.words.specs.Words.{word, words}
use Rattle.keywords.specs.Form.{argument}
use Rattle.keywords.specs.Carried.{key_of}
use Rattle.keywords.specs.declared.Keyword.{Keyword}
use Rattle.keywords.specs.declared.Keyword.TheVariants as key
use Rattle.keywords.specs.declared.ModelPart.{ModelPart}
use Rattle.keywords.specs.declared.ModelPart.TheVariants.{VoltageRange, TemperatureRange, Current, Ramp, Waveform}
use Rattle.keywords.specs.declared.CurrentTable.TheVariants.{Pulldown, Pullup, GndClamp, PowerClamp}
use Rattle.cut_lines.specs.Texts.{Text, plain, change}
use Rattle.line_rules.specs.Fields.{is_bracketed, line_at, number_line, row_of}
use Rattle.line_rules.specs.Tables.{model_lines, ramp_lines, fixtures}
use Rattle.given.specs.Given.{has, with, gave}
use Rattle.given.specs.declared.Given.{Given}
use Rattle.records.specs.Flaws.{Reads, flaw_in, told, told_in}
use Rattle.records.specs.declared.LineFault.{LineFault}
use Rattle.records.specs.declared.Row.{Row}
use Rattle.records.specs.declared.Edge.{Edge}
use Rattle.rules.specs.Going.{quietly, and_then, Went}
use Rattle.rules.specs.Model.{with_parts, with_model_list, first_flaw, with_first, is_number, rises, with_row, row_line, ramp_flaw, begins_letter, waveform_line, model_line, model_place, model_flaw, model_opens, single_part, waveform_part, model_part, table_fault, model_shut, model_done}
use Rattle.rules.specs.Steps.{shut, done, opened, on_version, on_keyword, keyed, on_plain, on_change, on_text}
use Rattle.rules.specs.Reading.{is_within}
use Rattle.rules.specs.Keys.{is_end}
use Rattle.rules.specs.declared.RowsSeen.{RowsSeen}
use Rattle.rules.specs.declared.ModelList.{ModelList}
use Rattle.rules.specs.declared.ModelList.TheVariants.{ModelFirst, ModelShut, CurrentRows, RampLines, WaveformRows}
use Rattle.rules.specs.declared.ModelState.{ModelState}
use Rattle.rules.specs.declared.Stage.{Stage}
use Rattle.rules.specs.declared.Stage.TheVariants.{InModel}
use Rattle.rules.specs.declared.Event.{Event}
use Rattle.layout_by_notes.proofs.Goes.{Goes, past-closing, past_all, anywhere}
use Rattle.layout_by_notes.proofs.Ahead.{key-at, no_key}
use Rattle.accepted_tables.specs.Fallbacks.{Flawless}
use Rattle.accepted_tables.proofs.Checks.{past-refuse, past-unless, past-passes, past-once, past-named, gone, Passes, inside, outside}

-- ---- what closing a list says

abbrev pub Shuts : ModelList → Type 0
Shuts ModelFirst = Unit {0}
Shuts ModelShut = Unit {0}
Shuts (CurrentRows o r) = table_fault 100 r ≡ 0
Shuts (RampLines o g) = (gave g ramp_lines "dV/dt_r" ≡ true) × (gave g ramp_lines "dV/dt_f" ≡ true)
Shuts (WaveformRows o g r) = (gave g fixtures "R_fixture" ≡ true) × (gave g fixtures "V_fixture" ≡ true) × (table_fault 1000 r ≡ 0)

abbrev Shut : ModelState → ModelList → Stage → Event → Type 0
Shut m l t e = (t ≡ InModel (with_model_list m ModelShut)) × Shuts l

shut-goes : (m : ModelState) (l : ModelList) → Goes (Shut m l) (model_shut m l)
shut-goes m ModelFirst = (refl, tt)
shut-goes m ModelShut = (refl, tt)
shut-goes m (CurrentRows o r) = past-unless _ (table_fault 100 r) o _ (λ h. (refl, h))
shut-goes m (RampLines o g) =
    let rise : Bool = gave g ramp_lines "dV/dt_r" in
    let fall : Bool = gave g ramp_lines "dV/dt_f" in
    past-refuse _ _ 9 o _ (λ h. let b : (rise && fall) ≡ true = not-false (rise && fall) h in (refl, (and_first rise fall b, and_second rise fall b)))
shut-goes m (WaveformRows o g r) =
    let resistor : Bool = gave g fixtures "R_fixture" in
    let voltage : Bool = gave g fixtures "V_fixture" in
    past-refuse _ _ 9 o _
    (λ h.
    let b : (resistor && voltage) ≡ true = not-false (resistor && voltage) h in
    past-unless _ (table_fault 1000 r) o _ (λ f. (refl, (and_first resistor voltage b, and_second resistor voltage b, f))))

-- ---- a line that is no keyword line

pub data ModelLine (m : ModelState) (w : List ℕ) : ModelState → Type 0 where
  first_line : (i : ℕ) → m.list ≡ ModelFirst → line_at model_lines w ≡ Some i → has m.first i ≡ false → Flawless (first_flaw w)
      → ModelLine m w (with_first m w (with m.first i))
  current_row : (o : ℕ) (r : RowsSeen) (y : Row) → m.list ≡ CurrentRows o r → row_of w ≡ Ok y → rises r y.number ≡ true
      → ModelLine m w (with_model_list m (CurrentRows o (with_row r y.number (is_number y.cells.typ))))
  ramp_line : (o : ℕ) (g : Given) (i : ℕ) → m.list ≡ RampLines o g → line_at ramp_lines w ≡ Some i → has g i ≡ false → Flawless (ramp_flaw w)
      → ModelLine m w (with_model_list m (RampLines o (with g i)))
  fixture_line : (o : ℕ) (g : Given) (r : RowsSeen) (i : ℕ) → m.list ≡ WaveformRows o g r → begins_letter (word 0 (words w)) ≡ true
      → line_at fixtures w ≡ Some i → has g i ≡ false → Flawless (flaw_in (number_line w)) → ModelLine m w (with_model_list m (WaveformRows o (with g i) r))
  waveform_row : (o : ℕ) (g : Given) (r : RowsSeen) (y : Row) → m.list ≡ WaveformRows o g r → row_of w ≡ Ok y → rises r y.number ≡ true
      → ModelLine m w (with_model_list m (WaveformRows o g (with_row r y.number (is_number y.cells.typ))))

abbrev Line : ModelState → List ℕ → Stage → Event → Type 0
Line m w u e = (n : ModelState) × (u ≡ InModel n) × ModelLine m w n

row_goes : (P : Stage → Event → Type 0) (on : RowsSeen → ModelList) (m : ModelState) (r : RowsSeen) (k : ℕ) (w : List ℕ) (x : Reads Row)
    → ((y : Row) → x ≡ Ok y → rises r y.number ≡ true → (e : Event) → P (InModel (with_model_list m (on (with_row r y.number (is_number y.cells.typ))))) e)
    → Goes P (row_line on m r k (told_in w x))
row_goes P on m r k w (Err f) p = tt
row_goes P on m r k w (Ok y) p = past-refuse P _ 13 k _ (λ h. p y refl (not-false _ h) _)

waveform-goes : (m : ModelState) (o : ℕ) (g : Given) (r : RowsSeen) (k : ℕ) (w : List ℕ) → m.list ≡ WaveformRows o g r
    → Goes (Line m w) (waveform_line m o g r k w)
unfolding waveform_line
waveform-goes m o g r k w q =
    cond-all (Goes (Line m w)) (begins_letter (word 0 (words w))) _ _
    (λ b. past-refuse _ _ 7 k _ (λ z. past-named (Line m w) g (line_at fixtures w) _ k w _ (λ i a h f. (_, refl, fixture_line o g r i q b a h f))))
    (λ b. row_goes _ (WaveformRows o g) m r k w (row_of w) (λ y e h d. (_, refl, waveform_row o g r y q e h)))

line-goes : (m : ModelState) (k : ℕ) (w : List ℕ) (l : ModelList) → m.list ≡ l → Goes (Line m w) (model_line m k w l)
line-goes m k w ModelFirst q = past-named (Line m w) m.first (line_at model_lines w) _ k w _ (λ i a h f. (_, refl, first_line i q a h f))
line-goes m k w ModelShut q = tt
line-goes m k w (CurrentRows o r) q = row_goes _ (CurrentRows o) m r k w (row_of w) (λ y e h d. (_, refl, current_row o r y q e h))
line-goes m k w (RampLines o g) q = past-named (Line m w) g (line_at ramp_lines w) _ k w _ (λ i a h f. (_, refl, ramp_line o g i q a h f))
line-goes m k w (WaveformRows o g r) q = waveform-goes m o g r k w q

-- ---- a keyword of the model, w being its argument

pub data ModelKey (m : ModelState) (k : ℕ) (w : List ℕ) : ModelPart → ModelState → Type 0 where
  single : (p : ModelPart) → eqb (model_place p) 7 ≡ false → has m.parts (model_place p) ≡ false → Flawless (model_flaw w p)
      → ModelKey m k w p (with_parts m (with m.parts (model_place p)) m.waveforms (model_opens k p))
  waveform : (e : Edge) → leb 16 m.waveforms ≡ false → ModelKey m k w (Waveform e) (with_parts m m.parts (m.waveforms + 1) (model_opens k (Waveform e)))

abbrev Key : ModelState → ℕ → List ℕ → ModelPart → Stage → Event → Type 0
Key m k w p u e = (n : ModelState) × (u ≡ InModel n) × ModelKey m k w p n

single-goes : (m : ModelState) (k : ℕ) (w : List ℕ) (p : ModelPart) → eqb (model_place p) 7 ≡ false → Goes (Key m k (argument w) p) (single_part (with_model_list m ModelShut) k w p)
unfolding single_part
single-goes m k w p z =
    past-once (Key m k (argument w) p) m.parts (model_place p) (told w (model_flaw (argument w) p)) k (λ (g : Given). InModel (with_parts m g m.waveforms (model_opens k p)))
    (λ h f. (_, refl, single p z h f))

part-goes : (m : ModelState) (k : ℕ) (w : List ℕ) (p : ModelPart) → Goes (Key m k (argument w) p) (model_part (with_model_list m ModelShut) k w p)
unfolding waveform_part
part-goes m k w VoltageRange = single-goes m k w VoltageRange refl
part-goes m k w TemperatureRange = single-goes m k w TemperatureRange refl
part-goes m k w (Current Pulldown) = single-goes m k w (Current Pulldown) refl
part-goes m k w (Current Pullup) = single-goes m k w (Current Pullup) refl
part-goes m k w (Current GndClamp) = single-goes m k w (Current GndClamp) refl
part-goes m k w (Current PowerClamp) = single-goes m k w (Current PowerClamp) refl
part-goes m k w Ramp = single-goes m k w Ramp refl
part-goes m k w (Waveform e) = past-passes _ _ k _ (λ f. past-refuse (Key m k (argument w) (Waveform e)) (leb 16 m.waveforms) 17 k _ (λ h. (_, refl, waveform e h)))

-- ---- a text

pub data ModelStep (m : ModelState) : Text → Stage → Type 0 where
  by_change : {k : ℕ} {f : LineFault} → ModelStep m (change k f) (InModel m)
  by_line : {k : ℕ} {w : List ℕ} (n : ModelState) → is_bracketed w ≡ false → ModelLine m w n → ModelStep m (plain k w) (InModel n)
  by_key : {k : ℕ} {w : List ℕ} (p : ModelPart) (n : ModelState) → is_bracketed w ≡ true → key_of w ≡ Ok (key.InModel p) → Shuts m.list
      → ModelKey m k (argument w) p n → ModelStep m (plain k w) (InModel n)
  by_end : {k : ℕ} {w : List ℕ} {u : Stage} (x : Keyword) → is_bracketed w ≡ true → key_of w ≡ Ok x → is_end (Some x) ≡ true → Shuts m.list
      → model_done m ≡ 0 → ModelStep m (plain k w) u

abbrev Step : ModelState → Text → Stage → Event → Type 0
Step m t u e = ModelStep m t u

done-shut : (m : ModelState) → model_done (with_model_list m ModelShut) ≡ model_done m
unfolding model_done
done-shut m = refl

module _ (m : ModelState) (k : ℕ) (w : List ℕ) (b : is_bracketed w ≡ true) (s : Shuts m.list) where
  -- the section ends, whatever goes on
  end_goes : (x : Keyword) → key_of w ≡ Ok x → is_end (Some x) ≡ true → (f : Stage → Went)
      → Goes (Step m (plain k w)) (and_then (done k (InModel (with_model_list m ModelShut))) f)
  end_goes x q e f =
      past-closing (Step m (plain k w)) (λ (t : Stage). model_done m ≡ 0) f (done k (InModel (with_model_list m ModelShut)))
      (past-unless (λ (t : Stage) (z : Event). model_done m ≡ 0) (model_done (with_model_list m ModelShut)) m.line (quietly (InModel (with_model_list m ModelShut)))
      (λ h. sym (done-shut m) ∙ h))
      (λ t d. past_all (Step m (plain k w)) (λ (u : Stage) (z : Event). Unit {0}) (f t) (anywhere (f t)) (λ u z a. by_end x b q e s d))

  keyword-goes : (x : Keyword) → key_of w ≡ Ok x → Goes (Step m (plain k w)) (on_keyword (InModel (with_model_list m ModelShut)) k w x)
  unfolding on_version
  keyword-goes key.IbisVer q = tt
  keyword-goes (key.InHeader p) q = tt
  keyword-goes (key.Opens o) q = end_goes (key.Opens o) q refl (λ (t : Stage). opened k w o)
  keyword-goes (key.InComponent p) q = tt
  keyword-goes (key.InModel p) q =
      past_all (Step m (plain k w)) (Key m k (argument w) p) (model_part (with_model_list m ModelShut) k w p) (part-goes m k w p)
      (λ u e g. subst (ModelStep m (plain k w)) (sym g.1) (by_key p g.0 b q s g.2))
  keyword-goes key.End q = end_goes key.End q refl _

  keyed-goes : (x : Said Keyword) → key_of w ≡ x → Goes (Step m (plain k w)) (keyed (InModel (with_model_list m ModelShut)) k w x)
  keyed-goes (Err n) q = tt
  keyed-goes (Ok x) q = keyword-goes x q

plain-goes : (m : ModelState) (k : ℕ) (w : List ℕ) → Goes (Step m (plain k w)) (on_plain (InModel m) k w)
unfolding on_plain
plain-goes m k w =
    cond-all (Goes (Step m (plain k w))) (is_bracketed w) _ _
    (λ b.
    past-closing (Step m (plain k w)) (λ (t : Stage). (t ≡ InModel (with_model_list m ModelShut)) × Shuts m.list) _ (shut k (InModel m)) (shut-goes m m.list)
    (λ t z. subst (λ (v : Stage). Goes (Step m (plain k w)) (keyed v k w (key_of w))) (sym z.0) (keyed-goes m k w b z.1 (key_of w) refl)))
    (λ b.
    past_all (Step m (plain k w)) (Line m w) (model_line m k w m.list) (line-goes m k w m.list refl)
    (λ u e g. subst (ModelStep m (plain k w)) (sym g.1) (by_line g.0 b g.2)))

text-goes : (m : ModelState) (t : Text) → Goes (Step m t) (on_text (InModel m) t)
unfolding on_change
text-goes m (plain k w) = plain-goes m k w
text-goes m (change k f) = past-refuse _ _ 7 k _ (λ a. past-refuse _ _ 5 k _ (λ b. past-refuse _ _ 7 k _ (λ c. past-passes _ f k _ (λ d. by_change))))

-- ---- what holds when the section ends, and holds before a text if behind it, holds of all its texts

module _ (P : ModelState → List Text → Type 0)
    (closing : (m : ModelState) → Shuts m.list → model_done m ≡ 0 → P m [])
    (changing : (m : ModelState) (k : ℕ) (f : LineFault) (ts : List Text) → P m ts → P m (change k f ∷ ts))
    (lining : (m n : ModelState) (k : ℕ) (w : List ℕ) (ts : List Text) → is_bracketed w ≡ false → ModelLine m w n → P n ts → P m (plain k w ∷ ts))
    (keying : (m n : ModelState) (k : ℕ) (w : List ℕ) (p : ModelPart) (ts : List Text) → is_bracketed w ≡ true → key_of w ≡ Ok (key.InModel p)
    → Shuts m.list → ModelKey m k (argument w) p n → P n ts → P m (plain k w ∷ ts)) where
  step-on : (m : ModelState) (t : Text) (ts : List Text) (u : Stage) → ModelStep m t u → Passes u ts
      → ((n : ModelState) → Passes (InModel n) ts → P n (front is_within ts)) → P m (front is_within (t ∷ ts))
  step-on m t ts u (by_change {k = k} {f = f}) h rest =
      subst (P m) (sym (inside (change k f) ts refl refl)) (changing m k f (front is_within ts) (rest m h))
  step-on m t ts u (by_line {k = k} {w = w} n b y) h rest =
      subst (P m) (sym (inside (plain k w) ts (no_key k w ts b) refl)) (lining m n k w (front is_within ts) b y (rest n h))
  step-on m t ts u (by_key {k = k} {w = w} p n b q s y) h rest =
      subst (P m) (sym (inside (plain k w) ts (key-at k w ts b q) refl)) (keying m n k w p (front is_within ts) b q s y (rest n h))
  step-on m t ts u (by_end {k = k} {w = w} x b q e s d) h rest =
      subst (P m) (sym (outside (plain k w) ts (key-at k w ts b q) e)) (closing m s d)

  pub by-texts : (ts : List Text) (m : ModelState) → Passes (InModel m) ts → P m (front is_within ts)
  by-texts [] m h = impossible (cc)
  by-texts (t ∷ ts) m h =
      step-on m t ts h.0 (gone (Step m t) _ h.0 h.1 (text-goes m t) h.2) h.3 (λ n g. by-texts ts n g)
