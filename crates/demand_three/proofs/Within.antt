-- Within a model a line that opens no section and is not [End] leaves the reading in that model, and adds at most a waveform or a row.
use Rattle.std.specs.Prelude.{Result, Ok, Err, Option, Some, None}
use Prim.Native.Nat.{ℕ}
use mathlib.Core.Path.{◌≡◌, refl, sym, ◌∙◌}
use mathlib.Core.List.{List}
use mathlib.Core.Bool.{Bool, true, false, not, ◌&&◌}
use lib.Dec.{eqb}
use Rattle.laws.specs.Said.{Said}
use Rattle.laws.proofs.Tests.{cond-all, and_both}
use Rattle.words.specs.Words.{word, words}
use Rattle.keywords.specs.Carried.{key_of}
use Rattle.keywords.specs.declared.Keyword.{Keyword}
use Rattle.keywords.specs.declared.Keyword.TheVariants as key
use Rattle.keywords.specs.declared.ModelPart.{ModelPart}
use Rattle.keywords.specs.declared.ModelPart.TheVariants.{Waveform}
use Rattle.records.specs.Flaws.{Flaw, told_in}
use Rattle.records.specs.declared.LineFault.{LineFault}
use Rattle.records.specs.declared.Row.{Row}
use Rattle.records.specs.declared.Edge.TheVariants.{Rising}
use Rattle.cut_lines.specs.Texts.{Text, plain, change}
use Rattle.line_rules.specs.Fields.{is_bracketed, line_at, row_of}
use Rattle.line_rules.specs.Tables.{model_lines, ramp_lines, fixtures}
use Rattle.given.specs.Given.{with}
use Rattle.given.specs.declared.Given.{Given}
use Rattle.rules.specs.Going.{stop, stop_at, unless, passes, refuse, named_line, and_then, Went}
use Rattle.rules.specs.Model.{row_line, begins_letter, waveform_line, model_line, model_place, single_part, waveform_part, model_part, model_shut}
use Rattle.rules.specs.Steps.{on_version, keyed, on_plain, on_change, on_text}
use Rattle.rules.specs.Reading.{is_within}
use Rattle.rules.specs.Keys.{key_in, key_at, is_end}
use Rattle.rules.proofs.Keys.{within-key}
use Rattle.rules.specs.declared.RowsSeen.{RowsSeen}
use Rattle.rules.specs.declared.ModelList.{ModelList}
use Rattle.rules.specs.declared.ModelList.TheVariants.{ModelFirst, ModelShut, CurrentRows, RampLines, WaveformRows}
use Rattle.rules.specs.declared.ModelState.{ModelState}
use Rattle.rules.specs.declared.Stage.{Stage}
use Rattle.rules.specs.declared.Stage.TheVariants.{BeforeVersion, InHeader, InComponent, InSelector, InModel, AfterEnd}
use Rattle.rules.specs.declared.Event.{Event}
use Rattle.rules.specs.declared.Event.TheVariants.{Quiet, Opened, PinRow, ChoiceRow, WaveformOpened, TableRow, Ended}

abbrev pub is_in_model : Stage → Bool
is_in_model BeforeVersion = false
is_in_model (InHeader h) = false
is_in_model (InComponent c) = false
is_in_model (InSelector s) = false
is_in_model (InModel m) = true
is_in_model AfterEnd = false

abbrev pub is_of_model : Event → Bool
is_of_model Quiet = true
is_of_model (Opened s) = false
is_of_model PinRow = false
is_of_model ChoiceRow = false
is_of_model WaveformOpened = true
is_of_model TableRow = true
is_of_model (Ended x) = false

abbrev pub stays : Went → Bool
stays (Ok (s, e)) = is_in_model s && is_of_model e
stays (Err x) = true

-- ---- the checks of one line

stays-unless : (n k : ℕ) (w : Went) → stays w ≡ true → stays (unless n k w) ≡ true
unfolding unless
stays-unless n k w h = cond-all (λ (z : Went). stays z ≡ true) (eqb n 0) w (stop n k) (λ t. h) (λ t. refl)

stays-passes : (x : LineFault) (k : ℕ) (w : Went) → stays w ≡ true → stays (passes x k w) ≡ true
unfolding passes
stays-passes x k w h = cond-all (λ (z : Went). stays z ≡ true) (eqb x.number 0) w (stop_at x k) (λ t. h) (λ t. refl)

stays-refuse : (t : Bool) (n k : ℕ) (w : Went) → stays w ≡ true → stays (refuse t n k w) ≡ true
unfolding refuse
stays-refuse t n k w h = cond-all (λ (z : Went). stays z ≡ true) t (stop n k) w (λ t. refl) (λ t. h)

stays_then : (w : Went) (g : Stage → Went) → stays w ≡ true → ((m : ModelState) → stays (g (InModel m)) ≡ true) → stays (and_then w g) ≡ true
stays_then (Ok (BeforeVersion, e)) g h q = cc
stays_then (Ok (InHeader x, e)) g h q = cc
stays_then (Ok (InComponent c, e)) g h q = cc
stays_then (Ok (InSelector s, e)) g h q = cc
stays_then (Ok (InModel m, e)) g h q = q m
stays_then (Ok (AfterEnd, e)) g h q = cc
stays_then (Err x) g h q = refl

-- whatever was given then, it is in the model
stays-named : (g : Given) (x : Option ℕ) (y : Flaw) (k : ℕ) (w : List ℕ) (on : Given → Stage) → ((h : Given) → is_in_model (on h) ≡ true) → stays (named_line g x y k w on) ≡ true
stays-named g None y k w on q = refl
stays-named g (Some i) y k w on q = stays-refuse _ _ _ _ (stays-passes _ _ _ (and_both _ _ (q (with g i)) refl))

-- ---- a model's lines

row_stays : (on : RowsSeen → ModelList) (m : ModelState) (r : RowsSeen) (k : ℕ) (x : Result Row LineFault) → stays (row_line on m r k x) ≡ true
row_stays on m r k (Err x) = refl
row_stays on m r k (Ok l) = stays-refuse _ _ _ _ refl

waveform-stays : (m : ModelState) (o : ℕ) (g : Given) (r : RowsSeen) (k : ℕ) (w : List ℕ) → stays (waveform_line m o g r k w) ≡ true
unfolding waveform_line
waveform-stays m o g r k w =
    cond-all (λ (z : Went). stays z ≡ true) (begins_letter (word 0 (words w))) _ _
    (λ t. stays-refuse _ _ _ _ (stays-named g (line_at fixtures w) _ k w _ (λ h. refl)))
    (λ t. row_stays (WaveformRows o g) m r k (told_in w (row_of w)))

line_stays : (m : ModelState) (k : ℕ) (w : List ℕ) (l : ModelList) → stays (model_line m k w l) ≡ true
line_stays m k w ModelFirst = stays-named m.first (line_at model_lines w) _ k w _ (λ g. refl)
line_stays m k w ModelShut = refl
line_stays m k w (CurrentRows o r) = row_stays (CurrentRows o) m r k (told_in w (row_of w))
line_stays m k w (RampLines o g) = stays-named g (line_at ramp_lines w) _ k w _ (λ h. refl)
line_stays m k w (WaveformRows o g r) = waveform-stays m o g r k w

-- ---- its keywords

part_stays : (m : ModelState) (k : ℕ) (w : List ℕ) (p : ModelPart) → stays (model_part m k w p) ≡ true
unfolding waveform_part single_part
part_stays m k w p =
    cond-all (λ (z : Went). stays z ≡ true) (eqb (model_place p) (model_place (Waveform Rising))) _ _
    (λ t. stays-passes _ _ _ (stays-refuse _ _ _ _ refl))
    (λ t. stays-refuse _ _ _ _ (stays-passes _ _ _ refl))

shut-stays : (m : ModelState) (l : ModelList) → stays (model_shut m l) ≡ true
shut-stays m ModelFirst = refl
shut-stays m ModelShut = refl
shut-stays m (CurrentRows o r) = stays-unless _ _ _ refl
shut-stays m (RampLines o g) = stays-refuse _ _ _ _ refl
shut-stays m (WaveformRows o g r) = stays-refuse _ _ _ _ (stays-unless _ _ _ refl)

keyed_stays : (m : ModelState) (k : ℕ) (w : List ℕ) (x : Said Keyword) → not (is_end (key_in x)) ≡ true → stays (keyed (InModel m) k w x) ≡ true
unfolding on_version
keyed_stays m k w (Err n) h = refl
keyed_stays m k w (Ok key.IbisVer) h = refl
keyed_stays m k w (Ok (key.InHeader p)) h = refl
keyed_stays m k w (Ok (key.Opens o)) h = cc
keyed_stays m k w (Ok (key.InComponent p)) h = refl
keyed_stays m k w (Ok (key.InModel p)) h = part_stays m k w p
keyed_stays m k w (Ok key.End) h = cc

-- ---- any line

plain-stays : (m : ModelState) (k : ℕ) (w : List ℕ) → not (is_end (key_at (plain k w))) ≡ true → stays (on_plain (InModel m) k w) ≡ true
unfolding on_plain
plain-stays m k w h =
    cond-all (λ (z : Went). stays z ≡ true) (is_bracketed w) _ _
    (λ t. stays_then (model_shut m m.list) (λ (s : Stage). keyed s k w (key_of w)) (shut-stays m m.list) (λ n. keyed_stays n k w (key_of w) (rw t at h)))
    (λ t. line_stays m k w m.list)

pub text-stays : (m : ModelState) (t : Text) → is_within t ≡ true → stays (on_text (InModel m) t) ≡ true
unfolding on_change
text-stays m (plain k w) h = plain-stays m k w (sym (within-key (plain k w)) ∙ h)
text-stays m (change k x) h = stays-refuse _ _ _ _ (stays-refuse _ _ _ _ (stays-refuse _ _ _ _ (stays-passes _ _ _ refl)))
