-- A step gives a row only of a line that reads as one, and none before [IBIS Ver]: by cases on the stage, past each check of `rules/specs/Steps.antt`.
use Rattle.std.specs.Prelude.{Ok, Err, Option, None, Some}
use Prim.Native.Nat.{ℕ, ◌+◌, ◌≤◌}
use mathlib.Core.Path.{◌≡◌, refl}
use mathlib.Core.List.{List, [], ◌∷◌}
use mathlib.Core.Bool.{Bool, cond}
use native.Mathlib.Omega.{arith}
use lib.ListN.{drop}
use lib.Dec.{eqb}
use Rattle.laws.specs.Said.{Said}
use Rattle.laws.proofs.Tests.{cond-all}
use Rattle.words.specs.Words.{word, words}
use Rattle.keywords.specs.Carried.{key_of}
use Rattle.keywords.specs.declared.Keyword.{Keyword}
use Rattle.keywords.specs.declared.Keyword.TheVariants as key
use Rattle.keywords.specs.declared.ModelPart.{ModelPart}
use Rattle.keywords.specs.declared.ModelPart.TheVariants.{Waveform}
use Rattle.cut_lines.specs.Texts.{Text, plain, change}
use Rattle.line_rules.specs.Fields.{is_bracketed, line_at, row_of}
use Rattle.line_rules.specs.Tables.{component_lines, package_lines, model_lines, ramp_lines, fixtures}
use Rattle.given.specs.Given.{has, with}
use Rattle.given.specs.declared.Given.{Given}
use Rattle.records.specs.Flaws.{Flaw, Reads, told, told_in}
use Rattle.records.specs.declared.Fault.{Fault}
use Rattle.records.specs.declared.LineFault.{LineFault}
use Rattle.records.specs.declared.Row.{Row}
use Rattle.records.specs.declared.Edge.TheVariants.{Rising}
use Rattle.rules.specs.Going.{stop, stop_at, passes, refuse, quietly, named_line, and_then, Went}
use Rattle.rules.specs.Header.{version, header_part, header_line}
use Rattle.rules.specs.Component.{component_part, component_line}
use Rattle.rules.specs.Selector.{selector_line}
use Rattle.rules.specs.Model.{row_line, begins_letter, waveform_line, model_line, model_place, single_part, waveform_part, model_part}
use Rattle.rules.specs.Steps.{is_before, header_of, component_of, model_of, shut, done, opened, within, on_version, on_keyword, keyed, on_line, on_plain, on_change, on_text}
use Rattle.rules.specs.Whole.{texts_of}
use Rattle.rules.specs.declared.RowsSeen.{RowsSeen}
use Rattle.rules.specs.declared.ComponentList.{ComponentList}
use Rattle.rules.specs.declared.ComponentList.TheVariants.{ComponentFirst, ComponentShut, PackageLines, PinRows}
use Rattle.rules.specs.declared.ComponentState.{ComponentState}
use Rattle.rules.specs.declared.ModelList.{ModelList}
use Rattle.rules.specs.declared.ModelList.TheVariants.{ModelFirst, ModelShut, CurrentRows, RampLines, WaveformRows}
use Rattle.rules.specs.declared.ModelState.{ModelState}
use Rattle.rules.specs.declared.Stage.{Stage}
use Rattle.rules.specs.declared.Stage.TheVariants.{BeforeVersion, InHeader, InComponent, InSelector, InModel, AfterEnd}
use Rattle.rules.specs.declared.Event.{Event}
use Rattle.room_for_rows.specs.Rows.{is_said, is_row, rows_on, rows_among, rows_said, with_rows, rows_read, ReadFit}
use Rattle.room_for_rows.proofs.Lines.{behind-first}

-- a step that refuses its line, or gives at most n rows
data Gives (n : ℕ) : Went → Type 0 where
  stops : {f : Fault} → Gives n (Err f)
  goes : {s : Stage} {e : Event} → rows_said e ≤ n → Gives n (Ok (s, e))

quiet : {n : ℕ} {s : Stage} {e : Event} → rows_said e ≡ 0 → Gives n (Ok (s, e))
quiet {n} {s} {e} h = goes {e = e} (omega arith)

-- ---- checks: what is refused gives none

module _ {n : ℕ} where
  either-gives : (t : Bool) (a b : Went) → Gives n a → Gives n b → Gives n (cond t a b)
  either-gives t a b p q = cond-all (Gives n) t a b (λ h. p) (λ h. q)

  refuse-gives : (t : Bool) (m k : ℕ) (x : Went) → Gives n x → Gives n (refuse t m k x)
  unfolding refuse
  refuse-gives t m k x p = either-gives t (stop m k) x stops p

  passes-gives : (f : LineFault) (k : ℕ) (x : Went) → Gives n x → Gives n (passes f k x)
  unfolding passes
  passes-gives f k x p = either-gives (eqb f.number 0) x (stop_at f k) p stops

  once_gives : (t : Bool) (f : LineFault) (k : ℕ) (s : Stage) → Gives n (refuse t 8 k (passes f k (quietly s)))
  once_gives t f k s = refuse-gives t 8 k _ (passes-gives f k _ (quiet refl))

  named-gives : (g : Given) (x : Option ℕ) (f : Flaw) (k : ℕ) (w : List ℕ) (on : Given → Stage) → Gives n (named_line g x f k w on)
  named-gives g None f k w on = stops
  named-gives g (Some i) f k w on = once_gives (has g i) (told w f) k (on (with g i))

  then-gives : (x : Went) (f : Stage → Went) → ((s : Stage) → Gives n (f s)) → Gives n (and_then x f)
  then-gives (Ok (s, e)) f h = h s
  then-gives (Err y) f h = stops

  within-gives : {A : Type 0} (k : ℕ) (x : Option A) (go : A → Went) → ((a : A) → Gives n (go a)) → Gives n (within k x go)
  within-gives k None go h = stops
  within-gives k (Some a) go h = h a

  -- ---- keyword lines and [Comment Char] lines

  part_gives : (m : ModelState) (k : ℕ) (w : List ℕ) (p : ModelPart) → Gives n (model_part m k w p)
  unfolding waveform_part single_part
  part_gives m k w p =
      either-gives (eqb (model_place p) (model_place (Waveform Rising))) _ _ (passes-gives _ k _ (refuse-gives _ 17 k _ (quiet refl))) (once_gives _ _ k _)

  keyword-gives : (s : Stage) (k : ℕ) (w : List ℕ) (x : Keyword) → Gives n (on_keyword s k w x)
  unfolding on_version version header_part opened component_part
  keyword-gives s k w key.IbisVer =
      either-gives (is_before s) _ _ (passes-gives _ k _ (quiet refl)) (within-gives k (header_of s) _ (λ h. stops))
  keyword-gives s k w (key.InHeader p) = within-gives k (header_of s) _ (λ h. once_gives _ _ k _)
  keyword-gives s k w (key.Opens o) = then-gives (done k s) _ (λ t. passes-gives _ k _ (quiet refl))
  keyword-gives s k w (key.InComponent p) = within-gives k (component_of s) _ (λ c. once_gives _ _ k _)
  keyword-gives s k w (key.InModel p) = within-gives k (model_of s) _ (λ m. part_gives m k w p)
  keyword-gives s k w key.End = then-gives (done k s) _ (λ t. quiet refl)

  keyed-gives : (s : Stage) (k : ℕ) (w : List ℕ) (x : Said Keyword) → Gives n (keyed s k w x)
  keyed-gives s k w (Ok x) = keyword-gives s k w x
  keyed-gives s k w (Err m) = stops

  change-gives : (s : Stage) (k : ℕ) (f : LineFault) → Gives n (on_change s k f)
  unfolding on_change
  change-gives s k f = refuse-gives _ 7 k _ (refuse-gives _ 5 k _ (refuse-gives _ 7 k _ (passes-gives f k _ (quiet refl))))

  -- what another line gives, a plain text gives
  plain-gives : (s : Stage) (k : ℕ) (w : List ℕ) → Gives n (on_line s k w) → Gives n (on_plain s k w)
  unfolding on_plain
  plain-gives s k w p =
      either-gives (is_bracketed w) _ _ (then-gives (shut k s) _ (λ (t : Stage). keyed-gives t k w (key_of w))) p

-- ---- another line: one in a table, if it reads as one

component-gives : {n : ℕ} (c : ComponentState) (k : ℕ) (w : List ℕ) (l : ComponentList) → Gives n (component_line c k w l)
component-gives c k w ComponentFirst = named-gives c.first (line_at component_lines w) _ k w _
component-gives c k w ComponentShut = stops
component-gives c k w (PackageLines o g) = named-gives g (line_at package_lines w) _ k w _
component-gives c k w (PinRows o long any) = passes-gives _ k _ (quiet refl)

row_gives : (on : RowsSeen → ModelList) (m : ModelState) (r : RowsSeen) (k : ℕ) (w : List ℕ) (x : Reads Row)
    → Gives (cond (is_said x) 1 0) (row_line on m r k (told_in w x))
row_gives on m r k w (Ok y) = refuse-gives _ 13 k _ (goes (omega arith))
row_gives on m r k w (Err f) = stops

model-gives : (m : ModelState) (k : ℕ) (w : List ℕ) (l : ModelList) → Gives (cond (is_row w) 1 0) (model_line m k w l)
unfolding is_row waveform_line
model-gives m k w ModelFirst = named-gives m.first (line_at model_lines w) _ k w _
model-gives m k w ModelShut = stops
model-gives m k w (CurrentRows o r) = row_gives (CurrentRows o) m r k w (row_of w)
model-gives m k w (RampLines o g) = named-gives g (line_at ramp_lines w) _ k w _
model-gives m k w (WaveformRows o g r) =
    either-gives (begins_letter (word 0 (words w))) _ _ (refuse-gives _ 7 k _ (named-gives g (line_at fixtures w) _ k w _)) (row_gives (WaveformRows o g) m r k w (row_of w))

line_gives : (s : Stage) (k : ℕ) (w : List ℕ) → Gives (cond (is_row w) 1 0) (on_line s k w)
unfolding header_line selector_line
line_gives BeforeVersion k w = stops
line_gives (InHeader h) k w = either-gives h.text _ _ (quiet refl) stops
line_gives (InComponent c) k w = component-gives c k w c.list
line_gives (InSelector s) k w = passes-gives _ k _ (quiet refl)
line_gives (InModel m) k w = model-gives m k w m.list
line_gives AfterEnd k w = stops

-- ---- a text

text-gives : (s : Stage) (t : Text) → Gives (rows_on t) (on_text s t)
text-gives s (plain k w) = plain-gives s k w (line_gives s k w)
text-gives s (change k f) = change-gives s k f

first_gives : (t : Text) → Gives 0 (on_text BeforeVersion t)
first_gives (plain k w) = plain-gives BeforeVersion k w stops
first_gives (change k f) = change-gives BeforeVersion k f

-- ---- and those behind it

behind-read : (behind : Stage → ℕ) (m : ℕ) → ((u : Stage) → behind u ≤ m) → {n : ℕ} {x : Went} → Gives n x → with_rows behind x ≤ n + m
behind-read behind m h stops = omega arith
behind-read behind m h (goes {s = s} p) = omega (arith, h s)

rows-read : (ts : List Text) (s : Stage) → rows_read s ts ≤ rows_among ts
unfolding rows_read rows_among
rows-read [] s = omega arith
rows-read (t ∷ ts) s = behind-read (λ (u : Stage). rows_read u ts) (rows_among ts) (rows-read ts) (text-gives s t)

first_read : (ts : List Text) → rows_read BeforeVersion ts ≤ rows_among (drop 1 ts)
unfolding rows_read rows_among
first_read [] = omega arith
first_read (t ∷ ts) = omega (arith, behind-read (λ (u : Stage). rows_read u ts) (rows_among ts) (rows-read ts) (first_gives t))

pub read-fit : ReadFit
read-fit s h = omega (arith, first_read (texts_of s), behind-first s h)
