-- The event of a line is known from the last keyword above it: by cases on the stage, past each check of `rules/specs/Steps.antt`.
use Rattle.std.specs.Prelude.{Ok, Err, Option, None, Some}
use Prim.Native.Nat.{ℕ}
use mathlib.Core.Path.{◌≡◌, refl, sym, ap, subst}
use mathlib.Core.List.{List}
use mathlib.Core.Bool.{true, false}
use Rattle.laws.specs.Said.{Said}
use Rattle.laws.proofs.Tests.{cond-all}
use Rattle.words.specs.Words.{word, words}
use Rattle.keywords.specs.Carried.{key_of}
use Rattle.keywords.specs.declared.Keyword.{Keyword}
use Rattle.keywords.specs.declared.Keyword.TheVariants as key
use Rattle.keywords.specs.declared.Section.{Section}
use Rattle.keywords.specs.declared.Section.TheVariants.{Component, Selector, Model}
use Rattle.keywords.specs.declared.HeaderPart.{HeaderPart}
use Rattle.keywords.specs.declared.ComponentPart.{ComponentPart}
use Rattle.keywords.specs.declared.ComponentPart.TheVariants.{Manufacturer, Package, Pin}
use Rattle.keywords.specs.declared.ModelPart.{ModelPart}
use Rattle.keywords.specs.declared.ModelPart.TheVariants.{VoltageRange, TemperatureRange, Current, Ramp, Waveform}
use Rattle.keywords.specs.declared.CurrentTable.TheVariants.{Pulldown, Pullup, GndClamp, PowerClamp}
use Rattle.cut_lines.specs.Texts.{Text, plain, change}
use Rattle.line_rules.specs.Fields.{is_bracketed, line_at, row_of}
use Rattle.line_rules.specs.Tables.{component_lines, package_lines, model_lines, ramp_lines, fixtures}
use Rattle.rules.specs.Header.{version, header_part, header_line}
use Rattle.rules.specs.Component.{component_line, component_part, component_shut}
use Rattle.rules.specs.Selector.{selector_line, selector_shut}
use Rattle.rules.specs.Model.{begins_letter, with_first, row_line, waveform_line, model_line, single_part, waveform_part, model_part, model_shut, with_model_list, with_row, is_number}
use Rattle.rules.specs.Steps.{header_of, component_of, model_of, shut, done, opened, within, on_version, on_keyword, keyed, on_line, on_plain, on_change, on_text}
use Rattle.rules.proofs.Lettered.{letter-no-row}
use Rattle.given.specs.declared.Given.{Given}
use Rattle.records.specs.Flaws.{Flaw, Reads, told_in}
use Rattle.records.specs.declared.LineFault.{LineFault}
use Rattle.records.specs.declared.Row.{Row}
use Rattle.rules.specs.declared.RowsSeen.{RowsSeen}
use Rattle.rules.specs.declared.ComponentList.{ComponentList}
use Rattle.rules.specs.declared.ComponentList.TheVariants.{ComponentFirst, ComponentShut, PackageLines, PinRows}
use Rattle.rules.specs.declared.ComponentState.{ComponentState}
use Rattle.rules.specs.declared.ModelList.{ModelList}
use Rattle.rules.specs.declared.ModelList.TheVariants.{ModelFirst, ModelShut, CurrentRows, RampLines, WaveformRows}
use Rattle.rules.specs.declared.ModelState.{ModelState}
use Rattle.rules.specs.declared.Stage.{Stage}
use Rattle.rules.specs.declared.Stage.TheVariants.{BeforeVersion, InHeader, InComponent, InSelector, InModel, AfterEnd}
use Rattle.rules.specs.declared.Event.{Event}
use Rattle.rules.specs.declared.Event.TheVariants.{Quiet, Opened, PinRow, ChoiceRow, WaveformOpened, TableRow, Ended}
use Rattle.layout_by_notes.proofs.Goes.{Goes, past-refuse, past-unless, past-passes, past-once, past-named, past-closing, past_all, anywhere}

-- ---- what is open: the section, and what a line under the last keyword gives

pub data Gives : Type 0 where
  nothing pins choices rows : Gives

pub record Open : Type 0 where
  pub within : Option Section
  pub gives : Gives

abbrev pub closed : Open
closed = record { within = None; gives = nothing }

abbrev component_gives : ComponentList → Gives
component_gives ComponentFirst = nothing
component_gives ComponentShut = nothing
component_gives (PackageLines o g) = nothing
component_gives (PinRows o long any) = pins

abbrev model_gives : ModelList → Gives
model_gives ModelFirst = nothing
model_gives ModelShut = nothing
model_gives (CurrentRows o r) = rows
model_gives (RampLines o g) = nothing
model_gives (WaveformRows o g r) = rows

abbrev pub open_at : Stage → Open
open_at BeforeVersion = closed
open_at (InHeader h) = closed
open_at (InComponent c) = record { within = Some Component; gives = component_gives c.list }
open_at (InSelector s) = record { within = Some Selector; gives = choices }
open_at (InModel m) = record { within = Some Model; gives = model_gives m.list }
open_at AfterEnd = closed

-- ---- what a line gives, by what is open

pub data LineGives : Gives → List ℕ → Event → Type 0 where
  quiet : {w : List ℕ} → LineGives nothing w Quiet
  pin : {w : List ℕ} → LineGives pins w PinRow
  choice : {w : List ℕ} → LineGives choices w ChoiceRow
  row : {w : List ℕ} {r : Row} → row_of w ≡ Ok r → LineGives rows w TableRow
  -- a waveform's named line
  fixture : {w : List ℕ} {f : Flaw} → row_of w ≡ Err f → LineGives rows w Quiet

-- ---- what a keyword gives and opens, by the section it stands in

abbrev pub section_opens : Section → Open
section_opens Component = record { within = Some Component; gives = nothing }
section_opens Selector = record { within = Some Selector; gives = choices }
section_opens Model = record { within = Some Model; gives = nothing }

abbrev pub component_opens : ComponentPart → Gives
component_opens Manufacturer = nothing
component_opens Package = nothing
component_opens Pin = pins

abbrev pub model_opens : ModelPart → Gives
model_opens VoltageRange = nothing
model_opens TemperatureRange = nothing
model_opens (Current t) = rows
model_opens Ramp = nothing
model_opens (Waveform e) = rows

abbrev pub model_event : ModelPart → Event
model_event VoltageRange = Quiet
model_event TemperatureRange = Quiet
model_event (Current t) = Quiet
model_event Ramp = Quiet
model_event (Waveform e) = WaveformOpened

pub data KeyGives : Option Section → Keyword → Open → Event → Type 0 where
  of_version : KeyGives None key.IbisVer closed Quiet
  of_header : {p : HeaderPart} → KeyGives None (key.InHeader p) closed Quiet
  of_section : {x : Option Section} (o : Section) → KeyGives x (key.Opens o) (section_opens o) (Opened o)
  of_component : (p : ComponentPart) → KeyGives (Some Component) (key.InComponent p) (record { within = Some Component; gives = component_opens p }) Quiet
  of_model : (p : ModelPart) → KeyGives (Some Model) (key.InModel p) (record { within = Some Model; gives = model_opens p }) (model_event p)
  of_end : {x : Option Section} {f : LineFault} → KeyGives x key.End closed (Ended f)

-- ---- a text: from what is open before it to what is open behind it

pub data Stepped : Open → Text → Open → Event → Type 0 where
  by_change : {o : Open} {k : ℕ} {f : LineFault} → Stepped o (change k f) o Quiet
  by_line : {o : Open} {k : ℕ} {w : List ℕ} {e : Event} → is_bracketed w ≡ false → LineGives o.gives w e → Stepped o (plain k w) o e
  by_key : {o u : Open} {k : ℕ} {w : List ℕ} {x : Keyword} {e : Event}
      → is_bracketed w ≡ true → key_of w ≡ Ok x → KeyGives o.within x u e → Stepped o (plain k w) u e

-- ---- lines: the section stays, and what its open list gives

abbrev LineStep : Option Section → Gives → List ℕ → Stage → Event → Type 0
LineStep x g w s e = (open_at s ≡ record { within = x; gives = g }) × LineGives g w e

component-goes : (c : ComponentState) (k : ℕ) (w : List ℕ) (l : ComponentList) → component_gives c.list ≡ component_gives l
    → Goes (LineStep (Some Component) (component_gives l) w) (component_line c k w l)
component-goes c k w ComponentFirst q =
    past-named (LineStep (Some Component) nothing w) c.first (line_at component_lines w) _ k w _ (λ h. (ap (λ (g : Gives). record { within = Some Component; gives = g }) q, quiet))
component-goes c k w ComponentShut q = tt
component-goes c k w (PackageLines o g) q = past-named (LineStep (Some Component) nothing w) g (line_at package_lines w) _ k w _ (λ h. (refl, quiet))
component-goes c k w (PinRows o long any) q = past-passes _ _ k _ (refl, pin)

-- a row goes on only where it is one
row_goes : (P : Stage → Event → Type 0) (on : RowsSeen → ModelList) (m : ModelState) (r : RowsSeen) (k : ℕ) (w : List ℕ) (x : Reads Row)
    → ((y : Row) → x ≡ Ok y → P (InModel (with_model_list m (on (with_row r y.number (is_number y.cells.typ))))) TableRow)
    → Goes P (row_line on m r k (told_in w x))
row_goes P on m r k w (Err f) p = tt
row_goes P on m r k w (Ok y) p = past-refuse P _ 13 k _ (p y refl)

waveform-goes : (m : ModelState) (o : ℕ) (g : Given) (r : RowsSeen) (k : ℕ) (w : List ℕ)
    → Goes (LineStep (Some Model) rows w) (waveform_line m o g r k w)
unfolding waveform_line
waveform-goes m o g r k w =
    cond-all (Goes (LineStep (Some Model) rows w)) (begins_letter (word 0 (words w))) _ _
    (λ b. past-refuse _ _ 7 k _ (past-named (LineStep (Some Model) rows w) g (line_at fixtures w) _ k w _ (λ h. (refl, fixture (letter-no-row w b)))))
    (λ b. row_goes _ (WaveformRows o g) m r k w (row_of w) (λ y e. (refl, row e)))

model-goes : (m : ModelState) (k : ℕ) (w : List ℕ) (l : ModelList) → model_gives m.list ≡ model_gives l
    → Goes (LineStep (Some Model) (model_gives l) w) (model_line m k w l)
unfolding with_first
model-goes m k w ModelFirst q =
    past-named (LineStep (Some Model) nothing w) m.first (line_at model_lines w) _ k w _ (λ h. (ap (λ (g : Gives). record { within = Some Model; gives = g }) q, quiet))
model-goes m k w ModelShut q = tt
model-goes m k w (CurrentRows o r) q = row_goes _ (CurrentRows o) m r k w (row_of w) (λ y e. (refl, row e))
model-goes m k w (RampLines o g) q = past-named (LineStep (Some Model) nothing w) g (line_at ramp_lines w) _ k w _ (λ h. (refl, quiet))
model-goes m k w (WaveformRows o g r) q = waveform-goes m o g r k w

line-goes : (s : Stage) (k : ℕ) (w : List ℕ) → Goes (LineStep (open_at s).within (open_at s).gives w) (on_line s k w)
unfolding header_line selector_line
line-goes BeforeVersion k w = tt
line-goes (InHeader h) k w = cond-all (Goes (LineStep None nothing w)) h.text _ _ (λ e. (refl, quiet)) (λ e. tt)
line-goes (InComponent c) k w = component-goes c k w c.list refl
line-goes (InSelector s) k w = past-passes _ _ k _ (refl, choice)
line-goes (InModel m) k w = model-goes m k w m.list refl
line-goes AfterEnd k w = tt

-- ---- keywords

-- closing a list leaves the section
abbrev Stays : Option Section → Stage → Event → Type 0
Stays x t e = (open_at t).within ≡ x

component-shut : (c : ComponentState) (l : ComponentList) → Goes (Stays (Some Component)) (component_shut c l)
component-shut c ComponentFirst = refl
component-shut c ComponentShut = refl
component-shut c (PackageLines o g) = past-refuse _ _ 9 o _ refl
component-shut c (PinRows o long any) = past-refuse _ _ 9 o _ refl

model-shut : (m : ModelState) (l : ModelList) → Goes (Stays (Some Model)) (model_shut m l)
model-shut m ModelFirst = refl
model-shut m ModelShut = refl
model-shut m (CurrentRows o r) = past-unless _ _ o _ refl
model-shut m (RampLines o g) = past-refuse _ _ 9 o _ refl
model-shut m (WaveformRows o g r) = past-refuse _ _ 9 o _ (past-unless _ _ o _ refl)

shut-stays : (k : ℕ) (s : Stage) → Goes (Stays (open_at s).within) (shut k s)
unfolding selector_shut
shut-stays k BeforeVersion = refl
shut-stays k (InHeader h) = refl
shut-stays k (InComponent c) = component-shut c c.list
shut-stays k (InSelector s) = past-refuse _ _ 9 s.line _ refl
shut-stays k (InModel m) = model-shut m m.list
shut-stays k AfterEnd = tt

abbrev KeyStep : Option Section → Keyword → Stage → Event → Type 0
KeyStep x a s e = KeyGives x a (open_at s) e

version-goes : (s : Stage) (k : ℕ) (w : List ℕ) → Goes (KeyStep (open_at s).within key.IbisVer) (on_version s k w)
unfolding on_version version
version-goes BeforeVersion k w = past-passes _ _ k _ of_version
version-goes (InHeader h) k w = tt
version-goes (InComponent c) k w = tt
version-goes (InSelector s) k w = tt
version-goes (InModel m) k w = tt
version-goes AfterEnd k w = tt

header-key : (s : Stage) (k : ℕ) (w : List ℕ) (p : HeaderPart)
    → Goes (KeyStep (open_at s).within (key.InHeader p)) (within k (header_of s) (λ h. header_part h k w p))
unfolding header_part
header-key BeforeVersion k w p = tt
header-key (InHeader h) k w p = past-once _ _ _ k _ of_header
header-key (InComponent c) k w p = tt
header-key (InSelector s) k w p = tt
header-key (InModel m) k w p = tt
header-key AfterEnd k w p = tt

section-goes : (x : Option Section) (k : ℕ) (w : List ℕ) (o : Section) → Goes (KeyStep x (key.Opens o)) (opened k w o)
unfolding opened
section-goes x k w Component = past-passes _ _ k _ (of_section Component)
section-goes x k w Selector = past-passes _ _ k _ (of_section Selector)
section-goes x k w Model = past-passes _ _ k _ (of_section Model)

component-part : (c : ComponentState) (k : ℕ) (w : List ℕ) (p : ComponentPart)
    → Goes (KeyStep (Some Component) (key.InComponent p)) (component_part c k w p)
unfolding component_part
component-part c k w Manufacturer = past-once _ _ _ k _ (of_component Manufacturer)
component-part c k w Package = past-once _ _ _ k _ (of_component Package)
component-part c k w Pin = past-once _ _ _ k _ (of_component Pin)

model-part : (m : ModelState) (k : ℕ) (w : List ℕ) (p : ModelPart) → Goes (KeyStep (Some Model) (key.InModel p)) (model_part m k w p)
unfolding single_part waveform_part
model-part m k w VoltageRange = past-once _ _ _ k _ (of_model VoltageRange)
model-part m k w TemperatureRange = past-once _ _ _ k _ (of_model TemperatureRange)
model-part m k w (Current Pulldown) = past-once _ _ _ k _ (of_model (Current Pulldown))
model-part m k w (Current Pullup) = past-once _ _ _ k _ (of_model (Current Pullup))
model-part m k w (Current GndClamp) = past-once _ _ _ k _ (of_model (Current GndClamp))
model-part m k w (Current PowerClamp) = past-once _ _ _ k _ (of_model (Current PowerClamp))
model-part m k w Ramp = past-once _ _ _ k _ (of_model Ramp)
model-part m k w (Waveform e) = past-passes _ _ k _ (past-refuse _ _ 17 k _ (of_model (Waveform e)))

component-key : (s : Stage) (k : ℕ) (w : List ℕ) (p : ComponentPart)
    → Goes (KeyStep (open_at s).within (key.InComponent p)) (within k (component_of s) (λ c. component_part c k w p))
component-key BeforeVersion k w p = tt
component-key (InHeader h) k w p = tt
component-key (InComponent c) k w p = component-part c k w p
component-key (InSelector s) k w p = tt
component-key (InModel m) k w p = tt
component-key AfterEnd k w p = tt

model-key : (s : Stage) (k : ℕ) (w : List ℕ) (p : ModelPart) → Goes (KeyStep (open_at s).within (key.InModel p)) (within k (model_of s) (λ m. model_part m k w p))
model-key BeforeVersion k w p = tt
model-key (InHeader h) k w p = tt
model-key (InComponent c) k w p = tt
model-key (InSelector s) k w p = tt
model-key (InModel m) k w p = model-part m k w p
model-key AfterEnd k w p = tt

keyword-goes : (s : Stage) (k : ℕ) (w : List ℕ) (x : Keyword) → Goes (KeyStep (open_at s).within x) (on_keyword s k w x)
keyword-goes s k w key.IbisVer = version-goes s k w
keyword-goes s k w (key.InHeader p) = header-key s k w p
keyword-goes s k w (key.Opens o) =
    past-closing _ (λ (t : Stage). Unit {0}) _ (done k s) (anywhere (done k s)) (λ t q. section-goes (open_at s).within k w o)
keyword-goes s k w (key.InComponent p) = component-key s k w p
keyword-goes s k w (key.InModel p) = model-key s k w p
keyword-goes s k w key.End = past-closing _ (λ (t : Stage). Unit {0}) _ (done k s) (anywhere (done k s)) (λ t q. of_end)

-- ---- a text

abbrev TextStep : Stage → Text → Stage → Event → Type 0
TextStep s t u e = Stepped (open_at s) t (open_at u) e

module _ (k : ℕ) (w : List ℕ) where
  -- behind what the keyword line closed
  keyed-goes : (s t : Stage) (x : Said Keyword) → is_bracketed w ≡ true → key_of w ≡ x → (open_at t).within ≡ (open_at s).within
      → Goes (TextStep s (plain k w)) (keyed t k w x)
  keyed-goes s t (Err n) b r q = tt
  keyed-goes s t (Ok x) b r q =
      past_all (TextStep s (plain k w)) (KeyStep (open_at t).within x) (on_keyword t k w x) (keyword-goes t k w x)
      (λ u e g. by_key b r (subst (λ (y : Option Section). KeyGives y x (open_at u) e) q g))

  plain-goes : (s : Stage) → Goes (TextStep s (plain k w)) (on_plain s k w)
  unfolding on_plain
  plain-goes s =
      let after : Stage → Event → Type 0 = TextStep s (plain k w) in
      let line : Stage → Event → Type 0 = LineStep (open_at s).within (open_at s).gives w in
      cond-all (Goes after) (is_bracketed w) _ _
      (λ b. past-closing after (λ (t : Stage). (open_at t).within ≡ (open_at s).within) _ (shut k s) (shut-stays k s) (λ t q. keyed-goes s t (key_of w) b refl q))
      (λ b.
      past_all after line (on_line s k w) (line-goes s k w)
      (λ u e g. subst (λ (o : Open). Stepped (open_at s) (plain k w) o e) (sym g.0) (by_line b g.1)))

pub text-goes : (s : Stage) (t : Text) → Goes (TextStep s t) (on_text s t)
unfolding on_change
text-goes s (plain k w) = plain-goes k w s
text-goes s (change k f) = past-refuse _ _ 7 k _ (past-refuse _ _ 5 k _ (past-refuse _ _ 7 k _ (past-passes _ f k _ by_change)))
