-- A line that opens a section or is [End]: it closes what is open, and what it then does hangs on that line alone.
use Rattle.std.specs.Prelude.{Ok, Err}
use Prim.Native.Nat.{ℕ}
use mathlib.Core.Path.{◌≡◌, refl, sym, ap, ◌∙◌}
use mathlib.Core.List.{List}
use mathlib.Core.Logic.{◌⊎◌, inl, inr}
use mathlib.Core.Bool.{Bool, true, false, not, ◌&&◌}
use lib.Dec.{eqb}
use borrow.Author.Tests.{not-false}
use Rattle.laws.specs.Bytes.{bytes, is_blank}
use Rattle.laws.specs.Lists.{eqs, one_of}
use Rattle.laws.specs.Said.{Said, or_fault}
use Rattle.laws.proofs.Tests.{by-test, cond_yes, cond_no, cond_map, and_second}
use Rattle.laws.proofs.Same.{eqs-eq}
use Rattle.words.specs.Words.{words, grown, onto_word}
use Rattle.name_table.specs.Names.{meaning}
use Rattle.keywords.specs.Form.{inside, is_formed, spelled, argument}
use Rattle.keywords.specs.Carried.{carried, gap_or_slip, key_of}
use Rattle.keywords.specs.declared.Keyword.{Keyword}
use Rattle.keywords.specs.declared.Keyword.TheVariants as key
use Rattle.keywords.specs.declared.Section.TheVariants.{Model}
use Rattle.keywords.proofs.Spelling.{spelling-known}
use Rattle.records.specs.Flaws.{told}
use Rattle.records.specs.declared.Fault.{Fault}
use Rattle.cut_lines.specs.Texts.{Text, plain}
use Rattle.line_rules.specs.Fields.{is_bracketed, no_argument}
use Rattle.rules.specs.Going.{stop, stop_at, unless, passes, refuse, and_then, Went}
use Rattle.rules.specs.Component.{component_shut}
use Rattle.rules.specs.Selector.{selector_shut}
use Rattle.rules.specs.Model.{new_model, model_shut}
use Rattle.rules.specs.Steps.{shut, done, opened_flaw, opened, keyed, on_plain}
use Rattle.rules.specs.Reading.{key_name, is_key, is_within}
use Rattle.rules.specs.Keys.{key_in, key_at, is_end}
use Rattle.rules.proofs.Keys.{within-key}
use Rattle.rules.specs.declared.ComponentList.{ComponentList}
use Rattle.rules.specs.declared.ComponentList.TheVariants.{ComponentFirst, ComponentShut, PackageLines, PinRows}
use Rattle.rules.specs.declared.ComponentState.{ComponentState}
use Rattle.rules.specs.declared.SelectorState.{SelectorState}
use Rattle.rules.specs.declared.ModelList.{ModelList}
use Rattle.rules.specs.declared.ModelList.TheVariants.{ModelFirst, ModelShut, CurrentRows, RampLines, WaveformRows}
use Rattle.rules.specs.declared.ModelState.{ModelState}
use Rattle.rules.specs.declared.Stage.{Stage}
use Rattle.rules.specs.declared.Stage.TheVariants.{BeforeVersion, InHeader, InComponent, InSelector, InModel, AfterEnd}
use Rattle.rules.specs.declared.Event.{Event}
use Rattle.rules.specs.declared.Event.TheVariants.{Opened, Ended}
use Rattle.renumbered.proofs.Stages.{stage_at, went_at, then_at}
use Rattle.renumbered.proofs.Steps.{shut_at, done_at, opened-at}

-- ---- the keyword of such a line

key-at-ends : (k : ℕ) (w : List ℕ) → is_within (plain k w) ≡ false → is_end (key_at (plain k w)) ≡ true
key-at-ends k w h = not-false _ (sym (within-key (plain k w)) ∙ h)

bracketed : (k : ℕ) (w : List ℕ) → is_end (key_at (plain k w)) ≡ true → is_bracketed w ≡ true
bracketed k w h = by-test (is_bracketed w) (λ t. t) (λ t. let z : false ≡ true = rw t at h in cc)

key-ends : (k : ℕ) (w : List ℕ) → is_end (key_at (plain k w)) ≡ true → is_end (key_in (key_of w)) ≡ true
key-ends k w h = rw (bracketed k w h) at h

-- [Model] is such a keyword
is_one : not (one_of (bytes "model") (words (bytes "component model_selector model end"))) ≡ false
unfolding one_of eqs words grown onto_word is_blank
is_one = refl

pub model-ends : (t : Text) → is_key "model" t ≡ true → is_within t ≡ false
model-ends t h =
    ap (λ (x : List ℕ). not (one_of x (words (bytes "component model_selector model end")))) (eqs-eq (key_name t) (bytes "model") h) ∙ is_one

pub model-key : (k : ℕ) (w : List ℕ) → is_key "model" (plain k w) ≡ true → key_of w ≡ Ok (key.Opens Model)
unfolding key_of eqs
model-key k w h =
    by-test (is_bracketed w && is_formed w)
    (λ t.
    cond_yes _ _ (and_second (is_bracketed w) (is_formed w) t)
    ∙ ap (λ (x : List ℕ). or_fault (gap_or_slip x) (meaning x carried)) (eqs-eq (spelled (inside w)) (bytes "model") (rw t at h))
    ∙ ap (or_fault (gap_or_slip (bytes "model"))) (spelling-known (key.Opens Model)))
    (λ t. let z : false ≡ true = rw t at h in cc)

-- ---- what it closes: the open table or list, and then the section

abbrev pub close : ℕ → Stage → Went
close k s = and_then (shut k s) (done k)

pub close_at : (f : ℕ → ℕ) (k : ℕ) (s : Stage) → went_at f (close k s) ≡ close (f k) (stage_at f s)
close_at f k s = then_at f (shut k s) (done k) (done (f k)) (done_at f k) ∙ rw (shut_at f k s)

then-refuse : (t : Bool) (n k : ℕ) (w : Went) (g : Stage → Went) → and_then (refuse t n k w) g ≡ refuse t n k (and_then w g)
unfolding refuse
then-refuse t n k w g = cond_map (λ (x : Went). and_then x g) t (stop n k) w

then-unless : (n k : ℕ) (w : Went) (g : Stage → Went) → and_then (unless n k w) g ≡ unless n k (and_then w g)
unfolding unless
then-unless n k w g = cond_map (λ (x : Went). and_then x g) (eqb n 0) w (stop n k)

-- where something is open, that does not hang on the line's number
component-same : (j k : ℕ) (c : ComponentState) (l : ComponentList) → and_then (component_shut c l) (done j) ≡ and_then (component_shut c l) (done k)
component-same j k c ComponentFirst = refl
component-same j k c ComponentShut = refl
component-same j k c (PackageLines o g) = simp then-refuse
component-same j k c (PinRows o long any) = simp then-refuse

selector-same : (j k : ℕ) (s : SelectorState) → and_then (selector_shut s) (done j) ≡ and_then (selector_shut s) (done k)
unfolding selector_shut
selector-same j k s = simp then-refuse

model-same : (j k : ℕ) (m : ModelState) (l : ModelList) → and_then (model_shut m l) (done j) ≡ and_then (model_shut m l) (done k)
model-same j k m ModelFirst = refl
model-same j k m ModelShut = refl
model-same j k m (CurrentRows o r) = simp then-unless
model-same j k m (RampLines o g) = simp then-refuse
model-same j k m (WaveformRows o g r) = simp (then-refuse, then-unless)

-- ---- what it does by itself

abbrev by_itself : ℕ → List ℕ → Said Keyword → Went
by_itself k w (Err n) = stop n k
by_itself k w (Ok key.IbisVer) = stop 7 k
by_itself k w (Ok (key.InHeader p)) = stop 7 k
by_itself k w (Ok (key.Opens o)) = opened k w o
by_itself k w (Ok (key.InComponent p)) = stop 7 k
by_itself k w (Ok (key.InModel p)) = stop 7 k
by_itself k w (Ok key.End) = Ok (AfterEnd, Ended (told w (no_argument (argument w))))

abbrev pub alone : ℕ → List ℕ → Went
alone k w = by_itself k w (key_of w)

itself-at : (f : ℕ → ℕ) (k : ℕ) (w : List ℕ) (x : Said Keyword) → went_at f (by_itself k w x) ≡ by_itself (f k) w x
itself-at f k w (Err n) = refl
itself-at f k w (Ok key.IbisVer) = refl
itself-at f k w (Ok (key.InHeader p)) = refl
itself-at f k w (Ok (key.Opens o)) = opened-at f k w o
itself-at f k w (Ok (key.InComponent p)) = refl
itself-at f k w (Ok (key.InModel p)) = refl
itself-at f k w (Ok key.End) = refl

pub alone_at : (f : ℕ → ℕ) (k : ℕ) (w : List ℕ) → went_at f (alone k w) ≡ alone (f k) w
alone_at f k w = itself-at f k w (key_of w)

-- a [Model] line opens a model, or stops
pub alone-model : (k : ℕ) (w : List ℕ) → key_of w ≡ Ok (key.Opens Model) → alone k w ≡ opened k w Model
alone-model k w h = ap (by_itself k w) h

pub opened-either : (k : ℕ) (w : List ℕ) → (opened k w Model ≡ Ok (InModel (new_model k), Opened Model)) ⊎ ((f : Fault) × (opened k w Model ≡ Err f))
unfolding opened passes
opened-either k w =
    let x = told w (opened_flaw (argument w) Model) in
    by-test (eqb x.number 0) (λ t. inl (cond_yes _ _ t)) (λ t. inr (_, cond_no _ _ t))

-- one that goes on does so at any line
pub alone-anywhere : (k j : ℕ) (w : List ℕ) (s : Stage) (e : Event) → key_of w ≡ Ok (key.Opens Model)
    → alone k w ≡ Ok (s, e) → alone j w ≡ Ok (InModel (new_model j), Opened Model)
unfolding opened passes
alone-anywhere k j w s e h q =
    let x = told w (opened_flaw (argument w) Model) in
    by-test (eqb x.number 0)
    (λ t. rw (h, t))
    (λ t. let z : stop_at x k ≡ Ok (s, e) = rw (h, t) at q in cc)

-- ---- both

keyed-closes : (s : Stage) (k : ℕ) (w : List ℕ) (x : Said Keyword) → is_end (key_in x) ≡ true → keyed s k w x ≡ and_then (done k s) (λ (t : Stage). by_itself k w x)
keyed-closes s k w (Err n) h = cc
keyed-closes s k w (Ok key.IbisVer) h = cc
keyed-closes s k w (Ok (key.InHeader p)) h = cc
keyed-closes s k w (Ok (key.Opens o)) h = refl
keyed-closes s k w (Ok (key.InComponent p)) h = cc
keyed-closes s k w (Ok (key.InModel p)) h = cc
keyed-closes s k w (Ok key.End) h = refl

then_same : (w : Went) (a b : Stage → Went) → ((s : Stage) → a s ≡ b s) → and_then w a ≡ and_then w b
then_same (Ok (s, e)) a b h = h s
then_same (Err x) a b h = refl

then-then : (w : Went) (a b : Stage → Went) → and_then w (λ (s : Stage). and_then (a s) b) ≡ and_then (and_then w a) b
then-then (Ok (s, e)) a b = refl
then-then (Err x) a b = refl

plain-closes : (s : Stage) (k : ℕ) (w : List ℕ) → is_within (plain k w) ≡ false → on_plain s k w ≡ and_then (close k s) (λ (t : Stage). alone k w)
unfolding on_plain
plain-closes s k w h =
    let e = key-at-ends k w h in
    cond_yes _ _ (bracketed k w e)
    ∙ then_same (shut k s) _ _ (λ t. keyed-closes t k w (key_of w) (key-ends k w e))
    ∙ then-then (shut k s) (done k) (λ (t : Stage). alone k w)

-- out of place, or it closes, which does not hang on its line, and goes on alone
pub data Closer (s : Stage) (k : ℕ) (w : List ℕ) : Type 0 where
  misplaced : on_plain s k w ≡ stop 7 k → Closer s k w
  closes : ((j : ℕ) → on_plain s k w ≡ and_then (close j s) (λ (t : Stage). alone k w)) → Closer s k w

pub closer : (s : Stage) (k : ℕ) (w : List ℕ) → is_within (plain k w) ≡ false → Closer s k w
closer s k w h = by s (plain-closes s k w h)
  where
    from : (s : Stage) → ((j : ℕ) → close k s ≡ close j s) → on_plain s k w ≡ and_then (close k s) (λ (t : Stage). alone k w) → Closer s k w
    from s same e = closes (λ j. e ∙ ap (λ (x : Went). and_then x (λ (t : Stage). alone k w)) (same j))

    by : (s : Stage) → on_plain s k w ≡ and_then (close k s) (λ (t : Stage). alone k w) → Closer s k w
    by BeforeVersion e = misplaced e
    by (InHeader x) e = from (InHeader x) (λ j. refl) e
    by (InComponent c) e = from (InComponent c) (λ j. component-same k j c c.list) e
    by (InSelector l) e = from (InSelector l) (λ j. selector-same k j l) e
    by (InModel m) e = from (InModel m) (λ j. model-same k j m m.list) e
    by AfterEnd e = misplaced e
