-- Every section that is read is one whose texts all went on, from the state that its keyword opened. Keyword by keyword.
use Rattle.std.specs.Prelude.{Result, Ok, Err, Option, None, Some}
use Prim.Native.Nat.{ℕ}
use mathlib.Core.Path.{◌≡◌, refl, sym, ap, subst, ◌∙◌}
use mathlib.Core.List.{List, [], ◌∷◌}
use mathlib.Core.Bool.{Bool, true, false}
use lib.Dec.{leb}
use Rattle.laws.specs.Lists.{front, Every}
use Rattle.laws.specs.Said.{Said}
use Rattle.laws.proofs.Tests.{by-test, cond-all, cond_yes, cond_no, impossible}
use Rattle.words.specs.Words.{word, words}
use Rattle.keywords.specs.Form.{argument}
use Rattle.keywords.specs.Carried.{key_of}
use Rattle.keywords.specs.declared.Keyword.{Keyword}
use Rattle.keywords.specs.declared.Keyword.TheVariants as key
use Rattle.keywords.specs.declared.Section.{Section}
use Rattle.keywords.specs.declared.Section.TheVariants.{Component, Selector, Model}
use Rattle.cut_lines.specs.Texts.{Text, plain, change}
use Rattle.line_rules.specs.Fields.{is_bracketed, is_sized, is_model_name}
use Rattle.given.specs.Given.{none_given}
use Rattle.rules.specs.Going.{and_then}
use Rattle.rules.specs.Model.{new_model}
use Rattle.rules.specs.Steps.{shut, done, opened, on_keyword, keyed, on_line, on_plain, on_text}
use Rattle.rules.specs.Outline.{Entry, is, count, is_used}
use Rattle.rules.specs.Whole.{bound, Held, admit_entry, section_entry, admit, text_of, line_of}
use Rattle.records.specs.declared.Kind.TheVariants.{OfPin, OfChoice}
use Rattle.records.specs.declared.Lengths.{Lengths}
use Rattle.rules.specs.Reading.{argument_at, is_within, SectionIs, component, selector, model, sections_in}
use Rattle.rules.specs.Keys.{key_in, key_at, opens, onto_sections}
use Rattle.rules.proofs.Keys.{section-at}
use Rattle.rules.specs.declared.ComponentList.TheVariants.{ComponentFirst}
use Rattle.rules.specs.declared.ComponentState.{ComponentState}
use Rattle.rules.specs.declared.SelectorState.{SelectorState}
use Rattle.rules.specs.declared.Stage.{Stage}
use Rattle.rules.specs.declared.Stage.TheVariants.{InComponent, InSelector, InModel}
use Rattle.rules.specs.declared.Event.{Event}
use Rattle.rules.specs.declared.Event.TheVariants.{Opened}
use Rattle.layout_by_notes.proofs.Goes.{Goes, past-closing, anywhere}
use Rattle.records.specs.Flaws.{bare}
use Rattle.records.specs.declared.LineFault.{LineFault}
use Rattle.accepted_tables.proofs.Checks.{past-passes, gone, Runs}
use Rattle.accepted_tables.proofs.Faults.{alone-passes, sized-passes}

abbrev pub new_component : ℕ → ComponentState
new_component k = record { line = k; first = none_given; parts = none_given; list = ComponentFirst }

abbrev pub new_selector : ℕ → SelectorState
new_selector k = record { line = k; any = false }

-- ---- the state that a keyword opens, w being its argument

abbrev Opening : ℕ → List ℕ → Option Section → Stage → Event → Type 0
Opening k w None u e = Unit {0}
Opening k w (Some Component) u e = (u ≡ InComponent (new_component k)) × (is_sized 40 w ≡ true) × (e ≡ Opened Component)
Opening k w (Some Selector) u e = (u ≡ InSelector (new_selector k)) × (is_model_name (word 0 (words w)) ≡ true) × (e ≡ Opened Selector)
Opening k w (Some Model) u e = (u ≡ InModel (new_model k)) × (is_model_name (word 0 (words w)) ≡ true) × (e ≡ Opened Model)

abbrev Opens : ℕ → List ℕ → Option Section → Stage → Event → Type 0
Opens k w o u e = Opening k w o u e

opened-goes : (k : ℕ) (w : List ℕ) (o : Section) → Goes (Opens k (argument w) (Some o)) (opened k w o)
unfolding opened
opened-goes k w Component = past-passes (Opens k (argument w) (Some Component)) _ k _ (λ h. (refl, sized-passes (argument w) h, refl))
opened-goes k w Selector = past-passes (Opens k (argument w) (Some Selector)) _ k _ (λ h. (refl, alone-passes is_model_name (argument w) h, refl))
opened-goes k w Model = past-passes (Opens k (argument w) (Some Model)) _ k _ (λ h. (refl, alone-passes is_model_name (argument w) h, refl))

keyword-goes : (s : Stage) (k : ℕ) (w : List ℕ) (x : Keyword) → Goes (Opens k (argument w) (opens (Some x))) (on_keyword s k w x)
keyword-goes s k w key.IbisVer = anywhere (on_keyword s k w key.IbisVer)
keyword-goes s k w (key.InHeader p) = anywhere (on_keyword s k w (key.InHeader p))
keyword-goes s k w (key.Opens o) =
    past-closing (Opens k (argument w) (Some o)) (λ (t : Stage). Unit {0}) _ (done k s) (anywhere (done k s)) (λ t q. opened-goes k w o)
keyword-goes s k w (key.InComponent p) = anywhere (on_keyword s k w (key.InComponent p))
keyword-goes s k w (key.InModel p) = anywhere (on_keyword s k w (key.InModel p))
keyword-goes s k w key.End = anywhere (on_keyword s k w key.End)

keyed-goes : (s : Stage) (k : ℕ) (w : List ℕ) (x : Said Keyword) → Goes (Opens k (argument w) (opens (key_in x))) (keyed s k w x)
keyed-goes s k w (Err n) = tt
keyed-goes s k w (Ok x) = keyword-goes s k w x

abbrev AtText : Text → Stage → Event → Type 0
AtText t u e = Opening (line_of t) (argument_at t) (opens (key_at t)) u e

text-goes : (s : Stage) (t : Text) → Goes (AtText t) (on_text s t)
unfolding on_plain
text-goes s (plain k w) =
    cond-all (Goes (AtText (plain k w))) (is_bracketed w) _ _
    (λ b.
    subst (λ (x : Option Keyword). Goes (Opens k (argument w) (opens x)) (and_then (shut k s) (λ (t : Stage). keyed t k w (key_of w)))) (sym (cond_yes (key_in (key_of w)) None b))
    (past-closing (Opens k (argument w) (opens (key_in (key_of w)))) (λ (t : Stage). Unit {0}) (λ (t : Stage). keyed t k w (key_of w)) (shut k s) (anywhere (shut k s)) (λ t q. keyed-goes t k w (key_of w))))
    (λ b.
    subst (λ (x : Option Keyword). Goes (Opens k (argument w) (opens x)) (on_line s k w)) (sym (cond_no (key_in (key_of w)) None b)) (anywhere (on_line s k w)))
text-goes s (change k f) = anywhere (on_text s (change k f))

-- ---- a section's texts are those of a file that goes on

-- from this state; nothing of it is held yet but its own entry
pub record Continues (l : Lengths) (s : Stage) (ts : List Text) : Type 0 where
  pub more : List Text
  pub own : ts ≡ front is_within more
  pub held : Held
  pub runs : Runs l held s more
  pub no_pins : front (is OfPin) held.entries ≡ []
  pub no_choices : front (is OfChoice) held.entries ≡ []

abbrev pub SectionPasses : Lengths → SectionIs → Type 0
SectionPasses l (component w ts) = (k : ℕ) × Continues l (InComponent (new_component k)) ts × (is_sized 40 w ≡ true)
SectionPasses l (selector w ts) = (k : ℕ) × Continues l (InSelector (new_selector k)) ts × (is_model_name w ≡ true)
SectionPasses l (model w ts) = (k : ℕ) × Continues l (InModel (new_model k)) ts × (is_model_name w ≡ true)

-- an entry that is admitted: its name is not used, and it is the latest
pub entry-admitted : (l : Lengths) (h : Held) (e : Entry) (g : Held) → admit_entry l h e ≡ Ok g → (is_used e.kind e.name h.entries ≡ false) × (g.entries ≡ e ∷ h.entries)
unfolding admit_entry
entry-admitted l h e g q =
    let kept : Result Held LineFault = Ok (record { entries = e ∷ h.entries; waveforms = h.waveforms }) in
    let full : Bool = leb (bound l e.kind) (count (is e.kind) h.entries) in
    by-test (is_used e.kind e.name h.entries)
    (λ t. let z : Err (bare 14) ≡ Ok g = sym (cond_yes _ _ t) ∙ q in impossible (cc))
    (λ t.
    by-test full
    (λ u. let z : Err (bare 17) ≡ Ok g = sym (cond_yes _ _ u) ∙ sym (cond_no _ _ t) ∙ q in impossible (cc))
    (λ u.
    let z : kept ≡ Ok g = sym (cond_no _ _ u) ∙ sym (cond_no _ _ t) ∙ q in
    let same : record { entries = e ∷ h.entries; waveforms = h.waveforms } ≡ g = cc in
    (t, ap (λ (x : Held). x.entries) (sym same))))

module _ (l : Lengths) (h g : Held) (k : ℕ) (w : List ℕ) (u : Stage) (ts : List Text) (r : Runs l g u ts) where
  continues : (s : Stage) (o : Section) (e : Event) → u ≡ s → e ≡ Opened o → admit l h k w e ≡ Ok g
      → is OfPin (section_entry k (argument w) o) ≡ false → is OfChoice (section_entry k (argument w) o) ≡ false
      → Continues l s (front is_within ts)
  unfolding front
  continues s o e i j a p c =
      let entry : Entry = section_entry k (argument w) o in
      let entries : g.entries ≡ entry ∷ h.entries = (entry-admitted l h entry g (sym (ap (admit l h k w) j) ∙ a)).1 in
      record {
        more = ts;
        own = refl;
        held = g;
        runs = subst (λ (v : Stage). Runs l g v ts) i r;
        no_pins = ap (front (is OfPin)) entries ∙ cond_no _ [] p;
        no_choices = ap (front (is OfChoice)) entries ∙ cond_no _ [] c;
      }

section-passes : (l : Lengths) (h g : Held) (t : Text) (ts : List Text) (u : Stage) (e : Event) (more : List SectionIs) (o : Option Section)
    → Opening (line_of t) (argument (text_of t)) o u e → admit l h (line_of t) (text_of t) e ≡ Ok g → Runs l g u ts
    → Every (SectionPasses l) more → Every (SectionPasses l) (onto_sections (argument (text_of t)) (front is_within ts) more o)
section-passes l h g t ts u e more None q a r so = so
section-passes l h g t ts u e more (Some Component) q a r so = ((line_of t, continues l h g (line_of t) (text_of t) u ts r _ Component e q.0 q.2 a refl refl, q.1), so)
section-passes l h g t ts u e more (Some Selector) q a r so = ((line_of t, continues l h g (line_of t) (text_of t) u ts r _ Selector e q.0 q.2 a refl refl, q.1), so)
section-passes l h g t ts u e more (Some Model) q a r so = ((line_of t, continues l h g (line_of t) (text_of t) u ts r _ Model e q.0 q.2 a refl refl, q.1), so)

-- a text's keyword opens a section only on a plain line
section-text : (l : Lengths) (h g : Held) (t : Text) (ts : List Text) (u : Stage) (e : Event) → AtText t u e → admit l h (line_of t) (text_of t) e ≡ Ok g → Runs l g u ts
    → Every (SectionPasses l) (sections_in ts) → Every (SectionPasses l) (onto_sections (argument_at t) (front is_within ts) (sections_in ts) (opens (key_at t)))
section-text l h g (plain k w) ts u e q a r so = section-passes l h g (plain k w) ts u e (sections_in ts) (opens (key_at (plain k w))) q a r so
section-text l h g (change k f) ts u e q a r so = so

pub sections-pass : (l : Lengths) (ts : List Text) (h : Held) (s : Stage) → Runs l h s ts → Every (SectionPasses l) (sections_in ts)
unfolding sections_in
sections-pass l [] h s r = tt
sections-pass l (t ∷ ts) h s r =
    subst (Every (SectionPasses l)) (sym (section-at t ts))
    (section-text l h r.3 t ts r.0 r.1 (gone (AtText t) (on_text s t) r.0 r.1 (text-goes s t) r.2) r.4 r.5 (sections-pass l ts r.3 r.0 r.5))
