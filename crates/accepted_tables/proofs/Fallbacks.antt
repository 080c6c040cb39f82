-- The lines of an accepted file are read without a fault, and each model's type is given. From text to text of each section.
use Rattle.std.specs.Prelude.{Ok, Some}
use Prim.Native.Nat.{ℕ}
use mathlib.Core.Path.{◌≡◌, refl, sym, ap, subst, ◌∙◌}
use mathlib.Core.List.{List, [], ◌∷◌, ◌++◌}
use mathlib.Core.Logic.{inl, inr}
use mathlib.Core.Bool.{true, false, cond}
use lib.Dec.{eqb}
use borrow.Author.Tests.{eqb-true}
use Rattle.laws.specs.Bytes.{bytes, is_blank}
use Rattle.laws.specs.Lists.{eqs, front, one_of, Every}
use Rattle.laws.proofs.Tests.{by-test, cond_yes}
use Rattle.laws.proofs.Every.{every_append}
use Rattle.words.specs.Words.{words, grown, onto_word}
use Rattle.keywords.specs.Form.{argument}
use Rattle.keywords.specs.Carried.{key_of}
use Rattle.keywords.specs.declared.Keyword.TheVariants as key
use Rattle.keywords.specs.declared.ModelPart.{ModelPart}
use Rattle.keywords.specs.declared.ModelPart.TheVariants.{VoltageRange, TemperatureRange, Current, Ramp, Waveform}
use Rattle.keywords.specs.declared.CurrentTable.TheVariants.{Pulldown, Pullup, GndClamp, PowerClamp}
use Rattle.cut_lines.specs.Texts.{Text, plain, change}
use Rattle.records.specs.declared.Edge.TheVariants.{Rising, Falling}
use Rattle.records.specs.declared.ModelType.{ModelType}
use Rattle.records.specs.declared.Lengths.{Lengths}
use Rattle.line_rules.specs.Fields.{is_bracketed, line_at, word_line, takes, line_says}
use Rattle.line_rules.specs.Tables.{model_lines, model_types, waveform_keywords}
use Rattle.given.specs.Given.{with, gave}
use Rattle.given.specs.declared.Given.{Given}
use Rattle.rules.specs.Model.{new_model, first_flaw, ramp_flaw, with_first, model_opens, model_done}
use Rattle.rules.specs.Reading.{under, lines_under, TableIs, tables_in, is_within, SectionIs, component, selector, model}
use Rattle.rules.proofs.Keys.{lines-skip, lines-key}
use Rattle.keywords.proofs.Spelling.{spelling}
use Rattle.rules.specs.declared.ModelList.{ModelList}
use Rattle.rules.specs.declared.ModelList.TheVariants.{ModelFirst, ModelShut, CurrentRows, RampLines, WaveformRows}
use Rattle.rules.specs.declared.ModelState.{ModelState}
use Rattle.rules.specs.declared.Stage.TheVariants.{InSelector, InModel}
use Rattle.layout_by_notes.proofs.Ahead.{key-at, no_key, under-key, under-line, under-change, under-within}
use Rattle.records.specs.declared.LineFault.{LineFault}
use Rattle.accepted_tables.specs.Fallbacks.{Flawless, TableLines, SectionSaid}
use Rattle.accepted_tables.proofs.Checks.{Passes, runs-pass}
use Rattle.accepted_tables.proofs.Faults.{said, word-line-sure}
use Rattle.accepted_tables.proofs.Named.{gave-none, gave-other, takes-other, takes-own}
use Rattle.accepted_tables.proofs.ModelSteps.{Shuts, ModelLine, first_line, current_row, ramp_line, fixture_line, waveform_row, ModelKey, single, waveform, by-texts}
use Rattle.accepted_tables.proofs.First.{done, first_lines, is_first, opens-none, nothing-first, other-first, under_none, type-place, type-flaw}
use Rattle.accepted_tables.proofs.Parts.{tables-skip, with_table, tables-key}
use Rattle.accepted_tables.proofs.Sections.{new_component, new_selector, SectionPasses}
use Rattle.accepted_tables.proofs.Components.{Parts, parts-read, Rows, rows-read}
use Rattle.accepted_tables.proofs.Models.{not-given}

-- ---- the type: two that were read before the lines ls are the same behind them

abbrev SameFrom : Given → List (List ℕ) → Type 0
SameFrom g ls =
    (x y : ModelType) → (gave g model_lines "Model_type" ≡ true → x ≡ y)
    → line_says "Model_type" (word_line model_types) x ls ≡ line_says "Model_type" (word_line model_types) y ls

same_none : (g : Given) → gave g model_lines "Model_type" ≡ true → SameFrom g []
unfolding line_says
same_none g h x y q = q h

same_line : (g : Given) (w : List ℕ) (i : ℕ) (ls : List (List ℕ)) → line_at model_lines w ≡ Some i → Flawless (first_flaw w) → SameFrom (with g i) ls → SameFrom g (w ∷ ls)
unfolding line_says
same_line g w i ls at ok so x y q =
    let read = word_line model_types in
    so (takes "Model_type" read x w) (takes "Model_type" read y w)
    (λ h.
    by-test (eqb i 0)
    (λ t.
    let v = said (word_line model_types w) (word-line-sure model_types w) (subst Flawless (type-flaw w (at ∙ ap Some (eqb-true i 0 t))) ok) in
    takes-own model_lines "Model_type" 0 type-place read x w i at t v.1 ∙ sym (takes-own model_lines "Model_type" 0 type-place read y w i at t v.1))
    (λ t.
    takes-other model_lines "Model_type" 0 type-place read x w i at t
    ∙ q (sym (gave-other model_lines "Model_type" 0 type-place g i t) ∙ h)
    ∙ sym (takes-other model_lines "Model_type" 0 type-place read y w i at t)))

-- ---- the lines of the open list

abbrev RampLine : List ℕ → Type 0
RampLine w = Flawless (ramp_flaw w)

abbrev ListSaid : ModelList → List (List ℕ) → Type 0
ListSaid ModelFirst ls = Every (λ (w : List ℕ). Flawless (first_flaw w)) ls
ListSaid ModelShut ls = Unit {0}
ListSaid (CurrentRows o r) ls = TableLines false ls
ListSaid (RampLines o g) ls = Every RampLine ls
ListSaid (WaveformRows o g r) ls = TableLines true ls

list-none : (l : ModelList) → ListSaid l []
list-none ModelFirst = tt
list-none ModelShut = tt
list-none (CurrentRows o r) = tt
list-none (RampLines o g) = tt
list-none (WaveformRows o g r) = tt

list-line : (m : ModelState) (w : List ℕ) (n : ModelState) (ls : List (List ℕ)) → ModelLine m w n → ListSaid n.list ls → ListSaid m.list (w ∷ ls)
unfolding with_first
list-line m w n ls (first_line i q at h ok) so = subst (λ (l : ModelList). ListSaid l (w ∷ ls)) (sym q) (ok, subst (λ (l : ModelList). ListSaid l ls) q so)
list-line m w n ls (current_row o r y q e h) so = subst (λ (l : ModelList). ListSaid l (w ∷ ls)) (sym q) ((y, e), so)
list-line m w n ls (ramp_line o g i q at h ok) so = subst (λ (l : ModelList). ListSaid l (w ∷ ls)) (sym q) (ok, so)
list-line m w n ls (fixture_line o g r i q b at h ok) so = subst (λ (l : ModelList). ListSaid l (w ∷ ls)) (sym q) (inr (b, ok), so)
list-line m w n ls (waveform_row o g r y q e h) so = subst (λ (l : ModelList). ListSaid l (w ∷ ls)) (sym q) (inl (y, e), so)

-- ---- a model's texts

abbrev TableSaid : TableIs → Type 0
TableSaid t = TableLines (one_of t.key (words (bytes waveform_keywords))) t.lines

record Says (m : ModelState) (ts : List Text) : Type 0 where
  list : ListSaid m.list (under ts)
  tables : Every TableSaid (tables_in ts)
  ramp : Every RampLine (lines_under "ramp" ts)
  same : SameFrom m.first (first_lines m ts)

says-done : (m : ModelState) → Shuts m.list → model_done m ≡ 0 → Says m []
unfolding tables_in lines_under
says-done m s d =
    record {
      list = subst (ListSaid m.list) (sym under_none) (list-none m.list);
      tables = tt;
      ramp = tt;
      same = subst (SameFrom m.first) (sym (nothing-first m under_none)) (same_none m.first (done m d).type);
    }

says-change : (m : ModelState) (k : ℕ) (f : LineFault) (ts : List Text) → Says m ts → Says m (change k f ∷ ts)
says-change m k f ts so =
    record {
      list = subst (ListSaid m.list) (sym (under-change k f ts)) so.list;
      tables = subst (Every TableSaid) (sym (tables-skip (change k f) ts refl)) so.tables;
      ramp = subst (Every RampLine) (sym (lines-skip (change k f) ts (key.InModel Ramp) refl)) so.ramp;
      same = subst (λ (ls : List (List ℕ)). SameFrom m.first (cond (is_first m.list) ls [])) (sym (under-change k f ts)) so.same;
    }

same_text : (m : ModelState) (k : ℕ) (w : List ℕ) (n : ModelState) (ts : List Text) → is_bracketed w ≡ false → ModelLine m w n
    → SameFrom n.first (first_lines n ts) → SameFrom m.first (first_lines m (plain k w ∷ ts))
unfolding with_first
same_text m k w n ts b (first_line i q at h ok) so =
    let first : is_first m.list ≡ true = ap is_first q in
    subst (SameFrom m.first) (sym (cond_yes (under (plain k w ∷ ts)) [] first ∙ under-line k w ts b))
    (same_line m.first w i (under ts) at ok (subst (SameFrom (with m.first i)) (cond_yes (under ts) [] first) so))
same_text m k w n ts b (current_row o r y q e h) so = subst (SameFrom m.first) (sym (other-first m _ (ap is_first q))) so
same_text m k w n ts b (ramp_line o g i q at h ok) so = subst (SameFrom m.first) (sym (other-first m _ (ap is_first q))) so
same_text m k w n ts b (fixture_line o g r i q l at h ok) so = subst (SameFrom m.first) (sym (other-first m _ (ap is_first q))) so
same_text m k w n ts b (waveform_row o g r y q e h) so = subst (SameFrom m.first) (sym (other-first m _ (ap is_first q))) so

says-line : (m n : ModelState) (k : ℕ) (w : List ℕ) (ts : List Text) → is_bracketed w ≡ false → ModelLine m w n → Says n ts → Says m (plain k w ∷ ts)
says-line m n k w ts b y so =
    record {
      list = subst (ListSaid m.list) (sym (under-line k w ts b)) (list-line m w n (under ts) y so.list);
      tables = subst (Every TableSaid) (sym (tables-skip (plain k w) ts (rw b))) so.tables;
      ramp = subst (Every RampLine) (sym (lines-skip (plain k w) ts (key.InModel Ramp) (no_key k w ts b))) so.ramp;
      same = same_text m k w n ts b y so.same;
    }

table-said : (k : ℕ) (ls : List (List ℕ)) (p : ModelPart) → ListSaid (model_opens k p) ls → (more : List TableIs) → Every TableSaid more → Every TableSaid (with_table k ls p more)
unfolding one_of eqs words grown onto_word is_blank
table-said k ls VoltageRange r more so = so
table-said k ls TemperatureRange r more so = so
table-said k ls (Current Pulldown) r more so = (r, so)
table-said k ls (Current Pullup) r more so = (r, so)
table-said k ls (Current GndClamp) r more so = (r, so)
table-said k ls (Current PowerClamp) r more so = (r, so)
table-said k ls Ramp r more so = so
table-said k ls (Waveform Rising) r more so = (r, so)
table-said k ls (Waveform Falling) r more so = (r, so)

ramp-said : (k : ℕ) (ls : List (List ℕ)) (p : ModelPart) → ListSaid (model_opens k p) ls → (more : List (List ℕ)) → Every RampLine more
    → Every RampLine (cond (eqs (bytes (spelling (key.InModel p))) (bytes "ramp")) ls [] ++ more)
unfolding eqs
ramp-said k ls VoltageRange r more so = so
ramp-said k ls TemperatureRange r more so = so
ramp-said k ls (Current Pulldown) r more so = so
ramp-said k ls (Current Pullup) r more so = so
ramp-said k ls (Current GndClamp) r more so = so
ramp-said k ls (Current PowerClamp) r more so = so
ramp-said k ls Ramp r more so = every_append RampLine ls more r so
ramp-said k ls (Waveform Rising) r more so = so
ramp-said k ls (Waveform Falling) r more so = so

module _ (m : ModelState) (k : ℕ) (w : List ℕ) (ts : List Text) (b : is_bracketed w ≡ true) where
  key-says : (n : ModelState) (p : ModelPart) → key_of w ≡ Ok (key.InModel p) → m.first ≡ n.first → n.list ≡ model_opens k p → Says n ts → Says m (plain k w ∷ ts)
  key-says n p q first list so =
      record {
        list = subst (ListSaid m.list) (sym (under-key k w ts b)) (list-none m.list);
        tables =
            subst (Every TableSaid) (sym (tables-key k w ts p (key-at k w ts b q)))
            (table-said k (under ts) p (subst (λ (l : ModelList). ListSaid l (under ts)) list so.list) (tables_in ts) so.tables);
        ramp =
            subst (Every RampLine) (sym (lines-key (plain k w) ts "ramp" (key.InModel p) (key-at k w ts b q)))
            (ramp-said k (under ts) p (subst (λ (l : ModelList). ListSaid l (under ts)) list so.list) (lines_under "ramp" ts) so.ramp);
        same =
            subst (λ (g : Given). SameFrom g (first_lines m (plain k w ∷ ts))) (sym first)
            (subst (SameFrom n.first) (other-first n (under ts) (ap is_first list ∙ opens-none k p) ∙ sym (nothing-first m (under-key k w ts b))) so.same);
      }

  says-key : (p : ModelPart) (n : ModelState) → key_of w ≡ Ok (key.InModel p) → ModelKey m k (argument w) p n → Says n ts → Says m (plain k w ∷ ts)
  says-key p n q (single x z h f) so = key-says n x q refl refl so
  says-key p n q (waveform e z) so = key-says n (Waveform e) q refl refl so

model-said : (ts : List Text) (m : ModelState) → Passes (InModel m) ts → Says m (front is_within ts)
model-said = by-texts Says says-done says-change says-line (λ m n k w p ts b q s y so. says-key m k w ts b p n q y so)

-- ---- a section

section-said : (l : Lengths) (s : SectionIs) → SectionPasses l s → SectionSaid s
section-said l (component w ts) p =
    let c = new_component p.0 in
    let so : Parts c ts = subst (Parts c) (sym p.1.own) (parts-read l p.1.more c p.1.held p.1.runs) in
    (p.2, record { maker = so.maker [] (not-given 0); first = so.list; packaged = so.packaged; pins = so.pins })
section-said l (selector w ts) p =
    let s = new_selector p.0 in
    let so : Rows false (under ts) = subst (Rows false) (sym (ap under p.1.own ∙ under-within p.1.more)) (rows-read p.1.more s (runs-pass l p.1.more p.1.held (InSelector s) p.1.runs)) in
    (p.2, so.choices)
section-said l (model w ts) p =
    let m = new_model p.0 in
    let so : Says m ts = subst (Says m) (sym p.1.own) (model-said p.1.more m (runs-pass l p.1.more p.1.held (InModel m) p.1.runs)) in
    (p.2, record { type = λ x y. so.same x y (gave-none model_lines "Model_type" 0 type-place); first = so.list; ramp = so.ramp; tables = so.tables })

pub sections-said : (l : Lengths) (ss : List SectionIs) → Every (SectionPasses l) ss → Every SectionSaid ss
sections-said l [] p = tt
sections-said l (s ∷ ss) p = (section-said l s p.0, sections-said l ss p.1)
