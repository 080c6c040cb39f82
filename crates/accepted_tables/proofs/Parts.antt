-- A model's parts: its ranges, its ramp and its tables, from text to text. What closed has its facts, and what was given has been read.
use Rattle.std.specs.Prelude.{Result, Ok, None, Some}
use Prim.Native.Nat.{ℕ, ◌+◌, ◌≤◌}
use Prim.Native.String.{String}
use mathlib.Core.Path.{◌≡◌, refl, sym, ap, subst, ◌∙◌}
use mathlib.Core.List.{List, [], ◌∷◌, ◌++◌}
use mathlib.Core.Bool.{Bool, true, false, cond, not, ◌||◌}
use native.Mathlib.Omega.{arith}
use lib.Dec.{eqb, leb}
use borrow.Author.Tests.{eqb-true, eqb-false, leb-false}
use Rattle.laws.specs.Bytes.{bytes, is_blank}
use Rattle.laws.specs.Lists.{eqs, front, one_of, Every}
use Rattle.laws.specs.Said.{or_else}
use Rattle.laws.proofs.Tests.{cond-all, cond_yes}
use Rattle.decimal.specs.declared.Cell.TheVariants.{Missing}
use Rattle.words.specs.Words.{words, grown, onto_word}
use Rattle.keywords.specs.Form.{argument}
use Rattle.keywords.specs.Carried.{key_of}
use Rattle.keywords.specs.declared.Keyword.TheVariants as key
use Rattle.keywords.specs.declared.ModelPart.{ModelPart}
use Rattle.keywords.specs.declared.ModelPart.TheVariants.{VoltageRange, TemperatureRange, Current, Ramp, Waveform}
use Rattle.keywords.specs.declared.CurrentTable.TheVariants.{Pulldown, Pullup, GndClamp, PowerClamp}
use Rattle.keywords.proofs.Spelling.{spelling}
use Rattle.cut_lines.specs.Texts.{Text, plain, change}
use Rattle.records.specs.Stored.{no_cells, no_slopes}
use Rattle.records.specs.declared.Triple.{Triple}
use Rattle.records.specs.declared.Range.{Range}
use Rattle.records.specs.declared.RampTable.{RampTable}
use Rattle.records.specs.declared.ModelType.{ModelType}
use Rattle.records.specs.declared.Edge.TheVariants.{Rising, Falling}
use Rattle.line_rules.specs.Fields.{is_bracketed, no_argument, three_cells, word_line, line_says}
use Rattle.line_rules.specs.Tables.{model_types, ramp_lines, fixtures, table_keywords, waveform_keywords}
use Rattle.given.specs.Given.{has, with}
use Rattle.given.specs.declared.Given.{Given}
use Rattle.given.proofs.Laws.{has_other}
use Rattle.rules.specs.Types.{is_driven}
use Rattle.rules.specs.Model.{with_first, model_place, model_flaw, model_opens, model_done}
use Rattle.rules.specs.Reading.{key_name, under, key_says, range_in, ramp_in, number_said, TableIs, tables_in, rows_in, is_within}
use Rattle.rules.specs.Keys.{key_at}
use Rattle.rules.proofs.Keys.{key-named, says-skip, says-key}
use Rattle.rules.specs.declared.ModelState.{ModelState}
use Rattle.rules.specs.declared.Stage.TheVariants.{InModel}
use Rattle.layout_by_notes.proofs.Ahead.{table_of, key-at, no_key, under-key, under-line, under-change}
use Rattle.accepted_tables.specs.Facts.{Slopes, RowsFacts}
use Rattle.accepted_tables.proofs.Checks.{Passes}
use Rattle.records.specs.Flaws.{Flaw, flaw_in}
use Rattle.records.specs.declared.LineFault.{LineFault}
use Rattle.accepted_tables.specs.Fallbacks.{Flawless}
use Rattle.accepted_tables.proofs.Faults.{said, cells-sure}
use Rattle.accepted_tables.proofs.Named.{gave-none}
use Rattle.accepted_tables.proofs.Rows.{rows-facts}
use Rattle.accepted_tables.proofs.ModelSteps.{Shuts, ModelLine, first_line, current_row, ramp_line, fixture_line, waveform_row, ModelKey, single, waveform, by-texts}
use Rattle.accepted_tables.proofs.First.{done, first_lines, is_first, opens-none, nothing-first, other-first, under_none}
use Rattle.accepted_tables.proofs.Lists.{IsNumber, ListReads, list-shuts, list-line, rise-place, fall-place, resistor-place, voltage-place}

-- ---- the facts

-- of a waveform's lines
pub record WaveLines (ls : List (List ℕ)) : Type 0 where
  pub rows : RowsFacts 1000 (rows_in ls)
  pub resistor : IsNumber (number_said "R_fixture" ls)
  pub voltage : IsNumber (number_said "V_fixture" ls)

-- of a table's, by whether it is a waveform
abbrev pub TableLines : Bool → List (List ℕ) → Type 0
TableLines true ls = WaveLines ls
TableLines false ls = RowsFacts 100 (rows_in ls)

abbrev pub is_waveform : TableIs → Bool
is_waveform t = one_of t.key (words (bytes waveform_keywords))

abbrev pub TableReads : TableIs → Type 0
TableReads t = TableLines (is_waveform t) t.lines

abbrev RampReads : RampTable → Type 0
RampReads x = x.given ≡ true → Slopes x.rise × Slopes x.fall

abbrev RangeReads : Range → Type 0
RangeReads x = x.given ≡ true → IsNumber x.cells.typ

-- how many of the tables are waveforms
abbrev pub waves_in : List TableIs → ℕ
waves_in [] = 0
waves_in (t ∷ ts) = cond (is_waveform t) 1 0 + waves_in ts

-- whether the type that the first lines say asks for a ramp
abbrev wants_ramp : ModelType → List (List ℕ) → Bool
wants_ramp kind ls = is_driven (line_says "Model_type" (word_line model_types) kind ls)

-- from here on; x is what was read of a keyword before
pub record Parts (m : ModelState) (ts : List Text) : Type 0 where
  pub list : ListReads m.list (under ts)
  pub tables : Every TableReads (tables_in ts)
  pub voltage : (x : Range) → (has m.parts 0 ≡ true → IsNumber x.cells.typ) → IsNumber (key_says "voltage_range" range_in x ts).cells.typ
  pub temperature : (x : Range) → RangeReads x → RangeReads (key_says "temperature_range" range_in x ts)
  pub slopes : (x : RampTable) → RampReads x → RampReads (key_says "ramp" ramp_in x ts)
  pub at_most : m.waveforms ≤ 16 → m.waveforms + waves_in (tables_in ts) ≤ 16
  pub needed : (x : RampTable) → (has m.parts 6 ≡ true → x.given ≡ true)
      → wants_ramp m.kind (first_lines m ts) ≡ true → (key_says "ramp" ramp_in x ts).given ≡ true

-- ---- the section ends

needs : (driven given : Bool) → (not driven || given) ≡ true → driven ≡ true → given ≡ true
needs true given h q = h
needs false given h q = cc

parts-done : (m : ModelState) → Shuts m.list → model_done m ≡ 0 → Parts m []
unfolding tables_in key_says line_says
parts-done m s d =
    let end = done m d in
    record {
      list = subst (ListReads m.list) (sym under_none) (list-shuts m.list s);
      tables = tt;
      voltage = λ x q. q end.voltage;
      temperature = λ x q. q;
      slopes = λ x q. q;
      at_most = λ h. omega arith;
      needed = λ x q n. q (needs (is_driven m.kind) (has m.parts 6) end.ramp (sym (ap (wants_ramp m.kind) (nothing-first m under_none)) ∙ n));
    }

-- ---- a text without a keyword

pub tables-skip : (t : Text) (ts : List Text) → key_name t ≡ [] → tables_in (t ∷ ts) ≡ tables_in ts
unfolding tables_in one_of eqs words grown onto_word is_blank
tables-skip t ts e =
    ap (λ (name : List ℕ). cond (one_of name (words (bytes table_keywords))) (record { key = name; lines = under ts } ∷ []) [] ++ tables_in ts) e

unkeyed : (m n : ModelState) (t : Text) (ts : List Text) → key_at t ≡ None → key_name t ≡ [] → m.parts ≡ n.parts → m.waveforms ≡ n.waveforms
    → ListReads m.list (under (t ∷ ts))
    → wants_ramp m.kind (first_lines m (t ∷ ts)) ≡ wants_ramp n.kind (first_lines n ts)
    → Parts n ts → Parts m (t ∷ ts)
unkeyed m n t ts e name same waves list driven so =
    record {
      list = list;
      tables = subst (Every TableReads) (sym (tables-skip t ts name)) so.tables;
      voltage =
          λ x q.
          subst (λ (y : Range). IsNumber y.cells.typ) (sym (says-skip range_in x t ts (key.InModel VoltageRange) e))
          (so.voltage x (λ h. q (ap (λ (g : Given). has g 0) same ∙ h)));
      temperature = λ x q. subst RangeReads (sym (says-skip range_in x t ts (key.InModel TemperatureRange) e)) (so.temperature x q);
      slopes = λ x q. subst RampReads (sym (says-skip ramp_in x t ts (key.InModel Ramp) e)) (so.slopes x q);
      at_most = λ h. omega (arith, so.at_most (omega (arith, waves, h)), waves, ap waves_in (tables-skip t ts name));
      needed =
          λ x q d.
          subst (λ (y : RampTable). y.given ≡ true) (sym (says-skip ramp_in x t ts (key.InModel Ramp) e))
          (so.needed x (λ h. q (ap (λ (g : Given). has g 6) same ∙ h)) (sym driven ∙ d));
    }

same_parts : (m : ModelState) (w : List ℕ) (n : ModelState) → ModelLine m w n → m.parts ≡ n.parts
unfolding with_first
same_parts m w n (first_line i q at h ok) = refl
same_parts m w n (current_row o r y q e h) = refl
same_parts m w n (ramp_line o g i q at h ok) = refl
same_parts m w n (fixture_line o g r i q b at h ok) = refl
same_parts m w n (waveform_row o g r y q e h) = refl

same-waves : (m : ModelState) (w : List ℕ) (n : ModelState) → ModelLine m w n → m.waveforms ≡ n.waveforms
unfolding with_first
same-waves m w n (first_line i q at h ok) = refl
same-waves m w n (current_row o r y q e h) = refl
same-waves m w n (ramp_line o g i q at h ok) = refl
same-waves m w n (fixture_line o g r i q b at h ok) = refl
same-waves m w n (waveform_row o g r y q e h) = refl

-- whether the type asks for a ramp
driven-line : (m : ModelState) (k : ℕ) (w : List ℕ) (n : ModelState) (ts : List Text) → is_bracketed w ≡ false → ModelLine m w n
    → wants_ramp m.kind (first_lines m (plain k w ∷ ts)) ≡ wants_ramp n.kind (first_lines n ts)
unfolding with_first line_says
driven-line m k w n ts b (first_line i q at h ok) =
    let first : is_first m.list ≡ true = ap is_first q in
    ap (wants_ramp m.kind) (cond_yes (under (plain k w ∷ ts)) [] first ∙ under-line k w ts b)
    ∙ sym (ap (wants_ramp (with_first m w (with m.first i)).kind) (cond_yes (under ts) [] first))
driven-line m k w n ts b (current_row o r y q e h) = ap (wants_ramp m.kind) (other-first m _ (ap is_first q))
driven-line m k w n ts b (ramp_line o g i q at h ok) = ap (wants_ramp m.kind) (other-first m _ (ap is_first q))
driven-line m k w n ts b (fixture_line o g r i q l at h ok) = ap (wants_ramp m.kind) (other-first m _ (ap is_first q))
driven-line m k w n ts b (waveform_row o g r y q e h) = ap (wants_ramp m.kind) (other-first m _ (ap is_first q))

parts-line : (m n : ModelState) (k : ℕ) (w : List ℕ) (ts : List Text) → is_bracketed w ≡ false → ModelLine m w n → Parts n ts → Parts m (plain k w ∷ ts)
parts-line m n k w ts b y so =
    unkeyed m n (plain k w) ts (no_key k w ts b) (rw b) (same_parts m w n y) (same-waves m w n y)
    (subst (ListReads m.list) (sym (under-line k w ts b)) (list-line m w n (under ts) y so.list))
    (driven-line m k w n ts b y)
    so

parts-change : (m : ModelState) (k : ℕ) (f : LineFault) (ts : List Text) → Parts m ts → Parts m (change k f ∷ ts)
parts-change m k f ts so =
    unkeyed m m (change k f) ts refl refl refl refl
    (subst (ListReads m.list) (sym (under-change k f ts)) so.list)
    (ap (λ (ls : List (List ℕ)). wants_ramp m.kind (cond (is_first m.list) ls [])) (under-change k f ts))
    so

-- ---- a keyword: its name by its place

module _ (p : ModelPart) where
  abbrev named : String → Bool
  named name = eqs (bytes (spelling (key.InModel p))) (bytes name)

voltage-named : (p : ModelPart) → named p "voltage_range" ≡ eqb (model_place p) 0
unfolding eqs
voltage-named VoltageRange = refl
voltage-named TemperatureRange = refl
voltage-named (Current Pulldown) = refl
voltage-named (Current Pullup) = refl
voltage-named (Current GndClamp) = refl
voltage-named (Current PowerClamp) = refl
voltage-named Ramp = refl
voltage-named (Waveform Rising) = refl
voltage-named (Waveform Falling) = refl

temperature-named : (p : ModelPart) → named p "temperature_range" ≡ eqb (model_place p) 1
unfolding eqs
temperature-named VoltageRange = refl
temperature-named TemperatureRange = refl
temperature-named (Current Pulldown) = refl
temperature-named (Current Pullup) = refl
temperature-named (Current GndClamp) = refl
temperature-named (Current PowerClamp) = refl
temperature-named Ramp = refl
temperature-named (Waveform Rising) = refl
temperature-named (Waveform Falling) = refl

ramp-named : (p : ModelPart) → named p "ramp" ≡ eqb (model_place p) 6
unfolding eqs
ramp-named VoltageRange = refl
ramp-named TemperatureRange = refl
ramp-named (Current Pulldown) = refl
ramp-named (Current Pullup) = refl
ramp-named (Current GndClamp) = refl
ramp-named (Current PowerClamp) = refl
ramp-named Ramp = refl
ramp-named (Waveform Rising) = refl
ramp-named (Waveform Falling) = refl

-- what is read under a keyword
module _ {A : Type 0} (read : List ℕ → List (List ℕ) → A) (x : A) (k : ℕ) (w : List ℕ) (ts : List Text) (p : ModelPart)
    (e : key_at (plain k w) ≡ Some (key.InModel p)) (name : String) (j : ℕ) (n : named p name ≡ eqb (model_place p) j) where
  keyed-says : key_says name read x (plain k w ∷ ts) ≡ key_says name read (cond (eqb (model_place p) j) (read (argument w) (under ts)) x) ts
  keyed-says =
      says-key read x (plain k w) ts name (key.InModel p) e
      ∙ ap (λ (t : Bool). key_says name read (cond t (read (argument w) (under ts)) x) ts) n

-- ---- a keyword's own lines

ranged : (a : List ℕ) (p : ModelPart) (j : ℕ) → leb j 1 ≡ true → model_place p ≡ j → Flawless (model_flaw a p) → IsNumber (or_else no_cells (three_cells a)).typ
ranged a p j l e f =
    let ok : Flawless (flaw_in (three_cells a)) = subst Flawless (cond_yes (flaw_in (three_cells a)) (no_argument a) (ap (λ (i : ℕ). leb i 1) e ∙ l)) f in
    let v = said (three_cells a) (cells-sure a) ok in
    subst (λ (x : Result Triple Flaw). IsNumber (or_else no_cells x).typ) (sym v.1) v.2

module _ (k : ℕ) (ls : List (List ℕ)) where
  ramp-opened : (p : ModelPart) (a : List ℕ) → model_place p ≡ 6 → ListReads (model_opens k p) ls → RampReads (ramp_in a ls)
  ramp-opened VoltageRange a e r g = absurd (omega arith)
  ramp-opened TemperatureRange a e r g = absurd (omega arith)
  ramp-opened (Current Pulldown) a e r g = absurd (omega arith)
  ramp-opened (Current Pullup) a e r g = absurd (omega arith)
  ramp-opened (Current GndClamp) a e r g = absurd (omega arith)
  ramp-opened (Current PowerClamp) a e r g = absurd (omega arith)
  ramp-opened Ramp a e r g = (r.0 no_slopes (gave-none ramp_lines "dV/dt_r" 0 rise-place), r.1 no_slopes (gave-none ramp_lines "dV/dt_f" 1 fall-place))
  ramp-opened (Waveform x) a e r g = absurd (omega arith)

  abbrev pub with_table : ModelPart → List TableIs → List TableIs
  with_table p more = cond (one_of (bytes (spelling (key.InModel p))) (words (bytes table_keywords))) (table_of p ls ∷ []) [] ++ more

  wave : ListReads (model_opens k (Waveform Rising)) ls → WaveLines ls
  unfolding number_said
  wave r =
      record {
        rows = rows-facts 1000 (rows_in ls) (omega arith) r.0;
        resistor = r.1 Missing (gave-none fixtures "R_fixture" 0 resistor-place);
        voltage = r.2 Missing (gave-none fixtures "V_fixture" 1 voltage-place);
      }

  table-opened : (p : ModelPart) → ListReads (model_opens k p) ls → (more : List TableIs) → Every TableReads more → Every TableReads (with_table p more)
  unfolding one_of eqs words grown onto_word is_blank
  table-opened VoltageRange r more so = so
  table-opened TemperatureRange r more so = so
  table-opened (Current Pulldown) r more so = (rows-facts 100 (rows_in ls) (omega arith) r, so)
  table-opened (Current Pullup) r more so = (rows-facts 100 (rows_in ls) (omega arith) r, so)
  table-opened (Current GndClamp) r more so = (rows-facts 100 (rows_in ls) (omega arith) r, so)
  table-opened (Current PowerClamp) r more so = (rows-facts 100 (rows_in ls) (omega arith) r, so)
  table-opened Ramp r more so = so
  table-opened (Waveform Rising) r more so = (wave r, so)
  table-opened (Waveform Falling) r more so = (wave r, so)

-- how many waveforms a keyword opens
waves-opened : (k : ℕ) (ls : List (List ℕ)) (p : ModelPart) (more : List TableIs) → waves_in (with_table k ls p more) ≡ cond (eqb (model_place p) 7) 1 0 + waves_in more
unfolding one_of eqs words grown onto_word is_blank
waves-opened k ls VoltageRange more = omega arith
waves-opened k ls TemperatureRange more = omega arith
waves-opened k ls (Current Pulldown) more = omega arith
waves-opened k ls (Current Pullup) more = omega arith
waves-opened k ls (Current GndClamp) more = omega arith
waves-opened k ls (Current PowerClamp) more = omega arith
waves-opened k ls Ramp more = omega arith
waves-opened k ls (Waveform Rising) more = omega arith
waves-opened k ls (Waveform Falling) more = omega arith

-- ---- any keyword of the model

-- what was given by its keyword, a keyword more
module _ {A : Type 0} (Q : A → Type 0) (g : Given) (i j : ℕ) (v x : A) where
  key-held : (i ≡ j → Q v) → (has g j ≡ true → Q x) → has (with g i) j ≡ true → Q (cond (eqb i j) v x)
  key-held own so h =
      cond-all Q (eqb i j) v x (λ t. own (eqb-true i j t)) (λ t. so (sym (has_other g j i (λ e. eqb-false i j t (sym e))) ∙ h))

pub tables-key : (k : ℕ) (w : List ℕ) (ts : List Text) (p : ModelPart) → key_at (plain k w) ≡ Some (key.InModel p)
    → tables_in (plain k w ∷ ts) ≡ with_table k (under ts) p (tables_in ts)
unfolding tables_in
tables-key k w ts p e =
    ap (λ (name : List ℕ). cond (one_of name (words (bytes table_keywords))) (record { key = name; lines = under ts } ∷ []) [] ++ tables_in ts)
    (key-named (plain k w) (key.InModel p) e)

module _ (m : ModelState) (k : ℕ) (w : List ℕ) (ts : List Text) (b : is_bracketed w ≡ true) (s : Shuts m.list) where
  -- the type is read before any keyword
  driven-key : (n : ModelState) → m.kind ≡ n.kind → is_first n.list ≡ false
      → wants_ramp m.kind (first_lines m (plain k w ∷ ts)) ≡ wants_ramp n.kind (first_lines n ts)
  driven-key n e h =
      ap (wants_ramp m.kind) (nothing-first m (under-key k w ts b) ∙ sym (other-first n (under ts) h))
      ∙ ap (λ (kind : ModelType). wants_ramp kind (first_lines n ts)) e

  list-key : ListReads m.list (under (plain k w ∷ ts))
  list-key = subst (ListReads m.list) (sym (under-key k w ts b)) (list-shuts m.list s)

  parts-key : (p : ModelPart) (n : ModelState) → key_of w ≡ Ok (key.InModel p) → ModelKey m k (argument w) p n → Parts n ts → Parts m (plain k w ∷ ts)
  parts-key p n q (single x apart h f) so =
      let e : key_at (plain k w) ≡ Some (key.InModel x) = key-at k w ts b q in
      let i : ℕ = model_place x in
      record {
        list = list-key;
        tables = subst (Every TableReads) (sym (tables-key k w ts x e)) (table-opened k (under ts) x so.list (tables_in ts) so.tables);
        voltage =
            λ y r.
            subst (λ (z : Range). IsNumber z.cells.typ) (sym (keyed-says range_in y k w ts x e "voltage_range" 0 (voltage-named x)))
            (so.voltage _ (key-held (λ (z : Range). IsNumber z.cells.typ) m.parts i 0 (range_in (argument w) (under ts)) y (λ z. ranged (argument w) x 0 refl z f) r));
        temperature =
            λ y r.
            subst RangeReads (sym (keyed-says range_in y k w ts x e "temperature_range" 1 (temperature-named x)))
            (so.temperature _ (cond-all RangeReads (eqb i 1) (range_in (argument w) (under ts)) y (λ t z. ranged (argument w) x 1 refl (eqb-true i 1 t) f) (λ t. r)));
        slopes =
            λ y r.
            subst RampReads (sym (keyed-says ramp_in y k w ts x e "ramp" 6 (ramp-named x)))
            (so.slopes _ (cond-all RampReads (eqb i 6) (ramp_in (argument w) (under ts)) y (λ t. ramp-opened k (under ts) x (argument w) (eqb-true i 6 t) so.list) (λ t. r)));
        at_most =
            λ z.
            omega (arith, so.at_most z, ap waves_in (tables-key k w ts x e), waves-opened k (under ts) x (tables_in ts), ap {B = ℕ} (λ (b : Bool). cond b 1 0) apart);
        needed =
            λ y r d.
            subst (λ (z : RampTable). z.given ≡ true) (sym (keyed-says ramp_in y k w ts x e "ramp" 6 (ramp-named x)))
            (so.needed _ (key-held (λ (z : RampTable). z.given ≡ true) m.parts i 6 (ramp_in (argument w) (under ts)) y (λ z. refl) r) (sym (driven-key n refl (opens-none k x)) ∙ d));
      }
  parts-key p n q (waveform x few) so =
      let e : key_at (plain k w) ≡ Some (key.InModel (Waveform x)) = key-at k w ts b q in
      record {
        list = list-key;
        tables = subst (Every TableReads) (sym (tables-key k w ts (Waveform x) e)) (table-opened k (under ts) (Waveform x) so.list (tables_in ts) so.tables);
        voltage =
            λ y r.
            subst (λ (z : Range). IsNumber z.cells.typ) (sym (keyed-says range_in y k w ts (Waveform x) e "voltage_range" 0 (voltage-named (Waveform x))))
            (so.voltage y r);
        temperature = λ y r. subst RangeReads (sym (keyed-says range_in y k w ts (Waveform x) e "temperature_range" 1 (temperature-named (Waveform x)))) (so.temperature y r);
        slopes = λ y r. subst RampReads (sym (keyed-says ramp_in y k w ts (Waveform x) e "ramp" 6 (ramp-named (Waveform x)))) (so.slopes y r);
        at_most =
            λ z.
            omega (arith, so.at_most (omega (arith, leb-false 16 m.waveforms few)), ap waves_in (tables-key k w ts (Waveform x) e), waves-opened k (under ts) (Waveform x) (tables_in ts));
        needed =
            λ y r d.
            subst (λ (z : RampTable). z.given ≡ true) (sym (keyed-says ramp_in y k w ts (Waveform x) e "ramp" 6 (ramp-named (Waveform x))))
            (so.needed y r (sym (driven-key n refl refl) ∙ d));
      }

pub parts-read : (ts : List Text) (m : ModelState) → Passes (InModel m) ts → Parts m (front is_within ts)
parts-read = by-texts Parts parts-done parts-change parts-line (λ m n k w p ts b q s y so. parts-key m k w ts b s p n q y so)
