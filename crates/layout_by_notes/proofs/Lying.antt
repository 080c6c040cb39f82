-- What is noted, and what is ahead, make up the tables, before a text as behind it: a law for each kind of line, and for each table's keyword.
use Rattle.std.specs.Prelude.{Ok}
use Prim.Native.Nat.{ℕ, suc, ◌+◌}
use mathlib.Core.Path.{◌≡◌, refl, sym, ap, subst, ◌∙◌}
use mathlib.Core.List.{List, [], ◌∷◌, ◌++◌, map, flat_map}
use native.Mathlib.Omega.{arith}
use lib.ListN.{length, length-append}
use Rattle.laws.specs.Bytes.{is_blank}
use Rattle.laws.specs.Lists.{eqs, one_of}
use Rattle.records.specs.Flaws.{Reads}
use Rattle.words.specs.Words.{words, grown, onto_word}
use Rattle.keywords.specs.declared.ModelPart.TheVariants.{Current, Waveform}
use Rattle.keywords.specs.declared.CurrentTable.{CurrentTable}
use Rattle.keywords.specs.declared.CurrentTable.TheVariants.{Pulldown, Pullup, GndClamp, PowerClamp}
use Rattle.records.specs.declared.Edge.{Edge}
use Rattle.records.specs.declared.Edge.TheVariants.{Rising, Falling}
use Rattle.cut_lines.specs.Texts.{Text, plain}
use Rattle.line_rules.specs.Fields.{row_of}
use Rattle.rules.specs.Component.{pin_in}
use Rattle.rules.specs.Reading.{onto_rows, rows_in, under, choice_in, edge_of, waveform_in, TableIs, sections_in}
use Rattle.layout.specs.Laid.{Laid, tables, rows_of, waveforms_laid, laid_from}
use Rattle.records.specs.declared.Kind.TheVariants.{OfComponent, OfPin, OfSelector, OfChoice, OfModel}
use Rattle.records.specs.declared.Row.{Row}
use Rattle.records.specs.declared.Waveform as laid_waveform
use Rattle.rules.specs.declared.Event.{Event}
use Rattle.rules.specs.declared.Event.TheVariants.{WaveformOpened}
use Rattle.notes.specs.Noted.{Log, sections, more_rows}
use Rattle.layout_by_notes.specs.Lies.{pick, is_of, noted, component_noted, pin_noted, selector_noted, choice_noted, model_noted, rows_noted, waveforms_noted}
use Rattle.layout_by_notes.proofs.Lists.{latest-then}
use Rattle.layout_by_notes.proofs.Keys.{Gives, rows, Open, LineGives, quiet, pin, choice, row, fixture}
use Rattle.layout_by_notes.proofs.Ahead.{table_of, Ahead, gathered, ahead}
use Rattle.layout_by_notes.proofs.Counts.{log_after}

-- ---- the tables, with the open section read to its end

unfoldable pub finished : Ahead → Log → Laid
finished x h =
    tables (map component_noted (noted OfComponent h))
    (map pin_noted (noted OfPin h) ++ map pin_in x.pin_lines)
    (map selector_noted (noted OfSelector h))
    (map choice_noted (noted OfChoice h) ++ map choice_in x.choice_lines)
    (map model_noted (noted OfModel h))
    (flat_map waveforms_noted (noted OfModel h))
    (flat_map rows_noted (noted OfModel h))

-- the rows counted so far and those ahead are all rows of the noted models
abbrev pub Filled : Ahead → Log → Type 0
Filled x h = h.counts.rows + (length x.open_rows + length (flat_map rows_of x.tables)) ≡ length (flat_map rows_noted (noted OfModel h))

-- and so are the waveforms
abbrev pub Waved : Ahead → Log → Type 0
Waved x h = h.counts.waveforms + length (waveforms_laid x.tables (h.counts.rows + length x.open_rows)) ≡ length (flat_map waveforms_noted (noted OfModel h))

-- the tables of the whole file, as they are seen from a text on
abbrev pub outlook : Open → List Text → Log → Laid
outlook o ts h = laid_from (finished (ahead o ts) h) (sections h.counts) (sections_in ts)

pub same-laid : {a b : Laid} → a.components ≡ b.components → a.pins ≡ b.pins → a.selectors ≡ b.selectors → a.choices ≡ b.choices
    → a.models ≡ b.models → a.waveforms ≡ b.waveforms → a.rows ≡ b.rows → a ≡ b
same-laid c p s o m w r =
    λ i. record { components = c i; pins = p i; selectors = s i; choices = o i; models = m i; waveforms = w i; rows = r i }

-- from a text to the next
pub record Carried (x : Ahead) (h : Log) (y : Ahead) (g : Log) : Type 0 where
  pub tables : finished x h ≡ finished y g
  pub places : sections h.counts ≡ sections g.counts
  pub filled : Filled x h → Filled y g
  pub waved : Waved x h → Waved y g

pub nothing-moves : {x : Ahead} {h : Log} → Carried x h x h
nothing-moves = record { tables = refl; places = refl; filled = λ f. f; waved = λ v. v }

-- ---- a line

-- one row of the open table
row_carried : (p c : List (List ℕ)) (rs more : List Row) (tb : List TableIs) (h : Log) → length rs ≡ suc (length more)
    → Carried (record { pin_lines = p; choice_lines = c; open_rows = rs; tables = tb }) h
    (record { pin_lines = p; choice_lines = c; open_rows = more; tables = tb })
    (record { notes = h.notes; counts = more_rows h.counts })
unfolding finished noted sections
row_carried p c rs more tb h e =
    let n : h.counts.rows + length rs ≡ h.counts.rows + 1 + length more = omega arith in
    record {
      tables = refl;
      places = refl;
      filled = λ f. omega arith;
      waved = λ v. ap (λ (k : ℕ). h.counts.waveforms + length (waveforms_laid tb k)) (sym n) ∙ v;
    }

onto-one : (x : Reads Row) (r : Row) (more : List Row) → x ≡ Ok r → length (onto_rows x more) ≡ suc (length more)
onto-one x r more e = ap (λ (y : Reads Row). length (onto_rows y more)) e

same_ahead : {x y z : Ahead} {h g : Log} → x ≡ y → Carried y h z g → Carried x h z g
same_ahead {z = z} {h = h} {g = g} p c = subst (λ (a : Ahead). Carried a h z g) (sym p) c

pub line-carried : {g : Gives} {w : List ℕ} {e : Event} → LineGives g w e
    → (k : ℕ) (ls ps : List (List ℕ)) (tb : List TableIs) (h : Log) (ts : List Text)
    → Carried (gathered g (w ∷ ls) ps tb) h (gathered g ls ps tb) (log_after h (plain k w) ts e)
unfolding finished noted pick pin_noted choice_noted rows_in sections
line-carried quiet k ls ps tb h ts = nothing-moves
line-carried pin k ls ps tb h ts =
    record {
      tables = same-laid refl (latest-then pin_noted _ (pick (is_of OfPin) h.notes) _) refl refl refl refl refl;
      places = refl;
      filled = λ f. f;
      waved = λ v. v;
    }
line-carried choice k ls ps tb h ts =
    record {
      tables = same-laid refl refl refl (latest-then choice_noted _ (pick (is_of OfChoice) h.notes) _) refl refl refl;
      places = refl;
      filled = λ f. f;
      waved = λ v. v;
    }
line-carried {w} (row {r = r} e) k ls ps tb h ts = row_carried ps [] (onto_rows (row_of w) (rows_in ls)) (rows_in ls) tb h (onto-one _ r _ e)
line-carried {w} (fixture e) k ls ps tb h ts =
    same_ahead (ap (λ (x : Reads Row). record { pin_lines = ps; choice_lines = []; open_rows = onto_rows x (rows_in ls); tables = tb }) e) nothing-moves

-- ---- a text leads on: the tables of the whole file are seen from the next text as from this one

abbrev pub Onward : Open → Text → List Text → Log → Open → Event → Type 0
Onward o t ts h u e =
    Filled (ahead o (t ∷ ts)) h → Waved (ahead o (t ∷ ts)) h
    → (outlook o (t ∷ ts) h ≡ outlook u ts (log_after h t ts e)) × Filled (ahead u ts) (log_after h t ts e) × Waved (ahead u ts) (log_after h t ts e)

pub carried_on : (o : Open) (t : Text) (ts : List Text) (h : Log) (u : Open) (e : Event) {x : Ahead} → ahead o (t ∷ ts) ≡ x
    → sections_in (t ∷ ts) ≡ sections_in ts → Carried x h (ahead u ts) (log_after h t ts e) → Onward o t ts h u e
carried_on o t ts h u e p q c f v = (
  (λ i. laid_from ((ap (λ (y : Ahead). finished y h) p ∙ c.tables) i) (c.places i) (q i)),
  c.filled (subst (λ (y : Ahead). Filled y h) p f),
  c.waved (subst (λ (y : Ahead). Waved y h) p v),
)

-- ---- a keyword inside a section

-- the waveform that a table is, by its keyword: a current table is none
waveform-none : (t : CurrentTable) (ls : List (List ℕ)) (tb : List TableIs) (n : ℕ)
    → waveforms_laid (table_of (Current t) ls ∷ tb) n ≡ waveforms_laid tb (n + length (rows_in ls))
unfolding waveforms_laid one_of eqs words grown onto_word is_blank
waveform-none Pulldown ls tb n = refl
waveform-none Pullup ls tb n = refl
waveform-none GndClamp ls tb n = refl
waveform-none PowerClamp ls tb n = refl

waveform-some : (e : Edge) (ls : List (List ℕ)) (tb : List TableIs) (n : ℕ)
    → waveforms_laid (table_of (Waveform e) ls ∷ tb) n ≡ waveform_in n e ls ∷ waveforms_laid tb (n + length (rows_in ls))
unfolding waveforms_laid edge_of one_of eqs words grown onto_word is_blank
waveform-some Rising ls tb n = refl
waveform-some Falling ls tb n = refl

-- a current table's keyword: what was to come as its rows is now under it
pub current-carried : (t : CurrentTable) (ls : List (List ℕ)) (tb : List TableIs) (h : Log)
    → Carried (record { pin_lines = []; choice_lines = []; open_rows = []; tables = table_of (Current t) ls ∷ tb }) h (gathered rows ls [] tb) h
unfolding finished flat_map
current-carried t ls tb h =
    let z : h.counts.rows + 0 ≡ h.counts.rows = omega arith in
    record {
      tables = refl;
      places = refl;
      filled = λ f. omega (arith, length-append (rows_in ls) (flat_map rows_of tb));
      waved = λ v.
          ap (λ (l : List laid_waveform.Waveform). h.counts.waveforms + length l) (sym (waveform-none t ls tb h.counts.rows))
          ∙ ap (λ (j : ℕ). h.counts.waveforms + length (waveforms_laid (table_of (Current t) ls ∷ tb) j)) (sym z) ∙ v;
    }

-- a waveform's keyword: the same, and the waveform is counted
pub waveform-carried : (t : Text) (ts : List Text) (e : Edge) (tb : List TableIs) (h : Log)
    → Carried (record { pin_lines = []; choice_lines = []; open_rows = []; tables = table_of (Waveform e) (under ts) ∷ tb }) h
    (gathered rows (under ts) [] tb) (log_after h t ts WaveformOpened)
unfolding finished noted sections flat_map
waveform-carried t ts e tb h =
    let n : ℕ = h.counts.rows in
    let rs : List Row = rows_in (under ts) in
    let z : n + 0 ≡ n = omega arith in
    record {
      tables = refl;
      places = refl;
      filled = λ f. omega (arith, length-append rs (flat_map rows_of tb));
      waved = λ v.
          let all = ap (λ (j : ℕ). h.counts.waveforms + length (waveforms_laid (table_of (Waveform e) (under ts) ∷ tb) j)) (sym z) ∙ v in
          omega (arith, all, ap length (waveform-some e (under ts) tb n));
    }
