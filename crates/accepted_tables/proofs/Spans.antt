-- Places in a table: what lies there is what was put there, and stays as more is put behind it. By the laws of `take`, `drop` and `++`.
use Prim.Native.Nat.{ℕ, ◌+◌, ◌≤◌}
use Prim.Native.String.{String}
use mathlib.Core.Path.{◌≡◌, refl, sym, ap, subst, ◌∙◌}
use mathlib.Core.List.{List, [], ◌∷◌, ◌++◌, flat_map, append_assoc}
use mathlib.Core.Bool.{Bool, true, false, cond}
use native.Mathlib.Omega.{arith}
use lib.ListN.{length, take, drop, length-append, length-drop}
use lib.Seq.{take-append_seam, drop-append_seam, take-append-le, drop-append-le}
use Rattle.laws.specs.Bytes.{bytes}
use Rattle.laws.specs.Lists.{eqs, one_of, Every}
use Rattle.laws.proofs.Tests.{by-test, cond_map, cond-all, cond_yes, cond_no, impossible}
use Rattle.laws.proofs.Same.{eqs-eq}
use Rattle.laws.proofs.Every.{every_append}
use Rattle.words.specs.Words.{words}
use Rattle.records.specs.declared.Row.{Row}
use Rattle.records.specs.declared.Span.{Span}
use Rattle.records.specs.declared.Table.{Table}
use Rattle.records.specs.declared.Waveform as laid_waveform
use Rattle.line_rules.specs.Tables.{waveform_keywords}
use Rattle.rules.specs.Reading.{TableIs, rows_in, edge_of, waveform_in}
use Rattle.layout.specs.Laid.{rows_of, table_at, waveforms_laid}
use Rattle.accepted_tables.specs.Facts.{span_in, RowsFacts, TableFacts, WaveformFacts}
use Rattle.accepted_tables.proofs.Parts.{WaveLines, TableLines, is_waveform, waves_in, TableReads}

-- ---- places

module _ {A : Type 0} where
  pub span_more : (s : Span) (l more : List A) → s.start + s.count ≤ length l → span_in s (l ++ more) ≡ span_in s l
  span_more s l more h =
      ap (take s.count) (drop-append-le s.start l more (omega (arith, h)))
      ∙ take-append-le s.count (drop s.start l) more (omega (arith, h, length-drop s.start l))

  pub span-behind : (before xs more : List A) → span_in (record { start = length before; count = length xs }) (before ++ (xs ++ more)) ≡ xs
  span-behind before xs more = ap (take (length xs)) (drop-append_seam before (xs ++ more)) ∙ take-append_seam xs more

pub table_more : (most : ℕ) (s : Span) (store more : List Row) → TableFacts most s store → TableFacts most s (store ++ more)
table_more most s store more t =
    record {
      within = omega (arith, t.within, length-append store more);
      rows = subst (RowsFacts most) (sym (span_more s store more t.within)) t.rows;
    }

table-behind : (most : ℕ) (before rs more : List Row) → RowsFacts most rs
    → TableFacts most (record { start = length before; count = length rs }) (before ++ (rs ++ more))
table-behind most before rs more f =
    record {
      within = omega (arith, length-append before (rs ++ more), length-append rs more);
      rows = subst (RowsFacts most) (sym (span-behind before rs more)) f;
    }

-- ---- a model's current tables, before being the rows of the store before the model's

pub table-facts : (before : List Row) (tabs : List TableIs) (key : String) → one_of (bytes key) (words (bytes waveform_keywords)) ≡ false → Every TableReads tabs
    → (table_at tabs (length before) key).given ≡ true → TableFacts 100 (table_at tabs (length before) key).rows (before ++ flat_map rows_of tabs)
unfolding table_at flat_map
table-facts before [] key n so g = impossible (cc)
table-facts before (t ∷ ts) key n so g =
    let rs : List Row = rows_of t in
    let more : List Row = flat_map rows_of ts in
    let here : Table = record { given = true; rows = record { start = length before; count = length rs } } in
    let later : Table = table_at ts (length before + length rs) key in
    by-test (eqs t.key (bytes key))
    (λ q.
    let current : is_waveform t ≡ false = ap (λ (x : List ℕ). one_of x (words (bytes waveform_keywords))) (eqs-eq t.key (bytes key) q) ∙ n in
    subst (λ (x : Table). TableFacts 100 x.rows (before ++ (rs ++ more))) (sym (cond_yes here later q))
    (table-behind 100 before rs more (subst (λ (b : Bool). TableLines b t.lines) current so.0)))
    (λ q.
    let length-is : length (before ++ rs) ≡ length before + length rs = length-append before rs in
    let given : later.given ≡ true = sym (ap (λ (x : Table). x.given) (cond_no here later q)) ∙ g in
    let rest : (table_at ts (length before + length rs) key).given ≡ true → TableFacts 100 (table_at ts (length before + length rs) key).rows ((before ++ rs) ++ more) =
    subst (λ (k : ℕ). (table_at ts k key).given ≡ true → TableFacts 100 (table_at ts k key).rows ((before ++ rs) ++ more)) length-is (table-facts (before ++ rs) ts key n so.1) in
    subst (λ (x : Table). TableFacts 100 x.rows (before ++ (rs ++ more))) (sym (cond_no here later q))
    (subst (TableFacts 100 later.rows) (append_assoc before rs more) (rest given)))

-- ---- its waveforms

wave-facts : (before rs more : List Row) (t : TableIs) → rs ≡ rows_in t.lines → WaveLines t.lines
    → WaveformFacts (before ++ (rs ++ more)) (waveform_in (length before) (edge_of t.key) t.lines)
unfolding waveform_in
wave-facts before rs more t e f =
    record {
      resistor = f.resistor;
      voltage = f.voltage;
      table = subst (λ (x : List Row). TableFacts 1000 (record { start = length before; count = length (rows_in t.lines) }) (before ++ (x ++ more))) (sym e) (table-behind 1000 before (rows_in t.lines) more f.rows);
    }

pub waves-facts : (before : List Row) (tabs : List TableIs) → Every TableReads tabs
    → Every (WaveformFacts (before ++ flat_map rows_of tabs)) (waveforms_laid tabs (length before))
unfolding waveforms_laid flat_map
waves-facts before [] so = tt
waves-facts before (t ∷ ts) so =
    let rs : List Row = rows_of t in
    let more : List Row = flat_map rows_of ts in
    let here : List laid_waveform.Waveform = waveform_in (length before) (edge_of t.key) t.lines ∷ [] in
    let length-is : length (before ++ rs) ≡ length before + length rs = length-append before rs in
    every_append (WaveformFacts (before ++ (rs ++ more))) (cond (is_waveform t) here []) (waveforms_laid ts (length before + length rs))
    (cond-all (Every (WaveformFacts (before ++ (rs ++ more)))) (is_waveform t) here []
    (λ q. (wave-facts before rs more t refl (subst (λ (b : Bool). TableLines b t.lines) q so.0), tt))
    (λ q. tt))
    (subst (λ (k : ℕ). Every (WaveformFacts (before ++ (rs ++ more))) (waveforms_laid ts k)) length-is
    (subst (λ (store : List Row). Every (WaveformFacts store) (waveforms_laid ts (length (before ++ rs)))) (append_assoc before rs more) (waves-facts (before ++ rs) ts so.1)))

pub waves-length : (tabs : List TableIs) (n : ℕ) → length (waveforms_laid tabs n) ≡ waves_in tabs
unfolding waveforms_laid
waves-length [] n = refl
waves-length (t ∷ ts) n =
    let here : List laid_waveform.Waveform = waveform_in n (edge_of t.key) t.lines ∷ [] in
    let rest : List laid_waveform.Waveform = waveforms_laid ts (n + length (rows_of t)) in
    omega (arith, length-append (cond (is_waveform t) here []) rest, cond_map length (is_waveform t) here [], waves-length ts (n + length (rows_of t)))
