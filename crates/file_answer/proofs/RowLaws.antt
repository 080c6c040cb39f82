-- A row's line in an open table changes the rows that were seen and the file's count of rows, and nothing else of where the reading stands.
use Rattle.std.specs.Prelude.{Ok, Err}
use Prim.Native.Nat.{ℕ, ◌+◌, min}
use mathlib.Core.Path.{◌≡◌, refl, sym, ap, ap₂, ◌∙◌, subst}
use mathlib.Core.List.{List, ◌∷◌}
use mathlib.Core.Bool.{Bool, cond}
use native.Mathlib.Omega.{arith}
use lib.Dec.{ltb, eqb}
use Rattle.laws.specs.Lists.{part}
use Rattle.laws.proofs.Tests.{by-test, cond_no, impossible}
use Rattle.decimal.specs.Answers.{past_numbers, decimal_in}
use Rattle.decimal.specs.declared.Decimal.{Decimal}
use Rattle.words.specs.Words.{word, words}
use Rattle.records.specs.Flaws.{Reads, told_in}
use Rattle.line_rules.specs.Fields.{row_of}
use Rattle.cut_lines.specs.Texts.{Text, plain}
use Rattle.line_cells.specs.declared.RowWords.{RowWords}
use Rattle.cut_lines.specs.Cursors.{rest, past, Placed, TextIs}
use Rattle.cut_lines.specs.declared.Cursor.{Cursor}
use Rattle.records.specs.declared.Lengths.{Lengths}
use Rattle.records.specs.declared.Row as line
use Rattle.rules.specs.Model.{with_row, with_model_list, row_line, begins_letter, waveform_line}
use Rattle.rules.specs.Steps.{on_plain}
use Rattle.rules.proofs.Lettered.{letter-no-row}
use Rattle.given.specs.declared.Given.{Given}
use Rattle.rules.specs.declared.RowsSeen.{RowsSeen}
use Rattle.rules.specs.declared.ModelList.{ModelList}
use Rattle.rules.specs.declared.ModelList.TheVariants.{CurrentRows, WaveformRows}
use Rattle.rules.specs.declared.ModelState.{ModelState}
use Rattle.rules.specs.declared.Stage.TheVariants.{InModel}
use Rattle.rules.specs.declared.Event.TheVariants.{TableRow}
use Rattle.model_steps.specs.Rows.{row_step, row_went}
use Rattle.model_steps.proofs.Laws.{row-line, row_seen}
use Rattle.notes.specs.Noted.{run_log}
use Rattle.note_words.specs.Store.{log_in}
use Rattle.note_words.proofs.Laws.{filed-other}
use Rattle.noted_events.specs.Events.{log_of}
use Rattle.noted_events.specs.declared.Tally.{Tally}
use Rattle.file_answer.specs.Scans.{run_from}
use Rattle.file_answer.specs.Rows.{seen_rows, RowIs, RowIn, HoldsRows, with_rows, standing_at, in_table, PassedIs, Steady, PassesOn}
use Rattle.file_answer.specs.declared.Passed.{Passed}
use Rattle.file_answer.specs.declared.Standing.{Standing}
use Rattle.file_answer.proofs.ScanLaws.{reached-on}

-- ---- the tables

pub current-holds : (o : ℕ) → HoldsRows (CurrentRows o)
current-holds o m k w r y e = ap (λ (x : Reads line.Row). row_line (CurrentRows o) m r k (told_in w x)) e

pub waveform-holds : (o : ℕ) (g : Given) → HoldsRows (WaveformRows o g)
unfolding waveform_line
waveform-holds o g m k w r y e =
    by-test (begins_letter (word 0 (words w)))
    (λ b. let z = sym (letter-no-row w b) ∙ e in impossible (cc))
    (λ b. cond_no _ _ b ∙ ap (λ (x : Reads line.Row). row_line (WaveformRows o g) m r k (told_in w x)) e)

-- ---- one row

row-said : (w : List ℕ) (r more : RowsSeen) (x : Reads line.Row) → row_step r (told_in w x) ≡ Ok more → (y : line.Row) × (x ≡ Ok y)
row-said w r more (Ok y) h = (y, refl)
row-said w r more (Err f) h = impossible (cc)

module _ (m : ModelState) (table : RowsSeen → ModelList) (holds : HoldsRows table) (w : List ℕ) (r more : RowsSeen) (row : RowIs w r more) where
  row_on : (k : ℕ) → on_plain (InModel (with_model_list m (table r))) k w ≡ Ok (InModel (with_model_list m (table more)), TableRow)
  unfolding on_plain
  row_on k =
      let y = row-said w r more (row_of w) row.row in
      cond_no _ _ row.unbracketed
      ∙ holds (with_model_list m (table r)) k w r y.0 y.1
      ∙ row-line table (with_model_list m (table r)) r k (Ok y.0)
      ∙ ap (row_went table (with_model_list m (table r)) k) (ap (λ (x : Reads line.Row). row_step r (told_in w x)) (sym y.1) ∙ row.row)

  row-runs : (l : Lengths) (s xs : List ℕ) (t : Tally) (p k c : ℕ) (ts : List Text)
      → run_log l p (InModel (with_model_list m (table r))) (log_of s xs (with_rows t c)) (plain k w ∷ ts) ≡ run_log l p (InModel (with_model_list m (table more))) (log_of s xs (with_rows t (c + 1))) ts
  unfolding run_log log_in
  row-runs l s xs t p k c ts = rw (row_on k) refl

-- ---- rows of a table, passed one after another

module _ (s : List ℕ) (c : Cursor) (r : RowsSeen) (n : ℕ) where
  pub passed_none : Placed s c → PassedIs s c r n (record { cursor = c; rows = r; count = n })
  passed_none h = record { says = λ l xs m table t holds. refl; placed = h; reached = λ k. k; from = omega arith; counted = omega arith }

  pub passed-more : (d : Cursor) (rows more : RowsSeen) (count k a e : ℕ) (next : Cursor) → TextIs s d k a e next → RowIs (part a e s) rows more
      → PassedIs s c r n (record { cursor = d; rows = rows; count = count }) → PassedIs s c r n (record { cursor = next; rows = more; count = count + 1 })
  passed-more d rows more count k a e next b row p =
      record {
        says = λ l xs m table t holds.
            p.says l xs m table t holds
            ∙ (rw b.more (row-runs m table holds (part a e s) rows more row l s xs t (past s d) k count (rest s next)))
            ∙ ap (λ (f : ℕ). run_log l f (InModel (with_model_list m (table more))) (log_of s xs (with_rows t (count + 1))) (rest s next)) b.goes.ends;
        placed = b.goes.placed;
        reached = λ k. reached-on s d next b.goes (p.reached k);
        from = omega (arith, p.from, b.goes.rises);
        counted = omega (arith, p.counted, b.goes.rises);
      }

-- what is seen behind a row, from its words
pub row_goes : (w : List ℕ) (count : ℕ) (last : Decimal) (x : RowWords) → RowIn w count last x → x.fault ≡ 0 → (head tail : Bool) (number : Decimal) (typ first : Bool) (more : ℕ)
    → number ≡ decimal_in x.number → typ ≡ ltb x.typ past_numbers → first ≡ cond (eqb count 0) typ head → more ≡ min (count + 1) 1001
    → RowIs w (seen_rows count last head tail) (seen_rows more number first typ)
row_goes w count last x row z head tail number typ first more d e f g =
    let r = seen_rows count last head tail in
    subst (RowIs w r)
    (sym (row_seen r number typ first f more g ∙ ap₂ (with_row r) d e))
    (row z head tail)

-- ---- where the reading stands

steady-behind : (s : List ℕ) (x : Standing) (m : ModelState) (list : ModelList) (r : RowsSeen) (p : Passed) → Steady s x → PassedIs s x.cursor r x.tally.counts.rows p
    → Steady s (standing_at m list x.tally p)
steady-behind s x m list r p h q =
    record {
      placed = q.placed;
      within = record { names = h.within.names; components = h.within.components; pins = h.within.pins; selectors = h.within.selectors; choices = h.within.choices; models = h.within.models; waveforms = h.within.waveforms };
      rows = omega (arith, q.counted, h.rows);
    }

pub passes-table : (s : List ℕ) (x y : Standing) (m : ModelState) (table : RowsSeen → ModelList) (r : RowsSeen) (p : Passed) → HoldsRows table → x.stage ≡ InModel m → m.list ≡ table r
    → Steady s x → PassedIs s x.cursor r x.tally.counts.rows p → y ≡ standing_at m (table p.rows) x.tally p → PassesOn s x y
passes-table s x y m table r p holds stage list h q e =
    let here : x ≡ in_table m table x.tally (record { cursor = x.cursor; rows = r; count = x.tally.counts.rows }) =
    (rw (sym list) rw (sym stage) refl) in
    subst (PassesOn s x) (sym e)
    (record {
      says = λ l xs. ap (run_from l s xs) here ∙ q.says l xs m table x.tally holds;
      steady = steady-behind s x m (table p.rows) r p h q;
      filed = λ xs f. filed-other xs x.tally.names x.tally.counts x.tally.counts.waveforms p.count f;
      reached = q.reached;
      from = q.from;
    })

pub passes_none : (s : List ℕ) (x : Standing) → Steady s x → PassesOn s x x
passes_none s x h = record { says = λ l xs. refl; steady = h; filed = λ xs f. f; reached = λ k. k; from = omega arith }
