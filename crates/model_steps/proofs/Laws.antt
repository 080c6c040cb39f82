-- Laws on a model's rows and tables, one for each branch; and on its lines and what was given, by their names.
use Rattle.std.specs.Prelude.{Result, Ok, Err, Some}
use Prim.Native.Nat.{ℕ, ◌+◌, min}
use mathlib.Core.Path.{◌≡◌, refl, sym, ap, ◌∙◌}
use mathlib.Core.List.{List}
use mathlib.Core.Bool.{Bool, true, false, cond, ◌&&◌}
use native.Mathlib.Omega.{arith}
use lib.Dec.{eqb, ltb}
use borrow.Author.Tests.{lt-ltb}
use Rattle.laws.specs.Bytes.{is_blank}
use Rattle.laws.specs.Lists.{eqs}
use Rattle.laws.specs.Said.{or_else}
use Rattle.laws.proofs.Tests.{by-test, cond_yes, cond_no}
use Rattle.decimal.specs.Decimal.{word_of}
use Rattle.decimal.specs.Answers.{past_numbers, decimal_in}
use Rattle.decimal.specs.Fine.{FineCell}
use Rattle.decimal.specs.declared.Decimal.{Decimal}
use Rattle.decimal.specs.declared.Cell.{Cell}
use Rattle.decimal.specs.declared.Cell.TheVariants.{Number, Missing}
use Rattle.decimal.proofs.Cells.{number_small, kept-decimal}
use Rattle.words.specs.Words.{words, grown, onto_word}
use Rattle.name_table.specs.Names.{place_from}
use Rattle.records.specs.Flaws.{Reads, told_in, bare, checked_at}
use Rattle.records.specs.declared.Fault.{Fault}
use Rattle.records.specs.declared.LineFault.{LineFault}
use Rattle.records.specs.declared.Row.{Row}
use Rattle.line_rules.specs.Fields.{line_at, takes, row_of}
use Rattle.line_rules.specs.Tables.{model_lines, ramp_lines, fixtures}
use Rattle.line_rules.proofs.Places.{named-at}
use Rattle.line_cells.specs.declared.RowWords.{RowWords}
use Rattle.line_cells.proofs.Rows.{RowThere}
use Rattle.given.specs.Given.{gave}
use Rattle.given.specs.declared.Given.{Given}
use Rattle.rules.specs.Going.{Went, refuse}
use Rattle.rules.specs.declared.Stage.TheVariants.{InModel}
use Rattle.rules.specs.declared.Event.TheVariants.{TableRow}
use Rattle.rules.specs.Model.{is_number, with_row, with_model_list, rises, row_line, model_done}
use Rattle.rules.specs.declared.RowsSeen.{RowsSeen}
use Rattle.rules.specs.declared.ModelList.{ModelList}
use Rattle.rules.specs.declared.ModelState.{ModelState}
use Rattle.model_steps.specs.Closes.{both_given, is_whole, is_crossed}
use Rattle.model_steps.specs.Rows.{rises_over, on_row, row_step, row_went}

-- ---- the first lines: a line's place says whether it has a name

module _ {A : Type 0} (read : List ℕ → Reads A) (before : A) (w : List ℕ) (n : ℕ) (e : line_at model_lines w ≡ Some n) where
  pub takes-type : cond (eqb n 0) (or_else before (read w)) before ≡ takes "Model_type" read before w
  unfolding takes place_from words grown onto_word is_blank eqs
  takes-type = rw (named-at model_lines "Model_type" w n 0 e refl)

  pub takes-vinl : cond (eqb n 8) (or_else before (read w)) before ≡ takes "Vinl" read before w
  unfolding takes place_from words grown onto_word is_blank eqs
  takes-vinl = rw (named-at model_lines "Vinl" w n 8 e refl)

  pub takes-vinh : cond (eqb n 9) (or_else before (read w)) before ≡ takes "Vinh" read before w
  unfolding takes place_from words grown onto_word is_blank eqs
  takes-vinh = rw (named-at model_lines "Vinh" w n 9 e refl)

-- ---- what was given, by name

pub ramp-given : (g : Given) → both_given g ≡ (gave g ramp_lines "dV/dt_r" && gave g ramp_lines "dV/dt_f")
unfolding gave place_from words grown onto_word is_blank eqs
ramp-given g = refl

pub fixture-given : (g : Given) → both_given g ≡ (gave g fixtures "R_fixture" && gave g fixtures "V_fixture")
unfolding gave place_from words grown onto_word is_blank eqs
fixture-given g = refl

pub done-whole : (m : ModelState) → model_done m ≡ cond (is_whole m) (cond (is_crossed m) 20 0) 9
unfolding model_done gave place_from words grown onto_word is_blank eqs
done-whole m = refl

-- ---- rows

pub row-line : (on : RowsSeen → ModelList) (m : ModelState) (r : RowsSeen) (k : ℕ) (x : Result Row LineFault) → row_line on m r k x ≡ row_went on m k (row_step r x)
unfolding refuse on_row
row-line on m r k (Err f) = refl
row-line on m r k (Ok l) = by-test (rises r l.number) (λ e. rw e) (λ e. rw e)

-- by what the code has of the row's step, told at line k
abbrev goes_on : (RowsSeen → ModelList) → ModelState → Result RowsSeen Fault → Went
goes_on on m (Ok s) = Ok (InModel (with_model_list m (on s)), TableRow)
goes_on on m (Err f) = Err f

row-went : (on : RowsSeen → ModelList) (m : ModelState) (k : ℕ) (y : Result RowsSeen LineFault) → goes_on on m (checked_at k y) ≡ row_went on m k y
row-went on m k (Ok s) = refl
row-went on m k (Err f) = refl

pub row-checked : (on : RowsSeen → ModelList) (m : ModelState) (r : RowsSeen) (k : ℕ) (x : Result Row LineFault) {y : Result RowsSeen LineFault} {a b : Result RowsSeen Fault}
    → y ≡ row_step r x → a ≡ checked_at k y → a ≡ b → goes_on on m b ≡ row_line on m r k x
row-checked on m r k x {y} e t is =
    ap (goes_on on m) (sym is ∙ t ∙ ap (checked_at k) e) ∙ row-went on m k (row_step r x) ∙ sym (row-line on m r k x)

pub row_seen : (r : RowsSeen) (d : Decimal) (typ h : Bool) → h ≡ cond (eqb r.count 0) typ r.head → (n : ℕ) → n ≡ min (r.count + 1) 1001
    → ◌≡◌ {A = RowsSeen} (record { count = n; last = d; head = h; tail = typ }) (with_row r d typ)
row_seen r d typ h e n q = rw (e, q)

-- a row by its words
module _ {w : List ℕ} {x : RowWords} (t : RowThere w x) where
  number-back : decimal_in x.number ≡ t.row.number
  number-back =
      ap (λ (y : RowWords). decimal_in y.number) t.words
      ∙ kept-decimal t.row.number t.number.digits (omega (arith, t.number.power))

  typ-given : (c : Cell) → FineCell c → ltb (word_of c) past_numbers ≡ is_number c
  typ-given (Number d) f = lt-ltb (word_of (Number d)) past_numbers (number_small d f.digits (omega (arith, f.power)))
  typ-given Missing f = refl

  typ-back : ltb x.typ past_numbers ≡ is_number t.row.cells.typ
  typ-back = ap (λ (y : RowWords). ltb y.typ past_numbers) t.words ∙ typ-given t.row.cells.typ t.typ

  module _ (r : RowsSeen) where
    rises-back : rises r t.row.number ≡ rises_over r.count r.last (decimal_in x.number)
    unfolding rises
    rises-back = ap (rises_over r.count r.last) (sym number-back)

    pub row-refused : rises_over r.count r.last (decimal_in x.number) ≡ false → Err (bare 13) ≡ row_step r (told_in w (row_of w))
    unfolding on_row
    row-refused h = sym (cond_no _ _ (rises-back ∙ h)) ∙ ap (λ (y : Reads Row). row_step r (told_in w y)) t.said

    pub row-taken : rises_over r.count r.last (decimal_in x.number) ≡ true
        → Ok (with_row r (decimal_in x.number) (ltb x.typ past_numbers)) ≡ row_step r (told_in w (row_of w))
    unfolding on_row
    row-taken h = rw (number-back, typ-back) (sym (cond_yes _ _ (rises-back ∙ h)) ∙ ap (λ (y : Reads Row). row_step r (told_in w y)) t.said)
