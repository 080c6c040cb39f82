-- A waveform's record as a fold over its lines; and a line more: a row, which has no name, or a number at its place.
use Rattle.std.specs.Prelude.{Ok, Err, Some, None}
use Prim.Native.Nat.{ℕ, ◌+◌}
use Prim.Native.String.{String}
use mathlib.Core.Path.{◌≡◌, refl, sym, ap, ◌∙◌}
use mathlib.Core.List.{List, [], ◌∷◌}
use mathlib.Core.Bool.{Bool, true, false}
use native.Mathlib.Omega.{arith}
use lib.ListN.{length}
use Rattle.laws.specs.Bytes.{bytes, is_blank, is_capital, is_small, is_letter}
use Rattle.laws.specs.Lists.{front, eqs}
use Rattle.laws.proofs.Tests.{by-test, cond_yes, cond_no, impossible}
use Rattle.laws.proofs.Same.{eqs-eq}
use Rattle.decimal.specs.declared.Cell.{Cell}
use Rattle.words.specs.Words.{word, words, grown, onto_word}
use Rattle.name_table.specs.Names.{place_from}
use Rattle.line_rules.specs.Fields.{name_of, is_named, line_at, number_line, row_of, takes, line_says}
use Rattle.line_rules.specs.Tables.{fixtures}
use Rattle.line_rules.proofs.Places.{takes_at, takes-nothing}
use Rattle.rules.specs.Model.{begins_letter}
use Rattle.rules.specs.Reading.{number_said, rows_in, waveform_in}
use Rattle.rules.proofs.Lettered.{letter-no-row}
use Rattle.records.specs.Flaws.{told_in}
use Rattle.records.specs.declared.Edge.{Edge}
use Rattle.records.specs.declared.LineFault.{LineFault}
use Rattle.records.specs.declared.Row.{Row}
use Rattle.records.specs.declared.Waveform.{Waveform}
use Rattle.lines_under.proofs.Folds.{Folds, count-fold}
use Rattle.lines_under.proofs.Told.{takes-flawed}
use Rattle.table_rows.specs.Rows.{counted}
use Rattle.table_rows.specs.Waveforms.{bare_waveform, with_count, fixture_at, fixture_line, with_waveform_line, waveform_on}
use Rattle.table_rows.proofs.RowLaws.{onto-row, row_kept}

-- ---- the fold

waveform-more : (x : Waveform) (w : List ℕ) (ws : List (List ℕ)) → waveform_on x (w ∷ ws) ≡ waveform_on (with_waveform_line x w) ws
unfolding waveform_on line_says rows_in
waveform-more x w ws = ap (with_count (waveform_on (with_waveform_line x w) ws)) (onto-row count-fold x.rows.count (row_of w) (rows_in ws))

waveform-none : (x : Waveform) → waveform_on x [] ≡ x
unfolding waveform_on line_says rows_in
waveform-none x = let z : x.rows.count + 0 ≡ x.rows.count = omega arith in ap (with_count x) z

pub waveform-fold : Folds waveform_on with_waveform_line
waveform-fold = record { none = waveform-none; more = waveform-more }

pub waveform-is : (e : Edge) (n : ℕ) (ls : List (List ℕ)) → waveform_on (bare_waveform e n) ls ≡ waveform_in n e ls
unfolding waveform_on waveform_in number_said
waveform-is e n ls = let z : 0 + length (rows_in ls) ≡ length (rows_in ls) = omega arith in ap (with_count (waveform_in n e ls)) z

-- ---- a number

module _ (x : Waveform) (w : List ℕ) where
  pub fixture-named : (n : ℕ) (v : Cell) → line_at fixtures w ≡ Some n → number_line w ≡ Ok v → fixture_at x n v ≡ fixture_line x w
  unfolding place_from words grown onto_word is_blank eqs
  fixture-named n v e q =
      rw (
        takes_at "R_fixture" number_line x.rfixture w fixtures n 0 e refl q,
        takes_at "V_fixture" number_line x.vfixture w fixtures n 1 e refl q,
        takes_at "V_fixture_min" number_line x.vmin w fixtures n 2 e refl q,
        takes_at "V_fixture_max" number_line x.vmax w fixtures n 3 e refl q,
        takes_at "C_fixture" number_line x.cfixture w fixtures n 4 e refl q,
        takes_at "L_fixture" number_line x.lfixture w fixtures n 5 e refl q,
        takes_at "R_dut" number_line x.rdut w fixtures n 6 e refl q,
        takes_at "L_dut" number_line x.ldut w fixtures n 7 e refl q,
        takes_at "C_dut" number_line x.cdut w fixtures n 8 e refl q,
      )

  -- a line that changes none of the numbers
  fixture-kept : ((name : String) (v : Cell) → begins_letter (bytes name) ≡ true → takes name number_line v w ≡ v) → x ≡ fixture_line x w
  unfolding begins_letter is_letter is_capital is_small
  fixture-kept h =
      rw (
        h "R_fixture" x.rfixture refl,
        h "V_fixture" x.vfixture refl,
        h "V_fixture_min" x.vmin refl,
        h "V_fixture_max" x.vmax refl,
        h "C_fixture" x.cfixture refl,
        h "L_fixture" x.lfixture refl,
        h "R_dut" x.rdut refl,
        h "L_dut" x.ldut refl,
        h "C_dut" x.cdut refl,
      )

  pub fixture-bad : {f : LineFault} → told_in w (number_line w) ≡ Err f → x ≡ fixture_line x w
  fixture-bad q = fixture-kept (λ name v h. takes-flawed name number_line v w q)

  pub fixture-nothing : line_at fixtures w ≡ None → x ≡ fixture_line x w
  unfolding place_from words grown onto_word is_blank eqs
  fixture-nothing e =
      rw (
        takes-nothing "R_fixture" number_line x.rfixture w fixtures 0 e refl,
        takes-nothing "V_fixture" number_line x.vfixture w fixtures 1 e refl,
        takes-nothing "V_fixture_min" number_line x.vmin w fixtures 2 e refl,
        takes-nothing "V_fixture_max" number_line x.vmax w fixtures 3 e refl,
        takes-nothing "C_fixture" number_line x.cfixture w fixtures 4 e refl,
        takes-nothing "L_fixture" number_line x.lfixture w fixtures 5 e refl,
        takes-nothing "R_dut" number_line x.rdut w fixtures 6 e refl,
        takes-nothing "L_dut" number_line x.ldut w fixtures 7 e refl,
        takes-nothing "C_dut" number_line x.cdut w fixtures 8 e refl,
      )

-- ---- a row has no name that begins with a letter

begins-front : (p : ℕ → Bool) (v : List ℕ) → begins_letter (front p v) ≡ true → begins_letter v ≡ true
unfolding begins_letter front
begins-front p [] h = h
begins-front p (b ∷ bs) h =
    by-test (p b)
    (λ q. sym (ap begins_letter (cond_yes _ _ q)) ∙ h)
    (λ q. let z : false ≡ true = sym (ap begins_letter (cond_no _ _ q)) ∙ h in cc)

named-letter : (name : String) (w : List ℕ) → is_named name w ≡ true → begins_letter (bytes name) ≡ true → begins_letter (word 0 (words w)) ≡ true
unfolding is_named name_of
named-letter name w e h = begins-front _ (word 0 (words w)) (ap begins_letter (eqs-eq (name_of w) (bytes name) e) ∙ h)

takes-row : (w : List ℕ) (r : Row) → Ok r ≡ row_of w → (name : String) (v : Cell) → begins_letter (bytes name) ≡ true → takes name number_line v w ≡ v
unfolding takes
takes-row w r e name v h =
    by-test (is_named name w)
    (λ q. let z : Ok r ≡ Err _ = e ∙ letter-no-row w (named-letter name w q h) in let y : ◌≡◌ {A = ℕ} 0 1 = cc in impossible y)
    (λ q. cond_no _ _ q)

module _ (x : Waveform) (w : List ℕ) where
  pub line_row : (r : Row) → Ok r ≡ row_of w → with_count x (x.rows.count + 1) ≡ with_waveform_line x w
  line_row r e =
      ap (λ (y : Waveform). with_count y (x.rows.count + 1)) (fixture-kept x w (takes-row w r e))
      ∙ ap (λ read. with_count (fixture_line x w) (counted x.rows.count read)) e

  pub line-fixture : {f : LineFault} → Err f ≡ told_in w (row_of w) → fixture_line x w ≡ with_waveform_line x w
  line-fixture e = ap (with_count (fixture_line x w)) (row_kept (λ (n : ℕ) (y : Row). n + 1) x.rows.count w (row_of w) e)
