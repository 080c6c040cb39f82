-- The list that is open in a model: what its lines, from here to the next keyword, come to. Line by line, by the kind of list.
use Rattle.std.specs.Prelude.{Result, Ok, Some}
use Prim.Native.Nat.{ℕ}
use Prim.Native.String.{String}
use mathlib.Core.Path.{◌≡◌, refl, sym, ap, subst, ◌∙◌}
use mathlib.Core.List.{List, [], ◌∷◌}
use mathlib.Core.Bool.{Bool, true, false}
use lib.Dec.{eqb}
use Rattle.laws.specs.Bytes.{bytes, is_blank, is_capital, is_letter}
use Rattle.laws.specs.Lists.{eqs, front}
use Rattle.records.specs.Flaws.{Flaw, flaw_in}
use Rattle.laws.proofs.Tests.{by-test, cond_no, impossible}
use Rattle.laws.proofs.Same.{eqs-eq}
use Rattle.decimal.specs.declared.Cell.{Cell}
use Rattle.words.specs.Words.{word, words, grown, onto_word}
use Rattle.name_table.specs.Names.{place_from}
use Rattle.records.specs.declared.Row.{Row}
use Rattle.records.specs.declared.RampTriple.{RampTriple}
use Rattle.line_rules.specs.Fields.{name_of, is_named, line_at, number_line, slopes_line, row_of, takes, line_says}
use Rattle.line_rules.specs.Tables.{ramp_lines, fixtures}
use Rattle.line_rules.proofs.Places.{named-at}
use Rattle.given.specs.Given.{with, gave}
use Rattle.given.specs.declared.Given.{Given}
use Rattle.rules.specs.Model.{is_number, rises, with_row, ramp_flaw, begins_letter}
use Rattle.rules.specs.Reading.{onto_rows, rows_in}
use Rattle.rules.proofs.Lettered.{letter-no-row}
use Rattle.rules.specs.declared.RowsSeen.{RowsSeen}
use Rattle.rules.specs.declared.ModelList.{ModelList}
use Rattle.rules.specs.declared.ModelList.TheVariants.{ModelFirst, ModelShut, CurrentRows, RampLines, WaveformRows}
use Rattle.rules.specs.declared.ModelState.{ModelState}
use Rattle.accepted_tables.specs.Fallbacks.{Flawless}
use Rattle.accepted_tables.specs.Facts.{Slopes}
use Rattle.accepted_tables.proofs.Faults.{said, number-line-sure, slopes-line-sure}
use Rattle.accepted_tables.proofs.Named.{taken-on}
use Rattle.accepted_tables.proofs.Rows.{RowsLeft, none_left, one_more}
use Rattle.accepted_tables.proofs.ModelSteps.{Shuts, ModelLine, first_line, current_row, ramp_line, fixture_line, waveform_row}

-- ---- the line of a name, if it was given by the end, has Q: x is what was read of it before the lines ls

abbrev pub Reads : {A : Type 0} → (A → Type 0) → Given → String → String → (List ℕ → Result A Flaw) → List (List ℕ) → Type 0
Reads {A} Q g table name read ls = (x : A) → (gave g table name ≡ true → Q x) → Q (line_says name read x ls)

abbrev pub IsNumber : Cell → Type 0
IsNumber c = is_number c ≡ true

-- ---- what the lines of the open list come to

abbrev pub ListReads : ModelList → List (List ℕ) → Type 0
ListReads ModelFirst ls = Unit {0}
ListReads ModelShut ls = Unit {0}
ListReads (CurrentRows o r) ls = RowsLeft 100 r (rows_in ls)
ListReads (RampLines o g) ls = Reads Slopes g ramp_lines "dV/dt_r" slopes_line ls × Reads Slopes g ramp_lines "dV/dt_f" slopes_line ls
ListReads (WaveformRows o g r) ls =
    RowsLeft 1000 r (rows_in ls) × Reads IsNumber g fixtures "R_fixture" number_line ls × Reads IsNumber g fixtures "V_fixture" number_line ls

-- the next keyword closes it
pub list-shuts : (l : ModelList) → Shuts l → ListReads l []
unfolding rows_in line_says
list-shuts ModelFirst s = tt
list-shuts ModelShut s = tt
list-shuts (CurrentRows o r) s = none_left 100 r s
list-shuts (RampLines o g) s = (λ x q. q s.0, λ x q. q s.1)
list-shuts (WaveformRows o g r) s = (none_left 1000 r s.2, λ x q. q s.0, λ x q. q s.1)

-- ---- places

pub rise-place : place_from 0 (bytes "dV/dt_r") (words (bytes ramp_lines)) ≡ Some 0
unfolding place_from words grown onto_word is_blank eqs
rise-place = refl

pub fall-place : place_from 0 (bytes "dV/dt_f") (words (bytes ramp_lines)) ≡ Some 1
unfolding place_from words grown onto_word is_blank eqs
fall-place = refl

load-place : place_from 0 (bytes "R_load") (words (bytes ramp_lines)) ≡ Some 2
unfolding place_from words grown onto_word is_blank eqs
load-place = refl

pub resistor-place : place_from 0 (bytes "R_fixture") (words (bytes fixtures)) ≡ Some 0
unfolding place_from words grown onto_word is_blank eqs
resistor-place = refl

pub voltage-place : place_from 0 (bytes "V_fixture") (words (bytes fixtures)) ≡ Some 1
unfolding place_from words grown onto_word is_blank eqs
voltage-place = refl

-- ---- a named line

ramp-flaw : (w : List ℕ) (i : ℕ) → line_at ramp_lines w ≡ Some i → eqb i 2 ≡ false → ramp_flaw w ≡ flaw_in (slopes_line w)
unfolding ramp_flaw
ramp-flaw w i at h = rw (named-at ramp_lines "R_load" w i 2 at load-place, h)

module _ {A : Type 0} (Q : A → Type 0) (g : Given) (table name : String) (read : List ℕ → Result A Flaw) (w : List ℕ) (ls : List (List ℕ)) where
  pub reads-line : (i j : ℕ) → place_from 0 (bytes name) (words (bytes table)) ≡ Some j → line_at table w ≡ Some i
      → (i ≡ j → (v : A) × (read w ≡ Ok v) × Q v) → Reads Q (with g i) table name read ls → Reads Q g table name read (w ∷ ls)
  unfolding line_says
  reads-line i j placed at own so x q = so (takes name read x w) (taken-on table name j placed read x w i at Q g own q)

  -- a line of another name
  reads-past : is_named name w ≡ false → Reads Q g table name read ls → Reads Q g table name read (w ∷ ls)
  unfolding line_says takes
  reads-past h so x q = subst (λ (y : A). Q (line_says name read y ls)) (sym (cond_no _ _ h)) (so x q)

-- ---- a row

first-letter : (p : ℕ → Bool) (v : List ℕ) → begins_letter (front p v) ≡ true → begins_letter v ≡ true
unfolding begins_letter front
first-letter p [] h = h
first-letter p (b ∷ bs) h = by-test (p b) (λ t. rw t at h) (λ t. let z : false ≡ true = rw t at h in cc)

-- a name that begins with a letter is no row's
row-unnamed : (name : String) (w : List ℕ) (y : Row) → begins_letter (bytes name) ≡ true → row_of w ≡ Ok y → is_named name w ≡ false
unfolding is_named name_of
row-unnamed name w y l e =
    by-test (is_named name w)
    (λ t.
    let b : begins_letter (word 0 (words w)) ≡ true = first-letter _ (word 0 (words w)) (ap begins_letter (eqs-eq (name_of w) (bytes name) t) ∙ l) in
    let z = sym (letter-no-row w b) ∙ e in
    impossible (cc))
    (λ t. t)

resistor-letter : begins_letter (bytes "R_fixture") ≡ true
unfolding begins_letter is_letter is_capital
resistor-letter = refl

voltage-letter : begins_letter (bytes "V_fixture") ≡ true
unfolding begins_letter is_letter is_capital
voltage-letter = refl

module _ (w : List ℕ) (ls : List (List ℕ)) where
  row_more : (y : Row) → row_of w ≡ Ok y → rows_in (w ∷ ls) ≡ y ∷ rows_in ls
  unfolding rows_in
  row_more y e = ap (λ (x : Result Row Flaw). onto_rows x (rows_in ls)) e

  no_row : begins_letter (word 0 (words w)) ≡ true → rows_in (w ∷ ls) ≡ rows_in ls
  unfolding rows_in
  no_row b = ap (λ (x : Result Row Flaw). onto_rows x (rows_in ls)) (letter-no-row w b)

  rows_more : (most : ℕ) (r : RowsSeen) (y : Row) → row_of w ≡ Ok y → rises r y.number ≡ true
      → RowsLeft most (with_row r y.number (is_number y.cells.typ)) (rows_in ls) → RowsLeft most r (rows_in (w ∷ ls))
  rows_more most r y e h so = subst (RowsLeft most r) (sym (row_more y e)) (one_more most r y (rows_in ls) h so)

-- ---- any line of the open list

pub list-line : (m : ModelState) (w : List ℕ) (n : ModelState) (ls : List (List ℕ)) → ModelLine m w n → ListReads n.list ls → ListReads m.list (w ∷ ls)
list-line m w n ls (first_line i q at h ok) so = subst (λ (l : ModelList). ListReads l (w ∷ ls)) (sym q) tt
list-line m w n ls (current_row o r y q e h) so = subst (λ (l : ModelList). ListReads l (w ∷ ls)) (sym q) (rows_more w ls 100 r y e h so)
list-line m w n ls (ramp_line o g i q at h ok) so =
    let own : (j : ℕ) → eqb j 2 ≡ false → i ≡ j → (v : RampTriple) × (slopes_line w ≡ Ok v) × Slopes v =
    λ j z e. said (slopes_line w) (slopes-line-sure w) (subst Flawless (ramp-flaw w j (at ∙ ap Some e) z) ok) in
    subst (λ (l : ModelList). ListReads l (w ∷ ls)) (sym q) (
      reads-line Slopes g ramp_lines "dV/dt_r" slopes_line w ls i 0 rise-place at (own 0 refl) so.0,
      reads-line Slopes g ramp_lines "dV/dt_f" slopes_line w ls i 1 fall-place at (own 1 refl) so.1,
    )
list-line m w n ls (fixture_line o g r i q b at h ok) so =
    subst (λ (l : ModelList). ListReads l (w ∷ ls)) (sym q) (
      subst (RowsLeft 1000 r) (sym (no_row w ls b)) so.0,
      reads-line IsNumber g fixtures "R_fixture" number_line w ls i 0 resistor-place at (λ e. said (number_line w) (number-line-sure w) ok) so.1,
      reads-line IsNumber g fixtures "V_fixture" number_line w ls i 1 voltage-place at (λ e. said (number_line w) (number-line-sure w) ok) so.2,
    )
list-line m w n ls (waveform_row o g r y q e h) so =
    subst (λ (l : ModelList). ListReads l (w ∷ ls)) (sym q) (
      rows_more w ls 1000 r y e h so.0,
      reads-past IsNumber g fixtures "R_fixture" number_line w ls (row-unnamed "R_fixture" w y resistor-letter e) so.1,
      reads-past IsNumber g fixtures "V_fixture" number_line w ls (row-unnamed "V_fixture" w y voltage-letter e) so.2,
    )
