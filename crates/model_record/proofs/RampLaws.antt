-- A ramp's lines as a fold over the lines; a line without a place; and a line at a place, which changes its own part.
use Rattle.std.specs.Prelude.{Some, None, Result}
use Prim.Native.Nat.{ℕ, ◌≤◌, ◌<◌}
use mathlib.Core.Path.{◌≡◌, refl, sym, ap, ◌∙◌}
use mathlib.Core.List.{List, []}
use mathlib.Core.Bool.{false, cond}
use lib.Dec.{eqb}
use native.Mathlib.Omega.{arith}
use borrow.Author.Tests.{eq-eqb, ne_eqb}
use Rattle.laws.proofs.Tests.{cond_yes, cond_no}
use Rattle.laws.specs.Said.{or_else}
use Rattle.decimal.specs.declared.Cell.{Cell}
use Rattle.laws.specs.Bytes.{is_blank}
use Rattle.laws.specs.Lists.{eqs}
use Rattle.words.specs.Words.{words, grown, onto_word}
use Rattle.name_table.specs.Names.{place_from}
use Rattle.line_rules.specs.Fields.{line_at, slopes_line, number_line, line_says}
use Rattle.line_rules.specs.Tables.{ramp_lines}
use Rattle.line_rules.proofs.Places.{takes-place, takes-nothing}
use Rattle.rules.specs.Reading.{number_said, ramp_in}
use Rattle.records.specs.Flaws.{told_in}
use Rattle.records.proofs.Columns.{told-else}
use Rattle.records.specs.declared.RampTable.{RampTable}
use Rattle.records.specs.declared.RampTriple.{RampTriple}
use Rattle.records.specs.declared.LineFault.{LineFault}
use Rattle.lines_under.proofs.Folds.{Folds}
use Rattle.model_record.specs.Ramps.{ramp_over, bare_ramp, ramp_line, ramp_on}

pub ramp-fold : Folds ramp_on ramp_line
unfolding ramp_on line_says
ramp-fold = record { none = λ r. refl; more = λ r w ws. refl }

pub ramp-is : (ls : List (List ℕ)) → ramp_on bare_ramp ls ≡ ramp_in [] ls
unfolding ramp_on number_said
ramp-is ls = refl

-- what the code answers of a line's slopes says them
pub slopes-said : (w : List ℕ) (before : RampTriple) (r : Result RampTriple LineFault) → r ≡ told_in w (slopes_line w) → or_else before r ≡ or_else before (slopes_line w)
slopes-said w before r e = ap (or_else before) e ∙ told-else w before (slopes_line w)

ramp-nothing : (r : RampTable) (w : List ℕ) → line_at ramp_lines w ≡ None → r ≡ ramp_line r w
unfolding place_from words grown onto_word is_blank eqs
ramp-nothing r w e =
    rw (
      takes-nothing "dV/dt_r" slopes_line r.rise w ramp_lines 0 e refl,
      takes-nothing "dV/dt_f" slopes_line r.fall w ramp_lines 1 e refl,
      takes-nothing "R_load" number_line r.load w ramp_lines 2 e refl,
    )

-- ---- a line at place n changes its own part

module _ (r f : RampTriple) (l : Cell) (w : List ℕ) where
  abbrev held : RampTable
  held = ramp_over r f l

  pub line-nothing : line_at ramp_lines w ≡ None → held ≡ ramp_line held w
  line-nothing e = ramp-nothing held w e

  module _ (n : ℕ) (e : line_at ramp_lines w ≡ Some n) where
    abbrev slopes_at : ℕ → RampTriple → RampTriple
    slopes_at place before = cond (eqb n place) (or_else before (slopes_line w)) before

    abbrev load_at : Cell
    load_at = cond (eqb n 2) (or_else l (number_line w)) l

    by_place : ramp_line held w ≡ ramp_over (slopes_at 0 r) (slopes_at 1 f) load_at
    unfolding place_from words grown onto_word is_blank eqs
    by_place =
        rw (
          takes-place "dV/dt_r" slopes_line r w ramp_lines n 0 e refl,
          takes-place "dV/dt_f" slopes_line f w ramp_lines n 1 e refl,
          takes-place "R_load" number_line l w ramp_lines n 2 e refl,
        )

    slopes-on : (place : ℕ) (before : RampTriple) → n ≡ place → slopes_at place before ≡ or_else before (slopes_line w)
    slopes-on place before h = cond_yes (or_else before (slopes_line w)) before (eq-eqb n place h)

    slopes-off : (place : ℕ) (before : RampTriple) → eqb n place ≡ false → slopes_at place before ≡ before
    slopes-off place before h = cond_no (or_else before (slopes_line w)) before h

    load-off : n < 2 → load_at ≡ l
    load-off h = cond_no (or_else l (number_line w)) l (ne_eqb n 2 (λ i. omega (arith, i, h)))

    pub line-rise : n ≡ 0 → {x : RampTriple} → x ≡ or_else r (slopes_line w) → ramp_over x f l ≡ ramp_line held w
    line-rise h i = sym (by_place ∙ (λ j. ramp_over ((slopes-on 0 r h ∙ sym i) j) (slopes-off 1 f (ne_eqb n 1 (λ k. omega (arith, k, h))) j) (load-off (omega (arith, h)) j)))

    pub line-fall : n ≡ 1 → {x : RampTriple} → x ≡ or_else f (slopes_line w) → ramp_over r x l ≡ ramp_line held w
    line-fall h i = sym (by_place ∙ (λ j. ramp_over (slopes-off 0 r (ne_eqb n 0 (λ k. omega (arith, k, h))) j) ((slopes-on 1 f h ∙ sym i) j) (load-off (omega (arith, h)) j)))

    pub line-load : 2 ≤ n → {x : Cell} → x ≡ load_at → ramp_over r f x ≡ ramp_line held w
    line-load h i = sym (by_place ∙ (λ j. ramp_over (slopes-off 0 r (ne_eqb n 0 (λ k. omega (arith, k, h))) j) (slopes-off 1 f (ne_eqb n 1 (λ k. omega (arith, k, h))) j) (sym i j)))
