-- The first lines as a fold over the lines; a line without a place, and one at a place, which changes its own part; and what a line's word says, by what the code answers.
use Rattle.std.specs.Prelude.{Result, Ok, Err, Some, None}
use Prim.Native.Nat.{ℕ, ◌≤◌, ◌<◌}
use mathlib.Core.Path.{◌≡◌, refl, sym, ap, ◌∙◌}
use mathlib.Core.List.{List}
use mathlib.Core.Bool.{true, false}
use lib.Dec.{eqb}
use native.Mathlib.Omega.{arith}
use borrow.Author.Tests.{eq-eqb, ne_eqb}
use Rattle.laws.specs.Bytes.{is_blank}
use Rattle.laws.specs.Lists.{eqs}
use Rattle.laws.proofs.Tests.{cond_yes}
use Rattle.laws.specs.Said.{or_else, read_on}
use Rattle.words.specs.Words.{words, grown, onto_word}
use Rattle.name_table.specs.Names.{place_from}
use Rattle.line_rules.specs.Fields.{line_at, word_line, cells_line, group_line, number_line, line_says}
use Rattle.line_rules.specs.Tables.{model_lines, model_types, polarities, enables}
use Rattle.rules.specs.Reading.{split_says}
use Rattle.line_rules.proofs.Places.{takes-place, takes-nothing}
use Rattle.line_rules.proofs.Says.{Says}
use Rattle.records.specs.Flaws.{Reads, told_in}
use Rattle.records.proofs.Columns.{told-else, told-on}
use Rattle.records.specs.declared.LineFault.{LineFault}
use Rattle.records.specs.declared.Triple.{Triple}
use Rattle.records.specs.declared.Range.{Range}
use Rattle.records.specs.declared.Split.{Split}
use Rattle.lines_under.proofs.Folds.{Folds}
use Rattle.model_record.specs.Firsts.{lines_over, marks_at, comp_at, split_line, split_at, levels_at, first_line, firsts_on}
use Rattle.model_record.specs.declared.Marks.{Marks}
use Rattle.model_record.specs.declared.Levels.{Levels}
use Rattle.model_record.specs.declared.FirstLines.{FirstLines}

pub first-fold : Folds firsts_on first_line
unfolding firsts_on split_says line_says
first-fold = record { none = λ f. refl; more = λ f w ws. refl }

-- ---- the capacitance by structure

abbrev pub present : {F : Type 0} → Triple → Result Range F
present c = Ok (record { given = true; cells = c })

-- what the code answers of a line's cells says them
pub cells-said : (w : List ℕ) (before : Triple) (r : Result Triple LineFault) → r ≡ told_in w (cells_line w) → or_else before r ≡ or_else before (cells_line w)
cells-said w before r e = ap (or_else before) e ∙ told-else w before (cells_line w)

pub group-said : (w : List ℕ) (before : Range) (r : Result Triple LineFault) → r ≡ told_in w (cells_line w) → or_else before (read_on r present) ≡ or_else before (group_line w)
unfolding group_line
group-said w before r e =
    ap (λ (x : Result Triple LineFault). or_else before (read_on x present)) e
    ∙ ap (or_else before) (sym (told-on w (cells_line w) present))
    ∙ told-else w before (group_line w)

split-place : (s : Split) (w : List ℕ) (n : ℕ) → line_at model_lines w ≡ Some n → split_line s w ≡ split_at n s w
unfolding place_from words grown onto_word is_blank eqs
split-place s w n e =
    rw (
      takes-place "C_comp_pullup" group_line s.pullup w model_lines n 4 e refl,
      takes-place "C_comp_pulldown" group_line s.pulldown w model_lines n 5 e refl,
      takes-place "C_comp_power_clamp" group_line s.power w model_lines n 6 e refl,
      takes-place "C_comp_gnd_clamp" group_line s.ground w model_lines n 7 e refl,
    )

split-nothing : (s : Split) (w : List ℕ) → line_at model_lines w ≡ None → split_line s w ≡ s
unfolding place_from words grown onto_word is_blank eqs
split-nothing s w e =
    rw (
      takes-nothing "C_comp_pullup" group_line s.pullup w model_lines 4 e refl,
      takes-nothing "C_comp_pulldown" group_line s.pulldown w model_lines 5 e refl,
      takes-nothing "C_comp_power_clamp" group_line s.power w model_lines 6 e refl,
      takes-nothing "C_comp_gnd_clamp" group_line s.ground w model_lines 7 e refl,
    )

-- ---- a line without a place

first-nothing : (f : FirstLines) (w : List ℕ) → line_at model_lines w ≡ None → f ≡ first_line f w
unfolding place_from words grown onto_word is_blank eqs
first-nothing f w e =
    rw (
      takes-nothing "Model_type" (word_line model_types) f.marks.kind w model_lines 0 e refl,
      takes-nothing "Polarity" (word_line polarities) f.marks.polarity w model_lines 1 e refl,
      takes-nothing "Enable" (word_line enables) f.marks.enable w model_lines 2 e refl,
      takes-nothing "C_comp" cells_line f.comp w model_lines 3 e refl,
      split-nothing f.split w e,
      takes-nothing "Vinl" number_line f.levels.vinl w model_lines 8 e refl,
      takes-nothing "Vinh" number_line f.levels.vinh w model_lines 9 e refl,
      takes-nothing "Vmeas" number_line f.levels.vmeas w model_lines 10 e refl,
      takes-nothing "Cref" number_line f.levels.cref w model_lines 11 e refl,
      takes-nothing "Rref" number_line f.levels.rref w model_lines 12 e refl,
      takes-nothing "Vref" number_line f.levels.vref w model_lines 13 e refl,
    )

-- ---- a line at place n changes its own part

module _ (m : Marks) (t : Triple) (s : Split) (l : Levels) (w : List ℕ) where
  abbrev held : FirstLines
  held = lines_over m t s l

  pub line-nothing : line_at model_lines w ≡ None → held ≡ first_line held w
  line-nothing e = first-nothing held w e

  module _ (n : ℕ) (e : line_at model_lines w ≡ Some n) where
    by_place : first_line held w ≡ lines_over (marks_at n m w) (comp_at n t w) (split_at n s w) (levels_at n l w)
    unfolding place_from words grown onto_word is_blank eqs
    by_place =
        rw (
          takes-place "Model_type" (word_line model_types) m.kind w model_lines n 0 e refl,
          takes-place "Polarity" (word_line polarities) m.polarity w model_lines n 1 e refl,
          takes-place "Enable" (word_line enables) m.enable w model_lines n 2 e refl,
          takes-place "C_comp" cells_line t w model_lines n 3 e refl,
          split-place s w n e,
          takes-place "Vinl" number_line l.vinl w model_lines n 8 e refl,
          takes-place "Vinh" number_line l.vinh w model_lines n 9 e refl,
          takes-place "Vmeas" number_line l.vmeas w model_lines n 10 e refl,
          takes-place "Cref" number_line l.cref w model_lines n 11 e refl,
          takes-place "Rref" number_line l.rref w model_lines n 12 e refl,
          takes-place "Vref" number_line l.vref w model_lines n 13 e refl,
        )

    -- none of the places from a up to b
    abbrev Off : ℕ → ℕ → Type 0
    Off a b = (k : ℕ) → a ≤ k → k < b → eqb n k ≡ false

    below : (a b : ℕ) → n < a → Off a b
    below a b h k p q = ne_eqb n k (λ i. omega (arith, i, p, h))

    above : (a b : ℕ) → b ≤ n → Off a b
    above a b h k p q = ne_eqb n k (λ i. omega (arith, i, q, h))

    marks-off : Off 0 3 → marks_at n m w ≡ m
    marks-off h = rw (h 0 (omega arith) (omega arith), h 1 (omega arith) (omega arith), h 2 (omega arith) (omega arith))

    comp-off : Off 3 4 → comp_at n t w ≡ t
    comp-off h = rw (h 3 (omega arith) (omega arith))

    comp-on : n ≡ 3 → comp_at n t w ≡ or_else t (cells_line w)
    comp-on h = cond_yes (or_else t (cells_line w)) t (eq-eqb n 3 h)

    split_off : Off 4 8 → split_at n s w ≡ s
    split_off h = rw (h 4 (omega arith) (omega arith), h 5 (omega arith) (omega arith), h 6 (omega arith) (omega arith), h 7 (omega arith) (omega arith))

    levels-off : Off 8 14 → levels_at n l w ≡ l
    levels-off h =
        rw (
          h 8 (omega arith) (omega arith),
          h 9 (omega arith) (omega arith),
          h 10 (omega arith) (omega arith),
          h 11 (omega arith) (omega arith),
          h 12 (omega arith) (omega arith),
          h 13 (omega arith) (omega arith),
        )

    pub line-marks : n < 3 → {x : Marks} → x ≡ marks_at n m w → lines_over x t s l ≡ first_line held w
    line-marks h i =
        sym (by_place ∙ (λ j. lines_over (sym i j) (comp-off (below 3 4 h) j) (split_off (below 4 8 (omega (arith, h))) j) (levels-off (below 8 14 (omega (arith, h))) j)))

    pub line-comp : n ≡ 3 → {x : Triple} → x ≡ or_else t (cells_line w) → lines_over m x s l ≡ first_line held w
    line-comp h i =
        sym (by_place ∙ (λ j. lines_over (marks-off (above 0 3 (omega (arith, h))) j) ((comp-on h ∙ sym i) j) (split_off (below 4 8 (omega (arith, h))) j) (levels-off (below 8 14 (omega (arith, h))) j)))

    pub line-split : 4 ≤ n → n < 8 → {x : Split} → x ≡ split_at n s w → lines_over m t x l ≡ first_line held w
    line-split h g i =
        sym (by_place ∙ (λ j. lines_over (marks-off (above 0 3 (omega (arith, h))) j) (comp-off (above 3 4 h) j) (sym i j) (levels-off (below 8 14 g) j)))

    pub line-levels : 8 ≤ n → {x : Levels} → x ≡ levels_at n l w → lines_over m t s x ≡ first_line held w
    line-levels h i =
        sym (by_place ∙ (λ j. lines_over (marks-off (above 0 3 (omega (arith, h))) j) (comp-off (above 3 4 (omega (arith, h))) j) (split_off (above 4 8 h) j) (sym i j)))

-- ---- of a word whose absence is a value of its own, which no word says

module _ {A : Type 0} (absent before : A) (x : Reads A) (given : Says (λ (a : A). a ≡ absent → ⊥) x) {read : A} (e : read ≡ or_else absent x) where
  word-given : (v : A) (y : Reads A) → v ≡ or_else absent y → (v ≡ absent → ⊥) → v ≡ or_else before y
  word-given v (Ok a) q there = q
  word-given v (Err f) q there = absurd (there q)

  word-missed : (y : Reads A) → Says (λ (a : A). a ≡ absent → ⊥) y → absent ≡ or_else absent y → before ≡ or_else before y
  word-missed (Ok a) there q = absurd (there (sym q))
  word-missed (Err f) there q = refl

  pub word_some : {v : A} → read ≡ v → (v ≡ absent → ⊥) → v ≡ or_else before x
  word_some {v} q there = word-given v x (sym q ∙ e) there

  pub word_none : read ≡ absent → before ≡ or_else before x
  word_none q = word-missed x given (sym q ∙ e)
