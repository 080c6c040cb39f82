-- A model's first lines, one after another.
use Rattle.std.specs.Prelude.{ℕ, ◌≡◌, List, cond, eqb, None}
use Rattle.laws.specs.Said.{or_else}
use Rattle.decimal.specs.declared.Cell.{Cell}
use Rattle.decimal.specs.declared.Cell.TheVariants.{Missing}
use Rattle.cut_lines.specs.Cursors.{rest}
use Rattle.cut_lines.specs.declared.Cursor.{Cursor}
use Rattle.line_rules.specs.Fields.{word_line, cells_line, group_line, number_line, takes, line_says}
use Rattle.line_rules.specs.Tables.{model_types, polarities, enables}
use Rattle.rules.specs.Types.{thresholds}
use Rattle.rules.specs.Reading.{no_split, split_says, under}
use Rattle.records.specs.Stored.{no_cells}
use Rattle.records.specs.declared.ModelType.{ModelType}
use Rattle.records.specs.declared.ModelType.TheVariants.{Terminator}
use Rattle.records.specs.declared.Range.{Range}
use Rattle.records.specs.declared.Split.{Split}
use Rattle.records.specs.declared.Triple.{Triple}
use Rattle.records.specs.declared.Model.Model.{ground}
use Rattle.lines_under.specs.Under.{StopsAt}
use Rattle.model_record.specs.declared.Marks.{Marks}
use Rattle.model_record.specs.declared.Levels.{Levels}
use Rattle.model_record.specs.declared.FirstLines.{FirstLines}
use Rattle.model_record.specs.declared.FirstRead.{FirstRead}

-- ---- in four parts

abbrev pub lines_over : Marks → Triple → Split → Levels → FirstLines
lines_over m comp split l = record { marks = m; comp = comp; split = split; levels = l }

-- before the first line
abbrev pub bare_marks : Marks
bare_marks = record { kind = Terminator; polarity = None; enable = None }

abbrev pub bare_levels : Levels
bare_levels = record { vinl = Missing; vinh = Missing; vmeas = Missing; cref = Missing; rref = Missing; vref = Missing }

abbrev pub bare_lines : FirstLines
bare_lines = lines_over bare_marks no_cells no_split bare_levels

-- what a line makes of the capacitance by structure
abbrev pub split_line : Split → List ℕ → Split
split_line s w =
    record {
      pullup = takes "C_comp_pullup" group_line s.pullup w;
      pulldown = takes "C_comp_pulldown" group_line s.pulldown w;
      power = takes "C_comp_power_clamp" group_line s.power w;
      ground = takes "C_comp_gnd_clamp" group_line s.ground w;
    }

-- the same by the line's place
abbrev pub group_at : ℕ → ℕ → Range → List ℕ → Range
group_at place n before w = cond (eqb n place) (or_else before (group_line w)) before

abbrev pub split_at : ℕ → Split → List ℕ → Split
split_at n s w = record { pullup = group_at 4 n s.pullup w; pulldown = group_at 5 n s.pulldown w; power = group_at 6 n s.power w; ground = group_at 7 n s.ground w }

abbrev pub marks_at : ℕ → Marks → List ℕ → Marks
marks_at n m w =
    record {
      kind = cond (eqb n 0) (or_else m.kind (word_line model_types w)) m.kind;
      polarity = cond (eqb n 1) (or_else m.polarity (word_line polarities w)) m.polarity;
      enable = cond (eqb n 2) (or_else m.enable (word_line enables w)) m.enable;
    }

abbrev pub comp_at : ℕ → Triple → List ℕ → Triple
comp_at n before w = cond (eqb n 3) (or_else before (cells_line w)) before

abbrev pub level_at : ℕ → ℕ → Cell → List ℕ → Cell
level_at place n before w = cond (eqb n place) (or_else before (number_line w)) before

abbrev pub levels_at : ℕ → Levels → List ℕ → Levels
levels_at n l w =
    record {
      vinl = level_at 8 n l.vinl w;
      vinh = level_at 9 n l.vinh w;
      vmeas = level_at 10 n l.vmeas w;
      cref = level_at 11 n l.cref w;
      rref = level_at 12 n l.rref w;
      vref = level_at 13 n l.vref w;
    }

-- what a line makes of them all, and what lines do
abbrev pub first_line : FirstLines → List ℕ → FirstLines
first_line f w =
    record {
      marks =
          record {
            kind = takes "Model_type" (word_line model_types) f.marks.kind w;
            polarity = takes "Polarity" (word_line polarities) f.marks.polarity w;
            enable = takes "Enable" (word_line enables) f.marks.enable w;
          };
      comp = takes "C_comp" cells_line f.comp w;
      split = split_line f.split w;
      levels =
          record {
            vinl = takes "Vinl" number_line f.levels.vinl w;
            vinh = takes "Vinh" number_line f.levels.vinh w;
            vmeas = takes "Vmeas" number_line f.levels.vmeas w;
            cref = takes "Cref" number_line f.levels.cref w;
            rref = takes "Rref" number_line f.levels.rref w;
            vref = takes "Vref" number_line f.levels.vref w;
          };
    }

unfoldable pub firsts_on : FirstLines → List (List ℕ) → FirstLines
firsts_on f ls =
    record {
      marks =
          record {
            kind = line_says "Model_type" (word_line model_types) f.marks.kind ls;
            polarity = line_says "Polarity" (word_line polarities) f.marks.polarity ls;
            enable = line_says "Enable" (word_line enables) f.marks.enable ls;
          };
      comp = line_says "C_comp" cells_line f.comp ls;
      split = split_says f.split ls;
      levels =
          record {
            vinl = line_says "Vinl" number_line f.levels.vinl ls;
            vinh = line_says "Vinh" number_line f.levels.vinh ls;
            vmeas = line_says "Vmeas" number_line f.levels.vmeas ls;
            cref = line_says "Cref" number_line f.levels.cref ls;
            rref = line_says "Rref" number_line f.levels.rref ls;
            vref = line_says "Vref" number_line f.levels.vref ls;
          };
    }

-- with the thresholds that the type takes where they are absent
abbrev pub levels_of : ModelType → Levels → Levels
levels_of kind l =
    let t = thresholds kind l.vinl l.vinh in
    record { vinl = t.vinl; vinh = t.vinh; vmeas = l.vmeas; cref = l.cref; rref = l.rref; vref = l.vref }

abbrev pub defaulted : FirstLines → FirstLines
defaulted f = lines_over f.marks f.comp f.split (levels_of f.marks.kind f.levels)

pub record FirstReadIs (s : List ℕ) (c : Cursor) (r : FirstRead) : Type 0 where
  pub lines : r.lines ≡ firsts_on bare_lines (under (rest s c))
  pub stops : StopsAt s c r.next
