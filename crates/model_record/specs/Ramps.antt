-- A ramp's lines, one after another.
use Rattle.std.specs.Prelude.{ℕ, ◌≡◌, List, [], true}
use Rattle.decimal.specs.declared.Cell.{Cell}
use Rattle.decimal.specs.declared.Cell.TheVariants.{Missing}
use Rattle.cut_lines.specs.Cursors.{rest}
use Rattle.cut_lines.specs.declared.Cursor.{Cursor}
use Rattle.line_rules.specs.Fields.{slopes_line, number_line, takes, line_says}
use Rattle.rules.specs.Reading.{under, ramp_in}
use Rattle.records.specs.Stored.{no_slopes}
use Rattle.records.specs.declared.RampTable.{RampTable}
use Rattle.records.specs.declared.RampTriple.{RampTriple}
use Rattle.lines_under.specs.Under.{StopsAt}
use Rattle.model_record.specs.declared.RampLinesRead.{RampLinesRead}

-- a ramp in its three parts; and before the first line under its keyword
abbrev pub ramp_over : RampTriple → RampTriple → Cell → RampTable
ramp_over rise fall load = record { given = true; rise = rise; fall = fall; load = load }

abbrev pub bare_ramp : RampTable
bare_ramp = ramp_over no_slopes no_slopes Missing

-- what a line makes of it, and what lines do
abbrev pub ramp_line : RampTable → List ℕ → RampTable
ramp_line r w =
    record {
      given = r.given;
      rise = takes "dV/dt_r" slopes_line r.rise w;
      fall = takes "dV/dt_f" slopes_line r.fall w;
      load = takes "R_load" number_line r.load w;
    }

unfoldable pub ramp_on : RampTable → List (List ℕ) → RampTable
ramp_on r ls =
    record {
      given = r.given;
      rise = line_says "dV/dt_r" slopes_line r.rise ls;
      fall = line_says "dV/dt_f" slopes_line r.fall ls;
      load = line_says "R_load" number_line r.load ls;
    }

-- the keyword's argument says nothing
pub record RampReadIs (s : List ℕ) (c : Cursor) (r : RampLinesRead) : Type 0 where
  pub ramp : r.ramp ≡ ramp_in [] (under (rest s c))
  pub stops : StopsAt s c r.next
