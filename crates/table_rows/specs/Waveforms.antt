-- A waveform's record, one line after another.
use Rattle.std.specs.Prelude.{ℕ, ◌+◌, List, cond, length, eqb}
use Rattle.decimal.specs.declared.Cell.{Cell}
use Rattle.decimal.specs.declared.Cell.TheVariants.{Missing}
use Rattle.line_rules.specs.Fields.{row_of, number_line, takes, line_says}
use Rattle.rules.specs.Reading.{rows_in}
use Rattle.records.specs.declared.Edge.{Edge}
use Rattle.records.specs.declared.Waveform.{Waveform}
use Rattle.table_rows.specs.Rows.{counted}

-- before its first line
abbrev pub bare_waveform : Edge → ℕ → Waveform
bare_waveform e n =
    record {
      edge = e;
      rfixture = Missing;
      vfixture = Missing;
      vmin = Missing;
      vmax = Missing;
      cfixture = Missing;
      lfixture = Missing;
      rdut = Missing;
      ldut = Missing;
      cdut = Missing;
      rows = record { start = n; count = 0 };
    }

-- the same with so many rows
abbrev pub with_count : Waveform → ℕ → Waveform
with_count x n =
    record {
      edge = x.edge;
      rfixture = x.rfixture;
      vfixture = x.vfixture;
      vmin = x.vmin;
      vmax = x.vmax;
      cfixture = x.cfixture;
      lfixture = x.lfixture;
      rdut = x.rdut;
      ldut = x.ldut;
      cdut = x.cdut;
      rows = record { start = x.rows.start; count = n };
    }

-- a number at place n of `fixtures`
abbrev pub fixture_at : Waveform → ℕ → Cell → Waveform
fixture_at x n v =
    record {
      edge = x.edge;
      rfixture = cond (eqb n 0) v x.rfixture;
      vfixture = cond (eqb n 1) v x.vfixture;
      vmin = cond (eqb n 2) v x.vmin;
      vmax = cond (eqb n 3) v x.vmax;
      cfixture = cond (eqb n 4) v x.cfixture;
      lfixture = cond (eqb n 5) v x.lfixture;
      rdut = cond (eqb n 6) v x.rdut;
      ldut = cond (eqb n 7) v x.ldut;
      cdut = cond (eqb n 8) v x.cdut;
      rows = x.rows;
    }

-- what a line's number makes of it
abbrev pub fixture_line : Waveform → List ℕ → Waveform
fixture_line x w =
    record {
      edge = x.edge;
      rfixture = takes "R_fixture" number_line x.rfixture w;
      vfixture = takes "V_fixture" number_line x.vfixture w;
      vmin = takes "V_fixture_min" number_line x.vmin w;
      vmax = takes "V_fixture_max" number_line x.vmax w;
      cfixture = takes "C_fixture" number_line x.cfixture w;
      lfixture = takes "L_fixture" number_line x.lfixture w;
      rdut = takes "R_dut" number_line x.rdut w;
      ldut = takes "L_dut" number_line x.ldut w;
      cdut = takes "C_dut" number_line x.cdut w;
      rows = x.rows;
    }

-- what a line makes of it, and what lines do
abbrev pub with_waveform_line : Waveform → List ℕ → Waveform
with_waveform_line x w = with_count (fixture_line x w) (counted x.rows.count (row_of w))

unfoldable pub waveform_on : Waveform → List (List ℕ) → Waveform
waveform_on x ls =
    record {
      edge = x.edge;
      rfixture = line_says "R_fixture" number_line x.rfixture ls;
      vfixture = line_says "V_fixture" number_line x.vfixture ls;
      vmin = line_says "V_fixture_min" number_line x.vmin ls;
      vmax = line_says "V_fixture_max" number_line x.vmax ls;
      cfixture = line_says "C_fixture" number_line x.cfixture ls;
      lfixture = line_says "L_fixture" number_line x.lfixture ls;
      rdut = line_says "R_dut" number_line x.rdut ls;
      ldut = line_says "L_dut" number_line x.ldut ls;
      cdut = line_says "C_dut" number_line x.cdut ls;
      rows = record { start = x.rows.start; count = x.rows.count + length (rows_in ls) };
    }
