-- Every record is fine: table by table and section by section, each behind what was laid before.
use Rattle.std.specs.Prelude.{Ok, Err}
use Prim.Native.Nat.{ℕ, ◌+◌}
use mathlib.Core.List.{List, [], ◌∷◌, flat_map}
use lib.ListN.{length}
use Rattle.laws.specs.Bytes.{bytes}
use Rattle.laws.specs.Lists.{one_of, Every}
use Rattle.laws.proofs.Every.{every_append}
use Rattle.words.specs.Words.{words}
use Rattle.records.specs.Flaws.{Reads}
use Rattle.records.specs.declared.Row.{Row}
use Rattle.line_rules.specs.Fields.{row_of}
use Rattle.line_rules.specs.Tables.{waveform_keywords}
use Rattle.rules.specs.Whole.{texts_of}
use Rattle.rules.specs.Reading.{pins_in, choices_in, TableIs, tables_in, onto_rows, rows_in, edge_of, SectionIs, component, selector, model, file_in}
use Rattle.layout.specs.Laid.{Laid, rows_of, waveforms_laid, with_section, laid_from, laid}
use Rattle.table_records.specs.Fine.{FineComponent, FinePin, FineSelector, FineChoice, FineModel, FineWaveform, FineRow}
use Rattle.handed_out.specs.FineTables.{FineTables, ReadFine}
use Rattle.handed_out.proofs.Parts.{every-if}
use Rattle.handed_out.proofs.Texts.{SectionHas, every-text, every-section}
use Rattle.line_rules.proofs.Says.{Says}
use Rattle.handed_out.proofs.Cells.{row-says}
use Rattle.handed_out.proofs.Records.{IsByte, every_byte, name-fine, component-fine, pins-fine, choices-fine, model-fine, waveform-fine}

-- ---- the tables of a model

waveforms-fine : (ts : List TableIs) (n : ℕ) → Every FineWaveform (waveforms_laid ts n)
unfolding waveforms_laid
waveforms-fine [] n = tt
waveforms-fine (t ∷ ts) n =
    every-if FineWaveform (one_of t.key (words (bytes waveform_keywords))) _ (waveforms_laid ts (n + length (rows_of t)))
    (waveform-fine n (edge_of t.key) t.lines, tt) (waveforms-fine ts (n + length (rows_of t)))

row-onto : (x : Reads Row) (rs : List Row) → Says FineRow x → Every FineRow rs → Every FineRow (onto_rows x rs)
row-onto (Ok r) rs h k = (h, k)
row-onto (Err f) rs h k = k

rows-fine : (ls : List (List ℕ)) → Every FineRow (rows_in ls)
unfolding rows_in
rows-fine [] = tt
rows-fine (w ∷ ws) = row-onto (row_of w) (rows_in ws) (row-says w) (rows-fine ws)

all-rows : (ts : List TableIs) → Every FineRow (flat_map rows_of ts)
unfolding flat_map
all-rows [] = tt
all-rows (t ∷ ts) = every_append FineRow (rows_of t) (flat_map rows_of ts) (rows-fine t.lines) (all-rows ts)

-- ---- section by section

section-fine : (l : Laid) (n : ℕ) (x : SectionIs) → FineTables l → SectionHas IsByte x → FineTables (with_section l n x)
section-fine l n (component w ts) f h =
    record {
      components = every_append FineComponent l.components _ f.components (component-fine ts h.1 n _ w h.0, tt);
      pins = every_append FinePin l.pins (pins_in ts) f.pins (pins-fine ts h.1);
      selectors = f.selectors;
      choices = f.choices;
      models = f.models;
      waveforms = f.waveforms;
      rows = f.rows;
    }
section-fine l n (selector w ts) f h =
    record {
      components = f.components;
      pins = f.pins;
      selectors = every_append FineSelector l.selectors _ f.selectors (name-fine w h.0, tt);
      choices = every_append FineChoice l.choices (choices_in ts) f.choices (choices-fine ts h.1);
      models = f.models;
      waveforms = f.waveforms;
      rows = f.rows;
    }
section-fine l n (model w ts) f h =
    record {
      components = f.components;
      pins = f.pins;
      selectors = f.selectors;
      choices = f.choices;
      models = every_append FineModel l.models _ f.models (model-fine ts h.1 n _ _ w h.0, tt);
      waveforms = every_append FineWaveform l.waveforms _ f.waveforms (waveforms-fine (tables_in ts) (length l.rows));
      rows = every_append FineRow l.rows _ f.rows (all-rows (tables_in ts));
    }

from-fine : (l : Laid) (n : ℕ) (xs : List SectionIs) → FineTables l → Every (SectionHas IsByte) xs → FineTables (laid_from l n xs)
unfolding laid_from
from-fine l n [] f h = f
from-fine l n (x ∷ xs) f h = from-fine (with_section l n x) (n + 1) xs (section-fine l n x f h.0) h.1

pub fine : ReadFine
unfolding laid file_in
fine s h =
    from-fine _ 0 _ (record { components = tt; pins = tt; selectors = tt; choices = tt; models = tt; waveforms = tt; rows = tt })
    (every-section IsByte (texts_of s) (every-text IsByte s (every_byte s h)))
