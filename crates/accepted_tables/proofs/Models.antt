-- The record of a model whose section passes: what its first lines and its parts say, and where its tables lie.
use Prim.Native.Nat.{ℕ}
use mathlib.Core.Path.{◌≡◌, refl, sym, subst}
use mathlib.Core.List.{List, ◌++◌, flat_map}
use mathlib.Core.Bool.{true, false}
use native.Mathlib.Omega.{arith}
use lib.ListN.{length, length-append}
use Rattle.laws.specs.Bytes.{bytes, is_blank}
use Rattle.laws.specs.Lists.{eqs, one_of, Every}
use Rattle.laws.proofs.Tests.{impossible, never}
use Rattle.decimal.specs.declared.Cell.TheVariants.{Missing}
use Rattle.words.specs.Words.{words, grown, onto_word}
use Rattle.cut_lines.specs.Texts.{Text}
use Rattle.records.specs.Stored.{no_cells}
use Rattle.records.specs.declared.Lengths.{Lengths}
use Rattle.records.specs.declared.Row.{Row}
use Rattle.records.specs.declared.Waveform as laid_waveform
use Rattle.records.specs.declared.ModelType.TheVariants.{Terminator}
use Rattle.line_rules.specs.Tables.{waveform_keywords}
use Rattle.given.specs.Given.{none_given, has}
use Rattle.given.proofs.Laws.{has-none}
use Rattle.rules.specs.Model.{new_model}
use Rattle.rules.specs.Reading.{under, number_said, no_range, no_ramp, split_says, model_in, tables_in, model}
use Rattle.rules.specs.declared.Stage.TheVariants.{InModel}
use Rattle.layout.specs.Laid.{behind, rows_of, table_at, waveforms_laid}
use Rattle.accepted_tables.specs.Facts.{ModelFacts, WaveformFacts}
use Rattle.accepted_tables.proofs.Checks.{Passes, runs-pass}
use Rattle.accepted_tables.proofs.Faults.{group-facts}
use Rattle.accepted_tables.proofs.First.{FirstRead, first_read}
use Rattle.accepted_tables.proofs.Parts.{Parts, parts-read}
use Rattle.accepted_tables.proofs.Sections.{SectionPasses}
use Rattle.accepted_tables.proofs.Spans.{table-facts, waves-facts, waves-length}

pub not-given : {X : Type 0} (k : ℕ) → has none_given k ≡ true → X
not-given k h = absurd (never (has none_given k) h (has-none k))

no-waveform : (one_of (bytes "pulldown") (words (bytes waveform_keywords)) ≡ false)
    × (one_of (bytes "pullup") (words (bytes waveform_keywords)) ≡ false)
    × (one_of (bytes "gnd_clamp") (words (bytes waveform_keywords)) ≡ false)
    × (one_of (bytes "power_clamp") (words (bytes waveform_keywords)) ≡ false)
unfolding one_of eqs words grown onto_word is_blank
no-waveform = (refl, refl, refl, refl)

module _ (l : Lengths) (w : List ℕ) (ts : List Text) (p : SectionPasses l (model w ts)) where
  passing : Passes (InModel (new_model p.0)) p.1.more
  passing = runs-pass l p.1.more p.1.held (InModel (new_model p.0)) p.1.runs

  first : FirstRead Terminator Missing Missing no_cells (under ts)
  first = subst (λ (us : List Text). FirstRead Terminator Missing Missing no_cells (under us)) (sym p.1.own) (first_read p.0 p.1.more passing)

  parts : Parts (new_model p.0) ts
  parts = subst (Parts (new_model p.0)) (sym p.1.own) (parts-read p.1.more (new_model p.0) passing)

  -- before are the rows of the store before the model's
  pub model-facts : (before : List Row) (n : ℕ) (waveforms : List laid_waveform.Waveform)
      → ModelFacts (before ++ flat_map rows_of (tables_in ts)) (waveforms ++ waveforms_laid (tables_in ts) (length before))
      (model_in n (table_at (tables_in ts) (length before)) (behind waveforms (waveforms_laid (tables_in ts) (length before))) w ts)
  unfolding split_says model_in number_said
  model-facts before n waveforms =
      record {
        comp = first.comp;
        split =
            record {
              pullup = group-facts "C_comp_pullup" (under ts);
              pulldown = group-facts "C_comp_pulldown" (under ts);
              power = group-facts "C_comp_power_clamp" (under ts);
              ground = group-facts "C_comp_gnd_clamp" (under ts);
            };
        voltage = parts.voltage no_range (not-given 0);
        temperature = parts.temperature no_range (λ g. cc);
        thresholds = first.below;
        ramp = parts.needed no_ramp (not-given 6);
        rise = λ g. (parts.slopes no_ramp (λ z. impossible (cc)) g).0;
        fall = λ g. (parts.slopes no_ramp (λ z. impossible (cc)) g).1;
        pulldown = table-facts before (tables_in ts) "pulldown" no-waveform.0 parts.tables;
        pullup = table-facts before (tables_in ts) "pullup" no-waveform.1 parts.tables;
        ground = table-facts before (tables_in ts) "gnd_clamp" no-waveform.2 parts.tables;
        power = table-facts before (tables_in ts) "power_clamp" no-waveform.3 parts.tables;
        at_most = omega (arith, parts.at_most (omega arith), waves-length (tables_in ts) (length before));
        within = omega (arith, length-append waveforms (waveforms_laid (tables_in ts) (length before)));
      }

  pub model-waves : (before : List Row) → Every (WaveformFacts (before ++ flat_map rows_of (tables_in ts))) (waveforms_laid (tables_in ts) (length before))
  model-waves before = waves-facts before (tables_in ts) parts.tables
