-- Every record is fine: its texts are parts of the file's, so they are bytes, padded to their length; its cells are said by lines, or missing.
use Rattle.std.specs.Prelude.{Ok}
use Prim.Native.Nat.{ℕ, ◌-◌, ◌≤◌, ◌<◌}
use Prim.Native.String.{String}
use mathlib.Core.Path.{◌≡◌}
use mathlib.Core.List.{List, [], ◌∷◌, ◌++◌}
use native.Mathlib.Omega.{arith}
use lib.ListN.{length, take, drop, replicate, length-append, length-take, length-replicate}
use lib.Dec.{eqb}
use Rattle.laws.specs.Bytes.{is_blank, is_small, capital}
use Rattle.laws.specs.Lists.{after, Every}
use Rattle.laws.proofs.Tests.{cond-all}
use Rattle.laws.proofs.Every.{every_append}
use Rattle.decimal.specs.Fine.{FineCell}
use Rattle.decimal.specs.declared.Cell.{Cell}
use Rattle.decimal.specs.declared.Cell.TheVariants.{Number, Missing}
use Rattle.words.specs.Words.{word, words, rest_from}
use Rattle.cut_lines.specs.Texts.{Text}
use Rattle.records.specs.Stored.{padded, name_laid, words_laid, no_cells, no_slopes}
use Rattle.records.specs.declared.Span.{Span}
use Rattle.records.specs.declared.Table.{Table}
use Rattle.records.specs.declared.RampTable.{RampTable}
use Rattle.records.specs.declared.Edge.{Edge}
use Rattle.records.specs.declared.ModelType.{ModelType}
use Rattle.line_rules.specs.Fields.{needs_no_model, three_cells, cells_line, group_line, slopes_line, number_line, line_says}
use Rattle.rules.specs.Component.{kept_model, pin_cells, pin_in}
use Rattle.rules.specs.Types.{is_input, is_ecl, ecl_thresholds, input_thresholds, no_thresholds, defaults, filled}
use Rattle.rules.specs.declared.Thresholds.{Thresholds}
use Rattle.line_rules.proofs.Says.{Says, or-says, line-says}
use Rattle.rules.specs.Reading.{under, lines_under, key_says, pins_in, component_in, choice_in, choices_in, number_said, range_in, no_range, ramp_in, no_ramp, split_says, model_in, waveform_in}
use Rattle.table_records.specs.Fine.{AreBytes, FineName, FineWords, FineTriple, FineSlopes, FineComponent, FinePin, FineChoice, FineModel, FineWaveform}
use Rattle.handed_out.proofs.Parts.{every_take, every_drop, every-after, every-same, every-mapped}
use Rattle.handed_out.proofs.Texts.{TextHas, every-word, every-under, every-lines-under, key-says}
use Rattle.handed_out.proofs.Cells.{FineRange, cells_say, three-cells-say, cells-line, group-line, slopes-line, number-line}

-- ---- texts

abbrev pub IsByte : ℕ → Type 0
IsByte b = b < 256

pub every_byte : (l : List ℕ) → AreBytes l → Every IsByte l
every_byte [] h = tt
every_byte (b ∷ l) h = (h.0, every_byte l h.1)

are-bytes : (l : List ℕ) → Every IsByte l → AreBytes l
are-bytes [] h = tt
are-bytes (b ∷ l) h = (h.0, are-bytes l h.1)

module _ (n : ℕ) (w : List ℕ) where
  padded-length : length (padded n (take n w)) ≡ n
  unfolding padded
  padded-length =
      omega (arith, length-append (take n w) (replicate (n - length (take n w)) 0), length-take n w, length-replicate {A = ℕ} (n - length (take n w)) 0)

  padded-bytes : Every IsByte w → AreBytes (padded n (take n w))
  unfolding padded
  padded-bytes h =
      are-bytes (take n w ++ replicate (n - length (take n w)) 0)
      (every_append IsByte (take n w) _ (every_take IsByte n w h) (every-same IsByte (n - length (take n w)) 0 (omega arith)))

  taken-length : length (take n w) ≤ n
  taken-length = omega (arith, length-take n w)

pub name-fine : (w : List ℕ) → Every IsByte w → FineName (name_laid w)
name-fine w h = record { size = padded-length 40 w; bytes = padded-bytes 40 w h; len = taken-length 40 w }

words-fine : (w : List ℕ) → Every IsByte w → FineWords (words_laid w)
words-fine w h = record { size = padded-length 120 w; bytes = padded-bytes 120 w h; len = taken-length 120 w }

-- ---- cells

no_cells_lem : FineTriple no_cells
no_cells_lem = record { typ = tt; min = tt; max = tt }

no-slopes : FineSlopes no_slopes
no-slopes = record { typ = tt; min = tt; max = tt }

cells-said : (name : String) (ls : List (List ℕ)) → FineTriple (line_says name cells_line no_cells ls)
cells-said name ls = line-says FineTriple name cells_line cells-line no_cells no_cells_lem ls

-- of one that is absent, all cells are missing
group-said : (name : String) (ls : List (List ℕ)) → FineTriple (line_says name group_line no_range ls).cells
group-said name ls = line-says FineRange name group_line group-line no_range no_cells_lem ls

slopes-said : (name : String) (ls : List (List ℕ)) → FineSlopes (line_says name slopes_line no_slopes ls)
slopes-said name ls = line-says FineSlopes name slopes_line slopes-line no_slopes no-slopes ls

number-said : (name : String) (ls : List (List ℕ)) → FineCell (number_said name ls)
unfolding number_said
number-said name ls = line-says FineCell name number_line number-line Missing tt ls

-- ---- [Component]

capital-byte : (b : ℕ) → IsByte b → IsByte (capital b)
unfolding capital
capital-byte b h = cond-all IsByte (is_small b) (b - 32) b (λ e. omega arith) (λ e. h)

kept-bytes : (w : List ℕ) → Every IsByte w → Every IsByte (kept_model w)
unfolding kept_model
kept-bytes w h = cond-all (Every IsByte) (needs_no_model w) _ _ (λ e. every-mapped IsByte IsByte capital capital-byte w h) (λ e. h)

pin-cells : (v : List ℕ) → Says FineTriple (pin_cells v)
unfolding pin_cells
pin-cells v = cond-all (Says FineTriple) (eqb (length (words v)) 0) (Ok no_cells) _ (λ e. no_cells_lem) (λ e. cells_say v)

pin-fine : (w : List ℕ) → Every IsByte w → FinePin (pin_in w)
unfolding pin_in
pin-fine w h =
    let cells = or-says FineTriple no_cells (pin_cells (rest_from 3 w)) no_cells_lem (pin-cells (rest_from 3 w)) in
    record {
      name = name-fine (word 0 (words w)) (every-word IsByte 0 w h);
      signal = name-fine (word 1 (words w)) (every-word IsByte 1 w h);
      model = name-fine (kept_model (word 2 (words w))) (kept-bytes (word 2 (words w)) (every-word IsByte 2 w h));
      resistance = cells.typ;
      inductance = cells.min;
      capacitance = cells.max;
    }

module _ (ts : List Text) (h : Every (TextHas IsByte) ts) where
  pub pins-fine : Every FinePin (pins_in ts)
  unfolding pins_in
  pins-fine = every-mapped FinePin (Every IsByte) pin_in pin-fine (lines_under "pin" ts) (every-lines-under IsByte "pin" ts h)

  pub component-fine : (n : ℕ) (pins : Span) (name : List ℕ) → Every IsByte name → FineComponent (component_in n pins name ts)
  unfolding component_in
  component-fine n pins name k =
      record {
        name = name-fine name k;
        manufacturer = key-says IsByte FineName "manufacturer" (λ w ls. name_laid w) (name_laid []) ts (λ w ls. name-fine w) (name-fine [] tt) h;
        resistance = cells-said "R_pkg" _;
        inductance = cells-said "L_pkg" _;
        capacitance = cells-said "C_pkg" _;
      }

-- ---- [Model Selector]

choice-fine : (w : List ℕ) → Every IsByte w → FineChoice (choice_in w)
unfolding choice_in
choice-fine w h =
    let size = length (word 0 (words w)) in
    record {
      model = name-fine (word 0 (words w)) (every-word IsByte 0 w h);
      description = words-fine (after is_blank (drop size (after is_blank w)))
          (every-after IsByte is_blank (drop size (after is_blank w)) (every_drop IsByte size (after is_blank w) (every-after IsByte is_blank w h)));
    }

pub choices-fine : (ts : List Text) → Every (TextHas IsByte) ts → Every FineChoice (choices_in ts)
unfolding choices_in
choices-fine ts h = every-mapped FineChoice (Every IsByte) choice_in choice-fine (under ts) (every-under IsByte ts h)

-- ---- [Model]

abbrev FineThresholds : Thresholds → Type 0
FineThresholds t = FineCell t.vinl × FineCell t.vinh

filled-fine : (d c : Cell) → FineCell d → FineCell c → FineCell (filled d c)
filled-fine d (Number e) h k = k
filled-fine d Missing h k = h

-- the numbers of either kind of thresholds, or none
defaults-fine : (t : ModelType) → FineThresholds (defaults t)
unfolding defaults
defaults-fine t =
    cond-all FineThresholds (is_ecl t) ecl_thresholds _ (λ e. (record { digits = omega arith; power = omega arith }, record { digits = omega arith; power = omega arith }))
    (λ e. cond-all FineThresholds (is_input t) input_thresholds no_thresholds (λ e. (record { digits = omega arith; power = omega arith }, record { digits = omega arith; power = omega arith })) (λ e. (tt, tt)))

abbrev FineRamp : RampTable → Type 0
FineRamp r = FineSlopes r.rise × FineSlopes r.fall × FineCell r.load

module _ (ts : List Text) (h : Every (TextHas IsByte) ts) where
  range-fine : (name : String) → FineTriple (key_says name range_in no_range ts).cells
  range-fine name =
      key-says IsByte FineRange name range_in no_range ts
      (λ w ls k. or-says FineTriple no_cells (three_cells w) no_cells_lem (three-cells-say w)) no_cells_lem h

  ramp-fine : FineRamp (key_says "ramp" ramp_in no_ramp ts)
  ramp-fine =
      key-says IsByte FineRamp "ramp" ramp_in no_ramp ts (λ w ls k. (slopes-said "dV/dt_r" ls, slopes-said "dV/dt_f" ls, number-said "R_load" ls)) (no-slopes, no-slopes, tt) h

  pub model-fine : (n : ℕ) (table : String → Table) (waveforms : Span) (name : List ℕ) → Every IsByte name → FineModel (model_in n table waveforms name ts)
  unfolding split_says model_in
  model-fine n table waveforms name k =
      record {
        name = name-fine name k;
        comp = cells-said "C_comp" _;
        split = record { pullup = group-said "C_comp_pullup" _; pulldown = group-said "C_comp_pulldown" _; power = group-said "C_comp_power_clamp" _; ground = group-said "C_comp_gnd_clamp" _ };
        vinl = filled-fine _ (number_said "Vinl" (under ts)) (defaults-fine _).0 (number-said "Vinl" _);
        vinh = filled-fine _ (number_said "Vinh" (under ts)) (defaults-fine _).1 (number-said "Vinh" _);
        vmeas = number-said "Vmeas" _;
        cref = number-said "Cref" _;
        rref = number-said "Rref" _;
        vref = number-said "Vref" _;
        voltage = range-fine "voltage_range";
        temperature = range-fine "temperature_range";
        rise = ramp-fine.0;
        fall = ramp-fine.1;
        load = ramp-fine.2;
      }

pub waveform-fine : (row : ℕ) (edge : Edge) (ls : List (List ℕ)) → FineWaveform (waveform_in row edge ls)
unfolding waveform_in
waveform-fine row edge ls =
    record {
      rfixture = number-said "R_fixture" ls;
      vfixture = number-said "V_fixture" ls;
      vmin = number-said "V_fixture_min" ls;
      vmax = number-said "V_fixture_max" ls;
      cfixture = number-said "C_fixture" ls;
      lfixture = number-said "L_fixture" ls;
      rdut = number-said "R_dut" ls;
      ldut = number-said "L_dut" ls;
      cdut = number-said "C_dut" ls;
    }
