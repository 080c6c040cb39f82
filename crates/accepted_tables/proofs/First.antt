-- A model's first lines: what they say when the model closes. What was given of them has been read, line by line.
use Rattle.std.specs.Prelude.{Some}
use Prim.Native.Nat.{ℕ}
use mathlib.Core.Path.{◌≡◌, refl, sym, ap, subst, ◌∙◌}
use mathlib.Core.List.{List, [], ◌∷◌}
use mathlib.Core.Bool.{Bool, true, false, cond, not, ◌&&◌, ◌||◌}
use native.Mathlib.Omega.{arith}
use borrow.Author.Tests.{not-false}
use Rattle.laws.specs.Bytes.{bytes, is_blank}
use Rattle.laws.specs.Lists.{eqs, front, one_of}
use Rattle.records.specs.Flaws.{flaw_in}
use Rattle.laws.proofs.Tests.{by-test, cond_yes, cond_no, cond_same, and_first, and_second}
use Rattle.laws.proofs.Same.{eqs-eq}
use Rattle.decimal.specs.declared.Cell.{Cell}
use Rattle.decimal.specs.declared.Cell.TheVariants.{Missing}
use Rattle.words.specs.Words.{words, grown, onto_word}
use Rattle.name_table.specs.Names.{place_from}
use Rattle.keywords.specs.declared.ModelPart.{ModelPart}
use Rattle.keywords.specs.declared.ModelPart.TheVariants.{VoltageRange, TemperatureRange, Current, Ramp, Waveform}
use Rattle.cut_lines.specs.Texts.{Text, plain}
use Rattle.records.specs.Stored.{no_cells}
use Rattle.records.specs.declared.Triple.{Triple}
use Rattle.records.specs.declared.ModelType.{ModelType}
use Rattle.records.specs.declared.ModelType.TheVariants.{Terminator}
use Rattle.line_rules.specs.Fields.{is_bracketed, name_of, is_named, line_at, word_line, cells_line, number_line, takes, line_says}
use Rattle.line_rules.specs.Tables.{model_lines, capacitances, model_types}
use Rattle.line_rules.proofs.Places.{named-at}
use Rattle.given.specs.Given.{has, with, gave}
use Rattle.rules.specs.Types.{is_input, is_driven, thresholds, is_below}
use Rattle.rules.specs.Model.{new_model, first_flaw, with_first, is_number, model_place, model_opens, model_done}
use Rattle.rules.specs.declared.Thresholds.{Thresholds}
use Rattle.rules.specs.Reading.{under, is_within}
use Rattle.rules.specs.declared.ModelList.{ModelList}
use Rattle.rules.specs.declared.ModelList.TheVariants.{ModelFirst, ModelShut, CurrentRows, RampLines, WaveformRows}
use Rattle.rules.specs.declared.ModelState.{ModelState}
use Rattle.rules.specs.declared.Stage.TheVariants.{InModel}
use Rattle.layout_by_notes.proofs.Ahead.{under-key, under-line, under-change}
use Rattle.accepted_tables.specs.Fallbacks.{Flawless}
use Rattle.accepted_tables.proofs.Checks.{Passes}
use Rattle.accepted_tables.proofs.Faults.{said, cells-line-sure}
use Rattle.accepted_tables.proofs.Named.{gave-none, taken-on}
use Rattle.accepted_tables.proofs.ModelSteps.{ModelLine, first_line, current_row, ramp_line, fixture_line, waveform_row, ModelKey, single, waveform, by-texts}

-- ---- places of the first lines, and the flaw of a line at its place

pub type-place : place_from 0 (bytes "Model_type") (words (bytes model_lines)) ≡ Some 0
unfolding place_from words grown onto_word is_blank eqs
type-place = refl

polarity-place : place_from 0 (bytes "Polarity") (words (bytes model_lines)) ≡ Some 1
unfolding place_from words grown onto_word is_blank eqs
polarity-place = refl

enable-place : place_from 0 (bytes "Enable") (words (bytes model_lines)) ≡ Some 2
unfolding place_from words grown onto_word is_blank eqs
enable-place = refl

comp-place : place_from 0 (bytes "C_comp") (words (bytes model_lines)) ≡ Some 3
unfolding place_from words grown onto_word is_blank eqs
comp-place = refl

comp-listed : one_of (bytes "C_comp") (words (bytes capacitances)) ≡ true
unfolding one_of words grown onto_word is_blank eqs
comp-listed = refl

module _ (w : List ℕ) where
  pub type-flaw : line_at model_lines w ≡ Some 0 → first_flaw w ≡ flaw_in (word_line model_types w)
  unfolding first_flaw
  type-flaw e = rw (named-at model_lines "Model_type" w 0 0 e type-place)

  is-comp : line_at model_lines w ≡ Some 3 → one_of (name_of w) (words (bytes capacitances)) ≡ true
  unfolding is_named
  is-comp e =
      ap (λ (x : List ℕ). one_of x (words (bytes capacitances))) (eqs-eq (name_of w) (bytes "C_comp") (named-at model_lines "C_comp" w 3 3 e comp-place))
      ∙ comp-listed

  comp-flaw : line_at model_lines w ≡ Some 3 → first_flaw w ≡ flaw_in (cells_line w)
  unfolding first_flaw
  comp-flaw e =
      rw (
        named-at model_lines "Model_type" w 3 0 e type-place,
        named-at model_lines "Polarity" w 3 1 e polarity-place,
        named-at model_lines "Enable" w 3 2 e enable-place,
        is-comp e,
      )

-- ---- what closing a model says

abbrev is_ordered : Thresholds → Bool
is_ordered t = is_below t.vinl t.vinh

pub record Done (m : ModelState) : Type 0 where
  pub type : gave m.first model_lines "Model_type" ≡ true
  pub comp : gave m.first model_lines "C_comp" ≡ true
  pub voltage : has m.parts (model_place VoltageRange) ≡ true
  pub ramp : (not (is_driven m.kind) || has m.parts (model_place Ramp)) ≡ true
  pub below : is_input m.kind ≡ true → is_ordered (thresholds m.kind m.vinl m.vinh) ≡ true

below-if : (input less : Bool) → (input && not less) ≡ false → input ≡ true → less ≡ true
below-if true less h q = not-false less h
below-if false less h q = cc

pub done : (m : ModelState) → model_done m ≡ 0 → Done m
unfolding model_done
done m h =
    let a : Bool = gave m.first model_lines "Model_type" in
    let b : Bool = gave m.first model_lines "C_comp" in
    let c : Bool = has m.parts (model_place VoltageRange) in
    let d : Bool = not (is_driven m.kind) || has m.parts (model_place Ramp) in
    let less : Bool = is_ordered (thresholds m.kind m.vinl m.vinh) in
    by-test (a && (b && (c && d)))
    (λ t.
    let u : (b && (c && d)) ≡ true = and_second a (b && (c && d)) t in
    let v : (c && d) ≡ true = and_second b (c && d) u in
    by-test (is_input m.kind && not less)
    (λ n. let z : 20 ≡ 0 = sym (cond_yes 20 0 n) ∙ sym (cond_yes _ 9 t) ∙ h in absurd (omega arith))
    (λ n.
    record {
      type = and_first a (b && (c && d)) t;
      comp = and_first b (c && d) u;
      voltage = and_first c d v;
      ramp = and_second c d v;
      below = below-if (is_input m.kind) less n;
    }))
    (λ t. let z : 9 ≡ 0 = sym (cond_no _ 9 t) ∙ h in absurd (omega arith))

-- ---- the first lines from here on; behind them there are none

abbrev pub is_first : ModelList → Bool
is_first ModelFirst = true
is_first ModelShut = false
is_first (CurrentRows o r) = false
is_first (RampLines o g) = false
is_first (WaveformRows o g r) = false

abbrev pub first_lines : ModelState → List Text → List (List ℕ)
first_lines m ts = cond (is_first m.list) (under ts) []

-- what the first lines ls say: kind, low and high are what was remembered before them, cells what was read
pub record FirstRead (kind : ModelType) (low high : Cell) (cells : Triple) (ls : List (List ℕ)) : Type 0 where
  pub comp : is_number (line_says "C_comp" cells_line cells ls).typ ≡ true
  pub below : is_input (line_says "Model_type" (word_line model_types) kind ls) ≡ true
      → is_ordered (thresholds (line_says "Model_type" (word_line model_types) kind ls) (line_says "Vinl" number_line low ls) (line_says "Vinh" number_line high ls)) ≡ true

abbrev FirstFrom : ModelState → List (List ℕ) → Type 0
FirstFrom m ls =
    (comp : Triple) → (gave m.first model_lines "C_comp" ≡ true → is_number comp.typ ≡ true) → FirstRead m.kind m.vinl m.vinh comp ls

-- ---- from text to text

read_none : (m : ModelState) → Done m → FirstFrom m []
unfolding line_says
read_none m d comp c = record { comp = c d.comp; below = d.below }

read-line : (m : ModelState) (w : List ℕ) (i : ℕ) (ls : List (List ℕ)) → line_at model_lines w ≡ Some i → Flawless (first_flaw w)
    → FirstFrom (with_first m w (with m.first i)) ls → FirstFrom m (w ∷ ls)
unfolding line_says with_first
read-line m w i ls at ok so comp c =
    let r = so (takes "C_comp" cells_line comp w)
    (taken-on model_lines "C_comp" 3 comp-place cells_line comp w i at (λ (x : Triple). is_number x.typ ≡ true) m.first
    (λ e. said (cells_line w) (cells-line-sure w) (subst Flawless (comp-flaw w (at ∙ ap Some e)) ok))
    c)
    in
    record { comp = r.comp; below = r.below }

-- ---- all texts of the model

pub keeps-first : (m : ModelState) (w : List ℕ) (i : ℕ) → is_first (with_first m w (with m.first i)).list ≡ is_first m.list
unfolding with_first
keeps-first m w i = refl

pub opens-none : (k : ℕ) (p : ModelPart) → is_first (model_opens k p) ≡ false
opens-none k VoltageRange = refl
opens-none k TemperatureRange = refl
opens-none k (Current t) = refl
opens-none k Ramp = refl
opens-none k (Waveform e) = refl

module _ (m : ModelState) where
  -- no first line is left, or the list is another
  pub nothing-first : {ls : List (List ℕ)} → ls ≡ [] → cond (is_first m.list) ls [] ≡ []
  nothing-first e = ap (λ (ls : List (List ℕ)). cond (is_first m.list) ls []) e ∙ sym (cond_same (is_first m.list) [])

  pub other-first : (ls : List (List ℕ)) → is_first m.list ≡ false → cond (is_first m.list) ls [] ≡ []
  other-first ls e = cond_no ls [] e

lining : (m : ModelState) (k : ℕ) (w : List ℕ) (n : ModelState) (ts : List Text) → is_bracketed w ≡ false → ModelLine m w n
    → FirstFrom n (first_lines n ts) → FirstFrom m (first_lines m (plain k w ∷ ts))
lining m k w n ts b (first_line i q at h ok) so =
    let first : is_first m.list ≡ true = ap is_first q in
    subst (FirstFrom m) (sym (cond_yes (under (plain k w ∷ ts)) [] first ∙ under-line k w ts b))
    (read-line m w i (under ts) at ok (subst (FirstFrom (with_first m w (with m.first i))) (cond_yes (under ts) [] (keeps-first m w i ∙ first)) so))
lining m k w n ts b (current_row o r y q e h) so = subst (FirstFrom m) (sym (other-first m _ (ap is_first q))) so
lining m k w n ts b (ramp_line o g i q at h ok) so = subst (FirstFrom m) (sym (other-first m _ (ap is_first q))) so
lining m k w n ts b (fixture_line o g r i q l at h ok) so = subst (FirstFrom m) (sym (other-first m _ (ap is_first q))) so
lining m k w n ts b (waveform_row o g r y q e h) so = subst (FirstFrom m) (sym (other-first m _ (ap is_first q))) so

keying : (m : ModelState) (k : ℕ) (w : List ℕ) (a : List ℕ) (p : ModelPart) (n : ModelState) (ts : List Text) → is_bracketed w ≡ true → ModelKey m k a p n
    → FirstFrom n (first_lines n ts) → FirstFrom m (first_lines m (plain k w ∷ ts))
keying m k w a p n ts b (single x z h f) so =
    subst (FirstFrom m) (sym (nothing-first m (under-key k w ts b)))
    (subst (FirstFrom n) (cond_no (under ts) [] (opens-none k x)) so)
keying m k w a p n ts b (waveform e z) so = subst (FirstFrom m) (sym (nothing-first m (under-key k w ts b))) so

pub under_none : under [] ≡ []
unfolding under
under_none = refl

first-from : (ts : List Text) (m : ModelState) → Passes (InModel m) ts → FirstFrom m (first_lines m (front is_within ts))
first-from =
    by-texts (λ (m : ModelState) (ts : List Text). FirstFrom m (first_lines m ts))
    (λ m s d. subst (FirstFrom m) (sym (nothing-first m under_none)) (read_none m (done m d)))
    (λ m k f ts so. subst (λ (ls : List (List ℕ)). FirstFrom m (cond (is_first m.list) ls [])) (sym (under-change k f ts)) so)
    (λ m n k w ts b y so. lining m k w n ts b y so)
    (λ m n k w p ts b q s y so. keying m k w _ p n ts b y so)

pub first_read : (k : ℕ) (ts : List Text) → Passes (InModel (new_model k)) ts → FirstRead Terminator Missing Missing no_cells (under (front is_within ts))
first_read k ts h = first-from ts (new_model k) h no_cells (gave-none model_lines "C_comp" 3 comp-place)
