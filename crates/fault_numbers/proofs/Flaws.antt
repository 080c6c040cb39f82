-- A flaw of a line is 10, 11, 12 or 13, or there is none: from the faults of its words, through the definitions of `line_rules/specs/Fields.antt`
-- and the flaws that `rules/specs/` makes of them.
use Prim.Native.Nat.{ℕ}
use mathlib.Core.Path.{refl}
use mathlib.Core.List.{List, [], ◌∷◌}
use mathlib.Core.Bool.{Bool, cond, not, ◌||◌}
use lib.ListN.{length}
use lib.Dec.{eqb, leb}
use Rattle.laws.specs.Bytes.{bytes}
use Rattle.laws.specs.Lists.{all, among, one_of}
use Rattle.laws.proofs.Tests.{cond-all}
use Rattle.words.specs.Words.{word, words, rest_from}
use Rattle.keywords.specs.declared.Section.{Section}
use Rattle.keywords.specs.declared.Section.TheVariants.{Component, Selector, Model}
use Rattle.keywords.specs.declared.HeaderPart.{HeaderPart}
use Rattle.keywords.specs.declared.HeaderPart.TheVariants.{FileName, FileRev, FreeText}
use Rattle.keywords.specs.declared.ComponentPart.{ComponentPart}
use Rattle.keywords.specs.declared.ComponentPart.TheVariants.{Manufacturer, Package, Pin}
use Rattle.keywords.specs.declared.ModelPart.{ModelPart}
use Rattle.keywords.specs.declared.ModelPart.TheVariants.{TemperatureRange}
use Rattle.records.specs.Flaws.{Flaw, Reads, flaw, sound, flaw_in}
use Rattle.line_rules.specs.Fields.{is_sized, is_pin_name, is_pin_model, is_model_name, is_file_name, word_by, alone, passing, no_argument, is_named, name_of}
use Rattle.line_rules.specs.Tables.{capacitances, model_types, polarities, enables}
use Rattle.line_rules.proofs.Columns.{passing-columns}
use Rattle.rules.proofs.Fair.{pin-cells-fair}
use Rattle.rules.specs.Header.{header_flaw}
use Rattle.rules.specs.Component.{pin_flaw, component_flaw}
use Rattle.rules.specs.Model.{first_flaw, ramp_flaw, model_place, model_flaw}
use Rattle.rules.specs.Steps.{opened_flaw}
use Rattle.laws.proofs.Known.{Known, listed, more-known}
use Rattle.line_rules.proofs.Fair.{of_flaws, Fair, value, faulty, word-fair, alone-fair, given-fair, word-line-fair, cells-line-fair, slopes-line-fair, number-line-fair, heading-fair}

-- ---- flaws, and readings that have no other

abbrev pub Marks : Flaw → Type 0
Marks f = Known (0 ∷ of_flaws) f.number

pub fair-marks : {A : Type 0} {x : Reads A} → Fair x → Marks (flaw_in x)
unfolding all among
fair-marks value = listed refl
fair-marks (faulty p) = more-known refl p

-- ---- what stands on a line

pub word-marks : (p : List ℕ → Bool) (v : List ℕ) → Marks (flaw_in (word_by (passing p) 0 v))
word-marks p v = fair-marks (word-fair (passing p) (passing-columns p) 0 v)

pub alone-marks : (p : List ℕ → Bool) (v : List ℕ) → Marks (flaw_in (alone (passing p) v))
alone-marks p v = fair-marks (alone-fair (passing p) (passing-columns p) v)

-- ---- the flaws of the sections' lines

either-marks : (t : Bool) (f g : Flaw) → Marks f → Marks g → Marks (cond t f g)
either-marks t f g p q = cond-all Marks t f g (λ h. p) (λ h. q)

-- 10 or none
pub argument-ten : (v : List ℕ) → Known (0 ∷ 10 ∷ []) (no_argument v).number
unfolding among no_argument
argument-ten v =
    cond-all (λ (f : Flaw). Known (0 ∷ 10 ∷ []) f.number) (eqb (length v) 0) sound (flaw 10 v) (λ h. listed refl) (λ h. listed refl)

argument-marks : (v : List ℕ) → Marks (no_argument v)
unfolding all among
argument-marks v = more-known refl (argument-ten v)

sized-marks : (v : List ℕ) → Marks (cond (is_sized 40 v) sound (flaw 10 v))
unfolding among
sized-marks v = either-marks (is_sized 40 v) _ _ (listed refl) (listed refl)

pub header-marks : (v : List ℕ) (p : HeaderPart) → Marks (header_flaw v p)
unfolding among
header-marks v FileName = alone-marks is_file_name v
header-marks v FileRev = either-marks (eqb (length v) 0) _ _ (listed refl) (listed refl)
header-marks v (FreeText t) = listed refl

pub opened-marks : (v : List ℕ) (o : Section) → Marks (opened_flaw v o)
opened-marks v Component = sized-marks v
opened-marks v Selector = alone-marks is_model_name v
opened-marks v Model = alone-marks is_model_name v

pub component-marks : (v : List ℕ) (p : ComponentPart) → Marks (component_flaw v p)
component-marks v Manufacturer = sized-marks v
component-marks v Package = argument-marks v
component-marks v Pin = fair-marks (heading-fair v)

pub pin-marks : (long : Bool) (w : List ℕ) → Marks (pin_flaw long w)
unfolding among pin_flaw
pin-marks long w =
    either-marks (not (is_pin_name (word 0 (words w)))) _ _ (listed refl)
    (either-marks (not (is_sized 40 (word 1 (words w)))) _ _ (listed refl)
    (either-marks (not (is_pin_model (word 2 (words w)))) _ _ (listed refl)
    (either-marks (long || leb (length (words w)) 3) _ _ (fair-marks (pin-cells-fair (rest_from 3 w))) (listed refl))))

pub first_marks : (w : List ℕ) → Marks (first_flaw w)
unfolding first_flaw
first_marks w =
    either-marks (is_named "Model_type" w) _ _ (fair-marks (word-line-fair model_types w))
    (either-marks (is_named "Polarity" w) _ _ (fair-marks (word-line-fair polarities w))
    (either-marks (is_named "Enable" w) _ _ (fair-marks (word-line-fair enables w))
    (either-marks (one_of (name_of w) (words (bytes capacitances))) _ _ (fair-marks (cells-line-fair w)) (fair-marks (number-line-fair w)))))

pub ramp-marks : (w : List ℕ) → Marks (ramp_flaw w)
unfolding ramp_flaw
ramp-marks w = either-marks (is_named "R_load" w) _ _ (fair-marks (number-line-fair w)) (fair-marks (slopes-line-fair w))

pub model-marks : (v : List ℕ) (p : ModelPart) → Marks (model_flaw v p)
model-marks v p = either-marks (leb (model_place p) (model_place TemperatureRange)) _ _ (fair-marks (given-fair v)) (argument-marks v)
