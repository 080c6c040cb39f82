-- Every step stops with one of its numbers, and leaves 10 or nothing: by cases, definition by definition.
use Rattle.std.specs.Prelude.{Option, None, Some}
use Prim.Native.Nat.{ℕ}
use mathlib.Core.Path.{refl}
use mathlib.Core.List.{List}
use mathlib.Core.Bool.{not, ◌&&◌, ◌||◌}
use lib.Dec.{eqb, leb}
use Rattle.laws.specs.Lists.{all, among, one_of}
use Rattle.laws.specs.Said.{or_fault}
use Rattle.laws.proofs.Tests.{cond-all}
use Rattle.words.specs.Words.{word, words}
use Rattle.hierarchy.specs.Hierarchy.{hierarchy}
use Rattle.name_table.specs.Names.{meaning}
use Rattle.keywords.specs.Form.{inside, is_formed, spelled, argument}
use Rattle.keywords.specs.Carried.{carried, gap_or_slip, key_of}
use Rattle.keywords.specs.declared.Keyword.{Keyword}
use Rattle.keywords.specs.declared.Keyword.TheVariants as key
use Rattle.keywords.specs.declared.HeaderPart.TheVariants.{FileName, FileRev}
use Rattle.keywords.specs.declared.ComponentPart.TheVariants.{Manufacturer, Package, Pin}
use Rattle.keywords.specs.declared.ModelPart.{ModelPart}
use Rattle.keywords.specs.declared.ModelPart.TheVariants.{VoltageRange, Ramp, Waveform}
use Rattle.records.specs.Flaws.{Reads, told_in}
use Rattle.records.specs.declared.Row.{Row}
use Rattle.records.specs.declared.Edge.TheVariants.{Rising}
use Rattle.line_rules.specs.Fields.{is_bracketed, is_version, is_model_name, line_at}
use Rattle.line_rules.specs.Tables.{component_lines, locations, package_lines, model_lines, ramp_lines, fixtures}
use Rattle.given.specs.Given.{has, gave}
use Rattle.rules.specs.Types.{is_input, is_driven, thresholds, is_below}
use Rattle.rules.specs.Header.{version, header_place, header_part, header_line, header_done}
use Rattle.rules.specs.Component.{component_place, component_part, component_line, component_shut, component_done}
use Rattle.rules.specs.Selector.{selector_line, selector_shut}
use Rattle.rules.specs.Model.{row_line, begins_letter, waveform_line, model_line, model_place, single_part, waveform_part, model_part, table_fault, model_shut, model_done}
use Rattle.rules.specs.Steps.{is_before, header_of, component_of, model_of, shut, done, opened, on_version, on_keyword, keyed, on_line, on_plain}
use Rattle.rules.specs.declared.Thresholds.{Thresholds}
use Rattle.rules.specs.declared.HeaderState.{HeaderState}
use Rattle.rules.specs.declared.RowsSeen.{RowsSeen}
use Rattle.rules.specs.declared.ComponentList.{ComponentList}
use Rattle.rules.specs.declared.ComponentList.TheVariants.{ComponentFirst, ComponentShut, PackageLines, PinRows}
use Rattle.rules.specs.declared.ComponentState.{ComponentState}
use Rattle.rules.specs.declared.ModelList.{ModelList}
use Rattle.rules.specs.declared.ModelList.TheVariants.{ModelFirst, ModelShut, CurrentRows, RampLines, WaveformRows}
use Rattle.rules.specs.declared.ModelState.{ModelState}
use Rattle.rules.specs.declared.Stage.{Stage}
use Rattle.rules.specs.declared.Stage.TheVariants.{BeforeVersion, InHeader, InComponent, InSelector, InModel, AfterEnd}
use Rattle.fault_numbers.specs.Numbers.{of_steps}
use Rattle.laws.proofs.Known.{Known, listed, either-known, more-known}
use Rattle.line_rules.proofs.Fair.{Fair, value, faulty, row-fair, word-line-fair, cells-line-fair, number-line-fair}
use Rattle.fault_numbers.proofs.Flaws.{fair-marks, argument-ten, word-marks, alone-marks, header-marks, opened-marks, component-marks, pin-marks, first_marks, ramp-marks, model-marks}
use Rattle.fault_numbers.proofs.Going.{Checks, Tells, stops, goes, quiet, either-tells, refuse-tells, unless-tells, flaw-tells, once-tells, named-tells, then-tells, within-tells}

-- ---- what a line closes

component-shut-tells : (c : ComponentState) (l : ComponentList) → Tells (component_shut c l)
unfolding among
component-shut-tells c ComponentFirst = quiet
component-shut-tells c ComponentShut = quiet
component-shut-tells c (PackageLines o g) = refuse-tells _ _ (listed refl) quiet
component-shut-tells c (PinRows o long any) = refuse-tells _ _ (listed refl) quiet

table-checks : (most : ℕ) (r : RowsSeen) → Checks (table_fault most r)
unfolding among table_fault
table-checks most r = either-known (leb 2 r.count && (leb r.count most && (r.head && r.tail))) (listed refl) (listed refl)

model-shut-tells : (m : ModelState) (l : ModelList) → Tells (model_shut m l)
unfolding among
model-shut-tells m ModelFirst = quiet
model-shut-tells m ModelShut = quiet
model-shut-tells m (CurrentRows o r) = unless-tells _ (table-checks 100 r) quiet
model-shut-tells m (RampLines o g) = refuse-tells _ _ (listed refl) quiet
model-shut-tells m (WaveformRows o g r) = refuse-tells _ _ (listed refl) (unless-tells _ (table-checks 1000 r) quiet)

shut-tells : (k : ℕ) (s : Stage) → Tells (shut k s)
unfolding among selector_shut
shut-tells k BeforeVersion = quiet
shut-tells k (InHeader h) = quiet
shut-tells k (InComponent c) = component-shut-tells c c.list
shut-tells k (InSelector s) = refuse-tells _ _ (listed refl) quiet
shut-tells k (InModel m) = model-shut-tells m m.list
shut-tells k AfterEnd = stops (listed refl)

header-checks : (h : HeaderState) → Checks (header_done h)
unfolding among header_done
header-checks h = either-known (has h.parts (header_place FileName) && has h.parts (header_place FileRev)) (listed refl) (listed refl)

component-checks : (c : ComponentState) → Checks (component_done c)
unfolding among component_done
component-checks c =
    either-known (has c.parts (component_place Manufacturer) && (has c.parts (component_place Package) && has c.parts (component_place Pin)))
    (listed refl) (listed refl)

model-checks : (m : ModelState) → Checks (model_done m)
unfolding among model_done
model-checks m =
    let t : Thresholds = thresholds m.kind m.vinl m.vinh in
    either-known (gave m.first model_lines "Model_type" && (gave m.first model_lines "C_comp" && (has m.parts (model_place VoltageRange) && (not (is_driven m.kind) || has m.parts (model_place Ramp)))))
    (either-known (is_input m.kind && not (is_below t.vinl t.vinh)) (listed refl) (listed refl))
    (listed refl)

done-tells : (k : ℕ) (s : Stage) → Tells (done k s)
unfolding among
done-tells k BeforeVersion = stops (listed refl)
done-tells k (InHeader h) = unless-tells _ (header-checks h) quiet
done-tells k (InComponent c) = unless-tells _ (component-checks c) quiet
done-tells k (InSelector s) = quiet
done-tells k (InModel m) = unless-tells _ (model-checks m) quiet
done-tells k AfterEnd = stops (listed refl)

-- ---- keyword lines

part-tells : (m : ModelState) (k : ℕ) (w : List ℕ) (p : ModelPart) → Tells (model_part m k w p)
unfolding among waveform_part single_part
part-tells m k w p =
    either-tells (eqb (model_place p) (model_place (Waveform Rising)))
    (flaw-tells _ k w (model-marks (argument w) p) (refuse-tells _ _ (listed refl) (goes (listed refl))))
    (once-tells _ _ k w _ (model-marks (argument w) p))

keyword-tells : (s : Stage) (k : ℕ) (w : List ℕ) (x : Keyword) → Tells (on_keyword s k w x)
unfolding among on_version version header_part opened component_part
keyword-tells s k w key.IbisVer =
    either-tells (is_before s) (flaw-tells _ k w (alone-marks is_version (argument w)) quiet) (within-tells k (header_of s) (λ h. stops (listed refl)))
keyword-tells s k w (key.InHeader p) = within-tells k (header_of s) (λ h. once-tells _ _ k w _ (header-marks (argument w) p))
keyword-tells s k w (key.Opens o) = then-tells (done-tells k s) (λ t. flaw-tells _ k w (opened-marks (argument w) o) (goes (listed refl)))
keyword-tells s k w (key.InComponent p) = within-tells k (component_of s) (λ c. once-tells _ _ k w _ (component-marks (argument w) p))
keyword-tells s k w (key.InModel p) = within-tells k (model_of s) (λ m. part-tells m k w p)
keyword-tells s k w key.End = then-tells (done-tells k s) (λ t. goes (argument-ten (argument w)))

-- 5, 6 and 21
module _ (s : Stage) (k : ℕ) (w : List ℕ) where
  carried-tells : {n : ℕ} → Known of_steps n → (x : Option Keyword) → Tells (keyed s k w (or_fault n x))
  carried-tells p None = stops p
  carried-tells p (Some x) = keyword-tells s k w x

  slip-known : (name : List ℕ) → Known of_steps (gap_or_slip name)
  unfolding among gap_or_slip
  slip-known name = either-known (one_of name hierarchy) (listed refl) (listed refl)

  keyed-tells : Tells (keyed s k w (key_of w))
  unfolding among key_of
  keyed-tells =
      cond-all (λ x. Tells (keyed s k w x)) (is_formed w) _ _
      (λ h. carried-tells (slip-known (spelled (inside w))) (meaning (spelled (inside w)) carried))
      (λ h. stops (listed refl))

-- ---- other lines

component-line-tells : (c : ComponentState) (k : ℕ) (w : List ℕ) (l : ComponentList) → Tells (component_line c k w l)
unfolding among
component-line-tells c k w ComponentFirst = named-tells _ (line_at component_lines w) _ k w _ (fair-marks (word-line-fair locations w))
component-line-tells c k w ComponentShut = stops (listed refl)
component-line-tells c k w (PackageLines o g) = named-tells _ (line_at package_lines w) _ k w _ (fair-marks (cells-line-fair w))
component-line-tells c k w (PinRows o long any) = flaw-tells _ k w (pin-marks long w) (goes (listed refl))

row-tells : (on : RowsSeen → ModelList) (m : ModelState) (r : RowsSeen) (k : ℕ) (w : List ℕ) {x : Reads Row} → Fair x → Tells (row_line on m r k (told_in w x))
unfolding all among
row-tells on m r k w value = refuse-tells _ _ (listed refl) (goes (listed refl))
row-tells on m r k w (faulty p) = stops (more-known refl p)

model-line-tells : (m : ModelState) (k : ℕ) (w : List ℕ) (l : ModelList) → Tells (model_line m k w l)
unfolding among waveform_line
model-line-tells m k w ModelFirst = named-tells _ (line_at model_lines w) _ k w _ (first_marks w)
model-line-tells m k w ModelShut = stops (listed refl)
model-line-tells m k w (CurrentRows o r) = row-tells (CurrentRows o) m r k w (row-fair w)
model-line-tells m k w (RampLines o g) = named-tells _ (line_at ramp_lines w) _ k w _ (ramp-marks w)
model-line-tells m k w (WaveformRows o g r) =
    either-tells (begins_letter (word 0 (words w)))
    (refuse-tells _ _ (listed refl) (named-tells _ (line_at fixtures w) _ k w _ (fair-marks (number-line-fair w))))
    (row-tells (WaveformRows o g) m r k w (row-fair w))

line-tells : (s : Stage) (k : ℕ) (w : List ℕ) → Tells (on_line s k w)
unfolding among header_line selector_line
line-tells BeforeVersion k w = stops (listed refl)
line-tells (InHeader h) k w = either-tells h.text quiet (stops (listed refl))
line-tells (InComponent c) k w = component-line-tells c k w c.list
line-tells (InSelector s) k w = flaw-tells _ k w (word-marks is_model_name w) (goes (listed refl))
line-tells (InModel m) k w = model-line-tells m k w m.list
line-tells AfterEnd k w = stops (listed refl)

pub plain-tells : (s : Stage) (k : ℕ) (w : List ℕ) → Tells (on_plain s k w)
unfolding on_plain
plain-tells s k w = either-tells (is_bracketed w) (then-tells (shut-tells k s) (λ t. keyed-tells t k w)) (line-tells s k w)
