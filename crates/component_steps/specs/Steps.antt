-- Parts of document 01's steps, cut as the code has them.
use Rattle.std.specs.Prelude.{ℕ, List, Bool, cond, not, ◌&&◌}
use Rattle.words.specs.Places.{WordAt}
use Rattle.words.specs.declared.Word.{Word}
use Rattle.records.specs.Flaws.{at_place, bare}
use Rattle.records.specs.declared.LineFault.{LineFault}
use Rattle.line_rules.specs.Fields.{is_sized, is_pin_name, is_pin_model}
use Rattle.line_cells.specs.Threes.{bytes_of}
use Rattle.given.specs.Given.{has}
use Rattle.given.specs.declared.Given.{Given}
use Rattle.rules.specs.Going.{refuse, quietly, Went}
use Rattle.rules.specs.Component.{with_list}
use Rattle.rules.specs.declared.ComponentList.TheVariants.{ComponentShut}
use Rattle.rules.specs.declared.ComponentState.{ComponentState}
use Rattle.rules.specs.declared.Stage.TheVariants.{InComponent}
use Rattle.component_steps.specs.declared.PinNames.{PinNames}

-- the three names of a pin row: the first words of its text
pub record NamesLie (w : List ℕ) (r : PinNames) : Type 0 where
  pub pin : WordAt w 0 r.pin
  pub signal : WordAt w r.pin.end r.signal
  pub model : WordAt w r.signal.end r.model

abbrev pub all_three : Given → Bool
all_three g = has g 0 && (has g 1 && has g 2)

-- the list is shut if it is whole, else 9 at line o
abbrev pub shut_if : ComponentState → Bool → ℕ → Went
shut_if c whole o = refuse (not whole) 9 o (quietly (InComponent (with_list c ComponentShut)))

-- the names of a pin row that lie there: the leftmost that has not its form
unfoldable pub names_fault : List ℕ → Word → Word → Word → LineFault
names_fault w pin signal model =
    cond (not (is_pin_name (bytes_of w pin))) (at_place 10 pin.start)
    (cond (not (is_sized 40 (bytes_of w signal))) (at_place 10 signal.start)
    (cond (not (is_pin_model (bytes_of w model))) (at_place 10 model.start)
    (bare 0)))
