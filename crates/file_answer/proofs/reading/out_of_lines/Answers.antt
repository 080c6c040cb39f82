-- By the stage.
use mathlib.Core.Path.{refl}
use Rattle.file_answer.proofs.reading.out_of_lines.Goals as goal

pub returns-in-BeforeVersion : goal.returns-in-BeforeVersion
returns-in-BeforeVersion c = record {
  by_index = λ src xs. rw c.in-BeforeVersion.is rw c.broken.ensures refl;
  tally_value = rw c.broken.ensures refl;
  by_index_2 = λ xs w. rw c.broken.ensures tt;
}

pub returns-in-InHeader : goal.returns-in-InHeader
returns-in-InHeader c = record {
  by_index = λ src xs. rw c.in-InHeader.is rw c.broken-in-InHeader.ensures refl;
  tally_value = rw c.broken-in-InHeader.ensures refl;
  by_index_2 = λ xs w. rw c.broken-in-InHeader.ensures tt;
}

pub returns-in-InComponent : goal.returns-in-InComponent
returns-in-InComponent c = record {
  by_index = λ src xs. rw c.in-InComponent.is rw c.broken-in-InComponent.ensures refl;
  tally_value = rw c.broken-in-InComponent.ensures refl;
  by_index_2 = λ xs w. rw c.broken-in-InComponent.ensures tt;
}

pub returns-in-InSelector : goal.returns-in-InSelector
returns-in-InSelector c = record {
  by_index = λ src xs. rw c.in-InSelector.is rw c.broken-in-InSelector.ensures refl;
  tally_value = rw c.broken-in-InSelector.ensures refl;
  by_index_2 = λ xs w. rw c.broken-in-InSelector.ensures tt;
}

pub returns-in-InModel : goal.returns-in-InModel
returns-in-InModel c = record {
  by_index = λ src xs. rw c.in-InModel.is rw c.broken-in-InModel.ensures refl;
  tally_value = rw c.broken-in-InModel.ensures refl;
  by_index_2 = λ xs w. rw c.broken-in-InModel.ensures tt;
}

pub returns-in-AfterEnd : goal.returns-in-AfterEnd
returns-in-AfterEnd c = record {
  by_index = λ src xs. rw c.in-AfterEnd.is refl;
  tally_value = refl;
  by_index_2 = λ xs w. w;
}
