-- Each type by computing its name.
use mathlib.Core.Path.{sym, ap}
use Rattle.laws.specs.Lists.{eqs, one_of}
use Rattle.name_table.specs.Places.{names_of}
use Rattle.line_rules.specs.Tables.{model_types, type_name}
use Rattle.rules.specs.Types.{is_driven}
use Rattle.rules.proofs.types.is_driven.Goals as goal

pub returns-in-Input : goal.returns-in-Input
unfolding is_driven type_name names_of model_types eqs one_of
returns-in-Input c = ap is_driven (sym c.in-Input.is)

pub returns-in-Output : goal.returns-in-Output
unfolding is_driven type_name names_of model_types eqs one_of
returns-in-Output c = ap is_driven (sym c.in-Output.is)

pub returns-in-InputOutput : goal.returns-in-InputOutput
unfolding is_driven type_name names_of model_types eqs one_of
returns-in-InputOutput c = ap is_driven (sym c.in-InputOutput.is)

pub returns-in-ThreeState : goal.returns-in-ThreeState
unfolding is_driven type_name names_of model_types eqs one_of
returns-in-ThreeState c = ap is_driven (sym c.in-ThreeState.is)

pub returns-in-OpenDrain : goal.returns-in-OpenDrain
unfolding is_driven type_name names_of model_types eqs one_of
returns-in-OpenDrain c = ap is_driven (sym c.in-OpenDrain.is)

pub returns-in-InputOutputOpenDrain : goal.returns-in-InputOutputOpenDrain
unfolding is_driven type_name names_of model_types eqs one_of
returns-in-InputOutputOpenDrain c = ap is_driven (sym c.in-InputOutputOpenDrain.is)

pub returns-in-OpenSink : goal.returns-in-OpenSink
unfolding is_driven type_name names_of model_types eqs one_of
returns-in-OpenSink c = ap is_driven (sym c.in-OpenSink.is)

pub returns-in-InputOutputOpenSink : goal.returns-in-InputOutputOpenSink
unfolding is_driven type_name names_of model_types eqs one_of
returns-in-InputOutputOpenSink c = ap is_driven (sym c.in-InputOutputOpenSink.is)

pub returns-in-OpenSource : goal.returns-in-OpenSource
unfolding is_driven type_name names_of model_types eqs one_of
returns-in-OpenSource c = ap is_driven (sym c.in-OpenSource.is)

pub returns-in-InputOutputOpenSource : goal.returns-in-InputOutputOpenSource
unfolding is_driven type_name names_of model_types eqs one_of
returns-in-InputOutputOpenSource c = ap is_driven (sym c.in-InputOutputOpenSource.is)

pub returns-in-InputEcl : goal.returns-in-InputEcl
unfolding is_driven type_name names_of model_types eqs one_of
returns-in-InputEcl c = ap is_driven (sym c.in-InputEcl.is)

pub returns-in-OutputEcl : goal.returns-in-OutputEcl
unfolding is_driven type_name names_of model_types eqs one_of
returns-in-OutputEcl c = ap is_driven (sym c.in-OutputEcl.is)

pub returns-in-InputOutputEcl : goal.returns-in-InputOutputEcl
unfolding is_driven type_name names_of model_types eqs one_of
returns-in-InputOutputEcl c = ap is_driven (sym c.in-InputOutputEcl.is)

pub returns-in-ThreeStateEcl : goal.returns-in-ThreeStateEcl
unfolding is_driven type_name names_of model_types eqs one_of
returns-in-ThreeStateEcl c = ap is_driven (sym c.in-ThreeStateEcl.is)

pub returns-in-Terminator : goal.returns-in-Terminator
unfolding is_driven type_name names_of model_types eqs one_of
returns-in-Terminator c = ap is_driven (sym c.in-Terminator.is)
