-- By the list that is open; a table's rows are passed, whatever else the model's state holds.
use Rattle.rules.specs.declared.ModelList.TheVariants.{CurrentRows, WaveformRows}
use Rattle.file_answer.proofs.RowLaws.{current-holds, waveform-holds, passes-table, passes_none}
use Rattle.file_answer.proofs.rows.behind_rows.Goals as goal

pub returns-in_default : goal.returns-in_default
returns-in_default c =
    passes_none c.args.src.now c.args.x c.requires

pub pass_rows-p-requires : goal.pass_rows-p-requires
pass_rows-p-requires c = let h = c.requires in (h.placed, h.rows)

pub pass_rows-p-requires-in-WaveformRows : goal.pass_rows-p-requires-in-WaveformRows
pass_rows-p-requires-in-WaveformRows c = let h = c.requires in (h.placed, h.rows)

pub returns-in-CurrentRows : goal.returns-in-CurrentRows
returns-in-CurrentRows c =
    passes-table c.args.src.now c.args.x c.stands_behind.result _ (CurrentRows _) _ c.pass_rows-p.result (current-holds _) c.in-InModel.is c.in-CurrentRows.is c.requires c.pass_rows-p.ensures c.stands_behind.ensures

pub returns-in-WaveformRows : goal.returns-in-WaveformRows
returns-in-WaveformRows c =
    passes-table c.args.src.now c.args.x c.stands_behind-in-WaveformRows.result _ (WaveformRows _ _) _ c.pass_rows-p-in-WaveformRows.result (waveform-holds _ _) c.in-InModel.is c.in-WaveformRows.is c.requires c.pass_rows-p-in-WaveformRows.ensures c.stands_behind-in-WaveformRows.ensures

pub returns-in-ModelFirst : goal.returns-in-ModelFirst
returns-in-ModelFirst c =
    passes_none c.args.src.now c.args.x c.requires

pub returns-in-ModelShut : goal.returns-in-ModelShut
returns-in-ModelShut c =
    passes_none c.args.src.now c.args.x c.requires

pub returns-in-RampLines : goal.returns-in-RampLines
returns-in-RampLines c =
    passes_none c.args.src.now c.args.x c.requires
