-- By the event.
use mathlib.Core.Path.{refl}
use Rattle.noted_events.proofs.EventLaws.{kept_same}
use Rattle.noted_events.proofs.events.note_event.Goals as goal

pub returns-in-Quiet : goal.returns-in-Quiet
returns-in-Quiet c =
    let a = c.args in
    record {
      e_value = rw c.in-Quiet.is refl;
      kept_by = kept_same a.src.now a.notes.now a.l a.t a.p c.requires;
    }

pub returns-in-Opened : goal.returns-in-Opened
returns-in-Opened c = record {
  e_value = rw c.in-Opened.is c.note_section.ensures.o_value;
  kept_by = c.note_section.ensures.kept_by;
}

pub returns-in-PinRow : goal.returns-in-PinRow
returns-in-PinRow c = record {
  e_value = rw c.in-PinRow.is c.note_pin.ensures.p_value;
  kept_by = c.note_pin.ensures.kept_by;
}

pub returns-in-ChoiceRow : goal.returns-in-ChoiceRow
returns-in-ChoiceRow c = record {
  e_value = rw c.in-ChoiceRow.is c.note_choice.ensures.p_value;
  kept_by = c.note_choice.ensures.kept_by;
}

pub returns-in-WaveformOpened : goal.returns-in-WaveformOpened
returns-in-WaveformOpened c = record {
  e_value = rw c.in-WaveformOpened.is c.count_waveform.ensures.p_value;
  kept_by = c.count_waveform.ensures.kept_by;
}

pub returns-in-TableRow : goal.returns-in-TableRow
returns-in-TableRow c = record {
  e_value = rw c.in-TableRow.is c.count_row.ensures.p_value;
  kept_by = c.count_row.ensures.kept_by;
}

pub returns-in-Ended : goal.returns-in-Ended
returns-in-Ended c = record {
  e_value = rw c.in-Ended.is c.end_file.ensures.f_value;
  kept_by = c.end_file.ensures.kept_by;
}
