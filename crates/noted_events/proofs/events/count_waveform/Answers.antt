-- By whether the table is full.
use Prim.Native.Nat.{◌≤◌, ◌<◌, min}
use native.Mathlib.Omega.{arith}
use Rattle.records.specs.Bounds.{most_waveforms}
use Rattle.noted_events.proofs.EventLaws.{waveform-full, waveform-going, kept-waveform, names-small}
use Rattle.noted_events.proofs.events.count_waveform.Goals as goal

pub returns-then-waveform_bound-j : goal.returns-then-waveform_bound-j
returns-then-waveform_bound-j c =
    let a = c.args in
    let h : min most_waveforms a.l.waveforms ≤ a.t.counts.waveforms = omega (arith, c.if-waveform_bound-j.true, c.waveform_bound.ensures) in
    rw c.no_room.ensures record {
      p_value = waveform-full a.src.now a.notes.now a.l a.t a.p c.requires h;
      kept_by = omega (arith, names-small a.t c.requires.within);
    }

pub returns : goal.returns
returns c =
    let a = c.args in
    let r = c.requires in
    let h : a.t.counts.waveforms < min most_waveforms a.l.waveforms = omega (arith, c.if-waveform_bound-j.false, c.waveform_bound.ensures) in
    record {
      p_value = waveform-going a.src.now a.notes.now a.l a.t a.p r h;
      kept_by = kept-waveform a.src.now a.notes.now a.l a.t a.p r h;
    }
