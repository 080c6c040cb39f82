-- The record at the front of its table, and the rows: `wave-filled`.
use Prim.Native.Nat.{ℕ}
use mathlib.Core.Path.{sym, ap, ◌∙◌}
use native.Mathlib.Omega.{arith}
use Rattle.cut_lines.specs.Cursors.{rest}
use Rattle.rules.specs.Reading.{under, waveform_in}
use Rattle.record_words.specs.Records.{waveform_words}
use Rattle.section_words.proofs.Written.{wave-filled}
use Rattle.section_words.proofs.keys.fill_wave.Goals as goal

pub returns : goal.returns
returns c =
    λ b w model i l.
    let a = c.args in
    wave-filled c.fill_waveform-read.ensures.fill_is b (omega (arith, i, c.requires.placed.1)) l w a.edge model a.waveforms.now c.put.new.out c.waveform_words-waveform.result c.requires.waveform_size_in_bounds c.put.ensures
    (c.waveform_words-waveform.ensures ∙ ap waveform_words c.fill_waveform-read.ensures.waveform_value ∙ ap (λ (row : ℕ). waveform_words (waveform_in row a.edge (under (rest a.src.now a.c)))) (sym i))
