-- What `loaded` tells of the answer and the notes gives what each fill asks, and what is left is what is promised.
use native.Mathlib.Nat.{le_refl}
use Rattle.std.proofs.Common.{rules}
use Rattle.from_notes.specs.Made.{component_at, pin_at, selector_at, choice_at}
use Rattle.reader.proofs.Laws.{fits, finishes}
use Rattle.reader.proofs.read.Goals as goal

pub loaded-a-requires : goal.loaded-a-requires
loaded-a-requires c = le_refl _

pub fill-requires-clause-room : goal.fill-requires-clause-room
fill-requires-clause-room c =
    let a = c.args in
    (fits a.src.now a.components.now a.pins.now a.selectors.now a.choices.now a.models.now a.waveforms.now a.rows.now c.loaded-a.result c.loaded-a.new.notes
    c.loaded-a.ensures).0

pub fill-requires-2-clause-room : goal.fill-requires-2-clause-room
fill-requires-2-clause-room c =
    let a = c.args in
    (fits a.src.now a.components.now a.pins.now a.selectors.now a.choices.now a.models.now a.waveforms.now a.rows.now c.loaded-a.result c.loaded-a.new.notes
    c.loaded-a.ensures).1.0

pub fill-requires-3-clause-room : goal.fill-requires-3-clause-room
fill-requires-3-clause-room c =
    let a = c.args in
    (fits a.src.now a.components.now a.pins.now a.selectors.now a.choices.now a.models.now a.waveforms.now a.rows.now c.loaded-a.result c.loaded-a.new.notes
    c.loaded-a.ensures).1.1.0

pub fill-requires-4-clause-room : goal.fill-requires-4-clause-room
fill-requires-4-clause-room c =
    let a = c.args in
    (fits a.src.now a.components.now a.pins.now a.selectors.now a.choices.now a.models.now a.waveforms.now a.rows.now c.loaded-a.result c.loaded-a.new.notes
    c.loaded-a.ensures).1.1.1.0

pub fill_models-requires : goal.fill_models-requires
fill_models-requires c =
    let a = c.args in
    (fits a.src.now a.components.now a.pins.now a.selectors.now a.choices.now a.models.now a.waveforms.now a.rows.now c.loaded-a.result c.loaded-a.new.notes
    c.loaded-a.ensures).1.1.1.1

pub returns : goal.returns
returns c =
    let a = c.args in
    let m = c.fill_models.new in
    let s = a.src.now in
    let ns = c.loaded-a.new.notes in
    rw (c.fill.ensures (component_at s ns) (λ k r h p. search rules), c.fill-2.ensures (pin_at s ns) (λ k r h p. search rules), c.fill-3.ensures (selector_at s ns) (λ k r h p. search rules), c.fill-4.ensures (choice_at s ns) (λ k r h p. search rules))
    (finishes a.src.now a.components.now a.pins.now a.selectors.now a.choices.now a.models.now a.waveforms.now a.rows.now c.loaded-a.result c.loaded-a.new.notes
    c.loaded-a.ensures m.models m.waveforms m.rows
    c.fill_models.ensures)
