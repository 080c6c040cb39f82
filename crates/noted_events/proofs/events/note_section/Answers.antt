-- The note is the section's, by the places of its argument and of its first word.
use Prim.Native.Nat.{ℕ}
use mathlib.Core.Path.{refl, ap, ◌∙◌}
use mathlib.Core.List.{List}
use Rattle.words.specs.Words.{word, words}
use Rattle.records.specs.declared.Kind.TheVariants.{OfComponent, OfSelector, OfModel}
use Rattle.note_words.specs.Store.{log_in}
use Rattle.noted_events.proofs.EventLaws.{told-section}
use Rattle.noted_events.proofs.events.note_section.Goals as goal

pub returns-in-Component : goal.returns-in-Component
unfolding log_in
returns-in-Component c =
    let a = c.args in
    let argument = c.argument_in-a in
    let note = c.section_note-x in
    rw c.in-Component.is (let old : _ × _ = told-section a.src.now a.notes.now a.l a.t a.p c.requires OfComponent argument.result a.p.end a.t.counts.pins 0 _ refl note.ensures.0 note.ensures.1 refl argument.ensures.text c.put_section.ensures c.count_name.ensures in record { o_value = old.0; kept_by = old.1 })

pub returns-in-Selector : goal.returns-in-Selector
unfolding log_in
returns-in-Selector c =
    let a = c.args in
    let argument = c.argument_in-a in
    let w = c.first_in-w in
    let note = c.section_note-x-in-Selector in
    rw c.in-Selector.is (let old : _ × _ = told-section a.src.now a.notes.now a.l a.t a.p c.requires OfSelector w.result.start w.result.end a.t.counts.choices 0 _ refl note.ensures.0 note.ensures.1 refl (w.ensures.text ∙ ap (λ (v : List ℕ). word 0 (words v)) argument.ensures.text) c.put_section-in-Selector.ensures c.count_name-in-Selector.ensures in record { o_value = old.0; kept_by = old.1 })

pub returns-in-Model : goal.returns-in-Model
unfolding log_in
returns-in-Model c =
    let a = c.args in
    let argument = c.argument_in-a in
    let w = c.first_in-w in
    let note = c.section_note-x-in-Model in
    rw c.in-Model.is (let old : _ × _ = told-section a.src.now a.notes.now a.l a.t a.p c.requires OfModel w.result.start w.result.end a.t.counts.waveforms a.t.counts.rows _ refl note.ensures.0 note.ensures.1 refl (w.ensures.text ∙ ap (λ (v : List ℕ). word 0 (words v)) argument.ensures.text) c.put_section-in-Model.ensures c.count_name-in-Model.ensures in record { o_value = old.0; kept_by = old.1 })
