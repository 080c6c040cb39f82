-- By the keyword: one of a model is taken, under another nothing stands.
use mathlib.Core.Path.{refl}
use native.Mathlib.Omega.{arith}
use Rattle.keywords.specs.declared.Keyword.TheVariants.{IbisVer, InHeader, Opens, InComponent, End}
use Rattle.section_words.proofs.Written.{none_filled}
use Rattle.section_words.proofs.keys.fill_key.Goals as goal

pub fill_part-requires : goal.fill_part-requires
fill_part-requires c = record {
  placed = c.requires.placed;
  row_in_bounds = rw c.in-InModel.is at c.requires.row_in_bounds;
  part_in_bounds = rw c.in-InModel.is at c.requires.k_in_bounds;
}

pub returns-in-InModel : goal.returns-in-InModel
returns-in-InModel c = λ b i l. rw c.in-InModel.is (c.fill_part.ensures b i l)

pub returns-in-IbisVer : goal.returns-in-IbisVer
returns-in-IbisVer c =
    λ b i l.
    let a = c.args in
    rw (c.no_tables.ensures, c.in-IbisVer.is)
    (none_filled a.src.now b a.argument.now a.c IbisVer a.model.now a.waveforms.now a.rows.now refl refl c.requires.placed.0 (record { row = omega (arith, i, c.requires.placed.1); waveforms = omega (arith, l) }) a.model.now a.model.now refl (λ n start name f behind e. e))

pub returns-in-InHeader : goal.returns-in-InHeader
returns-in-InHeader c =
    λ b i l.
    let a = c.args in
    rw (c.no_tables-in-InHeader.ensures, c.in-InHeader.is)
    (none_filled a.src.now b a.argument.now a.c (InHeader c.in-InHeader.field-0) a.model.now a.waveforms.now a.rows.now refl refl c.requires.placed.0 (record { row = omega (arith, i, c.requires.placed.1); waveforms = omega (arith, l) }) a.model.now a.model.now refl (λ n start name f behind e. e))

pub returns-in-Opens : goal.returns-in-Opens
returns-in-Opens c =
    λ b i l.
    let a = c.args in
    rw (c.no_tables-in-Opens.ensures, c.in-Opens.is)
    (none_filled a.src.now b a.argument.now a.c (Opens c.in-Opens.field-0) a.model.now a.waveforms.now a.rows.now refl refl c.requires.placed.0 (record { row = omega (arith, i, c.requires.placed.1); waveforms = omega (arith, l) }) a.model.now a.model.now refl (λ n start name f behind e. e))

pub returns-in-InComponent : goal.returns-in-InComponent
returns-in-InComponent c =
    λ b i l.
    let a = c.args in
    rw (c.no_tables-in-InComponent.ensures, c.in-InComponent.is)
    (none_filled a.src.now b a.argument.now a.c (InComponent c.in-InComponent.field-0) a.model.now a.waveforms.now a.rows.now refl refl c.requires.placed.0 (record { row = omega (arith, i, c.requires.placed.1); waveforms = omega (arith, l) }) a.model.now a.model.now refl (λ n start name f behind e. e))

pub returns-in-End : goal.returns-in-End
returns-in-End c =
    λ b i l.
    let a = c.args in
    rw (c.no_tables-in-End.ensures, c.in-End.is)
    (none_filled a.src.now b a.argument.now a.c End a.model.now a.waveforms.now a.rows.now refl refl c.requires.placed.0 (record { row = omega (arith, i, c.requires.placed.1); waveforms = omega (arith, l) }) a.model.now a.model.now refl (λ n start name f behind e. e))
