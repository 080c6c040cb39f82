-- By the keyword: one of a model is taken, another changes nothing.
use Prim.Native.Nat.{◌≤◌}
use mathlib.Core.Path.{refl, sym, subst}
use native.Mathlib.Omega.{arith}
use lib.ListN.{length}
use Rattle.keywords.specs.declared.Keyword.{Keyword}
use Rattle.keywords.specs.declared.Keyword.TheVariants.{IbisVer, InHeader, Opens, InComponent, End}
use Rattle.cut_lines.specs.Cursors.{rest}
use Rattle.rules.specs.Reading.{under}
use Rattle.records.specs.Stored.{stored}
use Rattle.table_rows.specs.Parts.{key_rows}
use Rattle.model_record.specs.Takes.{TakesKey}
use Rattle.model_record.proofs.Takes.{taken, none-takes}
use Rattle.model_record.proofs.bodies.take_key.Goals as goal

pub take_part-requires : goal.take_part-requires
take_part-requires c =
    let a = c.args in
    record {
      placed = c.requires.placed;
      c_in_bounds = subst (λ (k : Keyword). length (stored (key_rows k (under (rest a.src.now a.c)))) ≤ length a.rows.now) c.in-InModel.is c.requires.c_in_bounds;
    }

pub returns-in-InModel : goal.returns-in-InModel
returns-in-InModel c =
    let a = c.args in
    subst (λ (k : Keyword). TakesKey a.src.now a.b k a.argument.now a.c a.rows.now c.take_part.new.rows c.take_part.result) (sym c.in-InModel.is) c.take_part.ensures

pub returns-in-IbisVer : goal.returns-in-IbisVer
returns-in-IbisVer c =
    let a = c.args in
    let p = c.requires.placed in
    none-takes IbisVer c.in-IbisVer.is a.rows.now (taken IbisVer a.b a.c refl refl (record { row = p.1; waveforms = omega (arith, p.2) }) refl p.0 (omega arith)) refl refl c.no_waveform.ensures

pub returns-in-InHeader : goal.returns-in-InHeader
returns-in-InHeader c =
    let a = c.args in
    let p = c.requires.placed in
    none-takes (InHeader _) c.in-InHeader.is a.rows.now (taken (InHeader _) a.b a.c refl refl (record { row = p.1; waveforms = omega (arith, p.2) }) refl p.0 (omega arith)) refl refl c.no_waveform-in-InHeader.ensures

pub returns-in-Opens : goal.returns-in-Opens
returns-in-Opens c =
    let a = c.args in
    let p = c.requires.placed in
    none-takes (Opens _) c.in-Opens.is a.rows.now (taken (Opens _) a.b a.c refl refl (record { row = p.1; waveforms = omega (arith, p.2) }) refl p.0 (omega arith)) refl refl c.no_waveform-in-Opens.ensures

pub returns-in-InComponent : goal.returns-in-InComponent
returns-in-InComponent c =
    let a = c.args in
    let p = c.requires.placed in
    none-takes (InComponent _) c.in-InComponent.is a.rows.now (taken (InComponent _) a.b a.c refl refl (record { row = p.1; waveforms = omega (arith, p.2) }) refl p.0 (omega arith)) refl refl c.no_waveform-in-InComponent.ensures

pub returns-in-End : goal.returns-in-End
returns-in-End c =
    let a = c.args in
    let p = c.requires.placed in
    none-takes End c.in-End.is a.rows.now (taken End a.b a.c refl refl (record { row = p.1; waveforms = omega (arith, p.2) }) refl p.0 (omega arith)) refl refl c.no_waveform-in-End.ensures
