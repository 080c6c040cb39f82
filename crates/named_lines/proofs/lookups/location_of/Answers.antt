-- The list in the code has the table's words, by computing both, so the place found stands for the meaning.
use mathlib.Core.Path.{refl, sym, ap}
use Rattle.laws.specs.Bytes.{is_blank}
use Rattle.words.specs.Words.{words, grown, onto_word}
use Rattle.name_table.specs.Places.{names_of}
use Rattle.name_table.specs.declared.NameList.TheVariants.{Locations}
use Rattle.records.specs.Flaws.{told_in}
use Rattle.line_rules.specs.Tables.{locations}
use Rattle.named_lines.proofs.TableLaws.{line-fault, line-within, line-means}
use Rattle.named_lines.proofs.lookups.location_of.Goals as goal

pub location_at-requires : goal.location_at-requires
unfolding words grown onto_word is_blank names_of locations
location_at-requires c =
    line-within locations Locations refl c.args.w.now c.listed_word.ensures c.in-Ok.is

pub returns-in-Ok : goal.returns-in-Ok
unfolding words grown onto_word is_blank names_of locations
returns-in-Ok c =
    let w = c.args.w.now in
    sym (ap (λ x. told_in w x) (line-means locations Locations refl w c.listed_word.ensures c.in-Ok.is c.location_at.ensures))

pub returns-in-Err : goal.returns-in-Err
unfolding words grown onto_word is_blank names_of locations
returns-in-Err c =
    sym ((line-fault locations Locations refl c.args.w.now c.listed_word.ensures c.in-Err.is))
