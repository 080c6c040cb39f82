-- The list in the code has the table's words, by computing both, so the place found stands for the meaning.
use mathlib.Core.Path.{refl, sym, ap}
use Rattle.laws.specs.Bytes.{is_blank}
use Rattle.words.specs.Words.{words, grown, onto_word}
use Rattle.name_table.specs.Places.{names_of}
use Rattle.name_table.specs.declared.NameList.TheVariants.{ModelTypes}
use Rattle.records.specs.Flaws.{told_in}
use Rattle.line_rules.specs.Tables.{model_types}
use Rattle.named_lines.proofs.TableLaws.{line-fault, line-within, line-means}
use Rattle.named_lines.proofs.lookups.type_of.Goals as goal

pub type_at-requires : goal.type_at-requires
unfolding words grown onto_word is_blank names_of model_types
type_at-requires c =
    line-within model_types ModelTypes refl c.args.w.now c.listed_word.ensures c.in-Ok.is

pub returns-in-Ok : goal.returns-in-Ok
unfolding words grown onto_word is_blank names_of model_types
returns-in-Ok c =
    let w = c.args.w.now in
    sym (ap (λ x. told_in w x) (line-means model_types ModelTypes refl w c.listed_word.ensures c.in-Ok.is c.type_at.ensures))

pub returns-in-Err : goal.returns-in-Err
unfolding words grown onto_word is_blank names_of model_types
returns-in-Err c =
    sym ((line-fault model_types ModelTypes refl c.args.w.now c.listed_word.ensures c.in-Err.is))
