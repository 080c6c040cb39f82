-- The list in the code has the table's words, by computing both, so the place found stands for the meaning.
use Rattle.std.specs.Prelude.{None}
use mathlib.Core.Path.{refl, sym, ap, ◌∙◌}
use Rattle.laws.specs.Bytes.{is_blank}
use Rattle.laws.specs.Said.{or_else}
use Rattle.words.specs.Words.{words, grown, onto_word}
use Rattle.name_table.specs.Places.{names_of}
use Rattle.name_table.specs.declared.NameList.TheVariants.{Polarities}
use Rattle.records.proofs.Columns.{told-else}
use Rattle.line_rules.specs.Fields.{word_line}
use Rattle.line_rules.specs.Tables.{polarities}
use Rattle.named_lines.proofs.TableLaws.{line-fault, line-within, line-means}
use Rattle.named_lines.proofs.lookups.polarity_of.Goals as goal

pub polarity_at-requires : goal.polarity_at-requires
unfolding words grown onto_word is_blank names_of polarities
polarity_at-requires c =
    line-within polarities Polarities refl c.args.w.now c.listed_word.ensures c.in-Ok.is

pub returns-in-Ok : goal.returns-in-Ok
unfolding words grown onto_word is_blank names_of polarities
returns-in-Ok c =
    let w = c.args.w.now in
    sym (ap (or_else None) (line-means polarities Polarities refl w c.listed_word.ensures c.in-Ok.is c.polarity_at.ensures))

pub returns-in-Err : goal.returns-in-Err
unfolding words grown onto_word is_blank names_of polarities
returns-in-Err c =
    let w = c.args.w.now in
    sym (ap (or_else None) (line-fault polarities Polarities refl w c.listed_word.ensures c.in-Err.is))
    ∙ told-else w None (word_line polarities w)
