-- By the word's place in its list, `line-flaw`.
use mathlib.Core.Path.{refl, ap, ◌∙◌}
use Rattle.laws.specs.Bytes.{is_blank}
use Rattle.words.specs.Words.{words, grown, onto_word}
use Rattle.records.specs.Flaws.{Flaw, told, checked}
use Rattle.name_table.specs.Places.{names_of}
use Rattle.name_table.specs.declared.NameList.TheVariants.{Enables}
use Rattle.line_rules.specs.Tables.{enables}
use Rattle.named_lines.proofs.TableLaws.{line-flaw}
use Rattle.line_faults.proofs.enable_fault.Goals as goal

pub returns : goal.returns
unfolding words grown onto_word is_blank names_of enables
returns c =
    let w = c.args.w.now in
    c.word_line_fault.ensures ∙ ap (λ (f : Flaw). checked (told w f)) (line-flaw enables Enables refl w)
