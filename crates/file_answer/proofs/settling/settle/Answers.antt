-- By whether a name is used twice, and how far the lines are read.
use mathlib.Core.Path.{sym, ◌∙◌}
use Rattle.name_checks.proofs.ClashLaws.{found-clash, no-clash}
use Rattle.file_answer.proofs.Laws.{small, clean-first}
use Rattle.file_answer.proofs.Accepts.{refuses, twice, broken, all_read}
use Rattle.file_answer.proofs.settling.settle.Goals as goal

pub scan-z-requires : goal.scan-z-requires
scan-z-requires c =
    let s = c.args.src.now in
    record {
      src_len_bound = (small c.args.l s c.requires.0, c.requires.1);
      clean_from = clean-first c.args.l s c.requires.0;
    }

pub first_clash-requires : goal.first_clash-requires
first_clash-requires c = c.scan-z.ensures.names_le_most_names.0

pub last_checks-requires : goal.last_checks-requires
last_checks-requires c =
    let a = c.args in
    all_read a.l a.src.now c.scan-z.new.notes c.scan-z.result c.requires.0 c.scan-z.ensures.first_cursor_value (no-clash _ (sym c.in-None.is ∙ c.first_clash.ensures)) c.in-Ok.is c.scan-z.ensures.names_le_most_names.1

pub returns-in-Some : goal.returns-in-Some
returns-in-Some c =
    let a = c.args in
    let s = a.src.now in
    refuses a.l s _ _ _ (twice a.l s c.scan-z.new.notes c.scan-z.result c.requires.0 c.scan-z.ensures.first_cursor_value _ (found-clash _ _ (sym c.in-Some.is ∙ c.first_clash.ensures))) c.refused_at.ensures

pub returns-in-Ok : goal.returns-in-Ok
returns-in-Ok c = c.last_checks.ensures

pub returns-in-Err : goal.returns-in-Err
returns-in-Err c =
    let a = c.args in
    let s = a.src.now in
    refuses a.l s _ _ _ (broken a.l s c.scan-z.new.notes c.scan-z.result c.requires.0 c.scan-z.ensures.first_cursor_value _ (no-clash _ (sym c.in-None.is ∙ c.first_clash.ensures)) c.in-Err.is) c.refused.ensures
