-- By whether a rest was found; the reader is asked of the file with blanks there.
use mathlib.Core.Path.{ap, ◌∙◌}
use Rattle.surplus_word.specs.Surplus.{blanked}
use Rattle.surplus_word.proofs.Laws.{blank_none, surplus-none, surplus-asked}
use Rattle.surplus_word.proofs.is_surplus.Goals as goal

pub returns-then-rest : goal.returns-then-rest
returns-then-rest c =
    let s = c.args.file.now in
    let r = c.find_rest-rest.result in
    record {
      value = surplus-none c.args.l s c.args.fault r c.find_rest-rest.ensures c.if-rest.true;
      file_after = blank_none s r c.if-rest.true ∙ ap (blanked s) c.find_rest-rest.ensures;
    }

pub returns : goal.returns
returns c =
    let s = c.args.file.now in
    let r = c.find_rest-rest.result in
    record {
      value = surplus-asked c.args.l s c.args.fault r c.find_rest-rest.ensures _ c.check.result c.is_ten.result c.if-rest.false c.put_blanks.ensures c.check.ensures c.is_ten.ensures;
      file_after = c.put_blanks.ensures ∙ ap (blanked s) c.find_rest-rest.ensures;
    }
