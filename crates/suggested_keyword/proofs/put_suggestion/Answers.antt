-- The name lies between the line's first byte and its first `]` (`inside-at`).
use Rattle.keywords.proofs.Laws.{inside-at}
use Rattle.suggested_keyword.proofs.Laws.{inside-none, suggested}
use Rattle.text_buffer.proofs.Laws.{put-text}
use Rattle.text_buffer.specs.Pages.{sheet}
use borrow.Author.Tests.{eqb-true}
use lib.ListN.{length}
use mathlib.Core.Path.{sym, ◌∙◌}
use Rattle.suggested_keyword.proofs.put_suggestion.Goals as goal

pub returns-then-is_empty : goal.returns-then-is_empty
returns-then-is_empty c =
    let line = c.args.line.now in
    let none = eqb-true (length line) 0 (sym c.is_empty.ensures ∙ c.if-is_empty.true) in
    c.put_nearest.ensures ∙ put-text (sheet c.args.page.now) (suggested line line (inside-none line none))

pub returns-else-is_empty : goal.returns-else-is_empty
returns-else-is_empty c =
    let line = c.args.line.now in
    c.put_nearest-else-is_empty.ensures ∙ put-text (sheet c.args.page.now) (suggested line _ (inside-at line _ c.find-stop.ensures.value))
