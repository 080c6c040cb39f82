-- The word lies where it was found.
use Prim.Native.Nat.{ℕ}
use mathlib.Core.Path.{◌∙◌, ap}
use mathlib.Core.List.{List}
use Rattle.refusal_text.specs.Hints.{hint_at}
use Rattle.text_buffer.specs.Pages.{sheet}
use Rattle.text_buffer.proofs.Laws.{put-text}
use Rattle.refusal_text.proofs.hints.put_hint_in.Goals as goal

pub slice_bounds-put_hint_at-count : goal.slice_bounds-put_hint_at-count
slice_bounds-put_hint_at-count c = c.find_word-found.ensures.starts

pub slice_bounds-put_hint_at-start : goal.slice_bounds-put_hint_at-start
slice_bounds-put_hint_at-start c = c.find_word-found.ensures.starts

pub slice_bounds-put_hint_at-end : goal.slice_bounds-put_hint_at-end
slice_bounds-put_hint_at-end c = c.find_word-found.ensures.ends

pub returns : goal.returns
returns c = c.put_hint_at.ensures ∙ put-text (sheet c.args.page.now) (ap (λ (v : List ℕ). hint_at c.args.w.now v c.args.number c.args.surplus) c.find_word-found.ensures.is)
