-- The bytes so far are put as they are shown, one more each turn.
use mathlib.Core.Path.{◌≡◌}
use mathlib.Core.List.{map}
use lib.ListN.{take}
use Rattle.refusal_text.specs.Shown.{shown_as}
use Rattle.text_buffer.specs.Pages.{sheet}
use Rattle.text_buffer.specs.Put.{put}
use Rattle.refusal_text.proofs.shown.put_shown.Given as goal

abbrev pub invariant-loop-byte : goal.invariant-loop-byte
invariant-loop-byte l = sheet l.page ≡ put (map (shown_as l.how) (take l.byte-index l.text)) (sheet l.initial.page)
