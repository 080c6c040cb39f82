-- With the digits that are left, the page is as with all of them.
use mathlib.Core.Path.{◌≡◌}
use Rattle.text_buffer.specs.Numerals.{hexadecimal}
use Rattle.text_buffer.specs.Pages.{sheet}
use Rattle.text_buffer.specs.Put.{put}
use Rattle.text_buffer.proofs.page.Page.put_hexadecimal.Given as goal

abbrev pub invariant-loop-behind : goal.invariant-loop-behind
invariant-loop-behind l = put (hexadecimal l.behind l.number) (sheet l.self) ≡ put (hexadecimal l.count l.number) (sheet l.initial.self)
