-- The part of the text that has room is stored at once: `put_part`.
use Prim.Native.Nat.{◌+◌, ◌-◌}
use mathlib.Core.Path.{◌≡◌}
use native.Mathlib.Omega.{arith}
use Rattle.text_buffer.specs.Pages.{sheet}
use Rattle.text_buffer.proofs.Laws.{put_part}
use Rattle.text_buffer.proofs.page.Page.put_bytes.Goals as goal

pub returns : goal.returns
returns c =
    let p = c.args.self.now in
    let n = c.min-count.result in
    let k : p.at + n - p.at ≡ n = omega arith in
    put_part c.args.text.now c.copy_from_slice.new.self n (p.at + n - p.at) (sheet p) p.within c.min-count.ensures k c.copy_from_slice.ensures.after
