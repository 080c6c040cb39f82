-- As many of the bytes as have room are stored at once: `put_part`.
use Prim.Native.Nat.{ℕ, ◌+◌, ◌-◌, ◌≤◌}
use mathlib.Core.Path.{◌≡◌, sym, ap, ◌∙◌}
use native.Mathlib.Omega.{arith}
use lib.ListN.{length, take, drop, replicate, length-take, length-drop, length-replicate}
use Rattle.std.proofs.lemmas.List.{take-replicate}
use Rattle.text_buffer.specs.Pages.{sheet}
use Rattle.text_buffer.proofs.Laws.{put_part}
use Rattle.text_buffer.proofs.page.Page.put_repeated.Goals as goal

pub returns : goal.returns
returns c =
    let a = c.args in
    let p = a.self.now in
    let n = c.min-fitting.result in
    let k : p.at + n - p.at ≡ n = omega arith in
    let w = p.within in
    let f : n ≤ a.count = omega (arith, c.min-fitting.ensures) in
    let e : length (take (p.at + n - p.at) (drop p.at p.bytes.now)) ≡ n = omega (arith, c.min-fitting.ensures, length-take {A = ℕ}, length-drop {A = ℕ}) in
    let t : c.fill.new.self ≡ take n (replicate a.count a.byte) = c.fill.ensures.after (λ y q. q) ∙ ap (λ (m : ℕ). replicate m a.byte) e ∙ sym (take-replicate n a.count a.byte f) in
    put_part (replicate a.count a.byte) c.fill.new.self n (p.at + n - p.at) (sheet p) w (omega (arith, c.min-fitting.ensures, length-replicate a.count a.byte)) k t
