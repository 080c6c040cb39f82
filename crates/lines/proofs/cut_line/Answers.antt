-- The text stops at its line's end or before it, at the comment; what `trimmed` leaves of it is what the definition leaves, by `cut-length`.
use Prim.Native.Nat.{◌-◌, min}
use mathlib.Core.Path.{◌≡◌, ◌∙◌}
use native.Mathlib.Omega.{arith}
use lib.ListN.{length, drop}
use Rattle.laws.specs.Lists.{front, other}
use Rattle.lines.proofs.Places.{cut-length}
use Rattle.lines.proofs.Handed.{raw-handed, cut-read}
use Rattle.lines.proofs.cut_line.Goals as goal

pub line_to-whole-requires : goal.line_to-whole-requires
line_to-whole-requires c = record {
  at_in_bounds = c.requires;
  stop_value = c.line_end.ensures.value ∙ c.text_stop-stop.ensures.result_value;
}

pub slice_bounds-trimmed-count : goal.slice_bounds-trimmed-count
slice_bounds-trimmed-count c =
    let b = c in
    omega (arith, c.min-end.ensures, c.text_stop-stop.ensures.lower_bound, (raw-handed b.args.s.now b.args.at c.line_to-whole.result b.requires c.line_to-whole.ensures.value).starts)

pub slice_bounds-trimmed-start : goal.slice_bounds-trimmed-start
slice_bounds-trimmed-start c = slice_bounds-trimmed-count c

pub slice_bounds-trimmed-end : goal.slice_bounds-trimmed-end
slice_bounds-trimmed-end c = omega (arith, c.min-end.ensures, c.text_stop-stop.ensures.lower_bound)

pub returns : goal.returns
returns c =
    let b = c in
    let l = drop b.args.at b.args.s.now in
    let whole = c.line_to-whole in
    let stop = c.text_stop-stop in
    let lf = c.line_end in
    let end = c.min-end in
    let m : end.result - b.args.at ≡ min (whole.result.end - b.args.at) (length (front (other b.args.comment) l)) =
    omega (arith, end.ensures, stop.ensures.value, stop.ensures.result_value, lf.ensures.value, whole.ensures.end_le_stop) in
    cut-read b.args.s.now b.args.at b.args.comment whole.result c.trimmed-left.result whole.ensures.value
    (c.trimmed-left.ensures.value ∙ cut-length b.args.comment l (whole.result.end - b.args.at) (end.result - b.args.at) m)
