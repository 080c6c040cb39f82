-- By the LFs and the last byte: `Counted`.
use Rattle.std.proofs.Common.{rules, arith, ◌≡◌, ◌-◌, ◌<◌, ◌≤◌, length, get_or, sym, ◌∙◌}
use Rattle.std.specs.List.{count_by}
use lib.Dec.{eqb}
use Rattle.lines.proofs.Counted.{lines-open, lines-ended, lines-none, lines-le}
use Rattle.lines.proofs.count_lines.Goals as goal

pub returns-in-Some-clause-value : goal.returns-in-Some-clause-value
returns-in-Some-clause-value c =
    let n : c.count-ended.result ≡ count_by (λ b. eqb b 10) c.args.s.now = search rules in
    let e : c.in-Some.b.now ≡ get_or c.args.s.now (length c.args.s.now - 1) 0 = search rules in
    let h : 0 < length c.args.s.now = search rules in
    lines-open _ _ n h (λ q. c.if-b-ne10.true (e ∙ q))

pub returns-in-Some-clause-upper_bound : goal.returns-in-Some-clause-upper_bound
returns-in-Some-clause-upper_bound c = omega (arith, lines-le c.args.s.now, returns-in-Some-clause-value c)

pub returns-in_default-clause-value : goal.returns-in_default-clause-value
returns-in_default-clause-value c =
    let n : c.count-ended.result ≡ count_by (λ b. eqb b 10) c.args.s.now = search rules in
    let e : c.in-Some.b.now ≡ get_or c.args.s.now (length c.args.s.now - 1) 0 = search rules in
    let h : 0 < length c.args.s.now = search rules in
    lines-ended _ _ n h (sym e ∙ c.if-b-ne10.false)

pub returns-in_default-2-clause-value : goal.returns-in_default-2-clause-value
returns-in_default-2-clause-value c =
    let n : c.count-ended.result ≡ count_by (λ b. eqb b 10) c.args.s.now = search rules in
    let h : length c.args.s.now ≤ 0 = search rules in
    lines-none _ _ n h
