-- The name meets one of all exactly if it meets one of those before place j.
use mathlib.Core.Path.{◌≡◌, sym, ap, ◌∙◌}
use native.Mathlib.Omega.{arith}
use Rattle.laws.specs.Lists.{part}
use Rattle.name_checks.specs.Lookup.{meets_to}
use Rattle.name_checks.specs.declared.Meeting.TheVariants.{Equal, Differing, Beyond}
use Rattle.name_checks.proofs.ClashLaws.{meets_turn}
use Rattle.name_checks.proofs.clashes.is_used.Goals as goal

pub returns-in-Equal : goal.returns-in-Equal
returns-in-Equal c = sym (meets_turn c.args.src.now c.args.notes.now c.args.k (part c.args.name.start c.args.name.end c.args.src.now) c.loop-earlier.earlier _ Equal (omega arith) c.meet.ensures c.in-Equal.is) ∙ c.loop-earlier.invariant

pub returns-in-Beyond : goal.returns-in-Beyond
returns-in-Beyond c = sym (meets_turn c.args.src.now c.args.notes.now c.args.k (part c.args.name.start c.args.name.end c.args.src.now) c.loop-earlier.earlier _ Beyond (omega arith) c.meet.ensures c.in-Beyond.is) ∙ c.loop-earlier.invariant

pub loop-earlier-preserved : goal.loop-earlier-preserved
loop-earlier-preserved c = sym (meets_turn c.args.src.now c.args.notes.now c.args.k (part c.args.name.start c.args.name.end c.args.src.now) c.loop-earlier.earlier _ Differing (omega arith) c.meet.ensures c.in-Differing.is) ∙ c.loop-earlier.invariant

pub returns : goal.returns
unfolding meets_to
returns c =
    let none : c.loop-earlier.earlier ≡ 0 = omega arith in
    ap (meets_to c.args.src.now c.args.notes.now c.args.k (part c.args.name.start c.args.name.end c.args.src.now)) (sym none) ∙ c.loop-earlier.invariant
