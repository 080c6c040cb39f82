-- Names of other lengths differ.
use mathlib.Core.Path.{sym, ◌∙◌}
use native.Mathlib.Omega.{arith}
use lib.ListN.{length-map}
use borrow.Author.Tests.{ne_eqb}
use Rattle.laws.proofs.Same.{eqs-apart}
use Rattle.words.specs.Spelled.{byte_as}
use Rattle.name_table.proofs.same_name.Goals as goal

pub returns-else-w-name : goal.returns-else-w-name
returns-else-w-name c =
    let a = c.args in
    ne_eqb _ _ c.if-w-name.false
    ∙ sym (eqs-apart _ _ (λ e. omega (arith, c.if-w-name.false, e, length-map a.w.now (byte_as a.how))))
