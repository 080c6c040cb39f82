-- Equality at each place; texts of other lengths are not the same.
use Rattle.std.proofs.Common.{rules, ◌≡◌, ◌<◌, ℕ, true, false, length, get_or, sym, ◌∙◌}
use borrow.Author.Tests.{ne_eqb}
use Rattle.std.proofs.lemmas.List.{length-map}
use Rattle.words.specs.Spelled.{byte_as}
use Rattle.laws.proofs.Same.{eqs-apart}
use Rattle.laws.proofs.Tests.{by-test}
use Rattle.words.proofs.ByPlaces.{eqs-all, eqs-differ}
use Rattle.words.proofs.same_as.Goals as goal

pub returns-then-w-name : goal.returns-then-w-name
returns-then-w-name c =
    let w = c.args.w.now in
    let name = c.args.name.now in
    let all : c.all.result ≡ true → (k : ℕ) → k < length w → byte_as c.args.how (get_or w k 0) ≡ get_or name k 0 = search rules in
    let differ : c.all.result ≡ false → (k : ℕ) × (k < length w) × (byte_as c.args.how (get_or w k 0) ≡ get_or name k 0 → ⊥) = search rules in
    by-test c.all.result
    (λ t. t ∙ eqs-all (byte_as c.args.how) _ _ c.if-w-name.true (all t))
    (λ t. let d = differ t in t ∙ eqs-differ (byte_as c.args.how) _ _ c.if-w-name.true d.0 d.1 d.2)

pub returns-else-w-name : goal.returns-else-w-name
returns-else-w-name c =
    ne_eqb _ _ c.if-w-name.false ∙ sym (eqs-apart _ _ (λ e. c.if-w-name.false (rw length-map at e)))
