-- The library's test of a list for a byte is `among`.
use Rattle.std.proofs.Common.{ℕ, ◌≡◌, refl, sym, ◌∙◌, List, [], ◌∷◌}
use Rattle.std.specs.List.{list_any}
use lib.Dec.{eqb}
use borrow.Author.Tests.{eq-eqb, ne_eqb, eqb-true, eqb-false}
use Rattle.laws.proofs.Tests.{by-test}
use Rattle.laws.specs.Lists.{among}
use Rattle.cut_lines.proofs.is_mark.Goals as goal

turned : (x y : ℕ) → eqb x y ≡ eqb y x
turned x y = by-test (eqb y x) (λ e. eq-eqb x y (sym (eqb-true y x e)) ∙ sym e) (λ e. ne_eqb x y (λ q. eqb-false y x e (sym q)) ∙ sym e)

among-any : (b : ℕ) (l : List ℕ) → list_any (λ y. eqb y b) l ≡ among b l
unfolding among
among-any b [] = refl
among-any b (x ∷ l) = rw (turned x b, among-any b l) refl

pub returns : goal.returns
returns c = c.contains.ensures.value ∙ among-any _ _
