-- `decimal::letters_from`: std's test of a whole list is that of the laws.
use Prim.Native.Nat.{ℕ}
use mathlib.Core.Path.{◌≡◌, refl, ap, ◌∙◌}
use mathlib.Core.List.{List, [], ◌∷◌}
use mathlib.Core.Bool.{Bool, ◌&&◌}
use lib.ListN.{length}
use Rattle.std.proofs.Common.{rules, tests}
use Rattle.std.specs.List.{list_all}
use Rattle.std.proofs.lemmas.Iterator.{YieldsList-from_slice}
use Rattle.std.proofs.lemmas.Iterator.Search.{all_from_yields_List}
use Rattle.laws.specs.Bytes.{is_letter}
use Rattle.laws.specs.Lists.{all, part}
use Rattle.laws.proofs.Lists.{part-rest}
use Rattle.decimal.proofs.word.letters_from.Goals as goal

all-list : (p : ℕ → Bool) (l : List ℕ) → list_all p l ≡ all p l
unfolding all
all-list p [] = refl
all-list p (b ∷ bs) = ap (λ (t : Bool). p b && t) (all-list p bs)

pub returns : goal.returns
returns c =
    let w = c.args.w.now in
    let e = part-rest w c.args.at in
    all_from_yields_List is_letter _ _ c.all.result c.all.ensures.ran (YieldsList-from_slice (part c.args.at (length w) w) (search rules)) (λ x b q k. search (rules, tests))
    ∙ all-list is_letter _
    ∙ ap (all is_letter) e
