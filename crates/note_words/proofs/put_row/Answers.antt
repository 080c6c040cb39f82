-- Each word is the number itself, or the pair that was made of two.
use Prim.Native.Nat.{ℕ, ◌-◌, ◌+◌}
use mathlib.Core.Path.{ap, ◌∙◌}
use mathlib.Core.List.{List, [], ◌∷◌}
use lib.ListN.{set}
use lib.Seq.{sets}
use Rattle.note_words.specs.Store.{order_from, paired}
use Rattle.note_words.proofs.put_row.Goals as goal

pub returns : goal.returns
returns c =
    let a = c.args in
    let x = a.x in
    let words : ℕ → ℕ → List ℕ = λ n m. x.at ∷ n ∷ m ∷ (x.text_end - x.at) ∷ [] in
    ap (λ (l : List ℕ). set l (order_from + a.i) a.a)
    (c.put_words.ensures
    ∙ ap (λ (w : ℕ). sets a.notes.now a.a (words w c.pair-model.result)) c.pair-name.ensures
    ∙ ap (λ (w : ℕ). sets a.notes.now a.a (words (paired (x.name - x.at) (x.name_end - x.name)) w)) c.pair-model.ensures)
