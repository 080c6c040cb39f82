-- What a turn adds to a walk: the text of its place, and a flush; and what a call leaves of a closure.
use Prim.Native.Nat.{ℕ, ◌+◌}
use mathlib.Core.Path.{◌≡◌, sym, ap, ◌∙◌}
use native.Mathlib.Numerals.{add-one}
use mathlib.Core.List.{[], ◌∷◌}
use denote.Ref.{MutBor}
use Rattle.std.specs.Fn.{Mut, Called}
use Rattle.text_buffer.specs.Pages.{sheet}
use Rattle.text_buffer.specs.declared.page.Page.{Page}
use Rattle.text_buffer.specs.Put.{Sheet}
use Rattle.program_output.specs.Kept.{after_flush}
use Rattle.program_output.specs.Walks.{walked, Puts}

pub walked-more : (text : ℕ → Sheet → Sheet) (from n k : ℕ) (s t u : Sheet) → k ≡ from + n → t ≡ text k (walked text from n s) → u ≡ after_flush t → u ≡ walked text from (n + 1) s
unfolding walked
walked-more text from n k s t u e f h =
    h ∙ ap after_flush (f ∙ ap (λ (m : ℕ). text m (walked text from n s)) e) ∙ sym (ap (λ (m : ℕ). walked text from m s) (add-one n))

-- a call puts its place's text, and the closure that it leaves goes on so
module _ {F : Type 0} (g : Mut F (MutBor Page × (ℕ × Unit {0})) (Unit {0} × (MutBor Page × Unit {0}))) (text : ℕ → Sheet → Sheet) {put put' : F} {before after : MutBor Page} {k : ℕ} {r : Unit {0}} (p : Puts g put text)
    (called : Called g put (before, (k, tt)) (r, (after, tt)) put') where
  pub puts-text : sheet after.now ≡ text k (sheet before.now)
  puts-text = (p.at ((before, (k, tt)) ∷ []) (r, (after, tt)) put' called).0

  pub puts-on : Puts g put' text
  puts-on = record { at = λ xs. (p.at ((before, (k, tt)) ∷ xs) (r, (after, tt)) put' called).1 }
