-- What is left of a page when a text is put for one place after another, and what a closure puts for a place.
use Rattle.std.specs.Prelude.{ℕ, zero, suc, ◌+◌, ◌≡◌}
use Rattle.std.specs.Fn.{Mut, AlwaysReturns}
use denote.Ref.{MutBor}
use Rattle.text_buffer.specs.Put.{Sheet}
use Rattle.text_buffer.specs.Pages.{sheet}
use Rattle.text_buffer.specs.declared.page.Page.{Page}
use Rattle.program_output.specs.Kept.{after_flush}

-- n places from a place on, one after another; behind each the page is written out if it is more than half full
unfoldable pub walked : (ℕ → Sheet → Sheet) → ℕ → ℕ → Sheet → Sheet
walked text from zero s = s
walked text from (suc n) s = after_flush (text (from + n) (walked text from n s))

-- from this closure on, each call for a place makes of the page what that place's text makes of it
abbrev pub Puts : {F : Type 0} → Mut F (MutBor Page × (ℕ × Unit {0})) (Unit {0} × (MutBor Page × Unit {0})) → F → (ℕ → Sheet → Sheet) → Type 0
Puts g put text = AlwaysReturns g (λ a r. sheet r.1.0.now ≡ text a.1.0 (sheet a.0.now)) put
