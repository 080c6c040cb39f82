-- A text that was written into a buffer at a place; and what a page is, and is with a text behind what it holds.
use Rattle.std.specs.Prelude.{ℕ, ◌+◌, ◌/◌, ◌≤◌, min, ◌≡◌, Bool, List, [], ◌∷◌, length, cond, ltb, set}
use Rattle.std.proofs.lemmas.List.Edits.{sets}

-- the buffer before and after, and the place behind the text. What has no room is left out, and the place is then the buffer's end
pub record Put (before after : List ℕ) (at : ℕ) (text : List ℕ) (r : ℕ) : Type 0 where
  pub written : after ≡ sets before at text
  pub stop : r ≡ min (at + length text) (length before)
  pub within : r ≤ length after

-- a buffer's bytes, the place behind what is written, and the name of the reference by which the buffer was lent
pub record Sheet : Type 0 where
  pub bytes : List ℕ
  pub at : ℕ
  pub lent : ℕ

-- a byte goes to the place, and the place moves behind it; with no room, all stays
unfoldable pub put_one : ℕ → Sheet → Sheet
put_one x s = cond (ltb s.at (length s.bytes)) (record s { bytes = set s.bytes s.at x; at = s.at + 1 }) s

-- byte by byte. `Put` says the same at once (`written_put` in `proofs/Laws.antt`)
abbrev pub put : List ℕ → Sheet → Sheet
put [] s = s
put (x ∷ xs) s = put xs (put_one x s)

-- to be written anew from the front
abbrev pub turned : Sheet → Sheet
turned s = record s { at = 0 }

abbrev pub half_full : Sheet → Bool
half_full s = ltb (length s.bytes / 2) s.at
