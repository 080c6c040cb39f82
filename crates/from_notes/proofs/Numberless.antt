-- What does not read a line's number is the same from a cursor by words.
use Prim.Native.Nat.{ℕ, ◌+◌, ◌-◌}
use mathlib.Core.Path.{◌≡◌, refl, sym, ap, ◌∙◌}
use mathlib.Core.List.{List, [], ◌∷◌, map}
use native.Mathlib.Omega.{arith}
use lib.ListN.{drop}
use Rattle.lines.specs.Lines.{lines_of}
use Rattle.cut_lines.specs.Texts.{Text}
use Rattle.cut_lines.specs.Cursors.{rest}
use Rattle.cut_lines.specs.declared.Cursor.{Cursor}
use Rattle.cut_lines.proofs.Renumbered.{text_at, texts-map}
use Rattle.rules.proofs.Numberless.{Numberless}
use Rattle.from_notes.specs.Made.{BehindText}

texts-one : (s : List ℕ) (at comment k : ℕ)
    → map (text_at (λ n. n - k + 1)) (rest s (record { at = at; line = k; comment = comment })) ≡ rest s (record { at = at; line = 1; comment = comment })
unfolding rest
texts-one s at comment k = texts-map (λ n. n - k + 1) comment k 1 (lines_of (drop at s)) (λ i q. omega arith)

drop-one : (f : Text → Text) (ts : List Text) → drop 1 (map f ts) ≡ map f (drop 1 ts)
drop-one f [] = refl
drop-one f (t ∷ ts) = refl

-- behind the first text
pub stands-behind : {A : Type 0} (g : List Text → A) → Numberless g → {s : List ℕ} {at comment : ℕ} {c : Cursor} → BehindText s (record { at = at; line = 1; comment = comment }) c → (k : ℕ)
    → g (rest s c) ≡ g (drop 1 (rest s (record { at = at; line = k; comment = comment })))
stands-behind g n {s} {at} {comment} h k =
    let ts : List Text = rest s (record { at = at; line = k; comment = comment }) in
    ap g (h.texts ∙ ap (drop 1) (sym (texts-one s at comment k)) ∙ drop-one (text_at (λ n. n - k + 1)) ts) ∙ n (λ n. n - k + 1) (drop 1 ts)
