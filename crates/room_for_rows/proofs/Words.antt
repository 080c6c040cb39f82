-- A row is four words, and n words take 2n - 1 bytes at least: by induction over the text, from each byte to what follows it.
use Prim.Native.Nat.{ℕ, ◌+◌, ◌*◌, ◌≤◌}
use mathlib.Core.Path.{◌≡◌, ap}
use mathlib.Core.List.{List, [], ◌∷◌}
use mathlib.Core.Bool.{true}
use native.Mathlib.Omega.{arith}
use lib.ListN.{length}
use lib.Dec.{eqb}
use borrow.Author.Tests.{eqb-true}
use Rattle.laws.specs.Bytes.{is_blank}
use Rattle.laws.proofs.Tests.{by-test, cond_no, never}
use Rattle.words.specs.Words.{onto_word, grown, words}
use Rattle.line_rules.specs.Fields.{exactly, row_of}
use Rattle.room_for_rows.specs.Rows.{is_said, is_row, RowTakesEight}

-- a byte in front of the first word adds a word only where there is none
onto-take : (b n : ℕ) (ws : List (List ℕ)) → 2 * length ws ≤ n → 2 ≤ n → 2 * length (onto_word b ws) ≤ n
unfolding onto_word
onto-take b n [] h k = k
onto-take b n (w ∷ ws) h k = h

words_take : (w : List ℕ) → 2 * length (words w) ≤ length w + 1
unfolding words grown
words_take [] = omega arith
words_take (b ∷ []) = by-test (is_blank b) (λ h. rw h (omega arith)) (λ h. rw h (omega arith))
words_take (b ∷ x ∷ xs) =
    let more = words_take (x ∷ xs) in
    by-test (is_blank b)
    (λ h. rw h (omega arith))
    (λ h.
    by-test (is_blank x)
    (λ k. rw (h, k) (omega (arith, words_take xs)))
    (λ k. rw (h, k) (onto-take b _ _ (let z = rw k at more in omega arith) (omega arith))))

row_words : (w : List ℕ) → is_row w ≡ true → length (words w) ≡ 4
unfolding is_row row_of exactly
row_words w h =
    by-test (eqb (length (words w)) 4)
    (λ e. eqb-true _ _ e)
    (λ e. absurd (never (is_row w) h (ap is_said (cond_no _ _ e))))

pub row-takes-eight : RowTakesEight
row-takes-eight w h = omega (arith, words_take w, row_words w h)
