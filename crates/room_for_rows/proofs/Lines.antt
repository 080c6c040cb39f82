-- Every text takes a byte of its own line, and a row seven more: line by line, where each line's bytes and its end are its own.
use Rattle.std.specs.Prelude.{Ok}
use Prim.Native.Nat.{ℕ, suc, ◌+◌, ◌*◌, ◌≤◌, ◌<◌}
use Prim.Native.Char.{code}
use mathlib.Core.Path.{◌≡◌}
use mathlib.Core.List.{List, [], ◌∷◌}
use mathlib.Core.Bool.{cond}
use native.Mathlib.Omega.{arith}
use lib.ListN.{length, drop}
use lib.Dec.{eqb}
use Rattle.laws.specs.Said.{or_else}
use Rattle.laws.proofs.Tests.{by-test, cond_yes, cond-all}
use Rattle.lines.specs.Lines.{Physical, is_return, onto_line, lines_of, fault_from, bytes_fault, cut}
use Rattle.lines.proofs.Numbers.{line-sound, line_clean, others-clean, cut_short}
use Rattle.lines.proofs.Clean.{file-passes}
use Rattle.cut_lines.specs.Change.{is_change, change_of}
use Rattle.cut_lines.specs.Texts.{Text, plain, change, onto_texts, texts_from}
use Rattle.rules.specs.Whole.{texts_of}
use Rattle.records.specs.Bounds.{most_rows}
use Rattle.room_for_rows.specs.Rows.{is_row, rows_among, LinesHoldRows}
use Rattle.room_for_rows.proofs.Words.{row-takes-eight}

-- ---- lines take the bytes of the file

-- a line's bytes, and one for its end
abbrev bytes_on : Physical → ℕ
bytes_on l = length l.bytes + cond l.ended 1 0

bytes_in : List Physical → ℕ
bytes_in [] = 0
bytes_in (l ∷ ls) = bytes_on l + bytes_in ls

onto-takes : (b : ℕ) (ls : List Physical) → bytes_in (onto_line b ls) ≡ suc (bytes_in ls)
unfolding bytes_in onto_line
onto-takes b [] = omega arith
onto-takes b (l ∷ ls) = omega arith

lines-take : (s : List ℕ) → bytes_in (lines_of s) ≤ length s
unfolding bytes_in lines_of
lines-take [] = omega arith
lines-take (b ∷ bs) =
    let more = lines-take bs in
    by-test (eqb b 10)
    (λ h. rw h (omega arith))
    (λ h. by-test (is_return b bs) (λ k. rw (h, k) (omega arith)) (λ k. rw (h, k) (omega (arith, onto-takes b (lines_of bs)))))

-- ---- texts take the bytes of their lines

row-takes : (w : List ℕ) → 7 * cond (is_row w) 1 0 ≤ length w
row-takes w = by-test (is_row w) (λ h. rw h (omega (arith, row-takes-eight w h))) (λ h. rw h (omega arith))

onto-text : (k n : ℕ) (w : List ℕ) (ts : List Text) → length w ≤ n
    → length (onto_texts k w ts) + 7 * rows_among (onto_texts k w ts) ≤ n + 1 + (length ts + 7 * rows_among ts)
unfolding onto_texts rows_among
onto-text k n [] ts h = omega arith
onto-text k n (b ∷ bs) ts h = omega (arith, row-takes (b ∷ bs))

texts-take : (c k : ℕ) (ls : List Physical) → fault_from k ls ≡ Ok tt
    → length (texts_from c k ls) + 7 * rows_among (texts_from c k ls) ≤ bytes_in ls
unfolding bytes_in texts_from rows_among
texts-take c k [] h = omega arith
texts-take c k (l ∷ ls) h =
    let others = others-clean k l ls h in
    let end : ◌≡◌ {A = ℕ} (cond l.ended 1 0) 1 = cond_yes 1 0 (line-sound l (line_clean k l ls h)).2 in
    cond-all (λ (ts : List Text). length ts + 7 * rows_among ts ≤ bytes_in (l ∷ ls)) (is_change l.bytes) _ _
    (λ t. omega (arith, texts-take (or_else c (change_of l.bytes)) (k + 1) ls others))
    (λ t. omega (arith, texts-take c (k + 1) ls others, onto-text k _ (cut c l.bytes) (texts_from c (k + 1) ls) (cut_short c l.bytes)))

-- a text is one row at most
rows-fewer : (ts : List Text) → rows_among ts ≤ length ts
unfolding rows_among
rows-fewer [] = omega arith
rows-fewer (plain k w ∷ ts) = let more = rows-fewer ts in by-test (is_row w) (λ h. rw h (omega arith)) (λ h. rw h (omega arith))
rows-fewer (change k f ∷ ts) = omega (arith, rows-fewer ts)

pub lines-hold-rows : LinesHoldRows
lines-hold-rows c k s h =
    omega (arith, texts-take c k (lines_of s) h, lines-take s, rows-fewer (texts_from c k (lines_of s)))

-- ---- a file without faults 1 to 4: the first text takes a byte, so behind it there is room for fewer

first-takes : (ts : List Text) (n : ℕ) → length ts + 7 * rows_among ts ≤ n → n ≤ 65536 → rows_among (drop 1 ts) < most_rows
unfolding rows_among
first-takes [] n h k = omega arith
first-takes (t ∷ ts) n h k = omega (arith, rows-fewer ts)

pub behind-first : (s : List ℕ) → bytes_fault s ≡ Ok tt → rows_among (drop 1 (texts_of s)) < most_rows
unfolding texts_of
behind-first s h =
    let passes = file-passes s h in
    first-takes (texts_of s) (length s) (omega (arith, texts-take (code "|") 1 (lines_of s) passes.1, lines-take s)) passes.0
