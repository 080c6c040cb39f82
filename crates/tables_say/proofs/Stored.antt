-- Rows that are read come back from their words: every number that is read fits its word, so no two rows have the same four.
use Rattle.std.specs.Prelude.{Ok, Err}
use Prim.Native.Nat.{ℕ, ◌+◌}
use mathlib.Core.Path.{◌≡◌, refl, ap₂}
use mathlib.Core.List.{List, [], ◌∷◌, ◌++◌, flat_map}
use mathlib.Core.Bool.{false}
use Rattle.laws.specs.Said.{Said}
use Rattle.decimal.specs.Decimal.{word_of, number_of, cell_of}
use Rattle.decimal.specs.Answers.{cell_in}
use Rattle.decimal.specs.Fine.{FineNumber, FineRead}
use Rattle.decimal.specs.declared.Decimal.{Decimal}
use Rattle.decimal.specs.declared.Cell.{Cell}
use Rattle.decimal.specs.declared.Cell.TheVariants.{Number, Missing}
use Rattle.decimal.proofs.Cells.{kept}
use Rattle.decimal.proofs.Fine.{number-fine, cell-fine}
use Rattle.words.specs.Words.{rest_from}
use Rattle.records.specs.Flaws.{Reads}
use Rattle.line_rules.specs.Fields.{word_by, cells_by, row_of}
use Rattle.line_rules.proofs.Says.{Says, says_on, word-says, exactly-says}
use Rattle.rules.specs.Reading.{TableIs, tables_in, onto_rows, rows_in, SectionIs, component, selector, model, FileIs}
use Rattle.layout.specs.Laid.{Laid, rows_of, with_section, laid_from, laid}
use Rattle.records.specs.Stored.{stored}
use Rattle.records.specs.declared.Row.{Row}
use Rattle.records.specs.declared.Triple.{Triple}

-- ---- a row from its words

abbrev number_from : Cell → Decimal
number_from (Number d) = d
number_from Missing = record { negative = false; digits = 0; power = 0 }

abbrev row_from : ℕ → ℕ → ℕ → ℕ → Row
row_from a b c d = record { number = number_from (cell_in a); cells = record { typ = cell_in b; min = cell_in c; max = cell_in d } }

pub rows_from : List ℕ → List Row
rows_from [] = []
rows_from (a ∷ []) = []
rows_from (a ∷ b ∷ []) = []
rows_from (a ∷ b ∷ c ∷ []) = []
rows_from (a ∷ b ∷ c ∷ d ∷ ws) = row_from a b c d ∷ rows_from ws

abbrev CellBack : Cell → Type 0
CellBack c = cell_in (word_of c) ≡ c

abbrev NumberBack : Decimal → Type 0
NumberBack d = CellBack (Number d)

abbrev TripleBack : Triple → Type 0
TripleBack t = CellBack t.typ × CellBack t.min × CellBack t.max

abbrev RowBack : Row → Type 0
RowBack r = row_from (word_of (Number r.number)) (word_of r.cells.typ) (word_of r.cells.min) (word_of r.cells.max) ≡ r

row_back : (d : Decimal) (t : Triple) → CellBack (Number d) → TripleBack t → RowBack (record { number = d; cells = t })
row_back d t h k =
    λ i. record { number = number_from (h i); cells = record { typ = k.0 i; min = k.1 i; max = k.2 i } }

-- ---- what is read comes back

fine-number : (r : Said Decimal) → FineNumber r → Says NumberBack r
fine-number (Ok d) h = kept (Number d) h
fine-number (Err n) h = tt

fine-cell : (r : Said Cell) → FineRead r → Says CellBack r
fine-cell (Ok c) h = kept c h
fine-cell (Err n) h = tt

number-back : (w : List ℕ) → Says NumberBack (number_of w)
number-back w = fine-number (number_of w) (number-fine w)

cell-back : (w : List ℕ) → Says CellBack (cell_of w)
cell-back w = fine-cell (cell_of w) (cell-fine w)

cell_at : (n : ℕ) (v : List ℕ) → Says CellBack (word_by cell_of n v)
cell_at n v = word-says CellBack cell_of cell-back n v

cells-back : (v : List ℕ) → Says TripleBack (cells_by cell_of v)
unfolding cells_by
cells-back v =
    exactly-says TripleBack 3 _ v
    (says_on CellBack TripleBack (word_by cell_of 0 v) _ (cell_at 0 v)
    (λ a x. says_on CellBack TripleBack (word_by cell_of 1 v) _ (cell_at 1 v)
    (λ b y. says_on CellBack TripleBack (word_by cell_of 2 v) _ (cell_at 2 v)
    (λ c z. (x, y, z)))))

row_read : (w : List ℕ) → Says RowBack (row_of w)
unfolding row_of
row_read w =
    exactly-says RowBack 4 _ w
    (says_on NumberBack RowBack (word_by number_of 0 w) _ (word-says NumberBack number_of number-back 0 w)
    (λ d x. says_on TripleBack RowBack (cells_by cell_of (rest_from 1 w)) _ (cells-back (rest_from 1 w)) (λ t y. row_back d t x y)))

-- ---- the rows of a file

abbrev pub AllBack : List Row → Type 0
AllBack [] = Unit {0}
AllBack (r ∷ rs) = RowBack r × AllBack rs

back-both : (xs ys : List Row) → AllBack xs → AllBack ys → AllBack (xs ++ ys)
back-both [] ys h k = k
back-both (x ∷ xs) ys h k = (h.0, back-both xs ys h.1 k)

back-onto : (x : Reads Row) (rs : List Row) → Says RowBack x → AllBack rs → AllBack (onto_rows x rs)
back-onto (Ok r) rs h k = (h, k)
back-onto (Err f) rs h k = k

back_read : (ls : List (List ℕ)) → AllBack (rows_in ls)
unfolding rows_in
back_read [] = tt
back_read (w ∷ ws) = back-onto (row_of w) (rows_in ws) (row_read w) (back_read ws)

back-tables : (ts : List TableIs) → AllBack (flat_map rows_of ts)
unfolding flat_map
back-tables [] = tt
back-tables (t ∷ ts) = back-both (rows_of t) (flat_map rows_of ts) (back_read t.lines) (back-tables ts)

back-section : (n : ℕ) (l : Laid) (x : SectionIs) → AllBack l.rows → AllBack (with_section l n x).rows
back-section n l (component w ts) h = h
back-section n l (selector w ts) h = h
back-section n l (model w ts) h = back-both l.rows (flat_map rows_of (tables_in ts)) h (back-tables (tables_in ts))

back_from : (n : ℕ) (l : Laid) (xs : List SectionIs) → AllBack l.rows → AllBack (laid_from l n xs).rows
unfolding laid_from
back_from n l [] h = h
back_from n l (x ∷ xs) h = back_from (n + 1) (with_section l n x) xs (back-section n l x h)

pub all_back : (f : FileIs) → AllBack (laid f).rows
unfolding laid
all_back f = back_from 0 _ f.sections tt

-- from the front of the row store, whatever words follow
pub rows_back : (rs : List Row) (ws : List ℕ) → AllBack rs → rows_from (stored rs ++ ws) ≡ rs ++ rows_from ws
unfolding stored rows_from
rows_back [] ws h = refl
rows_back (r ∷ rs) ws h = ap₂ (λ (q : Row) (qs : List Row). q ∷ qs) h.0 (rows_back rs ws h.1)
