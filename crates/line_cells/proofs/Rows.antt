-- A row as words: the leftmost fault counts, which is never 0; and the words say the row.
use Rattle.std.specs.Prelude.{Result, Ok, Err}
use Prim.Native.Nat.{ℕ, ◌+◌, ◌≤◌, ◌<◌}
use mathlib.Core.Path.{◌≡◌, refl, sym, ap, ◌∙◌}
use mathlib.Core.List.{List, [], ◌∷◌}
use native.Mathlib.Omega.{arith}
use lib.Dec.{eqb}
use lib.ListN.{length, drop}
use borrow.Author.Tests.{ne_eqb}
use Rattle.laws.specs.Bytes.{is_blank}
use Rattle.laws.specs.Lists.{after}
use Rattle.laws.specs.Said.{Said, read_on}
use Rattle.laws.proofs.Tests.{cond_no, cond-all}
use Rattle.decimal.specs.Decimal.{number_of, cell_of}
use Rattle.decimal.specs.Fine.{Fine, FineNumber, FineCell, FineRead}
use Rattle.decimal.specs.Answers.{number_word, cell_word}
use Rattle.decimal.specs.declared.Decimal.{Decimal}
use Rattle.decimal.specs.declared.Cell.{Cell}
use Rattle.decimal.proofs.Fine.{number-fine, cell-fine}
use Rattle.decimal.proofs.Worded.{number-told, cell-told}
use Rattle.records.specs.Flaws.{Reads, flaw, told_in, said_at, said_there}
use Rattle.records.specs.declared.LineFault.{LineFault}
use Rattle.records.proofs.Columns.{Columned}
use Rattle.records.specs.declared.Triple.{Triple}
use Rattle.records.specs.declared.Row.{Row}
use Rattle.words.specs.Words.{word, words, rest_from}
use Rattle.words.specs.Places.{WordAt}
use Rattle.words.specs.declared.Word.{Word}
use Rattle.words.proofs.Laws.{rest-blank, words-rest}
use Rattle.line_rules.specs.Fields.{word_by, exactly, typ_min_max, cells_by, row_of}
use Rattle.line_rules.proofs.Columns.{number-columns, cell-columns}
use Rattle.line_rules.proofs.Told.{ten-at, exactly-yes, exactly-no, word-told}
use Rattle.rules.specs.Component.{pin_cells}
use Rattle.line_cells.specs.Threes.{bytes_of, ThreeAre}
use Rattle.line_cells.specs.Rows.{amiss_words, row_worded, amiss_or, words_from}
use Rattle.line_cells.specs.declared.RowWords.{RowWords}
use Rattle.line_cells.proofs.Laws.{kept, cells_told}

-- ---- what the code answers

pub row_other : (w : List ℕ) (p : ℕ) → (length (words w) ≡ 4 → ⊥) → rest_from 4 w ≡ drop p w → p ≤ length w → amiss_words 10 (p + 1) ≡ row_worded (told_in w (row_of w))
unfolding row_of
row_other w p h e k =
    sym (ap (λ (x : Reads Row). row_worded (told_in w x)) (exactly-no 4 _ w h ∙ ap (λ (v : List ℕ). Err (flaw 10 v)) e) ∙ ap (λ (f : LineFault). amiss_words f.number f.column) (ten-at w p k))

pub amiss-told : (r : RowWords) {n : ℕ} (p : ℕ) → (n ≡ 0 → ⊥) → amiss_or n p r ≡ amiss_words n (p + 1)
amiss-told r {n} p h = cond_no _ _ (ne_eqb n 0 h)

pub amiss-none : (r : RowWords) {n : ℕ} (p : ℕ) → n ≡ 0 → amiss_or n p r ≡ r
amiss-none r p e = rw e

abbrev row_by : {F : Type 0} → Result Decimal F → Result Triple F → Result Row F
row_by n t = read_on n (λ d. read_on t (λ c. Ok (record { number = d; cells = c })))

module _ (p q r u : ℕ) where
  worded : (n : Said Decimal) (a b c : Said Cell) → FineNumber n → FineRead a → FineRead b → FineRead c
      → words_from (number_word n) p (cell_word a) q (cell_word b) r (cell_word c) u
      ≡ row_worded (row_by (said_there p n) (typ_min_max kept (said_there q a) (said_there r b) (said_there u c)))
  unfolding words_from
  worded (Err k) a b c f g h i = rw (number-told (Err k) f) (amiss-told _ p (λ z. omega (arith, f.0)))
  worded (Ok d) (Err k) b c f g h i = rw (number-told (Ok d) f, cell-told (Err k) g) (amiss-told _ q (λ z. omega (arith, g.0)))
  worded (Ok d) (Ok x) (Err k) c f g h i = rw (number-told (Ok d) f, cell-told (Ok x) g, cell-told (Err k) h) (amiss-told _ r (λ z. omega (arith, h.0)))
  worded (Ok d) (Ok x) (Ok y) (Err k) f g h i =
      rw (number-told (Ok d) f, cell-told (Ok x) g, cell-told (Ok y) h, cell-told (Err k) i) (amiss-told _ u (λ z. omega (arith, i.0)))
  worded (Ok d) (Ok x) (Ok y) (Ok z) f g h i =
      rw (number-told (Ok d) f, cell-told (Ok x) g, cell-told (Ok y) h, cell-told (Ok z) i) refl

-- blanks before the cells mean nothing
cells_same : (typ : List ℕ → Said Cell) (v u : List ℕ) → words v ≡ words u → ((n : ℕ) → rest_from n v ≡ rest_from n u) → cells_by typ v ≡ cells_by typ u
unfolding cells_by exactly word_by
cells_same typ v u e f = rw (e, f 0, f 1, f 2, f 3) refl

cells-blank : (typ : List ℕ → Said Cell) (v : List ℕ) → cells_by typ (rest_from 0 v) ≡ cells_by typ v
unfolding rest_from
cells-blank typ v = cells_same typ (after is_blank v) v (words-rest 0 v) (λ n. rest-blank n v)

pub pin-cells-blank : (v : List ℕ) → pin_cells (rest_from 0 v) ≡ pin_cells v
unfolding pin_cells
pin-cells-blank v = rw (words-rest 0 v, cells-blank cell_of v) refl

told-by : (w : List ℕ) (n : Reads Decimal) (t : Reads Triple) → told_in w (row_by n t) ≡ row_by (told_in w n) (told_in w t)
told-by w (Ok d) (Ok t) = refl
told-by w (Ok d) (Err f) = refl
told-by w (Err f) t = refl

-- of just four words
module _ {w : List ℕ} {a b c d : Word} (first : WordAt w 0 a) (four : words w ≡ bytes_of w a ∷ bytes_of w b ∷ bytes_of w c ∷ bytes_of w d ∷ []) (t : ThreeAre w a.end b c d) where
  row_told : told_in w (row_of w)
      ≡ row_by (said_there a.start (number_of (bytes_of w a))) (typ_min_max kept (said_there b.start (cell_of (bytes_of w b))) (said_there c.start (cell_of (bytes_of w c))) (said_there d.start (cell_of (bytes_of w d))))
  unfolding row_of
  row_told =
      ap (told_in w) (exactly-yes 4 _ w (ap length four))
      ∙ told-by w (word_by number_of 0 w) (cells_by cell_of (rest_from 1 w))
      ∙ ap (λ (n : Result Decimal LineFault). row_by n (told_in w (cells_by cell_of (rest_from 1 w)))) (word-told w 0 a first number_of (number-columns (bytes_of w a)))
      ∙ ap (λ (x : Reads Triple). row_by (said_there a.start (number_of (bytes_of w a))) (told_in w x)) (ap (cells_by cell_of) (first.next 0) ∙ cells-blank cell_of (drop a.end w))
      ∙ ap (row_by (said_there a.start (number_of (bytes_of w a)))) (cells_told cell_of cell-columns t)

  pub row-worded : {x y z u : ℕ} → x ≡ number_word (number_of (bytes_of w a)) → y ≡ cell_word (cell_of (bytes_of w b)) → z ≡ cell_word (cell_of (bytes_of w c)) → u ≡ cell_word (cell_of (bytes_of w d))
      → words_from x a.start y b.start z c.start u d.start ≡ row_worded (told_in w (row_of w))
  row-worded e f g h =
      rw (e, f, g, h)
      (worded a.start b.start c.start d.start (number_of (bytes_of w a)) (cell_of (bytes_of w b)) (cell_of (bytes_of w c)) (cell_of (bytes_of w d))
      (number-fine (bytes_of w a)) (cell-fine (bytes_of w b)) (cell-fine (bytes_of w c)) (cell-fine (bytes_of w d))
      ∙ ap row_worded (sym row_told))

-- ---- what is read is fine

abbrev CellsFine : Reads Triple → Type 0
CellsFine (Ok t) = FineCell t.typ
CellsFine (Err f) = Columned f.number

abbrev RowFine : Reads Row → Type 0
RowFine (Ok r) = Fine r.number × FineCell r.cells.typ
RowFine (Err f) = Columned f.number

three-fine : (p q r : List ℕ) (a b c : Said Cell) → FineRead a → FineRead b → FineRead c → CellsFine (typ_min_max kept (said_at p a) (said_at q b) (said_at r c))
three-fine p q r (Err n) b c f g h = (omega (arith, f.0), f.1)
three-fine p q r (Ok x) (Err n) c f g h = (omega (arith, g.0), g.1)
three-fine p q r (Ok x) (Ok y) (Err n) f g h = (omega (arith, h.0), h.1)
three-fine p q r (Ok x) (Ok y) (Ok z) f g h = f

cells-fine : (v : List ℕ) → CellsFine (cells_by cell_of v)
unfolding cells_by exactly word_by
cells-fine v =
    cond-all CellsFine (eqb (length (words v)) 3) _ _
    (λ h. three-fine (rest_from 0 v) (rest_from 1 v) (rest_from 2 v) (cell_of (word 0 (words v))) (cell_of (word 1 (words v))) (cell_of (word 2 (words v))) (cell-fine (word 0 (words v))) (cell-fine (word 1 (words v))) (cell-fine (word 2 (words v))))
    (λ h. (omega arith, omega arith))

by-fine : (p : List ℕ) (n : Said Decimal) (t : Reads Triple) → FineNumber n → CellsFine t → RowFine (row_by (said_at p n) t)
by-fine p (Err k) t f g = (omega (arith, f.0), f.1)
by-fine p (Ok d) (Err k) f g = g
by-fine p (Ok d) (Ok t) f g = (f, g)

row_fine : (w : List ℕ) → RowFine (row_of w)
unfolding row_of exactly word_by
row_fine w =
    cond-all RowFine (eqb (length (words w)) 4) _ _
    (λ h. by-fine (rest_from 0 w) (number_of (word 0 (words w))) (cells_by cell_of (rest_from 1 w)) (number-fine (word 0 (words w))) (cells-fine (rest_from 1 w)))
    (λ h. (omega arith, omega arith))

-- ---- a row's words say it

-- x is the row that the text w says
pub record RowThere (w : List ℕ) (x : RowWords) : Type 0 where
  pub row : Row
  pub said : Ok row ≡ row_of w
  pub words : x ≡ row_worded (Ok row)
  pub number : Fine row.number
  pub typ : FineCell row.cells.typ

module _ (w : List ℕ) {x : RowWords} (e : x ≡ row_worded (told_in w (row_of w))) where
  there : (y : Reads Row) → y ≡ row_of w → RowFine y → x ≡ row_worded (told_in w y) → x.fault ≡ 0 → RowThere w x
  there (Ok r) q f d z = record { row = r; said = q; words = d; number = f.0; typ = f.1 }
  there (Err g) q f d z = absurd (omega (arith, f.0, ap (λ (v : RowWords). v.fault) d))

  pub row-there : x.fault ≡ 0 → RowThere w x
  row-there z = there (row_of w) refl (row_fine w) e z

  amiss : (y : Reads Row) → RowFine y → x ≡ row_worded (told_in w y) → (x.fault ≡ 0 → ⊥) → (Err (record { number = x.fault; column = x.column }) ≡ told_in w y) × (x.fault < 256)
  amiss (Ok r) f d z = absurd (z (ap (λ (v : RowWords). v.fault) d))
  amiss (Err g) f d z =
      (ap (λ (v : RowWords). Err (record { number = v.fault; column = v.column })) d, omega (arith, f.1, ap (λ (v : RowWords). v.fault) d))

  pub row-amiss : (x.fault ≡ 0 → ⊥) → (Err (record { number = x.fault; column = x.column }) ≡ told_in w (row_of w)) × (x.fault < 256)
  row-amiss z = amiss (row_of w) (row_fine w) e z
