-- Rows written into the row store, line by line: the words so far lie over the row store as it was.
use Prim.Native.Nat.{ℕ, ◌+◌, ◌-◌, ◌/◌, ◌≤◌}
use mathlib.Core.Path.{◌≡◌, refl, sym, ap, ◌∙◌}
use mathlib.Core.List.{List, [], ◌++◌, append_assoc}
use native.Mathlib.Omega.{arith}
use lib.ListN.{length, length-append}
use borrow.Rule.Slice.PartMut.{put_mid, mid_of}
use Rattle.laws.specs.Lists.{part}
use Rattle.cut_lines.specs.Cursors.{Placed}
use Rattle.cut_lines.specs.declared.Cursor.{Cursor}
use Rattle.records.specs.declared.Row.{Row}
use Rattle.records.specs.Flaws.{told_in}
use Rattle.records.specs.Stored.{row_words, stored, over}
use Rattle.line_rules.specs.Fields.{row_of}
use Rattle.line_cells.specs.Rows.{row_worded}
use Rattle.line_cells.specs.declared.RowWords.{RowWords}
use Rattle.line_cells.proofs.Rows.{row-there, row-amiss}
use Rattle.lines_under.specs.Under.{LineNextIs}
use Rattle.lines_under.specs.declared.LineNext.{LineNext}
use Rattle.lines_under.specs.declared.LineNext.TheVariants as next
use Rattle.lines_under.proofs.Folds.{Gathers, gathers-start, gathers-line, gathers-end}
use Rattle.table_rows.specs.Rows.{Lies, rows_at, four_words, FillIs}
use Rattle.table_rows.proofs.Stores.{stored-length, over_none, over-length, over-rest}
use Rattle.table_rows.proofs.RowLaws.{row-fold, row_kept, worded, words-fold, words_small}

-- ---- words over the row store

pub lies-start : (before : List ℕ) → Lies before before 0 []
lies-start before = record { used = refl; store = sym (over_none before) }

-- what is written is the front of what there is room for
module _ {before now : List ℕ} {used : ℕ} {written all : List ℕ} (p : Lies before now used written) (h : length all ≤ length before) where
  pub lies-length : (ahead : List ℕ) → all ≡ written ++ ahead → length now ≡ length before
  lies-length ahead e =
      ap length p.store ∙ over-length before written (omega (arith, ap length e, length-append written ahead))

  -- v is next
  module _ (v ahead : List ℕ) (e : all ≡ (written ++ v) ++ ahead) where
    pub lies-fit : used + length v ≤ length now
    lies-fit =
        omega (arith, p.used, ap length e, length-append (written ++ v) ahead, length-append written v, lies-length (v ++ ahead) (e ∙ append_assoc written v ahead))

    pub lies_more : Lies before (put_mid used (length now - used) now (over (mid_of used (length now - used) now) v)) (used + length v) (written ++ v)
    lies_more =
        record {
          used = omega (arith, p.used, length-append written v);
          store = over-rest before written v used p.used (omega (arith, lies-fit, lies-length (v ++ ahead) (e ∙ append_assoc written v ahead))) now p.store;
        }

-- what is written is put back into the whole table
pub lies-put : {before now : List ℕ} {used : ℕ} {written all : List ℕ} → Lies before now used written → length all ≤ length before
    → (v ahead : List ℕ) → all ≡ (written ++ v) ++ ahead
    → {mid mid' : List ℕ} {n : ℕ} → mid ≡ mid_of used (length now - used) now → Lies mid mid' n v
    → Lies before (put_mid used (length now - used) now mid') (used + n) (written ++ v)
lies-put p h v ahead e i t = rw (t.used, t.store, i) (lies_more p h v ahead e)

-- ---- a table's rows

pub record Fills (s : List ℕ) (c d : Cursor) (before now : List ℕ) (used : ℕ) : Type 0 where
  pub written : List ℕ
  pub gathers : Gathers (row-fold words-fold) s c d [] written
  pub lies : Lies before now used written

pub fills-start : (s : List ℕ) (c : Cursor) (before : List ℕ) → Placed s c → Fills s c c before before 0
fills-start s c before h = record { written = []; gathers = gathers-start (row-fold words-fold) s c [] h; lies = lies-start before }

module _ {s : List ℕ} {c d : Cursor} {before now : List ℕ} {used : ℕ} (p : Fills s c d before now used) where
  pub fills-length : length (stored (rows_at s c)) ≤ length before → length now ≡ length before
  fills-length h = lies-length p.lies h (stored (rows_at s d)) p.gathers.same

  module _ {r : LineNext} {a e : ℕ} {n : Cursor} (q : r ≡ next.Line a e n) (l : LineNextIs s d r) {x : RowWords} (i : x ≡ row_worded (told_in (part a e s) (row_of (part a e s)))) where
    abbrev line : List ℕ
    line = part a e s

    module _ (j : x.fault ≡ 0) (h : length (stored (rows_at s c)) ≤ length before) where
      with_row : Gathers (row-fold words-fold) s c n [] (p.written ++ four_words x)
      with_row =
          let t = row-there line i j in
          gathers-line p.gathers q l (ap (λ (y : RowWords). p.written ++ four_words y) t.words ∙ ap (worded p.written) t.said)

      pub fills-fit : used + 4 ≤ length now
      fills-fit = lies-fit p.lies h (four_words x) (stored (rows_at s n)) with_row.same

      pub fills-row : Fills s c n before (put_mid used (length now - used) now (over (mid_of used (length now - used) now) (four_words x))) (used + 4)
      fills-row =
          record { written = p.written ++ four_words x; gathers = with_row; lies = lies_more p.lies h (four_words x) (stored (rows_at s n)) with_row.same }

    pub fills-none : (x.fault ≡ 0 → ⊥) → Fills s c n before now used
    fills-none j =
        record { written = p.written; gathers = gathers-line p.gathers q l (row_kept (λ (ws : List ℕ) (y : Row). ws ++ row_words y) p.written line (row_of line) (row-amiss line i j).0); lies = p.lies }

  pub fills-end : {r : LineNext} {n : Cursor} → r ≡ next.NoLine n → LineNextIs s d r → FillIs s c before now (record { words = used; next = n })
  fills-end q l =
      let g = gathers-end p.gathers q l in
      record {
        words = p.lies.used ∙ ap length g.whole;
        rows = p.lies.store ∙ ap (over before) g.whole;
        stops = g.stops;
        bounded = omega (arith, g.grows (λ (v : List ℕ). length v / 4) words_small, ap length g.whole, stored-length (rows_at s c));
      }
