-- The rows in the tables stand in lines, each in one of its own, and the first text is none of them: text by text, by what its keyword opens.
use Rattle.std.specs.Prelude.{Ok, Err, Option, None, Some}
use Prim.Native.Nat.{ℕ, ◌+◌, ◌≤◌}
use mathlib.Core.Path.{◌≡◌, refl, ap}
use mathlib.Core.List.{List, [], ◌∷◌, ◌++◌, flat_map}
use mathlib.Core.Bool.{Bool, true, false, cond, not}
use native.Mathlib.Omega.{arith}
use lib.ListN.{length, drop, length-append}
use Rattle.laws.specs.Bytes.{bytes}
use Rattle.laws.specs.Lists.{front, one_of}
use Rattle.laws.proofs.Tests.{by-test, cond_yes, cond_no, cond-all}
use Rattle.words.specs.Words.{words}
use Rattle.keywords.specs.declared.Section.{Section}
use Rattle.keywords.specs.declared.Section.TheVariants.{Component, Selector, Model}
use Rattle.keywords.specs.declared.Keyword.{Keyword}
use Rattle.keywords.specs.declared.Keyword.TheVariants as key
use Rattle.cut_lines.specs.Texts.{Text, plain, change}
use Rattle.line_rules.specs.Fields.{is_bracketed, row_of}
use Rattle.line_rules.specs.Tables.{table_keywords}
use Rattle.rules.specs.Reading.{key_name, argument_at, under, TableIs, tables_in, onto_rows, rows_in, is_within, SectionIs, sections_in, file_in}
use Rattle.rules.specs.Whole.{texts_of}
use Rattle.rules.specs.Keys.{key_at, opens, is_end, section_in, onto_sections}
use Rattle.rules.proofs.Keys.{within-key, section-at}
use Rattle.rules.proofs.Tables.{tables-skip}
use Rattle.records.specs.Flaws.{Reads}
use Rattle.records.specs.declared.Row.{Row}
use Rattle.layout.specs.Laid.{Laid, tables, rows_of, with_section, laid_from, laid}
use Rattle.room_for_rows.specs.Rows.{is_said, is_row, rows_among, LaidFit}
use Rattle.room_for_rows.proofs.Lines.{behind-first}

-- ---- a model's tables: what stands under a keyword is under no other

row-onto : (r : Reads Row) (rs : List Row) → length (onto_rows r rs) ≡ cond (is_said r) 1 0 + length rs
row-onto (Ok r) rs = omega arith
row-onto (Err f) rs = omega arith

module _ (ts : List Text) where
  -- the rows of the tables from here on, and those under the last keyword
  abbrev rows_from : ℕ
  rows_from = length (flat_map rows_of (tables_in ts))

  abbrev rows_under : ℕ
  rows_under = length (rows_in (under ts))

table_more : (t : Text) (ts : List Text) → rows_from (t ∷ ts) ≤ rows_under ts + rows_from ts
unfolding flat_map tables_in
table_more t ts =
    cond-all (λ (us : List TableIs). length (flat_map rows_of (us ++ tables_in ts)) ≤ rows_under ts + rows_from ts)
    (one_of (key_name t) (words (bytes table_keywords))) _ _
    (λ h. omega (arith, length-append (rows_in (under ts)) (flat_map rows_of (tables_in ts))))
    (λ h. omega arith)

table_none : (t : Text) (ts : List Text) → key_at t ≡ None → rows_from (t ∷ ts) ≡ rows_from ts
table_none t ts h = ap (λ (us : List TableIs). length (flat_map rows_of us)) (tables-skip t ts h)

tables-hold : (ts : List Text) → rows_from ts + rows_under ts ≤ rows_among ts
unfolding flat_map tables_in under rows_in rows_among is_row
tables-hold [] = omega arith
tables-hold (plain k w ∷ ts) =
    let more = tables-hold ts in
    by-test (is_bracketed w)
    (λ b. let u = ap (λ (ls : List (List ℕ)). length (rows_in ls)) (cond_yes [] (w ∷ under ts) b) in omega (arith, table_more (plain k w) ts))
    (λ b.
    let u = ap (λ (ls : List (List ℕ)). length (rows_in ls)) (cond_no [] (w ∷ under ts) b) in
    omega (arith, table_none (plain k w) ts (cond_no _ _ b), row-onto (row_of w) (rows_in (under ts))))
tables-hold (change k f ∷ ts) = omega (arith, table_none (change k f) ts refl, tables-hold ts)

-- ---- sections: what stands in one is in no other

section-holds : (l : Laid) (n : ℕ) (w : List ℕ) (ts : List Text) (o : Section)
    → length (with_section l n (section_in w ts o)).rows ≤ length l.rows + rows_among ts
section-holds l n w ts Component = omega arith
section-holds l n w ts Selector = omega arith
section-holds l n w ts Model = omega (arith, length-append l.rows (flat_map rows_of (tables_in ts)), tables-hold ts)

-- a keyword opens no section and ends none, or opens one and so ends the one above it, or is [End]
by-bound : (P : Option Section → Bool → Type 0) → P None false → ((o : Section) → P (Some o) true) → P None true
    → (x : Option Keyword) → P (opens x) (is_end x)
by-bound P p q r None = p
by-bound P p q r (Some key.IbisVer) = p
by-bound P p q r (Some (key.InHeader h)) = p
by-bound P p q r (Some (key.Opens o)) = q o
by-bound P p q r (Some (key.InComponent c)) = p
by-bound P p q r (Some (key.InModel m)) = p
by-bound P p q r (Some key.End) = r

-- the rows of the sections from ts on, and those that may stand in the section above them
abbrev Apart : List Text → Type 0
Apart ts = (l : Laid) (n : ℕ) → length (laid_from l n (sections_in ts)).rows + rows_among (front is_within ts) ≤ length l.rows + rows_among ts

module _ (t : Text) (ts : List Text) (apart : Apart ts) (l : Laid) (n : ℕ) where
  -- with the section that the text in front of them opens
  abbrev rows_with : Option Section → ℕ
  rows_with x = length (laid_from l n (onto_sections (argument_at t) (front is_within ts) (sections_in ts) x)).rows

  rows-with : (x : Option Section) → rows_with x ≤ length l.rows + rows_among ts
  unfolding laid_from
  rows-with None = omega (arith, apart l n)
  rows-with (Some o) =
      omega
      (arith, apart (with_section l n (section_in (argument_at t) (front is_within ts) o)) (n + 1), section-holds l n (argument_at t) (front is_within ts) o)

  rows_are : length (laid_from l n (sections_in (t ∷ ts))).rows ≡ rows_with (opens (key_at t))
  rows_are = ap (λ (xs : List SectionIs). length (laid_from l n xs).rows) (section-at t ts)

  rows_behind : length (laid_from l n (sections_in (t ∷ ts))).rows ≤ length l.rows + rows_among ts
  rows_behind = omega (arith, rows_are, rows-with (opens (key_at t)))

  apart-on : length (laid_from l n (sections_in (t ∷ ts))).rows + rows_among (front is_within (t ∷ ts)) ≤ length l.rows + rows_among (t ∷ ts)
  unfolding front rows_among
  apart-on =
      omega (
        arith,
        rows_are,
        ap (λ (b : Bool). rows_among (cond b (t ∷ front is_within ts) [])) (within-key t),
        by-bound
            (λ (x : Option Section) (b : Bool). rows_with x + rows_among (cond (not b) (t ∷ front is_within ts) []) ≤ length l.rows + rows_among (t ∷ ts))
            (omega (arith, apart l n)) (λ o. omega (arith, rows-with (Some o))) (omega (arith, rows-with None)) (key_at t),
      )

apart : (ts : List Text) → Apart ts
unfolding laid_from sections_in front rows_among
apart [] l n = omega arith
apart (t ∷ ts) l n = apart-on t ts (apart ts) l n

-- the first text is no row of a table
rows-laid : (ts : List Text) (l : Laid) (n : ℕ) → length (laid_from l n (sections_in ts)).rows ≤ length l.rows + rows_among (drop 1 ts)
unfolding laid_from sections_in
rows-laid [] l n = omega arith
rows-laid (t ∷ ts) l n = rows_behind t ts (apart ts) l n

pub laid-fit : LaidFit
unfolding laid file_in
laid-fit s h = omega (arith, rows-laid (texts_of s) (tables [] [] [] [] [] [] []) 0, behind-first s h)
