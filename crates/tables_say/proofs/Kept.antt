-- Equal tables and headers say the same: from the first section on, with nothing before it; and lent tables that hold two files with equal
-- counts hold equal tables.
use Prim.Native.Nat.{ℕ}
use mathlib.Core.Path.{◌≡◌, refl, sym, ap, ◌∙◌}
use mathlib.Core.List.{List, []}
use lib.ListN.{length}
use Rattle.layout.specs.Laid.{Tables, tables, Laid, laid}
use Rattle.records.specs.Stored.{stored, over}
use Rattle.records.specs.declared.Counts.{Counts}
use Rattle.records.specs.declared.Header.{Header}
use Rattle.records.specs.declared.Row.{Row}
use Rattle.tables_say.specs.Kept.{Kept, Begins, Holds, KeptInTables}
use Rattle.tables_say.proofs.Sections.{next-alike, same-sections}
use Rattle.tables_say.proofs.Stored.{rows_from, AllBack, all_back, rows_back}

pub kept : Kept
unfolding laid
kept f g h e =
    record {
      name = ap (λ (x : Header). x.name) h;
      revision = ap (λ (x : Header). x.revision) h;
      sections = same-sections 0 (tables [] [] [] [] [] [] []) [] [] f.sections g.sections e;
    }

-- ---- as they are lent

same-begin : {A : Type 0} (xs ys table : List A) → length xs ≡ length ys → Begins xs table → Begins ys table → xs ≡ ys
same-begin xs ys table n h k = next-alike [] xs ys h.0 k.0 n (sym h.1 ∙ k.1)

same_rows : (xs ys : List Row) (table : List ℕ) → length xs ≡ length ys → AllBack xs → AllBack ys → Begins (stored xs) table → Begins (stored ys) table → xs ≡ ys
same_rows xs ys table n a b h k =
    same-begin xs ys (rows_from table) n (rows_from h.0, ap rows_from h.1 ∙ rows_back xs h.0 a) (rows_from k.0, ap rows_from k.1 ∙ rows_back ys k.0 b)

pub kept-in-tables : KeptInTables
kept-in-tables u f g e n h k =
    let components = same-begin (laid f).components (laid g).components u.components (ap (λ (c : Counts). c.components) n) h.components k.components in
    let pins = same-begin (laid f).pins (laid g).pins u.pins (ap (λ (c : Counts). c.pins) n) h.pins k.pins in
    let selectors = same-begin (laid f).selectors (laid g).selectors u.selectors (ap (λ (c : Counts). c.selectors) n) h.selectors k.selectors in
    let choices = same-begin (laid f).choices (laid g).choices u.choices (ap (λ (c : Counts). c.choices) n) h.choices k.choices in
    let models = same-begin (laid f).models (laid g).models u.models (ap (λ (c : Counts). c.models) n) h.models k.models in
    let waveforms = same-begin (laid f).waveforms (laid g).waveforms u.waveforms (ap (λ (c : Counts). c.waveforms) n) h.waveforms k.waveforms in
    let rows = same_rows (laid f).rows (laid g).rows u.rows (ap (λ (c : Counts). c.rows) n) (all_back f) (all_back g) h.rows k.rows in
    kept f g e (λ i. tables (components i) (pins i) (selectors i) (choices i) (models i) (waveforms i) (rows i))

-- what is laid over what the tables held: they then hold it
pub over-holds : (t : Tables ℕ) (a : Laid)
    → Holds
    (tables (over t.components a.components) (over t.pins a.pins) (over t.selectors a.selectors) (over t.choices a.choices)
    (over t.models a.models) (over t.waveforms a.waveforms) (over t.rows (stored a.rows)))
    a
unfolding over
over-holds t a =
    record {
      components = (_, refl);
      pins = (_, refl);
      selectors = (_, refl);
      choices = (_, refl);
      models = (_, refl);
      waveforms = (_, refl);
      rows = (_, refl);
    }
