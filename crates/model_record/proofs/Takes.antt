-- A keyword more: what it gives, where to read on, and the bounds; and what stands under it: nothing, a current table's rows, or a waveform with its rows.
use Rattle.std.specs.Prelude.{Some}
use Prim.Native.Nat.{ℕ, ◌+◌, ◌/◌, ◌^◌, ◌≤◌, ◌<◌}
use mathlib.Core.Path.{◌≡◌, refl, sym, ap, ◌∙◌, subst}
use mathlib.Core.List.{List, []}
use native.Mathlib.Omega.{arith}
use lib.ListN.{length}
use Rattle.laws.specs.Lists.{after}
use Rattle.laws.specs.Said.{or_else}
use Rattle.keywords.specs.declared.CurrentTable.{CurrentTable}
use Rattle.keywords.specs.declared.CurrentTable.TheVariants.{Pulldown, Pullup, GndClamp, PowerClamp}
use Rattle.keywords.specs.declared.Keyword.{Keyword}
use Rattle.keywords.specs.declared.Keyword.TheVariants.{InModel}
use Rattle.keywords.specs.declared.ModelPart.TheVariants.{Current, Waveform}
use Rattle.cut_lines.specs.Cursors.{rest, Placed}
use Rattle.cut_lines.specs.declared.Cursor.{Cursor}
use Rattle.line_rules.specs.Fields.{three_cells}
use Rattle.rules.specs.Reading.{under, no_ramp, ramp_in, waveform_in}
use Rattle.records.specs.Stored.{no_cells, stored}
use Rattle.records.specs.declared.Edge.{Edge}
use Rattle.records.specs.declared.Edge.TheVariants.{Rising}
use Rattle.records.specs.declared.RampTable.{RampTable}
use Rattle.records.specs.declared.Triple.{Triple}
use Rattle.records.specs.declared.Waveform as laid_waveform
use Rattle.lines_under.specs.Under.{is_keyless}
use Rattle.lines_under.proofs.Keyed.{keys-stop}
use Rattle.table_rows.specs.Rows.{rows_at, FillIs}
use Rattle.table_rows.specs.Parts.{key_rows}
use Rattle.table_rows.specs.declared.Filled.{Filled}
use Rattle.table_rows.proofs.Stores.{stored-length}
use Rattle.table_rows.proofs.RowWalks.{lies-start}
use Rattle.model_record.specs.Bodies.{part_on, body_step, BodyFits, KeyTaken}
use Rattle.model_record.specs.Takes.{key_waveform, alone, without_waveform, TakesKey}
use Rattle.model_record.specs.declared.Body.{Body}
use Rattle.model_record.specs.declared.Taken.{Taken}

-- k is the keyword v, and b' what the code made of it
pub taken : {s : List ℕ} {b : Body} {c : Cursor} {w : List ℕ} {k : Keyword} (v : Keyword) (b' : Body) (n : Cursor) → k ≡ v
    → b' ≡ body_step b v w (under (rest s c))
    → BodyFits (body_step b v w (under (rest s c))) n
    → after is_keyless (rest s c) ≡ after is_keyless (rest s n)
    → Placed s n
    → c.at ≤ n.at
    → KeyTaken s b k w c b' n
taken {s} {b} {c} {w} {k} v b' n q e f keys placed rises =
    record {
      body = e ∙ ap (λ (j : Keyword). body_step b j w (under (rest s c))) (sym q);
      keys = keys;
      placed = placed;
      rises = rises;
      fits = subst (λ (x : Body). BodyFits x n) (sym e) f;
    }

-- a current table's keyword says neither cells nor a ramp
pub part-current : (b : Body) (cells : Triple) (ramp : RampTable) (k : ℕ) (t : CurrentTable) → part_on b (Current t) no_cells no_ramp k ≡ part_on b (Current t) cells ramp k
part-current b cells ramp k Pulldown = refl
part-current b cells ramp k Pullup = refl
part-current b cells ramp k GndClamp = refl
part-current b cells ramp k PowerClamp = refl

module _ (b : Body) (cells : Triple) (ramp : RampTable) (k : ℕ) (n : Cursor) (h : b.row + k < 2 ^ 63 + n.at) (l : b.waveforms ≤ n.at) where
  pub current-fits : (t : CurrentTable) → BodyFits (part_on b (Current t) cells ramp k) n
  current-fits Pulldown = record { row = h; waveforms = l }
  current-fits Pullup = record { row = h; waveforms = l }
  current-fits GndClamp = record { row = h; waveforms = l }
  current-fits PowerClamp = record { row = h; waveforms = l }

-- ---- nothing stands under it

-- k is the keyword v
pub none-takes : {s : List ℕ} {b : Body} {w : List ℕ} {c : Cursor} {k : Keyword} (v : Keyword) → k ≡ v → (store : List ℕ) {b' : Body} {n : Cursor} → KeyTaken s b v w c b' n
    → key_rows v (under (rest s c)) ≡ [] → key_waveform alone v b.row (under (rest s c)) ≡ [] → {x : Taken} → x ≡ without_waveform b' n 0
    → TakesKey s b k w c store store x
unfolding stored
none-takes {s} {b} {w} {c} v q store t empty none {x} e =
    let y : stored (key_rows v (under (rest s c))) ≡ [] = ap stored empty in
    subst (λ (k : Keyword). TakesKey s b k w c store store x) (sym q)
    (subst (TakesKey s b v w c store store) (sym e) (record { taken = t; rows = rw y (lies-start store); waveform = sym none }))

-- ---- rows stand under it, which r writes

module _ {s : List ℕ} {c : Cursor} {before behind : List ℕ} {r : Filled} (f : FillIs s c before behind r) where
  -- four words a row
  pub rows_are : r.words / 4 ≡ length (rows_at s c)
  rows_are = omega (arith, f.words, stored-length (rows_at s c))

  module _ (b : Body) (h : b.row < 2 ^ 63 + c.at) (l : b.waveforms < c.at) (w : List ℕ) where
    behind-row : b.row + length (rows_at s c) < 2 ^ 63 + r.next.at
    behind-row = omega (arith, h, f.bounded)

    abbrev cells : Triple
    cells = or_else no_cells (three_cells w)

    abbrev ramp : RampTable
    ramp = ramp_in w (under (rest s c))

    pub current-taken : (t : CurrentTable) (b' : Body) → b' ≡ part_on b (Current t) cells ramp (length (rows_at s c)) → KeyTaken s b (InModel (Current t)) w c b' r.next
    current-taken t b' e =
        taken (InModel (Current t)) b' r.next refl e (current-fits b cells ramp (length (rows_at s c)) r.next behind-row (omega (arith, l, f.stops.rises)) t)
        (keys-stop f.stops) f.stops.placed f.stops.rises

    pub wave-taken : (e : Edge) (b' : Body) → b' ≡ part_on b (Waveform e) cells ramp (length (rows_at s c)) → KeyTaken s b (InModel (Waveform e)) w c b' r.next
    wave-taken e b' i =
        taken (InModel (Waveform e)) b' r.next refl i (record { row = behind-row; waveforms = omega (arith, l, f.stops.rises) })
        (keys-stop f.stops) f.stops.placed f.stops.rises

    pub current-takes : (t : CurrentTable) (b' : Body) → b' ≡ part_on b (Current t) no_cells no_ramp (r.words / 4) → {x : Taken} → x ≡ without_waveform b' r.next r.words
        → TakesKey s b (InModel (Current t)) w c before behind x
    current-takes t b' i e =
        subst (TakesKey s b (InModel (Current t)) w c before behind) (sym e)
        (record {
          taken = current-taken t b' (i ∙ part-current b cells ramp (r.words / 4) t ∙ ap (part_on b (Current t) cells ramp) rows_are);
          rows = record { used = f.words; store = f.rows };
          waveform = refl;
        })

    pub wave-takes : (e : Edge) (b' : Body) → b' ≡ part_on b (Waveform Rising) no_cells no_ramp (r.words / 4) → (x : laid_waveform.Waveform) → x ≡ waveform_in b.row e (under (rest s c))
        → TakesKey s b (InModel (Waveform e)) w c before behind (record { body = b'; next = r.next; words = r.words; waveform = Some x })
    wave-takes e b' i x j =
        record {
          taken = wave-taken e b' (i ∙ ap (part_on b (Waveform e) cells ramp) rows_are);
          rows = record { used = f.words; store = f.rows };
          waveform = ap alone j;
        }
