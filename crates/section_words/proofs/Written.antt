-- A keyword is taken, and what stands under it is written: nothing, a current table's rows, or a waveform's record and rows.
use Prim.Native.Nat.{ℕ, ◌+◌, ◌/◌, ◌^◌, ◌≤◌, ◌<◌}
use mathlib.Core.Path.{◌≡◌, refl, ap, ◌∙◌}
use mathlib.Core.List.{List, []}
use native.Mathlib.Omega.{arith}
use lib.ListN.{length}
use lib.Seq.{sets}
use Rattle.laws.specs.Said.{or_else}
use Rattle.laws.specs.Lists.{after}
use Rattle.keywords.specs.declared.CurrentTable.{CurrentTable}
use Rattle.keywords.specs.declared.Keyword.{Keyword}
use Rattle.keywords.specs.declared.Keyword.TheVariants.{InModel}
use Rattle.keywords.specs.declared.ModelPart.TheVariants.{Current, Waveform}
use Rattle.cut_lines.specs.Cursors.{rest, Placed}
use Rattle.cut_lines.specs.declared.Cursor.{Cursor}
use Rattle.line_rules.specs.Fields.{three_cells}
use Rattle.rules.specs.Reading.{under, waveform_in}
use Rattle.records.specs.Stored.{no_cells, stored}
use Rattle.records.specs.declared.Edge.{Edge}
use Rattle.records.specs.declared.Triple.{Triple}
use Rattle.record_words.specs.Records.{waveform_words, waveform_size}
use Rattle.lines_under.specs.Under.{is_keyless, StopsAt}
use Rattle.lines_under.proofs.Keyed.{keys-stop}
use Rattle.table_rows.specs.Rows.{rows_at, FillIs}
use Rattle.table_rows.specs.Parts.{key_rows}
use Rattle.table_rows.specs.declared.Filled.{Filled}
use Rattle.table_rows.proofs.RowWalks.{lies-start}
use Rattle.model_record.specs.Bodies.{body_step, BodyFits}
use Rattle.model_record.specs.declared.Body.{Body}
use Rattle.model_record.proofs.Takes.{taken, rows_are, current-taken, wave-taken}
use Rattle.section_words.specs.Parts.{table_from}
use Rattle.section_words.specs.Models.{waveform_under, Turns, KeyFills}
use Rattle.section_words.proofs.Laws.{sets-front}
use Rattle.section_words.proofs.Turns.{spanned, current-turns, wave-turns}

-- nothing stands under keyword k, and x is the record with what it says
module _ (s : List ℕ) (b : Body) (w : List ℕ) (c : Cursor) (k : Keyword) (model waves store : List ℕ)
    (none : waveform_under s c k b.row ≡ []) (empty : key_rows k (under (rest s c)) ≡ []) where
  abbrev Filled-at : Cursor → List ℕ → Type 0
  Filled-at n model' = KeyFills s b k w c model model' waves waves store store (record { next = n; used = record { waveforms = 0; rows = 0 } })

  filled_at : (n : Cursor) (model' : List ℕ) → BodyFits (body_step b k w (under (rest s c))) n → after is_keyless (rest s c) ≡ after is_keyless (rest s n)
      → Placed s n → c.at ≤ n.at → Turns model model' b (body_step b k w (under (rest s c))) → Filled-at n model'
  unfolding stored
  filled_at n model' fits keys placed rises t =
      let y : stored (key_rows k (under (rest s c))) ≡ [] = ap stored empty in
      record { taken = taken k _ n refl refl fits keys placed rises; turns = t; waveform = rw none (lies-start waves); rows = rw y (lies-start store) }

  -- no line is read
  pub none_filled : Placed s c → BodyFits (body_step b k w (under (rest s c))) c → (model' x : List ℕ) → model' ≡ x → Turns model x b (body_step b k w (under (rest s c)))
      → Filled-at c model'
  none_filled h fits model' x e t = filled_at c model' fits refl h (omega arith) (λ n start name f behind i. e ∙ t n start name f behind i)

  -- the lines up to the next keyword are read
  pub lines-filled : {n : Cursor} → StopsAt s c n → BodyFits (body_step b k w (under (rest s c))) n → (model' x : List ℕ) → model' ≡ x → Turns model x b (body_step b k w (under (rest s c)))
      → Filled-at n model'
  lines-filled {n} h fits model' x e t = filled_at n model' fits (keys-stop h) h.placed h.rises (λ m start name f behind i. e ∙ t m start name f behind i)

module _ {s : List ℕ} {c : Cursor} {before behind : List ℕ} {r : Filled} (f : FillIs s c before behind r)
    (b : Body) (h : b.row < 2 ^ 63 + c.at) (l : b.waveforms < c.at) (w : List ℕ) where
  abbrev cells : Triple
  cells = or_else no_cells (three_cells w)

  abbrev ls : List (List ℕ)
  ls = under (rest s c)

  pub current-filled : (t : CurrentTable) (model model' waves : List ℕ) → model' ≡ spanned b cells w ls (r.words / 4) model model (table_from t) b.row
      → KeyFills s b (InModel (Current t)) w c model model' waves waves before behind (record { next = r.next; used = record { waveforms = 0; rows = r.words } })
  current-filled t model model' waves e =
      record {
        taken = current-taken f b h l w t _ refl;
        turns =
            λ n start name g rest i.
            e ∙ ap (λ (k : ℕ). spanned b cells w ls k model model (table_from t) b.row) (rows_are f) ∙ current-turns b cells w ls (length (rows_at s c)) model t n start name g rest i;
        waveform = lies-start waves;
        rows = record { used = f.words; store = f.rows };
      }

  pub wave-filled : (e : Edge) (model waves waves' new : List ℕ) → waveform_size ≤ length waves → waves' ≡ sets waves 0 new
      → new ≡ waveform_words (waveform_in b.row e ls)
      → KeyFills s b (InModel (Waveform e)) w c model model waves waves' before behind
      (record { next = r.next; used = record { waveforms = waveform_size; rows = r.words } })
  wave-filled e model waves waves' new room put i =
      record {
        taken = wave-taken f b h l w e _ refl;
        turns = wave-turns b cells w ls (length (rows_at s c)) model e;
        waveform = record { used = refl; store = put ∙ ap (sets waves 0) i ∙ sets-front waves (waveform_words (waveform_in b.row e ls)) room };
        rows = record { used = f.words; store = f.rows };
      }
