-- A model's rows by its record: the row store holds them at the place that the record names, whatever lies around them.
use Rattle.std.specs.Prelude.{Option, None, Some}
use Prim.Native.Nat.{ℕ, ◌+◌}
use Prim.Native.String.{String}
use mathlib.Core.Path.{◌≡◌, refl, sym, ap, ap₂, ◌∙◌}
use mathlib.Core.List.{List, [], ◌∷◌, ◌++◌, map, flat_map, append_assoc}
use mathlib.Core.Bool.{cond}
use lib.ListN.{length, take, drop}
use lib.Seq.{take-append_seam, drop-append_seam, drop-drop}
use Rattle.laws.specs.Bytes.{bytes}
use Rattle.laws.specs.Lists.{eqs, one_of}
use Rattle.laws.proofs.Tests.{by-test}
use Rattle.words.specs.Words.{words}
use Rattle.line_rules.specs.Tables.{waveform_keywords}
use Rattle.rules.specs.Reading.{TableIs, edge_of, waveform_in}
use Rattle.rules.specs.Same.{table_of, waveforms_of}
use Rattle.layout.specs.Laid.{rows_of, table_at, waveforms_laid}
use Rattle.records.specs.declared.Row.{Row}
use Rattle.records.specs.declared.Span.{Span}
use Rattle.records.specs.declared.Table.{Table}
use Rattle.records.specs.declared.Waveform.{Waveform}

module _ (store : List Row) where
  abbrev rows_at : Span → List Row
  rows_at s = take s.count (drop s.start store)

  abbrev pub table_from : Table → Option (List Row)
  table_from t = cond t.given (Some (rows_at t.rows)) None

  -- a waveform wherever its rows lie, and its rows
  abbrev pub waveform_from : Waveform → Waveform × List Row
  waveform_from w = (
    record {
      edge = w.edge;
      rfixture = w.rfixture;
      vfixture = w.vfixture;
      vmin = w.vmin;
      vmax = w.vmax;
      cfixture = w.cfixture;
      lfixture = w.lfixture;
      rdut = w.rdut;
      ldut = w.ldut;
      cdut = w.cdut;
      rows = record { start = 0; count = w.rows.count };
    },
    rows_at w.rows,
  )

  -- the rows of the tables ts lie from place n on
  abbrev pub LieAt : ℕ → List TableIs → Type 0
  LieAt n ts = (behind : List Row) × (drop n store ≡ flat_map rows_of ts ++ behind)

  first_rows : (n : ℕ) (t : TableIs) (ts : List TableIs) → LieAt n (t ∷ ts) → take (length (rows_of t)) (drop n store) ≡ rows_of t
  unfolding flat_map
  first_rows n t ts h =
      ap (take (length (rows_of t))) (h.1 ∙ append_assoc (rows_of t) (flat_map rows_of ts) h.0) ∙ take-append_seam (rows_of t) (flat_map rows_of ts ++ h.0)

  other-rows : (n : ℕ) (t : TableIs) (ts : List TableIs) → LieAt n (t ∷ ts) → LieAt (n + length (rows_of t)) ts
  unfolding flat_map
  other-rows n t ts h = (
    h.0,
    sym (drop-drop (length (rows_of t)) n store)
        ∙ ap (drop (length (rows_of t))) (h.1 ∙ append_assoc (rows_of t) (flat_map rows_of ts) h.0)
        ∙ drop-append_seam (rows_of t) (flat_map rows_of ts ++ h.0),
  )

  pub table-from : (n : ℕ) (ts : List TableIs) (key : String) → LieAt n ts → table_of ts key ≡ table_from (table_at ts n key)
  unfolding table_of table_at
  table-from n [] key h = refl
  table-from n (t ∷ ts) key h =
      by-test (eqs t.key (bytes key))
      (λ e. rw e (ap Some (sym (first_rows n t ts h))))
      (λ e. rw e (table-from (n + length (rows_of t)) ts key (other-rows n t ts h)))

  pub waveforms-from : (n : ℕ) (ts : List TableIs) → LieAt n ts → waveforms_of ts ≡ map waveform_from (waveforms_laid ts n)
  unfolding waveforms_of waveforms_laid waveform_in
  waveforms-from n [] h = refl
  waveforms-from n (t ∷ ts) h =
      let others = waveforms-from (n + length (rows_of t)) ts (other-rows n t ts h) in
      by-test (one_of t.key (words (bytes waveform_keywords)))
      (λ e. rw e (ap₂ (λ (rs : List Row) (ws : List (Waveform × List Row)). (waveform_in 0 (edge_of t.key) t.lines, rs) ∷ ws) (sym (first_rows n t ts h)) others))
      (λ e. rw e others)

pub lie-behind : (rs more : List Row) (ts : List TableIs) → LieAt (rs ++ flat_map rows_of ts ++ more) (length rs) ts
lie-behind rs more ts = (more, ap (drop (length rs)) (append_assoc rs (flat_map rows_of ts) more) ∙ drop-append_seam rs (flat_map rows_of ts ++ more))
