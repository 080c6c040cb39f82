-- A model's keywords as one fold: what they say of the model, what they add to the table of waveforms as g says of a record, and the words of its rows.
use Rattle.std.specs.Prelude.{None, Some}
use Prim.Native.Nat.{ℕ}
use mathlib.Core.Path.{◌≡◌, refl, sym, ap, ◌∙◌}
use mathlib.Core.List.{List, [], ◌∷◌, ◌++◌, append_assoc, append-nil, flat_map}
use Rattle.laws.specs.Bytes.{bytes, is_blank}
use Rattle.laws.specs.Lists.{eqs, one_of}
use Rattle.words.specs.Words.{words, grown, onto_word}
use Rattle.keywords.specs.declared.Keyword.{Keyword}
use Rattle.keywords.proofs.Spelling.{spelling}
use Rattle.cut_lines.specs.Texts.{Text}
use Rattle.rules.specs.Reading.{argument_at, under, TableIs, tables_in, edge_of}
use Rattle.rules.specs.Keys.{key_at}
use Rattle.rules.proofs.Keys.{each-keyword}
use Rattle.rules.proofs.Tables.{tables-skip}
use Rattle.layout.specs.Laid.{waveforms_laid}
use Rattle.records.specs.Stored.{stored}
use Rattle.records.specs.declared.Waveform.{Waveform}
use Rattle.lines_under.proofs.Keyed.{KeyFold}
use Rattle.table_rows.specs.Parts.{model_words, opens_table, key_rows}
use Rattle.table_rows.proofs.PartLaws.{more_tables, tables_more, model-fold}
use Rattle.model_record.specs.Bodies.{body_step, body_on}
use Rattle.model_record.specs.Takes.{key_waveform}
use Rattle.model_record.specs.declared.Body.{Body}
use Rattle.model_record.proofs.BodyLaws.{body-fold}

pub record Filling (A : Type 0) : Type 0 where
  pub body : Body
  pub waves : List A
  pub rows : List ℕ

module _ {A : Type 0} (g : Waveform → List A) where
  -- the waveforms of tables from a row's place on
  abbrev pub waves_from : ℕ → List TableIs → List A
  waves_from row tables = flat_map g (waveforms_laid tables row)

  abbrev pub fill_on : Filling A → List Text → Filling A
  fill_on x ts =
      record { body = body_on x.body ts; waves = x.waves ++ waves_from x.body.row (tables_in ts); rows = x.rows ++ model_words ts }

  abbrev pub fill_step : Filling A → Keyword → List ℕ → List (List ℕ) → Filling A
  fill_step x k w ls =
      record { body = body_step x.body k w ls; waves = x.waves ++ key_waveform g k x.body.row ls; rows = x.rows ++ stored (key_rows k ls) }

  -- by name and by case: a waveform's keyword adds its record
  waves-key : (b : Body) (w : List ℕ) (ls : List (List ℕ)) (more : List TableIs) (k : Keyword)
      → waves_from b.row (more_tables (opens_table k) (record { key = bytes (spelling k); lines = ls }) more)
      ≡ key_waveform g k b.row ls ++ waves_from (body_step b k w ls).row more
  unfolding waveforms_laid flat_map edge_of one_of eqs words grown onto_word is_blank
  waves-key b w ls more = each-keyword _ refl refl refl refl refl refl refl refl refl refl refl refl refl refl refl refl refl refl refl refl refl refl refl refl

  fill_more : (x : Filling A) (t : Text) (ts : List Text) (k : Keyword) → key_at t ≡ Some k → fill_on x (t ∷ ts) ≡ fill_on (fill_step x k (argument_at t) (under ts)) ts
  fill_more x t ts k e =
      let row = x.body.row in
      let ls = under ts in
      let waves : x.waves ++ waves_from row (tables_in (t ∷ ts)) ≡ (x.waves ++ key_waveform g k row ls) ++ waves_from (body_step x.body k (argument_at t) ls).row (tables_in ts) =
      ap (λ (l : List TableIs). x.waves ++ waves_from row l) (tables_more t ts k e)
      ∙ ap (λ (l : List A). x.waves ++ l) (waves-key x.body (argument_at t) ls (tables_in ts) k)
      ∙ sym (append_assoc x.waves (key_waveform g k row ls) (waves_from (body_step x.body k (argument_at t) ls).row (tables_in ts)))
      in
      λ i. record { body = body-fold.more x.body t ts k e i; waves = waves i; rows = model-fold.more x.rows t ts k e i }

  fill-skip : (x : Filling A) (t : Text) (ts : List Text) → key_at t ≡ None → fill_on x (t ∷ ts) ≡ fill_on x ts
  fill-skip x t ts e =
      λ i.
      record {
        body = body-fold.skip x.body t ts e i;
        waves = x.waves ++ waves_from x.body.row (tables-skip t ts e i);
        rows = model-fold.skip x.rows t ts e i;
      }

  waves-none : (v : List A) (row : ℕ) → v ++ waves_from row (tables_in []) ≡ v
  unfolding tables_in waveforms_laid flat_map
  waves-none v row = append-nil v

  fill_none : (x : Filling A) → fill_on x [] ≡ x
  fill_none x = λ i. record { body = body-fold.empty x.body i; waves = waves-none x.waves x.body.row i; rows = model-fold.empty x.rows i }

  pub fill-fold : KeyFold fill_on fill_step
  fill-fold = record { empty = fill_none; skip = fill-skip; more = fill_more }
