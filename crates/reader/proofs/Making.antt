-- The models, their waveforms and their rows as they are made one after the other: what each turn keeps, and what is left at the end.
use Rattle.std.specs.Prelude.{Option, Some, None, is_some}
use Rattle.std.specs.Option.{unwrap_or}
use Prim.Native.Nat.{ℕ, suc, ◌≤◌, ◌<◌}
use mathlib.Core.Path.{◌≡◌, refl, sym, ap, ◌∙◌}
use mathlib.Core.List.{List, [], ◌∷◌, ◌++◌}
use mathlib.Core.Bool.{true, not}
use native.Mathlib.Omega.{arith}
use lib.Dec.{T as Holds}
use lib.ListN.{length, set, length-append}
use Rattle.laws.proofs.Tests.{by-test, impossible}
use Rattle.table_walks.specs.Filled.{filled_to}
use Rattle.table_walks.proofs.Elem.{Data, Elem, of_struct, struct-elem}
use Rattle.table_walks.proofs.Filled.{length-filled}
use Rattle.table_walks.proofs.Makes.{Makes}
use Rattle.records.specs.Stored.{stored, over}
use Rattle.records.specs.declared.Edge.TheVariants.{Rising}
use Rattle.records.specs.declared.Kind.TheVariants.{OfModel}
use Rattle.records.specs.declared.Counts.{Counts}
use Rattle.records.specs.declared.Model.{Model}
use Rattle.records.specs.declared.Waveform.{Waveform}
use Rattle.walked_records.proofs.Tables as R
use Rattle.cut_lines.specs.Texts.{Text}
use Rattle.rules.specs.Reading.{tables_in}
use Rattle.layout.specs.Laid.{waveforms_laid}
use Rattle.layout_by_notes.specs.Lies.{waveforms_noted, rows_noted}
use Rattle.table_rows.specs.Rows.{Lies}
use Rattle.table_rows.specs.Parts.{model_words}
use Rattle.table_rows.specs.Waveforms.{bare_waveform}
use Rattle.table_rows.proofs.Stores.{stored-length, over_none, over-length}
use Rattle.table_rows.proofs.RowWalks.{lies-start}
use Rattle.model_record.specs.declared.Body.{Body}
use Rattle.model_record.specs.declared.FirstLines.{FirstLines}
use Rattle.from_notes.specs.Made.{note_by, joined_to, model_at, waveforms_at, rows_at}
use Rattle.from_notes.specs.Models.{none_made, model_from, Partly, Reached, Sound, Ready, Goes}
use Rattle.from_notes.specs.declared.Progress.{Progress}
use Rattle.from_notes.proofs.Joined.{joined-rise}
use Rattle.from_notes.proofs.Steps.{not_so}
use Rattle.from_notes.specs.contracts.Progress as P
use Rattle.from_notes.proofs.Progress.TheLaws as P'
use Rattle.reader.specs.Filling.{ModelsFit, ModelsFilled}
use Rattle.reader.proofs.Tables.{over-put}

abbrev pub progress : Data
progress = of_struct P.the_type P'.the_laws

pub progress-elem : Elem progress
progress-elem = struct-elem P.the_type P'.the_laws P'.the_copy P'.the_plain

-- part of a model: what is made so far is no longer than with all of it
module _ {s ns : List ℕ} {k : ℕ} {f : FirstLines} {b : Body} {ts : List Text} {waves : List Waveform} {rowed : List ℕ} (p : Partly s ns k f b ts waves rowed) where
  partly-waves : length waves ≤ length (waveforms_at s ns (suc k))
  partly-waves = omega (arith, ap length p.waveforms, length-append waves (waveforms_laid (tables_in ts) b.row))

  partly-rows : length rowed ≤ length (stored (rows_at s ns (suc k)))
  partly-rows = omega (arith, ap length p.rows, length-append rowed (model_words ts))

-- ---- what holds before each turn: i models and k waveforms are put

pub record Made (s ns : List ℕ) (o : Counts) (ms : List Model) (ws : List Waveform) (rs : List ℕ) (i k : ℕ) (p : Progress) (ms' : List Model) (ws' : List Waveform) (rs' : List ℕ) : Type 0 where
  pub fit : ModelsFit s ns o ms ws rs
  pub waves : List Waveform
  pub rowed : List ℕ
  pub reached : Reached s ns p i waves rowed
  pub sound : Sound s p
  pub going : is_some p.taken.waveform ≡ true → i < o.models
  pub within : i ≤ o.models
  pub counted : k ≡ length waves
  pub models : ms' ≡ filled_to (λ n. model_at s ns n) i ms
  pub waveforms : ws' ≡ over ws waves
  pub rows : Lies rs rs' p.words rowed

pub begins : (s ns : List ℕ) (o : Counts) (ms : List Model) (ws : List Waveform) (rs : List ℕ) → ModelsFit s ns o ms ws rs → Made s ns o ms ws rs 0 0 none_made ms ws rs
unfolding joined_to stored
begins s ns o ms ws rs f =
    record {
      fit = f;
      waves = [];
      rowed = [];
      reached = not_so refl (record { waveforms = refl; rows = refl });
      sound = λ q. impossible (cc);
      going = λ q. impossible (cc);
      within = omega arith;
      counted = refl;
      models = refl;
      waveforms = sym (over_none ws);
      rows = lies-start rs;
    }

module _ (s ns : List ℕ) (o : Counts) (ms : List Model) (ws : List Waveform) (rs : List ℕ) (i k : ℕ) (p : Progress) (ms' : List Model) (ws' : List Waveform) (rs' : List ℕ)
    (g : Made s ns o ms ws rs i k p ms' ws' rs') where
  abbrev waved : ℕ → List Waveform
  waved n = waveforms_at s ns n

  abbrev stores : ℕ → List ℕ
  stores n = stored (rows_at s ns n)

  stores-rise : (a b : ℕ) → a ≤ b → length (stores a) ≤ length (stores b)
  stores-rise a b h =
      omega (arith, joined-rise (λ (n : ℕ). rows_noted (note_by s ns OfModel n)) a b h, stored-length (rows_at s ns a), stored-length (rows_at s ns b))

  waved-rise : (a b : ℕ) → a ≤ b → length (waved a) ≤ length (waved b)
  waved-rise a b h = joined-rise (λ (n : ℕ). waveforms_noted (note_by s ns OfModel n)) a b h

  -- what is made so far is of the models up to this one
  waves-small : length g.waves ≤ length (waved (suc i))
  waves-small =
      by-test (is_some p.taken.waveform)
      (λ q. partly-waves (g.reached.0 q))
      (λ q. omega (arith, ap length (g.reached.1 q).waveforms, waved-rise i (suc i) (omega arith)))

  rowed-small : length g.rowed ≤ length (stores (suc i))
  rowed-small =
      by-test (is_some p.taken.waveform)
      (λ q. partly-rows (g.reached.0 q))
      (λ q. omega (arith, ap length (g.reached.1 q).rows, stores-rise i (suc i) (omega arith)))

  module _ (h : i < o.models) where
    rows-room : length (stores (suc i)) ≤ length rs
    rows-room = omega (arith, stores-rise (suc i) o.models (omega (arith, h)), g.fit.rows)

    waves-room : length (waved (suc i)) ≤ length (waved o.models)
    waves-room = waved-rise (suc i) o.models (omega (arith, h))

    pub below : k ≤ length (waved o.models)
    below = omega (arith, g.counted, waves-small, waves-room)

    pub ready : Ready s ns p i rs'
    ready =
        record {
          sound = g.sound;
          waves = g.waves;
          rowed = g.rowed;
          reached = g.reached;
          words = g.rows.used;
          room = omega (arith, rows-room, ap length g.rows.store, over-length rs g.rowed (omega (arith, rowed-small, rows-room)));
        }

    module _ (r : Progress) (rs'' : List ℕ) (t : (waves : List Waveform) (rowed store : List ℕ) → Reached s ns p i waves rowed → Lies store rs' p.words rowed → length (stores (suc i)) ≤ length store → Goes s ns i waves rowed store rs'' r) where
      goes : Goes s ns i g.waves g.rowed rs rs'' r
      goes = t g.waves g.rowed rs g.reached g.rows rows-room

      pub seconds : (x : Waveform) → r.taken.waveform ≡ Some x → (k < length ws') × ((k < length (waved o.models)) × Made s ns o ms ws rs i (suc k) r ms' (set ws' k x) rs'')
      seconds x q =
          let more : suc (length g.waves) ≤ length (waved (suc i)) = omega (arith, partly-waves ((goes.waveform x q).0 (ap is_some q)), length-append g.waves (x ∷ [])) in
          let room : length g.waves < length ws = omega (arith, more, waves-room, g.fit.waveforms) in (
            omega (arith, room, g.counted, ap length g.waveforms, over-length ws g.waves (omega (arith, room))),
            (
              omega (arith, more, waves-room, g.counted),
              record {
                fit = g.fit;
                waves = g.waves ++ (x ∷ []);
                rowed = g.rowed ++ goes.written;
                reached = goes.waveform x q;
                sound = goes.sound;
                going = λ _. h;
                within = g.within;
                counted = omega (arith, g.counted, length-append g.waves (x ∷ []));
                models = g.models;
                waveforms = rw (g.counted, g.waveforms) (over-put g.waves ws x room);
                rows = goes.lies;
              },
            ),
          )

      pub firsts : r.taken.waveform ≡ None → (i < length ms') × Made s ns o ms ws rs (suc i) k r (set ms' i (model_from s ns i r.lines r.taken.body)) ws' rs''
      firsts q = (
        omega (arith, h, ap length g.models, length-filled (λ n. model_at s ns n) i ms, g.fit.models),
        record {
          fit = g.fit;
          waves = g.waves;
          rowed = g.rowed ++ goes.written;
          reached = goes.model q;
          sound = goes.sound;
          going = λ e. impossible (cc (sym (ap is_some q) ∙ e));
          within = omega (arith, h);
          counted = g.counted;
          models = rw (goes.made q, g.models);
          waveforms = g.waveforms;
          rows = goes.lies;
        },
      )

  pub ends : o.models ≤ i → ModelsFilled s ns o ms ws rs ms' ws' rs'
  ends over' =
      let e : i ≡ o.models = omega (arith, over', g.within) in
      by-test (is_some p.taken.waveform)
      (λ q. absurd (omega (arith, g.going q, over')))
      (λ q.
      record {
        models = g.models ∙ ap (λ (n : ℕ). filled_to (λ m. model_at s ns m) n ms) e;
        waveforms = g.waveforms ∙ ap (over ws) ((g.reached.1 q).waveforms ∙ ap waved e);
        rows = g.rows.store ∙ ap (over rs) ((g.reached.1 q).rows ∙ ap stores e);
      })

-- ---- the loop as `Makes` has it: the waveform that stands in a state, or a blank one where none does

pub some_there : {A : Type 0} (o : Option A) (d : A) → Holds (is_some o) → o ≡ Some (unwrap_or o d)
some_there None d h = absurd h
some_there (Some x) d h = refl

pub none_there : {A : Type 0} (o : Option A) → Holds (not (is_some o)) → o ≡ None
none_there None h = refl
none_there (Some x) h = absurd h

abbrev second_of : Progress → Waveform
second_of p = unwrap_or p.taken.waveform (bare_waveform Rising 0)

abbrev pub making : Makes R.models R.waveforms R.rows progress R.counts
making =
    record {
      many = λ (o : Counts). o.models;
      start = none_made;
      is_second = λ (p : Progress). is_some p.taken.waveform;
      second = second_of;
      first = λ (s ns : List ℕ) (p : Progress) (k : ℕ). model_from s ns k p.lines p.taken.body;
      wants = λ (s ns : List ℕ) (p : Progress) (k : ℕ) (rs : List ℕ). Ready s ns p k rs;
      tells =
          λ (s ns : List ℕ) (p : Progress) (k : ℕ) (rs : List ℕ) (r : Progress) (rs' : List ℕ).
          ((waves : List Waveform) (rowed store : List ℕ) → Reached s ns p k waves rowed → Lies store rs p.words rowed → length (stored (rows_at s ns (suc k))) ≤ length store → Goes s ns k waves rowed store rs' r);
      asks = ModelsFit;
      Left = ModelsFilled;
      total = λ (s ns : List ℕ) (o : Counts). length (waveforms_at s ns o.models);
      Goes = Made;
      begins = begins;
      below = below;
      ready = ready;
      seconds =
          λ s ns o ms ws rs i k p ms' ws' rs' g h r rs'' t there.
          seconds s ns o ms ws rs i k p ms' ws' rs' g h r rs'' t (second_of r) (some_there r.taken.waveform (bare_waveform Rising 0) there);
      firsts = λ s ns o ms ws rs i k p ms' ws' rs' g h r rs'' t none. firsts s ns o ms ws rs i k p ms' ws' rs' g h r rs'' t (none_there r.taken.waveform none);
      ends = ends;
    }
