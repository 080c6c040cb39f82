-- The models made one after the other: a model is opened behind its keyword line, and what the keywords so far say, with what is left, stays what the notes say.
use Rattle.std.specs.Prelude.{Option, Some, None, is_some}
use Rattle.std.specs.Option.{option_to_list}
use Prim.Native.Nat.{ℕ, suc, ◌+◌, ◌-◌, ◌≤◌}
use mathlib.Core.Path.{◌≡◌, sym, ap, ◌∙◌, subst}
use mathlib.Core.List.{List, [], ◌∷◌, ◌++◌, flat_map, append_assoc, append-nil}
use mathlib.Core.Bool.{Bool, true, false, cond}
use native.Mathlib.Omega.{arith}
use lib.ListN.{length, length-append}
use borrow.Rule.Slice.PartMut.{put_mid, mid_of}
use Rattle.laws.specs.Lists.{front}
use Rattle.laws.proofs.Tests.{impossible}
use Rattle.cut_lines.specs.Texts.{Text}
use Rattle.cut_lines.specs.Cursors.{rest}
use Rattle.cut_lines.specs.declared.Cursor.{Cursor}
use Rattle.rules.specs.Reading.{under, is_within, TableIs, tables_in}
use Rattle.rules.proofs.Tables.{tables-skip}
use Rattle.layout.specs.Laid.{rows_of, waveforms_laid}
use Rattle.records.specs.Stored.{stored}
use Rattle.records.specs.declared.Kind.TheVariants.{OfModel}
use Rattle.records.specs.declared.Waveform.{Waveform}
use Rattle.note_words.specs.Store.{lies_at, section_at, name_of}
use Rattle.layout_by_notes.specs.Lies.{waveforms_noted, rows_noted}
use Rattle.lines_under.specs.Under.{StopsAt}
use Rattle.lines_under.proofs.Laws.{keys-within}
use Rattle.lines_under.proofs.Keyed.{keys-stop, follows-start, follows_jump}
use Rattle.table_rows.specs.Rows.{Lies}
use Rattle.table_rows.specs.Parts.{model_words}
use Rattle.table_rows.proofs.Stores.{stored-append}
use Rattle.table_rows.proofs.RowWalks.{lies-put}
use Rattle.model_record.specs.Firsts.{bare_lines, firsts_on}
use Rattle.model_record.specs.Bodies.{bare_body, body_on}
use Rattle.model_record.specs.Takes.{waveform_of, left_of, TakesKeys}
use Rattle.model_record.specs.declared.Body.{Body}
use Rattle.model_record.specs.declared.FirstLines.{FirstLines}
use Rattle.model_record.specs.declared.Taken.{Taken}
use Rattle.model_record.proofs.BodyLaws.{body-fold, model_is}
use Rattle.from_notes.specs.Made.{note_by, joined_to, model_at, rows_at, StandsBehind}
use Rattle.from_notes.specs.Models.{model_from, Partly, Whole, whether, texts, Reached, OpensAt, Ready, Goes}
use Rattle.from_notes.specs.declared.Opening.{Opening}
use Rattle.from_notes.specs.declared.Progress.{Progress}
use Rattle.from_notes.proofs.Sections.{model-noted, tables-noted}

-- ---- by cases

pub so : {t : Bool} {A B : Type 0} → t ≡ true → A → whether t A B
so e h = (λ _. h, λ f. impossible (cc (e, f)))

pub not_so : {t : Bool} {A B : Type 0} → t ≡ false → B → whether t A B
not_so e h = (λ f. impossible (cc (e, f)), λ _. h)

-- ---- a model is opened: its first lines stop at d

module _ (s ns : List ℕ) (k : ℕ) {c d : Cursor} (h : StandsBehind s ns (lies_at OfModel k) c) (stops : StopsAt s c d) where
  abbrev place : ℕ
  place = lies_at OfModel k

  abbrev row : ℕ
  row = (section_at ns place).row

  -- the lines before the first keyword open no table
  tables-ahead : tables_in (texts s c) ≡ tables_in (texts s d)
  tables-ahead =
      keys-within tables_in tables-skip (rest s c)
      ∙ ap (λ (ts : List Text). tables_in (front is_within ts)) (keys-stop stops)
      ∙ sym (keys-within tables_in tables-skip (rest s d))

  body-ahead : body_on (bare_body row) (texts s c) ≡ body_on (bare_body row) (texts s d)
  body-ahead = (follows_jump body-fold (follows-start body-fold s c (bare_body row)) (keys-stop stops)).same

  module _ (f : FirstLines) (lines : f ≡ firsts_on bare_lines (under (rest s c))) (b : Body) (bare : b ≡ bare_body row) where
    model-opens : model_from s ns k f (body_on b (texts s d)) ≡ model_at s ns k
    unfolding model_at
    model-opens =
        rw (lines, bare, sym body-ahead)
        (model_is row (section_at ns place).start (section_at ns place).section (name_of s ns place) (rest s c) ∙ model-noted s ns place h)

    waveforms-open : waveforms_laid (tables_in (texts s d)) b.row ≡ waveforms_noted (note_by s ns OfModel k)
    unfolding waveforms_noted
    waveforms-open = rw bare (ap (λ (ts : List TableIs). waveforms_laid ts row) (sym tables-ahead ∙ tables-noted s ns place h))

    rows-open : model_words (texts s d) ≡ stored (rows_noted (note_by s ns OfModel k))
    unfolding rows_noted
    rows-open = ap (λ (ts : List TableIs). stored (flat_map rows_of ts)) (sym tables-ahead ∙ tables-noted s ns place h)

    pub opens : {waves : List Waveform} {rowed : List ℕ} → Whole s ns k waves rowed → Partly s ns k f b (texts s d) waves rowed
    unfolding joined_to
    opens w =
        record {
          model = model-opens;
          waveforms = rw (w.waveforms, waveforms-open);
          rows = rw (w.rows, rows-open) (sym (stored-append (rows_at s ns k) _));
        }

-- ---- a step: t takes the keywords from where a model is opened

module _ {s ns : List ℕ} {p : Progress} {k : ℕ} {o : Opening} (opened : OpensAt s ns p k o) {low low' : List ℕ} {t : Taken} (takes : TakesKeys s o.body o.next low low' t)
    {waves : List Waveform} {rowed : List ℕ} (reached : Reached s ns p k waves rowed) where
  abbrev laid_from : Body → List Text → List Waveform
  laid_from b ts = waveforms_laid (tables_in ts) b.row

  partly : Partly s ns k o.lines o.body (texts s o.next) waves rowed
  partly = opened.partly waves rowed reached

  goes_on : Partly s ns k o.lines t.body (left_of s t) (waves ++ waveform_of t) (rowed ++ takes.written)
  goes_on =
      record {
        model = ap (model_from s ns k o.lines) (sym takes.body) ∙ partly.model;
        waveforms =
            append_assoc waves (waveform_of t) (laid_from t.body (left_of s t))
            ∙ ap (λ (l : List Waveform). waves ++ l) (sym takes.waveforms)
            ∙ partly.waveforms;
        rows =
            append_assoc rowed takes.written (model_words (left_of s t))
            ∙ ap (λ (l : List ℕ). rowed ++ l) (sym takes.rows)
            ∙ partly.rows;
      }

  -- behind a waveform
  behind-waveform : (w : Waveform) → t.waveform ≡ Some w → Partly s ns k o.lines t.body (texts s t.next) (waves ++ (w ∷ [])) (rowed ++ takes.written)
  behind-waveform w q =
      subst (λ (l : Option Waveform). Partly s ns k o.lines t.body (cond (is_some l) (texts s t.next) []) (waves ++ option_to_list l) (rowed ++ takes.written)) q goes_on

  -- nothing is left
  at-end : t.waveform ≡ None → Partly s ns k o.lines t.body [] waves (rowed ++ takes.written)
  at-end q =
      subst (λ (l : List Waveform). Partly s ns k o.lines t.body [] l (rowed ++ takes.written)) (append-nil waves)
      (subst (λ (l : Option Waveform). Partly s ns k o.lines t.body (cond (is_some l) (texts s t.next) []) (waves ++ option_to_list l) (rowed ++ takes.written)) q goes_on)

  whole : Partly s ns k o.lines t.body [] waves (rowed ++ takes.written) → Whole s ns (suc k) waves (rowed ++ takes.written)
  unfolding tables_in waveforms_laid flat_map stored
  whole q = record { waveforms = sym (append-nil waves) ∙ q.waveforms; rows = sym (append-nil (rowed ++ takes.written)) ∙ q.rows }

  pub goes : {before now : List ℕ} → Lies before now p.words rowed → length (stored (rows_at s ns (suc k))) ≤ length before → low ≡ mid_of p.words (length now - p.words) now
      → Goes s ns k waves rowed before (put_mid p.words (length now - p.words) now low') (record { words = p.words + t.words; lines = o.lines; taken = t })
  goes lies room is =
      record {
        written = takes.written;
        lies = lies-put lies room takes.written (model_words (left_of s t)) (sym goes_on.rows) is takes.lies;
        sound = λ _. (takes.placed, takes.fits);
        waveform = λ w q. so (ap is_some q) (behind-waveform w q);
        model = λ q. not_so (ap is_some q) (whole (at-end q));
        made = λ q. ap (model_from s ns k o.lines) (sym (body-fold.empty t.body)) ∙ (at-end q).model;
      }

-- ---- there is room for what is left of the model

pub room-here : {s ns : List ℕ} {p : Progress} {k : ℕ} {store : List ℕ} (r : Ready s ns p k store) {o : Opening} → OpensAt s ns p k o
    → p.words + length (model_words (texts s o.next)) ≤ length store
room-here {s} r {o} h =
    omega (arith, r.words, r.room, ap length (h.partly r.waves r.rowed r.reached).rows, length-append r.rowed (model_words (texts s o.next)))

-- and so for the words that it took
pub room-taken : {s ns : List ℕ} {p : Progress} {k : ℕ} {store : List ℕ} (r : Ready s ns p k store) {o : Opening} → OpensAt s ns p k o
    → {low low' : List ℕ} {t : Taken} → TakesKeys s o.body o.next low low' t → p.words + t.words ≤ length store
room-taken {s} r h {t = t} x =
    omega (arith, room-here r h, x.lies.used, ap length x.rows, length-append x.written (model_words (left_of s t)))
