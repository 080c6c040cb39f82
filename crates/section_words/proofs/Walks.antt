-- A model written keyword by keyword: the keywords so far made a body, and their words lie over the two tables as they were.
use Rattle.std.specs.Prelude.{Some}
use Prim.Native.Nat.{ℕ, ◌+◌, ◌-◌, ◌^◌, ◌≤◌, ◌<◌}
use mathlib.Core.Path.{◌≡◌, refl, ap, subst}
use mathlib.Core.List.{List, [], ◌++◌}
use mathlib.Core.Bool.{true, false}
use native.Mathlib.Omega.{arith}
use lib.ListN.{length}
use borrow.Rule.Slice.PartMut.{put_mid, mid_of}
use Rattle.laws.specs.Lists.{front, after, part}
use Rattle.keywords.specs.declared.Keyword.{Keyword}
use Rattle.cut_lines.specs.Texts.{Text}
use Rattle.cut_lines.specs.Cursors.{rest, Placed}
use Rattle.cut_lines.specs.declared.Cursor.{Cursor}
use Rattle.rules.specs.Reading.{under, is_within}
use Rattle.rules.specs.Keys.{is_end}
use Rattle.lines_under.specs.Under.{is_keyless, StopsAt, KeyIs}
use Rattle.lines_under.proofs.Keyed.{keys-stop, Follows, follows-start, follows-key, follows_jump, follows-end, follows-out}
use Rattle.record_words.specs.Records.{waveform_words}
use Rattle.table_rows.specs.Rows.{Lies}
use Rattle.table_rows.proofs.RowWalks.{lies-start, lies-length, lies-fit, lies-put}
use Rattle.model_record.specs.Bodies.{bare_body, body_step, body_on, BodyFits}
use Rattle.model_record.specs.declared.Body.{Body}
use Rattle.model_record.proofs.Fold.{Filling, fill_on, fill_step, fill-fold}
use Rattle.section_words.specs.Models.{waveform_under, rows_under, KeyFills, waveforms_behind, rows_behind}
use Rattle.section_words.specs.declared.KeyFilled.{KeyFilled}

-- before the first keyword; row is the place of the first row
abbrev bare : ℕ → Filling ℕ
bare row = record { body = bare_body row; waves = []; rows = [] }

pub record Walks (s : List ℕ) (c d : Cursor) (row : ℕ) (b : Body) (waves₀ waves : List ℕ) (n : ℕ) (store₀ store : List ℕ) (m : ℕ) : Type 0 where
  pub placed : Placed s d
  pub fits : BodyFits b d
  pub waved : List ℕ
  pub rowed : List ℕ
  pub follows : Follows (fill-fold waveform_words) s c d (bare row) (record { body = b; waves = waved; rows = rowed })
  pub waves-lie : Lies waves₀ waves n waved
  pub rows_lie : Lies store₀ store m rowed

pub walks-start : (s : List ℕ) (c : Cursor) (row : ℕ) (waves store : List ℕ) → Placed s c → row < 2 ^ 63 → Walks s c c row (bare_body row) waves waves 0 store store 0
walks-start s c row waves store h l =
    record {
      placed = h;
      fits = record { row = omega (arith, l); waveforms = omega arith };
      waved = [];
      rowed = [];
      follows = follows-start (fill-fold waveform_words) s c (bare row);
      waves-lie = lies-start waves;
      rows_lie = lies-start store;
    }

module _ {s : List ℕ} {c d : Cursor} {row : ℕ} {b : Body} {waves₀ waves : List ℕ} {n : ℕ} {store₀ store : List ℕ} {m : ℕ}
    (p : Walks s c d row b waves₀ waves n store₀ store m)
    (h : length (waveforms_behind row (rest s c)) ≤ length waves₀) (g : length (rows_behind (rest s c)) ≤ length store₀) where
  pub waves-length : length waves ≡ length waves₀
  waves-length = lies-length p.waves-lie h (waveforms_behind b.row (rest s d)) (ap (λ (x : Filling ℕ). x.waves) p.follows.same)

  pub rows-length : length store ≡ length store₀
  rows-length = lies-length p.rows_lie g (rows_behind (rest s d)) (ap (λ (x : Filling ℕ). x.rows) p.follows.same)

  module _ {k : Keyword} {a e : ℕ} {o : Cursor} (l : KeyIs s d k a e o) (q : is_end (Some k) ≡ false) where
    abbrev wave : List ℕ
    wave = waveform_under s o k b.row

    abbrev rows : List ℕ
    rows = rows_under s o k

    -- the waveforms behind this keyword's lines
    abbrev later : List ℕ
    later = waveforms_behind (body_step b k (part a e s) (under (rest s o))).row (rest s o)

    with-key : Follows (fill-fold waveform_words) s c o (bare row) (fill_step waveform_words (record { body = b; waves = p.waved; rows = p.rowed }) k (part a e s) (under (rest s o)))
    with-key = follows-key (fill-fold waveform_words) p.follows l q refl

    waves-all : waveforms_behind row (rest s c) ≡ (p.waved ++ wave) ++ later
    waves-all = ap (λ (x : Filling ℕ). x.waves) with-key.same

    rows_all : rows_behind (rest s c) ≡ (p.rowed ++ rows) ++ rows_behind (rest s o)
    rows_all = ap (λ (x : Filling ℕ). x.rows) with-key.same

    pub waves-fit : n + length wave ≤ length waves
    waves-fit = lies-fit p.waves-lie h wave later waves-all

    pub rows_fit : m + length rows ≤ length store
    rows_fit = lies-fit p.rows_lie g rows (rows_behind (rest s o)) rows_all

    abbrev stepped : Body
    stepped = body_step b k (part a e s) (under (rest s o))

    pub walks-key : {model model' mid mid' low low' : List ℕ} {r : KeyFilled} → KeyFills s b k (part a e s) o model model' mid mid' low low' r
        → mid ≡ mid_of n (length waves - n) waves → low ≡ mid_of m (length store - m) store
        → Walks s c r.next row stepped waves₀ (put_mid n (length waves - n) waves mid') (n + r.used.waveforms) store₀ (put_mid m (length store - m) store low') (m + r.used.rows)
    walks-key {r = r} t i j =
        record {
          placed = t.taken.placed;
          fits = t.taken.fits;
          waved = p.waved ++ wave;
          rowed = p.rowed ++ rows;
          follows = follows_jump (fill-fold waveform_words) with-key t.taken.keys;
          waves-lie = lies-put p.waves-lie h wave later waves-all i t.waveform;
          rows_lie = lies-put p.rows_lie g rows (rows_behind (rest s o)) rows_all j t.rows;
        }

-- the end; ts are the texts behind the model's first lines
pub record Whole (ts : List Text) (row : ℕ) (b : Body) (waves₀ waves : List ℕ) (n : ℕ) (store₀ store : List ℕ) (m : ℕ) : Type 0 where
  pub body : b ≡ body_on (bare_body row) (front is_within ts)
  pub waveforms : Lies waves₀ waves n (waveforms_behind row ts)
  pub rows : Lies store₀ store m (rows_behind ts)

module _ {s : List ℕ} {c d : Cursor} {row : ℕ} {b : Body} {waves₀ waves : List ℕ} {n : ℕ} {store₀ store : List ℕ} {m : ℕ}
    (p : Walks s c d row b waves₀ waves n store₀ store m) where
  abbrev All : Type 0
  All = Whole (rest s c) row b waves₀ waves n store₀ store m

  whole : record { body = b; waves = p.waved; rows = p.rowed } ≡ fill_on waveform_words (bare row) (front is_within (rest s c)) → All
  whole e =
      record {
        body = ap (λ (x : Filling ℕ). x.body) e;
        waveforms = subst (Lies waves₀ waves n) (ap (λ (x : Filling ℕ). x.waves) e) p.waves-lie;
        rows = subst (Lies store₀ store m) (ap (λ (x : Filling ℕ). x.rows) e) p.rows_lie;
      }

  pub walks-end : {k : Keyword} {a e : ℕ} {o : Cursor} → KeyIs s d k a e o → is_end (Some k) ≡ true → All
  walks-end l q = whole (follows-end (fill-fold waveform_words) p.follows l q)

  pub walks-out : after is_keyless (rest s d) ≡ [] → All
  walks-out q = whole (follows-out (fill-fold waveform_words) p.follows q)

-- the lines before the first keyword say nothing
module _ {s : List ℕ} {c n : Cursor} (h : StopsAt s c n) (row : ℕ) where
  jump : fill_on waveform_words (bare row) (front is_within (rest s c)) ≡ fill_on waveform_words (bare row) (front is_within (rest s n))
  jump = (follows_jump (fill-fold waveform_words) (follows-start (fill-fold waveform_words) s c (bare row)) (keys-stop h)).same

  pub waves-ahead : waveforms_behind row (rest s c) ≡ waveforms_behind row (rest s n)
  waves-ahead = ap (λ (x : Filling ℕ). x.waves) jump

  pub rows-ahead : rows_behind (rest s c) ≡ rows_behind (rest s n)
  rows-ahead = ap (λ (x : Filling ℕ). x.rows) jump

  pub body-ahead : body_on (bare_body row) (front is_within (rest s c)) ≡ body_on (bare_body row) (front is_within (rest s n))
  body-ahead = ap (λ (x : Filling ℕ). x.body) jump
