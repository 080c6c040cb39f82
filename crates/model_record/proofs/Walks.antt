-- The keywords up to a waveform: those so far made a body and added no waveform, and their rows lie over the row store as it was.
use Rattle.std.specs.Prelude.{Option, Some, None, is_some}
use Rattle.std.specs.Option.{option_to_list}
use Prim.Native.Nat.{ℕ, ◌+◌, ◌-◌, ◌≤◌}
use mathlib.Core.Path.{◌≡◌, refl, sym, ap, ◌∙◌, subst}
use mathlib.Core.List.{List, [], ◌∷◌, ◌++◌, flat_map}
use mathlib.Core.Bool.{true, false}
use lib.ListN.{length}
use borrow.Rule.Slice.PartMut.{put_mid, mid_of}
use Rattle.laws.specs.Lists.{front, after, part}
use Rattle.laws.proofs.Tests.{cond_yes, impossible}
use Rattle.keywords.specs.declared.Keyword.{Keyword}
use Rattle.cut_lines.specs.Texts.{Text}
use Rattle.cut_lines.specs.Cursors.{rest, Placed}
use Rattle.cut_lines.specs.declared.Cursor.{Cursor}
use Rattle.rules.specs.Reading.{under, is_within, tables_in}
use Rattle.rules.specs.Keys.{is_end}
use Rattle.layout.specs.Laid.{waveforms_laid}
use Rattle.records.specs.Stored.{stored}
use Rattle.records.specs.declared.Waveform.{Waveform}
use Rattle.lines_under.specs.Under.{is_keyless, KeyIs}
use Rattle.lines_under.proofs.Keyed.{Follows, follows-start, follows-key, follows_jump, follows-end, follows-out}
use Rattle.table_rows.specs.Rows.{Lies}
use Rattle.table_rows.specs.Parts.{model_words, key_rows}
use Rattle.table_rows.proofs.RowWalks.{lies-start, lies-length, lies-fit, lies-put}
use Rattle.model_record.specs.Bodies.{BodyFits}
use Rattle.model_record.specs.Takes.{alone, without_waveform, waveform_of, TakesKey, left_of, TakesKeys}
use Rattle.model_record.specs.declared.Body.{Body}
use Rattle.model_record.specs.declared.Taken.{Taken}
use Rattle.model_record.proofs.Fold.{Filling, fill_on, fill_step, fill-fold}

-- each record alone
pub flat-alone : (l : List Waveform) → flat_map alone l ≡ l
unfolding flat_map
flat-alone [] = refl
flat-alone (x ∷ l) = ap (λ (m : List Waveform). x ∷ m) (flat-alone l)

abbrev pub bare : Body → Filling Waveform
bare b = record { body = b; waves = []; rows = [] }

abbrev section_at : List ℕ → Cursor → List Text
section_at s c = front is_within (rest s c)

none-listed : (w : Option Waveform) → is_some w ≡ false → option_to_list w ≡ []
none-listed None f = refl
none-listed (Some x) f = impossible (cc)

pub record Walks (s : List ℕ) (c d : Cursor) (b₀ b : Body) (store₀ store : List ℕ) (m : ℕ) : Type 0 where
  pub placed : Placed s d
  pub fits : BodyFits b d
  pub rowed : List ℕ
  pub follows : Follows (fill-fold alone) s c d (bare b₀) (record { body = b; waves = []; rows = rowed })
  pub lies : Lies store₀ store m rowed

pub walks-start : (s : List ℕ) (c : Cursor) (b : Body) (store : List ℕ) → Placed s c → BodyFits b c → Walks s c c b b store store 0
walks-start s c b store h f =
    record { placed = h; fits = f; rowed = []; follows = follows-start (fill-fold alone) s c (bare b); lies = lies-start store }

-- what was taken, with what is left of the section
taken-all : {s : List ℕ} {b : Body} {c : Cursor} {store₀ store : List ℕ} (r : Taken) → Placed s r.next → BodyFits r.body r.next
    → (rowed : List ℕ) → Lies store₀ store r.words rowed
    → fill_on alone (bare b) (section_at s c) ≡ fill_on alone (record { body = r.body; waves = waveform_of r; rows = rowed }) (left_of s r)
    → TakesKeys s b c store₀ store r
taken-all {s} {b} {c} r placed fits rowed lies e =
    record {
      placed = placed;
      fits = fits;
      written = rowed;
      lies = lies;
      body = ap (λ (x : Filling Waveform). x.body) e;
      waveforms =
          sym (flat-alone (waveforms_laid (tables_in (section_at s c)) b.row))
          ∙ ap (λ (x : Filling Waveform). x.waves) e
          ∙ ap (λ (l : List Waveform). waveform_of r ++ l) (flat-alone (waveforms_laid (tables_in (left_of s r)) r.body.row));
      rows = ap (λ (x : Filling Waveform). x.rows) e;
    }

module _ {s : List ℕ} {c d : Cursor} {b₀ b : Body} {store₀ store : List ℕ} {m : ℕ} (p : Walks s c d b₀ b store₀ store m) where
  abbrev held : Filling Waveform
  held = record { body = b; waves = []; rows = p.rowed }

  pub walks-length : length (model_words (section_at s c)) ≤ length store₀ → length store ≡ length store₀
  walks-length h = lies-length p.lies h (model_words (section_at s d)) (ap (λ (x : Filling Waveform). x.rows) p.follows.same)

  -- all keywords were taken
  whole : held ≡ fill_on alone (bare b₀) (section_at s c) → TakesKeys s b₀ c store₀ store (without_waveform b d m)
  whole e = taken-all (without_waveform b d m) p.placed p.fits p.rowed p.lies (sym e ∙ sym ((fill-fold alone).empty held))

  pub walks-out : {r : Taken} → r ≡ without_waveform b d m → after is_keyless (rest s d) ≡ [] → TakesKeys s b₀ c store₀ store r
  walks-out e q = subst (TakesKeys s b₀ c store₀ store) (sym e) (whole (follows-out (fill-fold alone) p.follows q))

  module _ {k : Keyword} {a e : ℕ} {o : Cursor} (l : KeyIs s d k a e o) where
    pub walks-end : {r : Taken} → r ≡ without_waveform b d m → is_end (Some k) ≡ true → TakesKeys s b₀ c store₀ store r
    walks-end i q = subst (TakesKeys s b₀ c store₀ store) (sym i) (whole (follows-end (fill-fold alone) p.follows l q))

    module _ (q : is_end (Some k) ≡ false) (h : length (model_words (section_at s c)) ≤ length store₀) where
      abbrev rows : List ℕ
      rows = stored (key_rows k (under (rest s o)))

      with-key : Follows (fill-fold alone) s c o (bare b₀) (fill_step alone held k (part a e s) (under (rest s o)))
      with-key = follows-key (fill-fold alone) p.follows l q refl

      rows_all : model_words (section_at s c) ≡ (p.rowed ++ rows) ++ model_words (section_at s o)
      rows_all = ap (λ (x : Filling Waveform). x.rows) with-key.same

      pub walks-fit : m + length rows ≤ length store
      walks-fit = lies-fit p.lies h rows (model_words (section_at s o)) rows_all

      module _ {low low' : List ℕ} {r : Taken} (t : TakesKey s b k (part a e s) o low low' r) (j : low ≡ mid_of m (length store - m) store) where
        abbrev holds : List Waveform → Filling Waveform
        holds w = record { body = r.body; waves = w; rows = p.rowed ++ rows }

        behind : Follows (fill-fold alone) s c r.next (bare b₀) (holds (waveform_of r))
        behind =
            follows_jump (fill-fold alone)
            (follows-key (fill-fold alone) p.follows l q (λ i. record { body = t.taken.body i; waves = t.waveform i; rows = p.rowed ++ rows }))
            t.taken.keys

        lies-behind : Lies store₀ (put_mid m (length store - m) store low') (m + r.words) (p.rowed ++ rows)
        lies-behind = lies-put p.lies h rows (model_words (section_at s o)) rows_all j t.rows

        pub behind-length : length (put_mid m (length store - m) store low') ≡ length store₀
        behind-length = lies-length lies-behind h (model_words (section_at s o)) rows_all

        pub walks-key : is_some r.waveform ≡ false → Walks s c r.next b₀ r.body store₀ (put_mid m (length store - m) store low') (m + r.words)
        walks-key f =
            record {
              placed = t.taken.placed;
              fits = t.taken.fits;
              rowed = p.rowed ++ rows;
              follows = subst (λ (w : List Waveform). Follows (fill-fold alone) s c r.next (bare b₀) (holds w)) (none-listed r.waveform f) behind;
              lies = lies-behind;
            }

        pub walks-found : is_some r.waveform ≡ true
            → TakesKeys s b₀ c store₀ (put_mid m (length store - m) store low') (record { body = r.body; next = r.next; words = m + r.words; waveform = r.waveform })
        walks-found f =
            taken-all (record { body = r.body; next = r.next; words = m + r.words; waveform = r.waveform }) t.taken.placed t.taken.fits (p.rowed ++ rows) lies-behind
            (behind.same ∙ ap (fill_on alone (holds (waveform_of r))) (sym (cond_yes (section_at s r.next) [] f)))
