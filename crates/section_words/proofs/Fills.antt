-- The same of a model's record: it holds what the keywords so far say.
use Rattle.std.specs.Prelude.{Some}
use Prim.Native.Nat.{ℕ, ◌+◌, ◌-◌, ◌/◌, ◌^◌, ◌≤◌, ◌<◌}
use mathlib.Core.Path.{◌≡◌, refl, sym, ap, ◌∙◌, subst}
use mathlib.Core.List.{List, ◌++◌}
use mathlib.Core.Bool.{false}
use native.Mathlib.Omega.{arith}
use lib.ListN.{length}
use borrow.Rule.Slice.PartMut.{put_mid, mid_of}
use Rattle.laws.specs.Lists.{part}
use Rattle.keywords.specs.declared.Keyword.{Keyword}
use Rattle.cut_lines.specs.Cursors.{rest, Placed}
use Rattle.cut_lines.specs.declared.Cursor.{Cursor}
use Rattle.rules.specs.Reading.{under}
use Rattle.rules.specs.Keys.{is_end}
use Rattle.rules.proofs.Keys.{each-keyword}
use Rattle.lines_under.specs.Under.{KeyIs}
use Rattle.table_rows.specs.Parts.{key_rows}
use Rattle.table_rows.proofs.Stores.{stored-length}
use Rattle.record_words.specs.Records.{model_words}
use Rattle.model_record.specs.Bodies.{bare_body, body_step, model_over}
use Rattle.model_record.specs.declared.Body.{Body}
use Rattle.section_words.specs.Models.{uncounted, waveform_under, waveforms_behind, rows_behind, Turns, KeyFills, BodyFills}
use Rattle.section_words.specs.declared.KeyFilled.{KeyFilled}
use Rattle.section_words.proofs.Walks.{Walks, Whole, walks-start, walks-key}

-- place is that of the next row
pub record Fills (s : List ℕ) (c d : Cursor) (row place : ℕ) (model₀ model waves₀ waves : List ℕ) (n : ℕ) (store₀ store : List ℕ) (m : ℕ) : Type 0 where
  pub body : Body
  pub walks : Walks s c d row body waves₀ waves n store₀ store m
  pub at : body.row ≡ place
  pub turns : Turns model₀ model (bare_body row) body
  pub sized : length model ≡ length model₀

pub fills-start : (s : List ℕ) (c : Cursor) (row : ℕ) (model waves store : List ℕ) → Placed s c → row < 2 ^ 63
    → Fills s c c row row model model waves waves 0 store store 0
fills-start s c row model waves store h l =
    record { body = bare_body row; walks = walks-start s c row waves store h l; at = refl; turns = λ n start name f behind e. e; sized = refl }

no_row : (n : ℕ) → n ≡ n + 0
no_row n = omega arith

-- a keyword's rows move the place of the next
row_step : (b : Body) (w : List ℕ) (ls : List (List ℕ)) (k : Keyword) → (body_step b k w ls).row ≡ b.row + length (key_rows k ls)
row_step b w ls =
    let no = no_row b.row in
    each-keyword _ no no no no no no no no no no no no no no no no refl refl refl refl no refl refl no

-- a keyword more: whatever body stands in the record, so it is written
module _ {s : List ℕ} {c d : Cursor} {row place : ℕ} {model₀ model waves₀ waves : List ℕ} {n : ℕ} {store₀ store : List ℕ} {m : ℕ}
    (p : Fills s c d row place model₀ model waves₀ waves n store₀ store m)
    {k : Keyword} {a z : ℕ} {o : Cursor} (l : KeyIs s d k a z o) (q : is_end (Some k) ≡ false) where
  abbrev stepped : Body
  stepped = body_step p.body k (part a z s) (under (rest s o))

  pub wave-room : {x : ℕ} → n + length (waveform_under s o k p.body.row) ≤ x → n + length (waveform_under s o k place) ≤ x
  wave-room {x} h = subst (λ (r : ℕ). n + length (waveform_under s o k r) ≤ x) p.at h

  pub place-fits : place < 2 ^ 63 + o.at
  place-fits = omega (arith, p.at, p.walks.fits.row, l.rises)

  module _ {model' mid mid' low low' : List ℕ} {r : KeyFilled}
      (t : (b : Body) → b.row ≡ place → b.waveforms < o.at → KeyFills s b k (part a z s) o model model' mid mid' low low' r) where
    pub filled : KeyFills s p.body k (part a z s) o model model' mid mid' low low' r
    filled = t p.body p.at (omega (arith, p.walks.fits.waveforms, l.rises))

    pub place_is : place + r.used.rows / 4 ≡ stepped.row
    place_is =
        omega (arith, row_step p.body (part a z s) (under (rest s o)) k, filled.rows.used, stored-length (key_rows k (under (rest s o))), p.at)

    pub fills-key : length (waveforms_behind row (rest s c)) ≤ length waves₀ → length (rows_behind (rest s c)) ≤ length store₀
        → mid ≡ mid_of n (length waves - n) waves → low ≡ mid_of m (length store - m) store → length model' ≡ length model
        → Fills s c r.next row (place + r.used.rows / 4) model₀ model' waves₀ (put_mid n (length waves - n) waves mid') (n + r.used.waveforms) store₀ (put_mid m (length store - m) store low') (m + r.used.rows)
    fills-key h g i j same =
        record {
          body = stepped;
          walks = walks-key p.walks h g l q filled i j;
          at = sym place_is;
          turns = λ x start name f behind e. filled.turns x start name f behind (p.turns x start name f behind e);
          sized = same ∙ p.sized;
        }

pub fills-whole : {s : List ℕ} {c d : Cursor} {row place : ℕ} {model₀ model waves₀ waves : List ℕ} {n : ℕ} {store₀ store : List ℕ} {m : ℕ}
    (p : Fills s c d row place model₀ model waves₀ waves n store₀ store m) → Whole (rest s c) row p.body waves₀ waves n store₀ store m
    → BodyFills (rest s c) row model₀ model waves₀ waves store₀ store (record { waveforms = n; rows = m })
fills-whole p w =
    record {
      turns = λ x start name f behind e. p.turns x start name f behind e ∙ ap (λ (b : Body). model_words (model_over x start name f (uncounted b)) ++ behind) w.body;
      waveforms = w.waveforms;
      rows = w.rows;
    }
