-- What each keyword makes of a model's record: words are set at its place, and the rest stays as it computes.
use Prim.Native.Nat.{ℕ}
use mathlib.Core.Path.{◌≡◌, refl, ap, ◌∙◌}
use mathlib.Core.List.{List, [], ◌∷◌, ◌++◌}
use mathlib.Core.Bool.{Bool, true, false, cond}
use lib.Dec.{eqb}
use lib.ListN.{get_or}
use lib.Seq.{sets}
use Rattle.keywords.specs.declared.CurrentTable.{CurrentTable}
use Rattle.keywords.specs.declared.CurrentTable.TheVariants.{Pulldown, Pullup, GndClamp, PowerClamp}
use Rattle.keywords.specs.declared.ModelPart.TheVariants.{VoltageRange, TemperatureRange, Current, Ramp, Waveform}
use Rattle.records.specs.declared.Edge.{Edge}
use Rattle.records.specs.declared.Triple.{Triple}
use Rattle.rules.specs.Reading.{ramp_in}
use Rattle.record_words.specs.Values.{flag_number}
use Rattle.record_words.specs.Records.{triple_words, range_words, ramp_words, table_words, model_words}
use Rattle.model_record.specs.Bodies.{with_table, part_on, model_over}
use Rattle.model_record.specs.declared.Body.{Body}
use Rattle.section_words.specs.Parts.{voltage_from, temperature_from, table_from, ramp_from}
use Rattle.section_words.specs.Models.{uncounted, Turns}

-- a table is written unless it was given; X is the record with its three words
flagged : (X : List ℕ → List ℕ) (g : Bool) (s c row n : ℕ)
    → cond (eqb (flag_number g) 0) (X (1 ∷ row ∷ n ∷ [])) (X (flag_number g ∷ s ∷ c ∷ []))
    ≡ X (table_words (with_table (record { given = g; rows = record { start = s; count = c } }) row n))
flagged X true s c row n = refl
flagged X false s c row n = refl

module _ (b : Body) (cells : Triple) (w : List ℕ) (ls : List (List ℕ)) (k : ℕ) (model : List ℕ) where
  pub voltage-turns : Turns model (sets model voltage_from (triple_words cells)) b (part_on b VoltageRange cells (ramp_in w ls) k)
  voltage-turns n start name f behind e = ap (λ (l : List ℕ). sets l voltage_from (triple_words cells)) e

  pub temperature-turns : Turns model (sets model temperature_from (range_words (record { given = true; cells = cells }))) b (part_on b TemperatureRange cells (ramp_in w ls) k)
  temperature-turns n start name f behind e = ap (λ (l : List ℕ). sets l temperature_from (range_words (record { given = true; cells = cells }))) e

  pub ramp-turns : Turns model (sets model ramp_from (ramp_words (ramp_in [] ls))) b (part_on b Ramp cells (ramp_in w ls) k)
  ramp-turns n start name f behind e = ap (λ (l : List ℕ). sets l ramp_from (ramp_words (ramp_in [] ls))) e

  pub wave-turns : (e : Edge) → Turns model model b (part_on b (Waveform e) cells (ramp_in w ls) k)
  wave-turns e n start name f behind i = i

  -- a table of k rows
  abbrev pub spanned : List ℕ → ℕ → ℕ → List ℕ
  spanned l at row = cond (eqb (get_or l at 0) 0) (sets l at (1 ∷ row ∷ k ∷ [])) l

  pub current-turns : (t : CurrentTable) → Turns model (spanned model (table_from t) b.row) b (part_on b (Current t) cells (ramp_in w ls) k)
  current-turns Pulldown n start name f behind e =
      let u = b.pulldown in
      ap (λ (l : List ℕ). spanned l (table_from Pulldown) b.row) e ∙ flagged (sets (model_words (model_over n start name f (uncounted b)) ++ behind) (table_from Pulldown)) u.given u.rows.start u.rows.count b.row k
  current-turns Pullup n start name f behind e =
      let u = b.pullup in
      ap (λ (l : List ℕ). spanned l (table_from Pullup) b.row) e ∙ flagged (sets (model_words (model_over n start name f (uncounted b)) ++ behind) (table_from Pullup)) u.given u.rows.start u.rows.count b.row k
  current-turns GndClamp n start name f behind e =
      let u = b.ground in
      ap (λ (l : List ℕ). spanned l (table_from GndClamp) b.row) e ∙ flagged (sets (model_words (model_over n start name f (uncounted b)) ++ behind) (table_from GndClamp)) u.given u.rows.start u.rows.count b.row k
  current-turns PowerClamp n start name f behind e =
      let u = b.power in
      ap (λ (l : List ℕ). spanned l (table_from PowerClamp) b.row) e ∙ flagged (sets (model_words (model_over n start name f (uncounted b)) ++ behind) (table_from PowerClamp)) u.given u.rows.start u.rows.count b.row k
