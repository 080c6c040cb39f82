-- A model's steps under a new numbering of lines.
use Rattle.std.specs.Prelude.{Result, Ok, Err}
use Prim.Native.Nat.{ℕ}
use mathlib.Core.Path.{◌≡◌, refl, ap, ◌∙◌}
use mathlib.Core.List.{List}
use lib.Dec.{eqb}
use Rattle.laws.proofs.Tests.{cond_map}
use Rattle.words.specs.Words.{word, words}
use Rattle.keywords.specs.declared.ModelPart.{ModelPart}
use Rattle.keywords.specs.declared.ModelPart.TheVariants.{VoltageRange, TemperatureRange, Current, Ramp, Waveform}
use Rattle.records.specs.Flaws.{told_in}
use Rattle.records.specs.declared.LineFault.{LineFault}
use Rattle.records.specs.declared.Row.{Row}
use Rattle.records.specs.declared.Edge.TheVariants.{Rising}
use Rattle.line_rules.specs.Fields.{line_at, row_of}
use Rattle.line_rules.specs.Tables.{model_lines, ramp_lines, fixtures}
use Rattle.given.specs.declared.Given.{Given}
use Rattle.rules.specs.Model.{with_first, row_line, begins_letter, waveform_line, model_line, model_place, single_part, waveform_part, model_part, model_opens, model_shut, model_done}
use Rattle.rules.specs.declared.RowsSeen.{RowsSeen}
use Rattle.rules.specs.declared.ModelList.{ModelList}
use Rattle.rules.specs.declared.ModelList.TheVariants.{ModelFirst, ModelShut, CurrentRows, RampLines, WaveformRows}
use Rattle.rules.specs.declared.ModelState.{ModelState}
use Rattle.rules.specs.declared.Stage.TheVariants.{InModel}
use Rattle.renumbered.proofs.Stages.{model_list_at, model_at, went_at, unless-at, passes_at, refuse-at, named-at}

module _ (f : ℕ → ℕ) where
  -- ---- its lines

  row_at : (on on_at : RowsSeen → ModelList) → ((r : RowsSeen) → model_list_at f (on r) ≡ on_at r) → (m : ModelState) (r : RowsSeen) (k : ℕ) (x : Result Row LineFault)
      → went_at f (row_line on m r k x) ≡ row_line on_at (model_at f m) r (f k) x
  row_at on on_at q m r k (Err x) = refl
  row_at on on_at q m r k (Ok l) = simp (refuse-at f, q)

  waveform-line-at : (m : ModelState) (o : ℕ) (g : Given) (r : RowsSeen) (k : ℕ) (w : List ℕ)
      → went_at f (waveform_line m o g r k w) ≡ waveform_line (model_at f m) (f o) g r (f k) w
  unfolding waveform_line
  waveform-line-at m o g r k w =
      cond_map (went_at f) (begins_letter (word 0 (words w))) _ _
      ∙ rw (refuse-at f, named-at f g (line_at fixtures w) _ k w _ _ (λ h. refl), row_at (WaveformRows o g) (WaveformRows (f o) g) (λ s. refl) m r k (told_in w (row_of w)))

  first-at : (m : ModelState) (w : List ℕ) (g : Given) → model_at f (with_first m w g) ≡ with_first (model_at f m) w g
  unfolding with_first
  first-at m w g = refl

  pub model-line-at : (m : ModelState) (k : ℕ) (w : List ℕ) (l : ModelList) → went_at f (model_line m k w l) ≡ model_line (model_at f m) (f k) w (model_list_at f l)
  model-line-at m k w ModelFirst = named-at f m.first (line_at model_lines w) _ k w _ _ (λ g. ap InModel (first-at m w g))
  model-line-at m k w ModelShut = refl
  model-line-at m k w (CurrentRows o r) = row_at (CurrentRows o) (CurrentRows (f o)) (λ s. refl) m r k (told_in w (row_of w))
  model-line-at m k w (RampLines o g) = named-at f g (line_at ramp_lines w) _ k w _ _ (λ h. refl)
  model-line-at m k w (WaveformRows o g r) = waveform-line-at m o g r k w

  -- ---- its keywords

  opens_at : (k : ℕ) (p : ModelPart) → model_list_at f (model_opens k p) ≡ model_opens (f k) p
  opens_at k VoltageRange = refl
  opens_at k TemperatureRange = refl
  opens_at k (Current t) = refl
  opens_at k Ramp = refl
  opens_at k (Waveform e) = refl

  single-part-at : (m : ModelState) (k : ℕ) (w : List ℕ) (p : ModelPart) → went_at f (single_part m k w p) ≡ single_part (model_at f m) (f k) w p
  unfolding single_part
  single-part-at m k w p = simp (refuse-at f, passes_at f, opens_at)

  waveform-part-at : (m : ModelState) (k : ℕ) (w : List ℕ) (p : ModelPart) → went_at f (waveform_part m k w p) ≡ waveform_part (model_at f m) (f k) w p
  unfolding waveform_part
  waveform-part-at m k w p = simp (refuse-at f, passes_at f, opens_at)

  pub model-part-at : (m : ModelState) (k : ℕ) (w : List ℕ) (p : ModelPart) → went_at f (model_part m k w p) ≡ model_part (model_at f m) (f k) w p
  model-part-at m k w p =
      cond_map (went_at f) (eqb (model_place p) (model_place (Waveform Rising))) _ _
      ∙ rw (waveform-part-at m k w p, single-part-at m k w p)

  -- ---- closing

  pub model-shut-at : (m : ModelState) (l : ModelList) → went_at f (model_shut m l) ≡ model_shut (model_at f m) (model_list_at f l)
  model-shut-at m ModelFirst = refl
  model-shut-at m ModelShut = refl
  model-shut-at m (CurrentRows o r) = simp (unless-at f)
  model-shut-at m (RampLines o g) = simp (refuse-at f)
  model-shut-at m (WaveformRows o g r) = simp (refuse-at f, unless-at f)

  pub model-done-at : (m : ModelState) → model_done (model_at f m) ≡ model_done m
  unfolding model_done
  model-done-at m = refl
