-- Every step under a new numbering of lines: it goes the same way, and what it tells is numbered anew. By cases, definition by definition.
use Rattle.std.specs.Prelude.{Ok, Err}
use Prim.Native.Nat.{ℕ}
use mathlib.Core.Path.{◌≡◌, refl, ◌∙◌}
use mathlib.Core.List.{List}
use Rattle.laws.specs.Said.{Said}
use Rattle.laws.proofs.Tests.{cond_map}
use Rattle.keywords.specs.Form.{argument}
use Rattle.keywords.specs.Carried.{key_of}
use Rattle.keywords.specs.declared.Keyword.{Keyword}
use Rattle.keywords.specs.declared.Keyword.TheVariants as key
use Rattle.keywords.specs.declared.Section.{Section}
use Rattle.keywords.specs.declared.Section.TheVariants.{Component, Selector, Model}
use Rattle.keywords.specs.declared.HeaderPart.{HeaderPart}
use Rattle.keywords.specs.declared.ComponentPart.{ComponentPart}
use Rattle.keywords.specs.declared.ModelPart.{ModelPart}
use Rattle.records.specs.Flaws.{told}
use Rattle.records.specs.declared.LineFault.{LineFault}
use Rattle.cut_lines.specs.Texts.{Text, plain, change}
use Rattle.line_rules.specs.Fields.{is_bracketed, no_argument}
use Rattle.rules.specs.Steps.{shut, done, section_stage, opened, on_version, on_keyword, keyed, on_line, on_plain, on_change, on_text}
use Rattle.rules.specs.declared.Stage.{Stage}
use Rattle.rules.specs.declared.Stage.TheVariants.{BeforeVersion, InHeader, InComponent, InSelector, InModel, AfterEnd}
use Rattle.rules.specs.declared.Event.TheVariants.{Ended}
use Rattle.rules.specs.Going.{Went}
use Rattle.renumbered.proofs.Stages.{stage_at, went_at, unless-at, passes_at, refuse-at, then_at}
use Rattle.cut_lines.proofs.Renumbered.{text_at}
use Rattle.renumbered.proofs.Header.{version-at, header-part-at, header-line-at, header-done-at, selector-line-at, selector-shut-at}
use Rattle.renumbered.proofs.Component.{component-line-at, component-part-at, component-shut-at, component-done-at}
use Rattle.renumbered.proofs.Model.{model-line-at, model-part-at, model-shut-at, model-done-at}

module _ (f : ℕ → ℕ) where
  -- ---- what a line closes

  pub shut_at : (k : ℕ) (s : Stage) → went_at f (shut k s) ≡ shut (f k) (stage_at f s)
  shut_at k BeforeVersion = refl
  shut_at k (InHeader h) = refl
  shut_at k (InComponent c) = component-shut-at f c c.list
  shut_at k (InSelector s) = selector-shut-at f s
  shut_at k (InModel m) = model-shut-at f m m.list
  shut_at k AfterEnd = refl

  pub done_at : (k : ℕ) (s : Stage) → went_at f (done k s) ≡ done (f k) (stage_at f s)
  done_at k BeforeVersion = refl
  done_at k (InHeader h) = simp (unless-at f, header-done-at f)
  done_at k (InComponent c) = simp (unless-at f, component-done-at f)
  done_at k (InSelector s) = refl
  done_at k (InModel m) = simp (unless-at f, model-done-at f)
  done_at k AfterEnd = refl

  -- ---- the keywords

  section-at : (k : ℕ) (o : Section) → stage_at f (section_stage k o) ≡ section_stage (f k) o
  section-at k Component = refl
  section-at k Selector = refl
  section-at k Model = refl

  pub opened-at : (k : ℕ) (w : List ℕ) (o : Section) → went_at f (opened k w o) ≡ opened (f k) w o
  unfolding opened
  opened-at k w o = simp (passes_at f, section-at)

  on-version-at : (s : Stage) (k : ℕ) (w : List ℕ) → went_at f (on_version s k w) ≡ on_version (stage_at f s) (f k) w
  unfolding on_version
  on-version-at BeforeVersion k w = version-at f k w
  on-version-at (InHeader h) k w = refl
  on-version-at (InComponent c) k w = refl
  on-version-at (InSelector s) k w = refl
  on-version-at (InModel m) k w = refl
  on-version-at AfterEnd k w = refl

  in-header-at : (s : Stage) (k : ℕ) (w : List ℕ) (p : HeaderPart) → went_at f (on_keyword s k w (key.InHeader p)) ≡ on_keyword (stage_at f s) (f k) w (key.InHeader p)
  in-header-at BeforeVersion k w p = refl
  in-header-at (InHeader h) k w p = header-part-at f h k w p
  in-header-at (InComponent c) k w p = refl
  in-header-at (InSelector s) k w p = refl
  in-header-at (InModel m) k w p = refl
  in-header-at AfterEnd k w p = refl

  in-component-at : (s : Stage) (k : ℕ) (w : List ℕ) (p : ComponentPart)
      → went_at f (on_keyword s k w (key.InComponent p)) ≡ on_keyword (stage_at f s) (f k) w (key.InComponent p)
  in-component-at BeforeVersion k w p = refl
  in-component-at (InHeader h) k w p = refl
  in-component-at (InComponent c) k w p = component-part-at f c k w p
  in-component-at (InSelector s) k w p = refl
  in-component-at (InModel m) k w p = refl
  in-component-at AfterEnd k w p = refl

  in-model-at : (s : Stage) (k : ℕ) (w : List ℕ) (p : ModelPart) → went_at f (on_keyword s k w (key.InModel p)) ≡ on_keyword (stage_at f s) (f k) w (key.InModel p)
  in-model-at BeforeVersion k w p = refl
  in-model-at (InHeader h) k w p = refl
  in-model-at (InComponent c) k w p = refl
  in-model-at (InSelector s) k w p = refl
  in-model-at (InModel m) k w p = model-part-at f m k w p
  in-model-at AfterEnd k w p = refl

  on-keyword-at : (s : Stage) (k : ℕ) (w : List ℕ) (x : Keyword) → went_at f (on_keyword s k w x) ≡ on_keyword (stage_at f s) (f k) w x
  on-keyword-at s k w key.IbisVer = on-version-at s k w
  on-keyword-at s k w (key.InHeader p) = in-header-at s k w p
  on-keyword-at s k w (key.Opens o) = then_at f (done k s) (λ t. opened k w o) (λ t. opened (f k) w o) (λ t. opened-at k w o) ∙ rw (done_at k s)
  on-keyword-at s k w (key.InComponent p) = in-component-at s k w p
  on-keyword-at s k w (key.InModel p) = in-model-at s k w p
  on-keyword-at s k w key.End =
      let ended : Stage → Went = λ t. Ok (AfterEnd, Ended (told w (no_argument (argument w)))) in
      then_at f (done k s) ended ended (λ t. refl) ∙ rw (done_at k s)

  keyed-at : (s : Stage) (k : ℕ) (w : List ℕ) (x : Said Keyword) → went_at f (keyed s k w x) ≡ keyed (stage_at f s) (f k) w x
  keyed-at s k w (Err n) = refl
  keyed-at s k w (Ok x) = on-keyword-at s k w x

  -- ---- a line

  on-line-at : (s : Stage) (k : ℕ) (w : List ℕ) → went_at f (on_line s k w) ≡ on_line (stage_at f s) (f k) w
  on-line-at BeforeVersion k w = refl
  on-line-at (InHeader h) k w = header-line-at f h k
  on-line-at (InComponent c) k w = component-line-at f c k w c.list
  on-line-at (InSelector s) k w = selector-line-at f s k w
  on-line-at (InModel m) k w = model-line-at f m k w m.list
  on-line-at AfterEnd k w = refl

  on-plain-at : (s : Stage) (k : ℕ) (w : List ℕ) → went_at f (on_plain s k w) ≡ on_plain (stage_at f s) (f k) w
  unfolding on_plain
  on-plain-at s k w =
      cond_map (went_at f) (is_bracketed w) _ _
      ∙ rw (then_at f (shut k s) _ (λ t. keyed t (f k) w (key_of w)) (λ t. keyed-at t k w (key_of w)), shut_at k s, on-line-at s k w)

  on-change-at : (s : Stage) (k : ℕ) (x : LineFault) → went_at f (on_change s k x) ≡ on_change (stage_at f s) (f k) x
  unfolding on_change
  on-change-at BeforeVersion k x = simp (refuse-at f, passes_at f)
  on-change-at (InHeader h) k x = simp (refuse-at f, passes_at f)
  on-change-at (InComponent c) k x = simp (refuse-at f, passes_at f)
  on-change-at (InSelector s) k x = simp (refuse-at f, passes_at f)
  on-change-at (InModel m) k x = simp (refuse-at f, passes_at f)
  on-change-at AfterEnd k x = simp (refuse-at f, passes_at f)

  pub on-text-at : (s : Stage) (t : Text) → went_at f (on_text s t) ≡ on_text (stage_at f s) (text_at f t)
  on-text-at s (plain k w) = on-plain-at s k w
  on-text-at s (change k x) = on-change-at s k x
