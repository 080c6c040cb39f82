-- A file's tables by its sections: what lies there is only added to, so the model of a section lies behind what the sections before it added.
use Prim.Native.Nat.{ℕ, zero, suc, ◌+◌}
use Prim.Native.String.{String}
use mathlib.Core.Path.{◌≡◌, ap, subst, ◌∙◌}
use mathlib.Core.List.{List, [], ◌∷◌, ◌++◌}
use native.Mathlib.Omega.{arith}
use lib.ListN.{drop}
use Rattle.laws.proofs.Tests.{impossible}
use Rattle.cut_lines.specs.Texts.{Text}
use Rattle.rules.specs.Reading.{model_in, tables_in, SectionIs, model, FileIs}
use Rattle.layout.specs.Laid.{Laid, tables, with_section, laid_from, laid}
use Rattle.layout.proofs.Growth.{Extends, extends-from}
use Rattle.records.specs.declared.Span.{Span}
use Rattle.records.specs.declared.Table.{Table}
use Rattle.demand_three.specs.Demand.{LiesIn}

-- ---- the section that comes after n others

lies-first : (t u : Laid) (n : ℕ) (w : List ℕ) (ts : List Text) → Extends (n + 1) (with_section t n (model w ts)) u → LiesIn u n w ts
lies-first t u n w ts x = record { sooner = t; later = x.later; models = x.models; waveforms = x.waveforms; rows = x.rows }

head-model : (x : SectionIs) (xs others : List SectionIs) (w : List ℕ) (ts : List Text) → x ∷ xs ≡ model w ts ∷ others → x ≡ model w ts
head-model x xs others w ts e = cc

module _ (others : List SectionIs) (w : List ℕ) (ts : List Text) where
  lies-from : (t : Laid) (k n : ℕ) (xs : List SectionIs) → drop n xs ≡ model w ts ∷ others → LiesIn (laid_from t k xs) (k + n) w ts
  unfolding laid_from
  lies-from t k zero [] e = impossible (cc)
  lies-from t k (suc n) [] e = impossible (cc)
  lies-from t k zero (x ∷ xs) e =
      let p : k ≡ k + 0 = omega arith in
      subst (λ (j : ℕ). LiesIn (laid_from (with_section t k x) (k + 1) xs) j w ts) p
      (lies-first t _ k w ts
      (subst (λ (y : SectionIs). Extends (k + 1) (with_section t k y) (laid_from (with_section t k x) (k + 1) xs)) (head-model x xs others w ts e) (extends-from (k + 1) (with_section t k x) xs)))
  lies-from t k (suc n) (x ∷ xs) e =
      let p : k + 1 + n ≡ k + suc n = omega arith in
      subst (λ (j : ℕ). LiesIn (laid_from (with_section t k x) (k + 1) xs) j w ts) p (lies-from (with_section t k x) (k + 1) n xs e)

  pub lies_in : (f : FileIs) (n : ℕ) → drop n f.sections ≡ model w ts ∷ others → LiesIn (laid f) n w ts
  unfolding laid
  lies_in f n e =
      let p : 0 + n ≡ n = omega arith in
      subst (λ (j : ℕ). LiesIn (laid_from (tables [] [] [] [] [] [] []) 0 f.sections) j w ts) p (lies-from (tables [] [] [] [] [] [] []) 0 n f.sections e)

-- ---- texts that read the same lie the same

module _ (n : ℕ) (w : List ℕ) (ts us : List Text) where
  with-same : ((table : String → Table) (waveforms : Span) → model_in n table waveforms w ts ≡ model_in n table waveforms w us) → tables_in ts ≡ tables_in us
      → (l : Laid) → with_section l n (model w ts) ≡ with_section l n (model w us)
  with-same h q l = rw (h, q)

  pub lies_same : ((table : String → Table) (waveforms : Span) → model_in n table waveforms w ts ≡ model_in n table waveforms w us) → tables_in ts ≡ tables_in us
      → (t : Laid) → LiesIn t n w ts → LiesIn t n w us
  lies_same h q t x =
      let e = with-same h q x.sooner in
      record {
        sooner = x.sooner;
        later = x.later;
        models = x.models ∙ ap (λ (l : Laid). l.models ++ x.later.models) e;
        waveforms = x.waveforms ∙ ap (λ (l : Laid). l.waveforms ++ x.later.waveforms) e;
        rows = x.rows ∙ ap (λ (l : Laid). l.rows ++ x.later.rows) e;
      }
