-- Two scans pass over what is neither an LF nor the comment character; one of them stops there, or both at the end.
use Rattle.std.proofs.Common.{rules, of_calls, ◌≡◌, ◌+◌, ◌<◌, ℕ, ◌⊎◌, inl, inr, length, get_or}
use Rattle.laws.specs.Lists.{other}
use Rattle.laws.proofs.Fronts.{other-yes, other-no}
use Rattle.words.proofs.Scans.{Scan}
use Rattle.lines.proofs.Stops.{goes-on, text-stops}
use Rattle.lines.proofs.text_stop.Goals as goal

module _ (c : goal.After-skip_eights) where
  lf : (k : ℕ) → c.args.at + k < c.skip_eights.result → get_or c.args.s.now (c.args.at + k) 0 ≡ 10 → ⊥
  lf k h = let y = c.skip_eights.ensures.passed k h in search (rules, of_calls, y)

  mark : (k : ℕ) → c.args.at + k < c.skip_eights.result → get_or c.args.s.now (c.args.at + k) 0 ≡ c.args.comment → ⊥
  mark k h = let y = c.skip_eights.ensures.passed k h in search (rules, of_calls, y)

  stops : c.skip_eights.result < length c.args.s.now → (get_or c.args.s.now c.skip_eights.result 0 ≡ 10) ⊎ (get_or c.args.s.now c.skip_eights.result 0 ≡ c.args.comment)
  stops h = let y = c.skip_eights.ensures.stopped h in search (rules, of_calls, y)

  lf-scan : Scan (other 10) c.args.s.now c.args.at c.skip_eights.result
  lf-scan = goes-on _ _ _ c.skip_eights.ensures.lower_bound (other 10) (λ k h. other-yes _ _ (lf k h))

  mark-scan : Scan (other c.args.comment) c.args.s.now c.args.at c.skip_eights.result
  mark-scan = goes-on _ _ _ c.skip_eights.ensures.lower_bound (other c.args.comment) (λ k h. other-yes _ _ (mark k h))

pub returns-clause-value : goal.returns-clause-value
returns-clause-value c =
    text-stops _ _ _ c.skip_eights.ensures.lower_bound c.args.comment (lf-scan c) (mark-scan c)
    (λ h. elim (stops c h) [ inl e ↦ inl (other-no _ _ e) | inr e ↦ inr (other-no _ _ e) ])

pub returns-clause-result_value : goal.returns-clause-result_value
returns-clause-result_value c = (lf-scan c).1
