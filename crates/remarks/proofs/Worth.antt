-- What a list is worth, its entries being the lines: a fault is told at an entry, or behind the last if the list runs out. No line's number is read, so a
-- number that no line has is never told.
use Rattle.std.specs.Prelude.{Result, Ok, Err}
use Prim.Native.Nat.{ℕ, zero, suc, ◌+◌, ◌≤◌, ◌<◌}
use mathlib.Core.Path.{◌≡◌, refl, sym, ap, ap₂, subst, ◌∙◌}
use mathlib.Core.Logic.{◌⊎◌, inl, inr}
use mathlib.Core.List.{List, [], ◌∷◌, map, reverse}
use mathlib.Core.Bool.{cond}
use native.Mathlib.Omega.{arith}
use lib.ListN.{length}
use lib.Dec.{eqb, leb}
use borrow.Author.Tests.{le-leb, lt-leb, ne_eqb, eqb-false}
use Rattle.laws.proofs.Tests.{by-test, by_order, cond_yes, cond_no, cond-all, impossible}
use Rattle.cut_lines.specs.Texts.{Text}
use Rattle.cut_lines.proofs.Renumbered.{text_at}
use Rattle.records.specs.declared.LineFault.{LineFault}
use Rattle.records.specs.declared.Lengths.{Lengths}
use Rattle.rules.specs.Outline.{Entry, is_found, is_listed, first_failing}
use Rattle.rules.specs.Steps.{is_ended, on_text}
use Rattle.rules.specs.Whole.{Held, nothing_held, Outcome, passed, refused, admit, line_of, text_of, after_admission, after_step, runs, last_checks, concluded}
use Rattle.rules.specs.declared.Stage.{Stage}
use Rattle.rules.specs.declared.Stage.TheVariants.{BeforeVersion}
use Rattle.rules.specs.Going.{Went}
use Rattle.renumbered.proofs.Outcomes.{Numbering, runs-at, whole-at}
use Rattle.renumbered.proofs.Told.{outcome_at}
use Rattle.remarks.proofs.Texts.{text_for, texts_at, text_at_lem}

unfoldable pub worth : Lengths → List (List ℕ) → Outcome
worth l ws = concluded (runs l (length ws + 1) BeforeVersion nothing_held (texts_at 1 ws))

-- of n entries, told by their places from 1 on
pub data Told (n : ℕ) : Outcome → Type 0 where
  accepts : {h : Held} → Told n (passed h)
  runs_out : Told n (refused 19 (n + 1) 0)
  at_entry : {o c : ℕ} (i : ℕ) → i < n → Told n (refused o (suc i) c)

-- ---- the line after the last is told of a list that runs out, or not at all

module _ (l : Lengths) where
  abbrev OutOrNot : (ℕ → Outcome) → Type 0
  OutOrNot go = ((past : ℕ) → go past ≡ refused 19 past 0) ⊎ ((p q : ℕ) → go p ≡ go q)

  admission-past : (k : ℕ) (go : ℕ → Held → Outcome) → ((h : Held) → OutOrNot (λ (past : ℕ). go past h)) → (r : Result Held LineFault) → OutOrNot (λ (past : ℕ). after_admission k (go past) r)
  admission-past k go q (Ok h) = q h
  admission-past k go q (Err f) = inr (λ p q. refl)

  step_past : (h : Held) (t : Text) (go : ℕ → Stage → Held → Outcome) → ((s : Stage) (g : Held) → OutOrNot (λ (past : ℕ). go past s g)) → (w : Went) → OutOrNot (λ (past : ℕ). after_step l h t (go past) w)
  step_past h t go q (Ok (s, e)) = admission-past (line_of t) (λ (past : ℕ). go past s) (q s) (admit l h (line_of t) (text_of t) e)
  step_past h t go q (Err f) = inr (λ p q. refl)

  runs_past : (s : Stage) (h : Held) (ts : List Text) → OutOrNot (λ (past : ℕ). runs l past s h ts)
  unfolding runs
  runs_past s h [] = by-test (is_ended s) (λ t. inr (λ p q. rw t refl)) (λ t. inl (λ past. cond_no _ _ t))
  runs_past s h (t ∷ ts) = step_past h t (λ past u g. runs l past u g ts) (λ u g. runs_past u g ts) (on_text s t)

-- ---- numberings that keep the places of the entries

kept-texts : (f : ℕ → ℕ) (k : ℕ) (ws : List (List ℕ)) → ((i : ℕ) → i < length ws → f (k + i) ≡ k + i) → map (text_at f) (texts_at k ws) ≡ texts_at k ws
unfolding texts_at
kept-texts f k [] h = refl
kept-texts f k (w ∷ ws) h =
    let here : f k ≡ k = from (k + 0) (h 0 (omega arith)) (omega arith) in
    let more = kept-texts f (k + 1) ws (λ i q. from (k + suc i) (h (suc i) (omega arith)) (omega arith)) in
    ap₂ (λ (t : Text) (ts : List Text). t ∷ ts) (text_at_lem f k w ∙ ap (λ (j : ℕ). text_for j w) here) more
  where
    from : (a : ℕ) {x : ℕ} → f a ≡ a → a ≡ x → f x ≡ x
    from a q p = ap f (sym p) ∙ q ∙ p

-- the numbers above n are moved
unfoldable above : ℕ → ℕ → ℕ
above n k = cond (leb k n) k (k + 1)

-- 0 is moved
abbrev lifted : ℕ → ℕ
lifted zero = 1
lifted (suc k) = suc k

module _ (n : ℕ) where
  kept-below : (k : ℕ) → k ≤ n → above n k ≡ k
  unfolding above
  kept-below k h = cond_yes _ _ (le-leb k n h)

  moved-above : (k : ℕ) → n < k → above n k ≡ k + 1
  unfolding above
  moved-above k h = cond_no _ _ (lt-leb k n h)

  above-numbering : Numbering (above n)
  above-numbering =
      record {
        none = kept-below 0 (omega arith);
        apart = λ k. by_order k n (λ h. ap (λ (x : ℕ). eqb x 0) (kept-below k h)) (λ h. ne_eqb (above n k) 0 (λ q. omega (arith, moved-above k h)) ∙ sym (ne_eqb k 0 (λ q. omega arith)));
      }

  -- ---- what is told stays where it is under both

  abbrev Stays : (ℕ → ℕ) → Outcome → Type 0
  Stays f o = o ≡ outcome_at f o

  at-entry : (o i c : ℕ) → (i ≡ 0 → ⊥) → Stays (above n) (refused o i c) → Told n (refused o i c)
  at-entry o zero c h q = absurd (h refl)
  at-entry o (suc i) c h q =
      by_order (suc i) n (λ below. at_entry i below)
      (λ more.
      let z : suc i ≡ above n (suc i) = cc in
      absurd (omega (arith, moved-above (suc i) more)))

  checks-told : (es : List Entry) (h : Held) → Stays (above n) (last_checks es (passed h)) → Told n (last_checks es (passed h))
  unfolding last_checks
  checks-told es h =
      let missing = first_failing (λ e. is_found es e e.kind) es in
      let unlisted = first_failing (λ e. is_listed es e e.kind) es in
      cond-all (λ (o : Outcome). Stays (above n) o → Told n o) (eqb missing 0) _ _
      (λ t. cond-all (λ (o : Outcome). Stays (above n) o → Told n o) (eqb unlisted 0) _ _ (λ u q. accepts) (λ u q. at-entry 16 unlisted 0 (eqb-false unlisted 0 u) q))
      (λ t q. at-entry 15 missing 0 (eqb-false missing 0 t) q)

  concluded-told : (r : Outcome) → Stays lifted r → Stays (above n) (concluded r) → Told n (concluded r)
  concluded-told (passed h) p q = checks-told (reverse h.entries) h q
  concluded-told (refused o i c) p q = at-entry o i c (λ e. let z : i ≡ lifted i = cc in impossible (sym e ∙ z ∙ ap lifted e)) q

-- ---- of a list

pub worth-told : (l : Lengths) (ws : List (List ℕ)) → Told (length ws) (worth l ws)
unfolding worth
worth-told l ws = by-past (runs_past l BeforeVersion nothing_held (texts_at 1 ws))
  where
    n : ℕ
    n = length ws

    by-past : OutOrNot l (λ (past : ℕ). runs l past BeforeVersion nothing_held (texts_at 1 ws)) → Told n (concluded (runs l (n + 1) BeforeVersion nothing_held (texts_at 1 ws)))
    by-past (inl out) = subst (λ (o : Outcome). Told n (concluded o)) (sym (out (n + 1))) runs_out
    by-past (inr same) =
        let go : ℕ → List Text → Outcome = λ past ts. runs l past BeforeVersion nothing_held ts in
        let low = kept-texts lifted 1 ws (λ i q. let e : 1 + i ≡ suc i = omega arith in ap lifted e ∙ sym e) in
        let high = kept-texts (above n) 1 ws (λ i q. kept-below n (1 + i) (omega arith)) in
        concluded-told n (go (n + 1) (texts_at 1 ws))
        (same (n + 1) (lifted (n + 1)) ∙ ap (go (lifted (n + 1))) (sym low) ∙ runs-at lifted l (n + 1) BeforeVersion nothing_held (texts_at 1 ws))
        (ap concluded (same (n + 1) (above n (n + 1)) ∙ ap (go (above n (n + 1))) (sym high)) ∙ whole-at (above n) (above-numbering n) l (n + 1) (texts_at 1 ws))
