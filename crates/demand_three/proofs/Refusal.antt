-- Where a section stands, no fault but the excepted ones and its own is told at its lines: before it and behind it lines are told outside, its keyword
-- closes what was open or is out of place, its texts go on or stop, and the keyword straight after closes it.
use Rattle.std.specs.Prelude.{Ok, None, Some, Result, Err}
use Prim.Native.Nat.{ℕ, suc, ◌+◌, ◌<◌}
use Prim.Native.Char.{code}
use mathlib.Core.Path.{◌≡◌, refl, sym, ap, subst, ◌∙◌}
use mathlib.Core.Logic.{inl, inr, ⊎_elim}
use mathlib.Core.List.{List, [], ◌∷◌, ◌++◌, append_assoc, append-nil}
use mathlib.Core.Bool.{true, false}
use native.Mathlib.Omega.{arith}
use lib.ListN.{length, length-append}
use Rattle.lines.specs.Lines.{Physical, lines_of, fault_from, bytes_fault, cut}
use Rattle.laws.specs.Lists.{all}
use Rattle.laws.proofs.Tests.{impossible}
use Rattle.laws.proofs.Fronts.{all_first, all-second}
use Rattle.keywords.specs.Carried.{key_of}
use Rattle.keywords.specs.declared.Keyword.TheVariants as key
use Rattle.keywords.specs.declared.Section.TheVariants.{Model}
use Rattle.cut_lines.specs.Texts.{Text, plain, texts_from}
use Rattle.rules.proofs.Outcomes.{loaded-refuses}
use Rattle.rules.specs.Going.{and_then, Went}
use Rattle.rules.specs.Model.{new_model}
use Rattle.rules.specs.Reading.{is_within}
use Rattle.rules.specs.Whole.{Held, nothing_held, Outcome, refused, admit, after_step, runs, concluded, texts_of, after_bytes, outcome}
use Rattle.rules.specs.Steps.{opened}
use Rattle.records.specs.declared.Fault.{Fault}
use Rattle.records.specs.declared.Lengths.{Lengths}
use Rattle.rules.specs.declared.Stage.{Stage}
use Rattle.rules.specs.declared.Stage.TheVariants.{BeforeVersion, InModel}
use Rattle.rules.specs.declared.Event.TheVariants.{Opened}
use Rattle.cut_lines.specs.InForce.{char_after_line}
use Rattle.demand_three.specs.Lines.{is_model_section}
use Rattle.demand_three.specs.Demand.{Stands, out_of_place}
use Rattle.demand_three.specs.Own.{stopping, texts_tell, own_fault, ToldByItsLines}
use Rattle.renumbered.proofs.Stages.{went_at}
use Rattle.demand_three.proofs.Closing.{close, close_at, alone, alone_at, alone-model, opened-either, Closer, misplaced, closes, closer, model-ends, model-key}
use Rattle.lines.proofs.Clean.{is_clean, clean-file, clean-none}
use Rattle.demand_three.proofs.Bytes.{BytesSpare, bytes-spare}
use Rattle.demand_three.proofs.Split.{split, early}
use Rattle.demand_three.proofs.Sound.{key-ends, key-model, body-within}
use Rattle.demand_three.proofs.Spared.{outside, outside_low, outside_high, AllFine, Safe, spare-outside, Goes, admits-safe, admits-model, step-outside, texts-outside, out-outside, texts-within, concluded-safe}

module _ (lo hi : ℕ) (Own : Fault → Type 0) (l : Lengths) (past : ℕ) where
  -- ---- the section's keyword

  alone-safe : (w : List ℕ) (us : List Text) (h : Held) → AllFine lo hi h.entries → ((f : Fault) → opened (lo + 1) w Model ≡ Err f → Own f)
      → (opened (lo + 1) w Model ≡ Ok (InModel (new_model (lo + 1)), Opened Model)
      → (g : Held) → AllFine lo hi g.entries → Safe lo hi Own (runs l past (InModel (new_model (lo + 1))) g us))
      → Safe lo hi Own (after_step l h (plain (lo + 1) w) (λ (u : Stage) (g : Held). runs l past u g us) (opened (lo + 1) w Model))
  alone-safe w us h y stops more =
      ⊎_elim
      (λ q. rw q (admits-safe lo hi Own (lo + 1) _ (admit l h (lo + 1) w (Opened Model)) (admits-model lo hi Own l h (lo + 1) w y) (more q)))
      (λ p. rw p.1 (λ a b. inr (stops p.0 p.1)))
      (opened-either (lo + 1) w)

  -- behind what it closes
  closed-safe : (w : List ℕ) (us : List Text) (v : Went) (h : Held) → went_at (outside lo hi) v ≡ v
      → Safe lo hi Own (after_step l h (plain (lo + 1) w) (λ (u : Stage) (g : Held). runs l past u g us) (alone (lo + 1) w))
      → Safe lo hi Own (after_step l h (plain (lo + 1) w) (λ (u : Stage) (g : Held). runs l past u g us) (and_then v (λ (t : Stage). alone (lo + 1) w)))
  closed-safe w us (Ok (s, e)) h x safe = safe
  closed-safe w us (Err f) h x safe = spare-outside lo hi Own f.number f.line f.column (cc)

  key-safe : (w : List ℕ) (us : List Text) → is_within (plain 0 w) ≡ false → key_of w ≡ Ok (key.Opens Model) → ((f : Fault) → opened (lo + 1) w Model ≡ Err f → Own f)
      → (opened (lo + 1) w Model ≡ Ok (InModel (new_model (lo + 1)), Opened Model)
      → (g : Held) → AllFine lo hi g.entries → Safe lo hi Own (runs l past (InModel (new_model (lo + 1))) g us))
      → Goes lo hi Own (λ (s : Stage) (h : Held). runs l past s h (plain (lo + 1) w ∷ us))
  unfolding runs
  key-safe w us e k stops more s h x y = by (closer s (lo + 1) w e)
    where
      by : Closer s (lo + 1) w → Safe lo hi Own (runs l past s h (plain (lo + 1) w ∷ us))
      by (misplaced z) = rw z (λ a b. inl (out_of_place refl refl))
      by (closes z) =
          rw (z 0)
          (closed-safe w us (close 0 s) h (close_at (outside lo hi) 0 s ∙ rw (outside_low lo hi 0 (omega arith), x))
          (rw (alone-model (lo + 1) w k) (alone-safe w us h y stops more)))

  -- ---- the keyword straight after

  next-safe : (j : ℕ) (w : List ℕ) (us : List Text) (i : ℕ) (v : Stage) (h : Held) → is_within (plain 0 w) ≡ false → ((f : Fault) → close i v ≡ Err f → Own f)
      → outside lo hi j ≡ j → AllFine lo hi h.entries → Goes lo hi Own (λ (s : Stage) (g : Held). runs l past s g us) → Safe lo hi Own (runs l past v h (plain j w ∷ us))
  unfolding runs
  next-safe j w us i v h e stops x y more = by (closer v j w e)
    where
      after : (u : Went) → close i v ≡ u → Safe lo hi Own (after_step l h (plain j w) (λ (s : Stage) (g : Held). runs l past s g us) (and_then u (λ (t : Stage). alone j w)))
      after (Ok (a, b)) q = step-outside lo hi Own l h (plain j w) _ (alone j w) (alone_at (outside lo hi) j w ∙ ap (λ (k : ℕ). alone k w) x) x y more
      after (Err f) q = λ a b. inr (stops f q)

      by : Closer v j w → Safe lo hi Own (runs l past v h (plain j w ∷ us))
      by (misplaced z) = rw z (spare-outside lo hi Own 7 j 0 x)
      by (closes z) = rw (z i) (after (close i v) refl)

-- ---- the whole file

bytes-safe : (lo hi : ℕ) (Own : Fault → Type 0) (b : Result (Unit {0}) Fault) (go : Outcome) → BytesSpare lo hi Own b → (b ≡ Ok tt → Safe lo hi Own go) → Safe lo hi Own (after_bytes go b)
bytes-safe lo hi Own (Ok tt) go x y = y refl
bytes-safe lo hi Own (Err f) go x y = λ a b. inr (x a b)

module _ (c : ℕ) (first : Physical) (others : List Physical) (model : is_model_section c (first ∷ others) ≡ true) where
  -- behind lo lines, what the section's lines tell
  abbrev OwnAt : ℕ → Fault → Type 0
  OwnAt lo f = own_fault c (lo + 1) (first ∷ others) ≡ Some f

  module _ (lo : ℕ) where
    own-bytes : (f : Fault) → fault_from (lo + 1) (first ∷ others) ≡ Err f → OwnAt lo f
    unfolding own_fault
    own-bytes f e = rw e refl

    module _ (clean : fault_from (lo + 1) (first ∷ others) ≡ Ok tt) where
      own-keyword : (f : Fault) → opened (lo + 1) (cut c first.bytes) Model ≡ Err f → OwnAt lo f
      unfolding own_fault
      own-keyword f e = rw (clean, e) refl

      own-texts : opened (lo + 1) (cut c first.bytes) Model ≡ Ok (InModel (new_model (lo + 1)), Opened Model)
          → (f : Fault) → texts_tell (lo + 1) (InModel (new_model (lo + 1))) (texts_from (char_after_line c first) (lo + 1 + 1) others) ≡ Some f → OwnAt lo f
      unfolding own_fault
      own-texts q f e = rw (clean, q) e

  tells-close : (j : ℕ) (s : Stage) (f : Fault) → close j s ≡ Err f → texts_tell j s [] ≡ Some f
  unfolding texts_tell
  tells-close j s f q = ap (λ (w : Went). stopping w (λ (t : Stage). None)) q

  module _ (l : Lengths) (past lo hi : ℕ) (place : hi ≡ lo + suc (length others)) (clean : fault_from (lo + 1) (first ∷ others) ≡ Ok tt) where
    -- the section's texts behind its keyword, and the keyword straight after
    body-safe : (w : List ℕ) (us : List Text) → is_within (plain 0 w) ≡ false → Goes lo hi (OwnAt lo) (λ (s : Stage) (g : Held). runs l past s g us)
        → opened (lo + 1) (cut c first.bytes) Model ≡ Ok (InModel (new_model (lo + 1)), Opened Model) → (h : Held) → AllFine lo hi h.entries
        → Safe lo hi (OwnAt lo) (runs l past (InModel (new_model (lo + 1))) h (texts_from (char_after_line c first) (lo + 1 + 1) others ++ (plain (hi + 1) w ∷ us)))
    body-safe w us e more q h y =
        texts-within lo hi (OwnAt lo) l past (lo + 1) (plain (hi + 1) w ∷ us) (texts_from (char_after_line c first) (lo + 1 + 1) others) (new_model (lo + 1)) h
        (body-within c first others model (lo + 1 + 1)) (own-texts lo clean q)
        (λ v tells g z. next-safe lo hi (OwnAt lo) l past (hi + 1) w us (lo + 1) (InModel v) g e (λ f r. tells f (tells-close (lo + 1) (InModel v) f r))
        (outside_high lo hi (hi + 1) (omega arith) (omega arith)) z more)
        y

  past_all : (t : List ℕ) (p : Stands c (first ∷ others) t) → length p.before + suc (length others) < length (lines_of t) + 1
  past_all t p =
      omega (arith, ap length p.lines, length-append (p.before ++ (first ∷ others)) p.after, length-append p.before (first ∷ others))

  texts-safe : (l : Lengths) (t : List ℕ) (p : Stands c (first ∷ others) t) → fault_from (length p.before + 1) (first ∷ others) ≡ Ok tt
      → Safe (length p.before) (length p.before + suc (length others)) (OwnAt (length p.before)) (runs l (length (lines_of t) + 1) BeforeVersion nothing_held (texts_of t))
  texts-safe l t p clean =
      let lo = length p.before in
      let hi = lo + suc (length others) in
      let past = length (lines_of t) + 1 in
      let sp = split c first others t (key-ends c first others model) p in
      let word : List ℕ = cut c first.bytes in
      let behind : Goes lo hi (OwnAt lo) (λ (s : Stage) (h : Held). runs l past s h sp.rest) =
      subst (λ (ts : List Text). Goes lo hi (OwnAt lo) (λ (s : Stage) (h : Held). runs l past s h ts)) (append-nil sp.rest)
      (texts-outside lo hi (OwnAt lo) l past sp.rest [] (sp.late (outside lo hi) (λ n q. outside_high lo hi n (omega arith) q)) (out-outside lo hi (OwnAt lo) l past (omega (arith, past_all t p)) (past_all t p))) in
      rw sp.texts
      (texts-outside lo hi (OwnAt lo) l past (texts_from (code "|") 1 p.before) _ (early (outside lo hi) (code "|") p.before (outside_low lo hi))
      (key-safe lo hi (OwnAt lo) l past word _ (model-ends (plain 0 word) (key-model c first others model)) (model-key 0 word (key-model c first others model)) (own-keyword lo clean)
      (body-safe l past lo hi refl clean sp.next sp.rest sp.ends behind))
      BeforeVersion nothing_held refl tt)

  pub told : (l : Lengths) (t : List ℕ) (p : Stands c (first ∷ others) t)
      → Safe (length p.before) (length p.before + suc (length others)) (OwnAt (length p.before)) (outcome l t)
  unfolding outcome
  told l t p =
      let lo = length p.before in
      let hi = lo + suc (length others) in
      let ran = runs l (length (lines_of t) + 1) BeforeVersion nothing_held (texts_of t) in
      let next : 1 + lo ≡ lo + 1 = omega arith in
      bytes-safe lo hi (OwnAt lo) (bytes_fault t) (concluded ran)
      (bytes-spare lo hi (OwnAt lo) p.before (first ∷ others) p.after t (p.lines ∙ append_assoc p.before (first ∷ others) p.after)
      (λ f e. own-bytes lo f (sym (ap (λ (k : ℕ). fault_from k (first ∷ others)) next) ∙ e)) refl refl)
      (λ e. concluded-safe lo hi (OwnAt lo) ran (texts-safe l t p (clean-none (lo + 1) (first ∷ others) (section-clean t p e))))
    where
      section-clean : (t : List ℕ) (p : Stands c (first ∷ others) t) → bytes_fault t ≡ Ok tt → all is_clean (first ∷ others) ≡ true
      section-clean t p e =
          all-second is_clean p.before (first ∷ others) (all_first is_clean (p.before ++ (first ∷ others)) p.after (rw p.lines at (clean-file t e)))

pub told-by-its-lines : ToldByItsLines
unfolding is_model_section
told-by-its-lines c [] h m t p n k column e a b = impossible (cc)
told-by-its-lines c (first ∷ others) h m t p n k column e a b =
    let lo = length p.before in
    let safe : Outcome → Type 0 = Safe lo (lo + suc (length others)) (OwnAt c first others h lo) in
    ⊎_elim
    (λ is. let so : safe (refused n k column) = subst safe is (told c first others h m.tables t p) in so a b)
    (λ z. absurd (omega (arith, z, a)))
    (loaded-refuses m t n k column e)
