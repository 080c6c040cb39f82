-- What a section's lines tell by themselves is told wherever they stand, with the lines' numbers alone another; a sound section tells nothing.
use Rattle.std.specs.Prelude.{Option, None, Some, Result, Ok, Err}
use Prim.Native.Nat.{ℕ, ◌+◌}
use mathlib.Core.Path.{◌≡◌, refl, sym, ap, ◌∙◌}
use mathlib.Core.List.{List, [], ◌∷◌, map}
use mathlib.Core.Bool.{true}
use mathlib.Core.Logic.{⊎_elim}
use native.Mathlib.Omega.{arith}
use lib.ListN.{length}
use Rattle.laws.proofs.Tests.{cond_map, impossible}
use Rattle.lines.specs.Lines.{Physical, fault_from, cut}
use Rattle.keywords.specs.declared.Section.TheVariants.{Model}
use Rattle.cut_lines.specs.Texts.{Text, texts_from}
use Rattle.cut_lines.proofs.Renumbered.{text_at, texts-map}
use Rattle.records.specs.declared.Fault.{Fault}
use Rattle.records.specs.declared.Lending.{Lending}
use Rattle.rules.specs.Steps.{opened, on_text}
use Rattle.rules.specs.Model.{new_model}
use Rattle.rules.specs.declared.Stage.{Stage}
use Rattle.rules.specs.declared.Stage.TheVariants.{InModel}
use Rattle.rules.specs.Going.{Went}
use Rattle.cut_lines.specs.InForce.{char_after_line}
use Rattle.demand_three.specs.Lines.{is_model_section}
use Rattle.demand_three.specs.Demand.{Stands}
use Rattle.demand_three.specs.Own.{or_sooner, stopping, texts_tell, own_fault, OwnTold, SameFault, SameFaults}
use Rattle.renumbered.proofs.Stages.{stage_at, fault_at, went_at}
use Rattle.renumbered.proofs.Steps.{opened-at, on-text-at}
use Rattle.demand_three.proofs.Closing.{close, close_at, alone-model, model-key}
use Rattle.demand_three.proofs.Walks.{Walks}
use Rattle.lines.proofs.Clean.{is_clean, clean-none}
use Rattle.demand_three.proofs.Sound.{Sound, key-model}
use Rattle.demand_three.proofs.Refusal.{told-by-its-lines}

-- ---- with the lines numbered anew

abbrev told_at : (ℕ → ℕ) → Option Fault → Option Fault
told_at f None = None
told_at f (Some x) = Some (fault_at f x)

abbrev bytes_at : (ℕ → ℕ) → Result (Unit {0}) Fault → Result (Unit {0}) Fault
bytes_at f (Ok tt) = Ok tt
bytes_at f (Err x) = Err (fault_at f x)

module _ (f : ℕ → ℕ) where
  sooner-at : (b : Result (Unit {0}) Fault) (later : Option Fault) → told_at f (or_sooner b later) ≡ or_sooner (bytes_at f b) (told_at f later)
  sooner-at (Ok tt) later = refl
  sooner-at (Err x) later = refl

  stopping-at : (w : Went) (g h : Stage → Option Fault) → ((s : Stage) → told_at f (g s) ≡ h (stage_at f s)) → told_at f (stopping w g) ≡ stopping (went_at f w) h
  stopping-at (Ok (s, e)) g h q = q s
  stopping-at (Err x) g h q = refl

  tell-at : (k : ℕ) (ts : List Text) (s : Stage) → told_at f (texts_tell k s ts) ≡ texts_tell (f k) (stage_at f s) (map (text_at f) ts)
  unfolding texts_tell
  tell-at k [] s =
      stopping-at (close k s) _ (λ (t : Stage). None) (λ t. refl) ∙ ap (λ (w : Went). stopping w (λ (t : Stage). None)) (close_at f k s)
  tell-at k (t ∷ ts) s =
      let more : Stage → Option Fault = λ u. texts_tell (f k) u (map (text_at f) ts) in
      stopping-at (on_text s t) _ more (λ u. tell-at k ts u) ∙ ap (λ (w : Went). stopping w more) (on-text-at f s t)

-- d lines later
fault-later : (d k : ℕ) (ls : List Physical) → bytes_at (λ n. n + d) (fault_from k ls) ≡ fault_from (k + d) ls
unfolding fault_from
fault-later d k [] = refl
fault-later d k (l ∷ ls) =
    let e : k + 1 + d ≡ k + d + 1 = omega arith in
    cond_map (bytes_at (λ n. n + d)) (is_clean l) _ _ ∙ rw (fault-later d (k + 1) ls, e) refl

own-later : (c d : ℕ) (section : List Physical) → told_at (λ n. n + d) (own_fault c 0 section) ≡ own_fault c d section
unfolding own_fault
own-later c d [] = refl
own-later c d (first ∷ others) =
    let f : ℕ → ℕ = λ n. n + d in
    let zero : 0 + d ≡ d = omega arith in
    let texts : map (text_at f) (texts_from (char_after_line c first) 1 others) ≡ texts_from (char_after_line c first) (d + 1) others =
    texts-map f (char_after_line c first) 1 (d + 1) others (λ i q. omega arith) in
    let more : Stage → Option Fault = λ u. texts_tell (0 + d) u (map (text_at f) (texts_from (char_after_line c first) 1 others)) in
    sooner-at f (fault_from 0 (first ∷ others)) _
    ∙ rw (fault-later d 0 (first ∷ others), stopping-at f (opened 0 (cut c first.bytes) Model) _ more (λ s. tell-at f 0 _ s), opened-at f 0 (cut c first.bytes) Model, zero, texts) refl

-- ---- two files tell the same

pub same-faults : SameFaults
same-faults c section h l s first n j x a m t second o k y b =
    let own = own-told c section h l s first n j x a in
    let own_too = own-told c section h m t second o k y b in
    same (own_fault c 0 section) (own-later c _ section ∙ own) (own-later c _ section ∙ own_too)
  where
    own-told : (c : ℕ) (section : List Physical) → is_model_section c section ≡ true → (m : Lending) (t : List ℕ) (stands : Stands c section t) (n k column : ℕ)
        → OwnTold m t stands n k column → own_fault c (length stands.before + 1) section ≡ Some (record { number = n; line = k; column = column })
    own-told c section h m t stands n k column a =
        ⊎_elim (λ e. absurd (a.own e)) (λ e. e) (told-by-its-lines c section h m t stands n k column a.told a.from a.to)

    fault-same : (f g : Fault) → Some f ≡ Some g → f ≡ g
    fault-same f g e = cc

    same : (told : Option Fault)
        → told_at (λ i. i + (length first.before + 1)) told ≡ Some (record { number = n; line = j; column = x })
        → told_at (λ i. i + (length second.before + 1)) told ≡ Some (record { number = o; line = k; column = y })
        → SameFault first second n j x o k y
    same None p q = impossible (cc)
    same (Some f) p q =
        let here = fault-same _ _ p in
        let there = fault-same _ _ q in
        record {
          number = sym (ap (λ (z : Fault). z.number) here) ∙ ap (λ (z : Fault). z.number) there;
          line = omega (arith, ap (λ (z : Fault). z.line) here, ap (λ (z : Fault). z.line) there);
          column = sym (ap (λ (z : Fault). z.column) here) ∙ ap (λ (z : Fault). z.column) there;
        }

-- ---- a sound section tells nothing

walks-tell : (k : ℕ) (ts : List Text) (s v : Stage) → Walks s ts v → texts_tell k s ts ≡ texts_tell k v []
unfolding texts_tell
walks-tell k [] s v h = ap (λ (u : Stage). texts_tell k u []) h
walks-tell k (t ∷ ts) s v h =
    ap (λ (w : Went). stopping w (λ (u : Stage). texts_tell k u ts)) h.2 ∙ walks-tell k ts h.0 v h.3

module _ (c : ℕ) (first : Physical) (others : List Physical) (model : is_model_section c (first ∷ others) ≡ true) (so : Sound c first others) where
  none_first : own_fault c 0 (first ∷ others) ≡ None
  unfolding own_fault texts_tell
  none_first =
      let w : List ℕ = cut c first.bytes in
      let opens = sym (alone-model 0 w (model-key 0 w (key-model c first others model))) ∙ so.opened 0 in
      rw (clean-none 0 (first ∷ others) so.clean, opens) (walks-tell 0 (texts_from (char_after_line c first) 1 others) (InModel (new_model 0)) (InModel so.last) so.walks ∙ ap (λ (v : Went). stopping v (λ (t : Stage). None)) so.shuts)

  pub own-none : (k : ℕ) → own_fault c k (first ∷ others) ≡ None
  own-none k = sym (own-later c k (first ∷ others)) ∙ ap (told_at (λ n. n + k)) none_first
