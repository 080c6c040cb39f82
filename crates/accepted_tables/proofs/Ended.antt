-- A file that passes has a component: [End] asks for one, and nothing goes on behind it.
use Rattle.std.specs.Prelude.{Result, Ok, Err}
use Prim.Native.Nat.{ℕ, ◌+◌, ◌≤◌}
use mathlib.Core.Path.{◌≡◌, refl, sym, ap, subst, ◌∙◌}
use mathlib.Core.List.{List, [], ◌∷◌, map}
use mathlib.Core.Bool.{Bool, true, false}
use native.Mathlib.Omega.{arith}
use lib.ListN.{length}
use lib.Dec.{eqb}
use borrow.Author.Tests.{eqb-false}
use Rattle.records.specs.Flaws.{bare}
use Rattle.records.specs.declared.LineFault.{LineFault}
use Rattle.laws.proofs.Tests.{by-test, cond-all, cond_yes, cond_no, never, impossible}
use Rattle.cut_lines.specs.Texts.{Text, plain, change}
use Rattle.line_rules.specs.Fields.{is_bracketed}
use Rattle.rules.specs.Outline.{Entry, is, count}
use Rattle.rules.specs.Steps.{is_ended, on_plain, on_change, on_text}
use Rattle.rules.specs.Whole.{Held, passed, refused, admit, text_of, line_of, runs}
use Rattle.records.specs.declared.Kind.TheVariants.{OfComponent}
use Rattle.records.specs.declared.Lengths.{Lengths}
use Rattle.rules.specs.declared.Stage.{Stage}
use Rattle.rules.specs.declared.Stage.TheVariants.{BeforeVersion, InHeader, InComponent, InSelector, InModel, AfterEnd}
use Rattle.rules.specs.declared.Event.{Event}
use Rattle.rules.specs.declared.Event.TheVariants.{Quiet, Opened, PinRow, ChoiceRow, WaveformOpened, TableRow, Ended}
use Rattle.notes.specs.Noted.{Note, entry_of}
use Rattle.layout_by_notes.specs.Lies.{pick}
use Rattle.layout_by_notes.proofs.Goes.{Goes}
use Rattle.accepted_tables.proofs.Checks.{past-refuse, gone, stepped}
use Rattle.accepted_tables.proofs.Events.{Names, text-goes}

-- ---- behind [End]

nothing-goes : (t : Text) → Goes (λ (u : Stage) (e : Event). ⊥) (on_text AfterEnd t)
unfolding on_plain on_change
nothing-goes (plain k w) = cond-all (Goes (λ (u : Stage) (e : Event). ⊥)) (is_bracketed w) _ _ (λ b. tt) (λ b. tt)
nothing-goes (change k f) = past-refuse (λ (u : Stage) (e : Event). ⊥) true 7 k _ (λ a. impossible (cc))

-- ---- [End] itself

abbrev HasOne : Held → Type 0
HasOne h = 1 ≤ count (is OfComponent) h.entries

end-admitted : (l : Lengths) (h g : Held) (k : ℕ) (w : List ℕ) (f : LineFault) → admit l h k w (Ended f) ≡ Ok g → HasOne g
end-admitted l h g k w f q =
    let n : ℕ = count (is OfComponent) h.entries in
    let kept : Result Held LineFault = Ok h in
    by-test (eqb n 0)
    (λ t. let z : Err (bare 9) ≡ Ok g = sym (cond_yes _ _ t) ∙ q in impossible (cc))
    (λ t.
    by-test (eqb f.number 0)
    (λ a.
    let z : kept ≡ Ok g = sym (cond_yes _ _ a) ∙ sym (cond_no _ _ t) ∙ q in
    let same : h ≡ g = cc in
    let some = eqb-false n 0 t in
    subst HasOne same (omega (arith, some)))
    (λ a. let z : Err f ≡ Ok g = sym (cond_no _ _ a) ∙ sym (cond_no _ _ t) ∙ q in impossible (cc)))

-- the event that leaves the file ended is [End]
ending : (l : Lengths) (h g : Held) (k : ℕ) (w v : List ℕ) (u : Stage) (e : Event) → Names v u e → is_ended u ≡ true → admit l h k w e ≡ Ok g → HasOne g
ending l h g k w v u Quiet n i a = absurd (never (is_ended u) i n.1)
ending l h g k w v u (Opened o) n i a = absurd (never (is_ended u) i n.1)
ending l h g k w v u PinRow n i a = absurd (never (is_ended u) i n.1)
ending l h g k w v u ChoiceRow n i a = absurd (never (is_ended u) i n.1)
ending l h g k w v u WaveformOpened n i a = absurd (never (is_ended u) i n.1)
ending l h g k w v u TableRow n i a = absurd (never (is_ended u) i n.1)
ending l h g k w v u (Ended f) n i a = end-admitted l h g k w f a

-- ---- the run

held-is : (g z : Held) → passed g ≡ passed z → g ≡ z
held-is g z q = cc

module _ (l : Lengths) (past : ℕ) where
  no_more : (ts : List Text) (u : Stage) (g z : Held) → is_ended u ≡ true → runs l past u g ts ≡ passed z → g ≡ z
  unfolding runs
  no_more [] u g z i q = held-is g z (sym (cond_yes (passed g) (refused 19 past 0) i) ∙ q)
  no_more (t ∷ ts) BeforeVersion g z i q = impossible (cc)
  no_more (t ∷ ts) (InHeader h) g z i q = impossible (cc)
  no_more (t ∷ ts) (InComponent c) g z i q = impossible (cc)
  no_more (t ∷ ts) (InSelector s) g z i q = impossible (cc)
  no_more (t ∷ ts) (InModel m) g z i q = impossible (cc)
  no_more (t ∷ ts) AfterEnd g z i q =
      let b = stepped l g t (λ (u : Stage) (h : Held). runs l past u h ts) (on_text AfterEnd t) z q in
      absurd (gone (λ (u : Stage) (e : Event). ⊥) (on_text AfterEnd t) b.0 b.1 (nothing-goes t) b.2)

  pub has_one : (ts : List Text) (s : Stage) (h z : Held) → is_ended s ≡ false → runs l past s h ts ≡ passed z → HasOne z
  unfolding runs
  has_one [] s h z i q = let e : refused 19 past 0 ≡ passed z = sym (cond_no (passed h) (refused 19 past 0) i) ∙ q in impossible (cc)
  has_one (t ∷ ts) s h z i q =
      let b = stepped l h t (λ (u : Stage) (g : Held). runs l past u g ts) (on_text s t) z q in
      let names = gone (Names (text_of t)) (on_text s t) b.0 b.1 (text-goes s t) b.2 in
      by-test (is_ended b.0)
      (λ y. subst HasOne (no_more ts b.0 b.3 z y b.5) (ending l h b.3 (line_of t) (text_of t) (text_of t) b.0 b.1 names y b.4))
      (λ y. has_one ts b.0 b.3 z y b.5)

-- ---- as many are noted

pub count-picked : (p : Entry → Bool) (ns : List Note) → count p (map entry_of ns) ≡ length (pick (λ (n : Note). p (entry_of n)) ns)
unfolding count pick
count-picked p [] = refl
count-picked p (n ∷ ns) =
    by-test (p (entry_of n))
    (λ t. cond_yes _ _ t ∙ ap (λ (x : ℕ). x + 1) (count-picked p ns) ∙ omega arith ∙ sym (ap length (cond_yes (n ∷ pick (λ (x : Note). p (entry_of x)) ns) _ t)))
    (λ t. cond_no _ _ t ∙ count-picked p ns ∙ sym (ap length (cond_no (n ∷ pick (λ (x : Note). p (entry_of x)) ns) _ t)))
