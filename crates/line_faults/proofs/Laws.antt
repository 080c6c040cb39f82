-- Laws on a line's fault by its place, and on what must not be there.
use Rattle.std.specs.Prelude.{Some}
use Prim.Native.Nat.{ℕ, zero, suc, ◌≤◌}
use Prim.Native.String.{String}
use mathlib.Core.Path.{◌≡◌, refl, ap, ap₂, ◌∙◌}
use mathlib.Core.List.{List}
use mathlib.Core.Bool.{Bool, false, cond, ◌||◌}
use lib.Dec.{eqb, ltb}
use native.Mathlib.Omega.{arith}
use borrow.Author.Tests.{ne_eqb, le-ltb}
use Rattle.laws.specs.Bytes.{bytes, is_blank}
use Rattle.laws.specs.Lists.{eqs, one_of}
use Rattle.records.specs.Flaws.{Flaw}
use Rattle.words.specs.Words.{words, grown, onto_word}
use Rattle.name_table.specs.Names.{place_from}
use Rattle.keywords.specs.declared.CurrentTable.{CurrentTable}
use Rattle.keywords.specs.declared.CurrentTable.TheVariants.{Pulldown, Pullup, GndClamp, PowerClamp}
use Rattle.keywords.specs.declared.ModelPart.TheVariants.{Current}
use Rattle.line_rules.specs.Fields.{name_of, is_named, line_at, no_argument}
use Rattle.line_rules.specs.Tables.{model_lines, capacitances, ramp_lines}
use Rattle.line_rules.proofs.Places.{named-at}
use Rattle.rules.specs.Model.{first_flaw, ramp_flaw, model_flaw}
use Rattle.line_faults.specs.Places.{first_at, value_at, ramp_at}

-- ---- the first lines: from the fourth place on, and by name

pub first-value : (n : ℕ) (w : List ℕ) → 3 ≤ n → first_at n w ≡ value_at n w
unfolding first_at
first-value n w h = rw (ne_eqb n 0 (omega arith), ne_eqb n 1 (omega arith), ne_eqb n 2 (omega arith))

-- the places of C_comp and its four parts, from the fourth to the eighth
abbrev is_part : ℕ → Bool
is_part n = eqb n 3 || (eqb n 4 || (eqb n 5 || (eqb n 6 || (eqb n 7 || false))))

past-parts : (n : ℕ) → 8 ≤ n → ltb n 8 ≡ is_part n
past-parts n h =
    rw (le-ltb n 8 h, ne_eqb n 3 (omega arith), ne_eqb n 4 (omega arith), ne_eqb n 5 (omega arith), ne_eqb n 6 (omega arith), ne_eqb n 7 (omega arith))

-- the words' places before them, then these, then the others
abbrev by_place : Bool → ℕ → (a b c d e : Flaw) → Flaw
by_place part n a b c d e = cond (eqb n 0) a (cond (eqb n 1) b (cond (eqb n 2) c (cond part d e)))

past-place : (n : ℕ) → 8 ≤ n → (a b c d e : Flaw) → by_place (ltb n 8) n a b c d e ≡ by_place (is_part n) n a b c d e
past-place n h a b c d e = ap (λ (part : Bool). by_place part n a b c d e) (past-parts n h)

by_place_lem : (n : ℕ) (a b c d e : Flaw) → by_place (ltb n 8) n a b c d e ≡ by_place (is_part n) n a b c d e
by_place_lem zero a b c d e = refl
by_place_lem (suc zero) a b c d e = refl
by_place_lem (suc (suc zero)) a b c d e = refl
by_place_lem (suc (suc (suc zero))) a b c d e = refl
by_place_lem (suc (suc (suc (suc zero)))) a b c d e = refl
by_place_lem (suc (suc (suc (suc (suc zero))))) a b c d e = refl
by_place_lem (suc (suc (suc (suc (suc (suc zero)))))) a b c d e = refl
by_place_lem (suc (suc (suc (suc (suc (suc (suc zero))))))) a b c d e = refl
by_place_lem (suc (suc (suc (suc (suc (suc (suc (suc n)))))))) a b c d e = past-place (suc (suc (suc (suc (suc (suc (suc (suc n)))))))) (omega arith) a b c d e

-- where a name stands among the first lines
abbrev Stands : String → ℕ → Type 0
Stands name k = place_from 0 (bytes name) (words (bytes model_lines)) ≡ Some k

part-places : Stands "C_comp" 3 × Stands "C_comp_pullup" 4 × Stands "C_comp_pulldown" 5 × Stands "C_comp_power_clamp" 6 × Stands "C_comp_gnd_clamp" 7
unfolding place_from words grown onto_word is_blank eqs
part-places = (refl, refl, refl, refl, refl)

module _ (n : ℕ) (w : List ℕ) (e : line_at model_lines w ≡ Some n) where
  parts-named : one_of (name_of w) (words (bytes capacitances)) ≡ is_part n
  unfolding one_of words grown onto_word is_blank is_named
  parts-named =
      ap₂ ◌||◌ (named-at model_lines "C_comp" w n 3 e part-places.0)
      (ap₂ ◌||◌ (named-at model_lines "C_comp_pullup" w n 4 e part-places.1)
      (ap₂ ◌||◌ (named-at model_lines "C_comp_pulldown" w n 5 e part-places.2)
      (ap₂ ◌||◌ (named-at model_lines "C_comp_power_clamp" w n 6 e part-places.3)
      (ap₂ ◌||◌ (named-at model_lines "C_comp_gnd_clamp" w n 7 e part-places.4) refl))))

  pub first-named : first_at n w ≡ first_flaw w
  unfolding first_at value_at first_flaw place_from words grown onto_word is_blank eqs
  first-named =
      by_place_lem n _ _ _ _ _
      ∙ rw (
        named-at model_lines "Model_type" w n 0 e refl,
        named-at model_lines "Polarity" w n 1 e refl,
        named-at model_lines "Enable" w n 2 e refl,
        parts-named,
      )

-- ---- a ramp's lines

pub ramp-named : (n : ℕ) (w : List ℕ) → line_at ramp_lines w ≡ Some n → ramp_at n w ≡ ramp_flaw w
unfolding ramp_at ramp_flaw place_from words grown onto_word is_blank eqs
ramp-named n w e = rw (named-at ramp_lines "R_load" w n 2 e refl)

-- ---- the keywords of the current tables, which take no argument

pub current-alone : (argument : List ℕ) (t : CurrentTable) → no_argument argument ≡ model_flaw argument (Current t)
current-alone argument Pulldown = refl
current-alone argument Pullup = refl
current-alone argument GndClamp = refl
current-alone argument PowerClamp = refl
