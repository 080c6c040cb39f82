-- Demand 3: from what a section's own lines give; an accepted section is sound, and a sound one tells nothing of its own.
use Prim.Native.Nat.{◌+◌}
use mathlib.Core.Path.{sym, ◌∙◌}
use mathlib.Core.Logic.{⊎_elim}
use mathlib.Core.List.{[], ◌∷◌}
use lib.ListN.{length}
use Rattle.demand_three.specs.Lines.{is_model_section}
use Rattle.demand_three.specs.Demand.{Demand3}
use Rattle.laws.proofs.Tests.{impossible}
use Rattle.demand_three.proofs.Sound.{sound}
use Rattle.demand_three.proofs.Refusal.{told-by-its-lines}
use Rattle.demand_three.proofs.Own.{own-none}
use Rattle.demand_three.proofs.Same.{name, body, alone, says-alone}

pub demand3 : Demand3
unfolding is_model_section
demand3 c [] h l s p a m t q = impossible (cc)
demand3 c (first ∷ others) h l s p a m t q =
    record {
      accepted = λ b.
          record {
            name = name c first others h;
            texts = body c first others h 2;
            alone = alone c first others h;
            says = says-alone c first others h s p;
            says_too = says-alone c first others h t q;
          };
      refusal = λ n k column e from to.
          ⊎_elim (λ x. x)
          (λ own. let z = sym (own-none c first others h (sound c first others h l s p a) (length q.before + 1)) ∙ own in impossible (cc))
          (told-by-its-lines c (first ∷ others) h m t q n k column e from to);
    }
