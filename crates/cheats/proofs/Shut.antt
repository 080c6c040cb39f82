-- A reader that cheats always does so on the files of `Caught` too, with blank tables lent.
use Prim.Native.Nat.{ℕ}
use mathlib.Core.Path.{◌≡◌, refl, sym, ◌∙◌, subst₂}
use mathlib.Core.List.{List}
use lib.ListN.{length, replicate}
use native.Mathlib.Omega.{arith}
use Rattle.reader.specs.Promise.{Lent, Reads}
use Rattle.blank_records.specs.Blank.{blank_components, blank_pins, blank_selectors, blank_choices, blank_models, blank_waveforms}
use Rattle.cheats.specs.Files.{listed, misnamed, altered, clamped}
use Rattle.demand_three.specs.Demand.{AcceptedFile}
use Rattle.cheats.specs.Cheats.{Reader, KeepsPromise, all_lent, AtBounds, name_length, MakesUpAllRows, ShutsOut}
use Rattle.cheats.proofs.Computed.{laid_of, listed-passes, clamped-passes, listed-rows, clamped-rows, same_first}
use Rattle.cheats.proofs.Caught as caught

-- tables at document 01's bounds, and 8,192 rows of four words
unfoldable blank : Lent
blank =
    record {
      components = blank_components;
      pins = blank_pins;
      selectors = blank_selectors;
      choices = blank_choices;
      models = blank_models;
      waveforms = blank_waveforms;
      rows = replicate 32768 0;
    }

long : AtBounds blank
unfolding blank blank_components blank_pins blank_selectors blank_choices blank_models blank_waveforms
long = refl

nameless : name_length blank.models ≡ 3 → ⊥
unfolding blank blank_models
nameless e = omega (arith, e)

module _ (p : Reader) (keeps : KeepsPromise p) where
  -- a number that is told of each accepted file is the number of its rows
  number_is : (does : MakesUpAllRows p) (s : List ℕ) → AcceptedFile all_lent s → does.number blank ≡ length (laid_of s).rows
  number_is does s fine =
      sym (does.told s blank (caught.accepted blank long _ _ s fine (keeps s blank))) ∙ caught.rows blank long _ _ s fine (keeps s blank)

  pub shuts-out : ShutsOut p
  shuts-out =
      record {
        refuses_all = λ does. caught.refuses blank long _ _ (keeps listed blank) (does listed blank);
        accepts_all_empty = λ does. caught.accepts blank long _ _ (keeps misnamed blank) (does misnamed blank);
        never_writes = λ does. caught.writes_nothing blank long _ _ nameless (keeps listed blank) (does listed blank);
        reads_first_only = λ does.
            let same = does listed altered same_first blank in
            caught.pretends blank long _ _ (keeps listed blank) (subst₂ (Reads altered blank) (sym same.0) (sym same.1) (keeps altered blank));
        makes_up_all_rows = λ does. omega (arith, number_is does listed listed-passes ∙ listed-rows, number_is does clamped clamped-passes ∙ clamped-rows);
      }
