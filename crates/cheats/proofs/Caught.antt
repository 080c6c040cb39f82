-- What the promise fixes on a file (reader's `Strength`) and what is computed of that file contradict each cheat, whatever the lent tables held.
use Rattle.std.specs.Prelude.{Result, Ok, Err}
use Prim.Native.Nat.{ℕ}
use mathlib.Core.Path.{◌≡◌, sym, ap, ◌∙◌}
use mathlib.Core.List.{List, ◌++◌}
use lib.ListN.{length, drop}
use native.Mathlib.Omega.{arith}
use Rattle.laws.proofs.Tests.{impossible}
use Rattle.rules.specs.Whole.{passed, loading}
use Rattle.layout.specs.Laid.{counts_of}
use Rattle.records.specs.declared.Fault.{Fault}
use Rattle.records.specs.declared.Counts.{Counts}
use Rattle.records.specs.declared.Answer.{Answer}
use Rattle.reader.specs.Promise.{Lent, lending_in, Reads}
use Rattle.reader.proofs.Strength as strength
use Rattle.demand_three.specs.Demand.{AcceptedFile}
use Rattle.cheats.specs.Files.{listed, misnamed, altered, clamped}
use Rattle.cheats.specs.Cheats.{all_lent, AtBounds, name_length, Refuses, AcceptsEmpty, WritesNothing, SkipsModels, Pretends, clamp_rows, MakesUpRows, of_file, of_table}
use Rattle.cheats.proofs.Computed.{comp_digits, laid_of, listed-passes, misnamed-fails, altered-passes, clamped-passes, listed-counts, clamped-rows, listed-name, listed-comp, altered-comp, clamped-clamp}

-- no verdict is both
apart : (v : Result (Unit {0}) Fault) (f : Fault) → v ≡ Ok tt → v ≡ Err f → ⊥
apart v f taken denied = impossible (cc)

-- whatever the tables hold
module _ (t : Lent) (long : AtBounds t) (r : Answer) (u : Lent) where
  at : (s : List ℕ) → loading (lending_in t) s ≡ loading all_lent s
  at s = ap (λ l. loading l s) long

  -- ---- what the promise says of a file that is accepted
  module _ (s : List ℕ) (fine : AcceptedFile all_lent s) (reads : Reads s t r u) where
    passes : loading (lending_in t) s ≡ passed fine.held
    passes = at s ∙ fine.passes

    pub accepted : r.verdict ≡ Ok tt
    accepted = strength.accepts-it s t r u reads fine.held passes

    models : u.models ≡ (laid_of s).models ++ drop (length (laid_of s).models) t.models
    models = strength.writes-all s t r u reads fine.held passes

    pub counts : r.counts ≡ counts_of (laid_of s)
    counts = strength.counts_all s t r u reads fine.held passes

    pub rows : r.counts.rows ≡ length (laid_of s).rows
    rows = ap (λ (c : Counts). c.rows) counts

  -- ---- what it says of a file that is refused
  pub told : Reads misnamed t r u → r.verdict ≡ Err (record { number = 15; line = 12; column = 0 })
  told reads = strength.refuses-it misnamed t r u reads 15 12 0 (at misnamed ∙ misnamed-fails)

  -- "after a fault, the lent tables hold what they held before"
  pub kept : Reads misnamed t r u → u ≡ t
  kept reads = strength.leaves-it misnamed t r u reads 15 12 0 (at misnamed ∙ misnamed-fails)

  -- ---- the five

  -- "a reader that refuses all files"
  pub refuses : Reads listed t r u → Refuses r → ⊥
  refuses reads does = apart _ does.fault (accepted listed listed-passes reads) does.told

  -- "one that accepts all with empty tables": the faulty file it may not accept, and the other one has records
  pub accepts : Reads misnamed t r u → AcceptsEmpty r → ⊥
  accepts reads does = apart _ _ does.accepted (told reads)

  pub accepts-empty : Reads listed t r u → AcceptsEmpty r → ⊥
  accepts-empty reads does = impossible (ap (λ (c : Counts). c.components) (sym does.empty ∙ counts listed listed-passes reads ∙ listed-counts))

  -- the first model has a name of three letters then; another one was lent
  pub skips : (name_length t.models ≡ 3 → ⊥) → Reads listed t r u → SkipsModels t u → ⊥
  skips other reads does = other (ap name_length (sym does ∙ models listed listed-passes reads) ∙ listed-name _)

  -- "one that writes nothing"
  pub writes_nothing : (name_length t.models ≡ 3 → ⊥) → Reads listed t r u → WritesNothing t u → ⊥
  writes_nothing other reads does = skips other reads (ap (λ (x : Lent). x.models) does)

  -- "one that reads the first section and pretends for the rest": it skips the models, or it makes them up
  pub pretends : Reads listed t r u → Pretends altered t r u → ⊥
  pretends reads does =
      let five : comp_digits u.models ≡ 5 = ap comp_digits (models listed listed-passes reads) ∙ listed-comp _ in
      let six : comp_digits u.models ≡ 6 = ap comp_digits (models altered altered-passes does) ∙ altered-comp _ in
      omega (arith, five, six)

  -- "one that makes up its counts of rows"
  pub makes-up-rows : Reads clamped t r u → MakesUpRows 2 r u → ⊥
  makes-up-rows reads (of_file wrong) = wrong (rows clamped clamped-passes reads ∙ clamped-rows)
  makes-up-rows reads (of_table wrong) = wrong (ap clamp_rows (models clamped clamped-passes reads) ∙ clamped-clamp _)
