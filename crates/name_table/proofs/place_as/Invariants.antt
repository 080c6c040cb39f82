-- The place among the names from k on is that among all.
use mathlib.Core.Path.{◌≡◌}
use mathlib.Core.List.{map}
use lib.ListN.{drop}
use Rattle.words.specs.Spelled.{byte_as}
use Rattle.name_table.specs.Names.{place_from}
use Rattle.name_table.specs.Listed.{names_in}
use Rattle.name_table.proofs.place_as.Given as goal

abbrev pub invariant-loop-k : goal.invariant-loop-k
invariant-loop-k l = place_from l.k (map (byte_as l.how) l.w) (drop l.k (names_in l.fn.list)) ≡ place_from 0 (map (byte_as l.how) l.w) (names_in l.fn.list)
