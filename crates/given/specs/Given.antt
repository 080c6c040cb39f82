-- What was given so far, of up to 64 things: a number whose bit k says whether the thing at place k was given.
use Rattle.std.specs.Prelude.{ℕ, ◌+◌, ◌/◌, ◌%◌, ◌^◌, Bool, false, not, ◌&&◌, cond, eqb, ltb, Option, Some, None}
use Prim.Native.String.{String}
use Rattle.laws.specs.Bytes.{bytes}
use Rattle.words.specs.Words.{words}
use Rattle.name_table.specs.Names.{place_from}
use Rattle.given.specs.declared.Given.{Given}

abbrev pub none_given : Given
none_given = record { bits = 0 }

-- the thing at place k was given
unfoldable pub has : Given → ℕ → Bool
has x k = ltb k 64 && eqb (x.bits / 2 ^ k % 2) 1

-- and from here on: the bit is set, where it is not
unfoldable pub with : Given → ℕ → Given
with x k = cond (ltb k 64 && not (has x k)) (record { bits = x.bits + 2 ^ k }) x

-- the thing of this name was given; its place is that of its name in a table, a text that lists the names with a blank between
abbrev pub has_found : Given → Option ℕ → Bool
has_found x None = false
has_found x (Some k) = has x k

unfoldable pub gave : Given → String → String → Bool
gave x table name = has_found x (place_from 0 (bytes name) (words (bytes table)))
