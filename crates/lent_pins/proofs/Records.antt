-- The answers of a search and the pin that is sought as plain data for the walks, and a search as `Scan.antt` has it.
use Rattle.std.specs.Prelude.{Option, None}
use Prim.Native.Nat.{ℕ}
use mathlib.Core.Path.{refl}
use lib.ListN.{take}
use denote.Builtin.{usize}
use denote.Param.Laws.{Laws, Told, of_field, field_told}
use denote.Param.Shared.{copy_shared}
use denote.Struct.Field.{usize-field}
use denote.Struct.Laws.{usize-laws, usize-copy, usize-plain}
use Rattle.table_walks.proofs.Elem.{Data, Elem, of_struct, struct-elem}
use Rattle.table_walks.proofs.Looks.{of-enum, enum-elem}
use Rattle.table_walks.proofs.Scan.{Scan}
use Rattle.lent_pins.specs.Search.{first_of}
use Rattle.lent_pins.proofs.Laws.{is_seeking, Seeks, seeking-below, seeking-goes, seeking-ends}
use Rattle.std.specs.contracts.option.Option as O
use Rattle.std.proofs.option.Option.TheLaws as O'
use Rattle.lent_pins.specs.contracts.Sought as S
use Rattle.lent_pins.proofs.Sought.TheLaws as S'

-- a place is a usize
abbrev place-laws : Laws usize
place-laws = of_field usize-field usize-laws refl (copy_shared usize-field usize-copy)

abbrev place-told : Told usize
place-told = field_told usize-field usize-laws

abbrev pub places : Data
places = of-enum (O.the_type usize) (O'.the_laws usize place-laws place-told)

pub places-elem : Elem places
places-elem = enum-elem (O.the_type usize) (O'.the_laws usize place-laws place-told) tt (O'.the_copy usize place-laws usize-copy) (O'.the_plain usize usize-plain)

abbrev pub sought-pins : Data
sought-pins = of_struct S.the_type S'.the_laws

pub sought-pins-elem : Elem sought-pins
sought-pins-elem = struct-elem S.the_type S'.the_laws S'.the_copy S'.the_plain

-- what is found by a place, or behind it, is what the whole search finds
abbrev pub search-by : (e z : Data) → (z.D → ℕ → e.D → Option ℕ) → Scan e places z
search-by e z try = record {
  start = None;
  more = is_seeking;
  step = λ x q i. try q i x;
  answer = λ xs n q. first_of (try q) 0 (take n xs);
  Goes = λ xs n q. Seeks (try q) xs n;
  begins = λ xs n q. refl;
  below = seeking-below;
  goes = λ xs n q. seeking-goes (try q) xs n;
  ends = λ xs n q. seeking-ends (try q) xs n;
}
