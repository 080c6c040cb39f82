-- Every keyword that is carried is one of the hierarchy and has at most 17 letters, and every name of the hierarchy can stand in brackets: each a test computed over a table.
use Rattle.std.specs.Prelude.{Option, None, Some}
use Prim.Native.Nat.{ℕ, ◌≤◌, ◌<◌}
use mathlib.Core.Path.{◌≡◌, refl}
use mathlib.Core.List.{List}
use mathlib.Core.Bool.{Bool, true, false}
use native.Mathlib.Omega.{arith}
use lib.Dec.{leb}
use lib.ListN.{length}
use borrow.Author.Tests.{leb-true}
use Rattle.laws.specs.Bytes.{bytes, is_blank}
use Rattle.laws.specs.Lists.{eqs, all, one_of}
use Rattle.name_table.specs.Names.{Naming, meaning}
use Rattle.name_table.proofs.Laws.{meaning-entry}
use Rattle.hierarchy.specs.Hierarchy.{hierarchy}
use Rattle.keywords.specs.Form.{is_joint, in_parts}
use Rattle.keywords.specs.Carried.{carried}
use Rattle.keywords.specs.declared.Keyword.{Keyword}

abbrev is_listed : Naming Keyword → Bool
is_listed e = one_of e.name hierarchy

all_listed : all is_listed carried ≡ true
unfolding carried hierarchy all one_of eqs
all_listed = refl

pub carried-listed : (w : List ℕ) (k : Keyword) → meaning w carried ≡ Some k → one_of w hierarchy ≡ true
carried-listed w k e = meaning-entry is_listed carried all_listed w k e

-- no carried keyword has more than 17 letters
abbrev is_short : Naming Keyword → Bool
is_short e = leb (length e.name) 17

all_short : all is_short carried ≡ true
unfolding carried all
all_short = refl

pub long-none : (w : List ℕ) → 17 < length w → meaning w carried ≡ None
long-none w h = by-case (meaning w carried) refl
  where
    by-case : (x : Option Keyword) → meaning w carried ≡ x → x ≡ None
    by-case None e = refl
    by-case (Some k) e =
        let short : length w ≤ 17 = leb-true (length w) 17 (meaning-entry is_short carried all_short w k e) in
        absurd (omega (arith, h, short))

-- [Comment Char], whose line is known before it is cut
pub comment-listed : one_of (bytes "comment_char") hierarchy ≡ true
unfolding hierarchy one_of eqs
comment-listed = refl

pub all-formed : all (in_parts false) hierarchy ≡ true
unfolding hierarchy all in_parts is_joint is_blank
all-formed = refl
