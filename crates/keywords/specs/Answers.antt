-- What the code answers to a keyword line: document 01's number for each case, and where the argument begins.
use Rattle.std.specs.Prelude.{ℕ, ◌-◌, ◌≤◌, ◌≡◌, List, Bool, cond, length, drop, Result, Ok, Err, Option, None, Some}
use Rattle.laws.specs.Lists.{one_of}
use Rattle.laws.specs.Said.{Said}
use Rattle.name_table.specs.Names.{meaning}
use Rattle.hierarchy.specs.Hierarchy.{hierarchy}
use Rattle.keywords.specs.Form.{inside, is_formed, spelled, argument}
use Rattle.keywords.specs.Carried.{carried}
use Rattle.keywords.specs.declared.Keyword.{Keyword}
use Rattle.keywords.specs.declared.KeyFault.{KeyFault}
use Rattle.keywords.specs.declared.KeyFault.TheVariants.{Gap, Slip, Malformed}

-- 5 badly formed, 6 of the hierarchy and not carried, 21 outside it
abbrev pub key_fault : KeyFault → ℕ
key_fault Gap = 6
key_fault Slip = 21
key_fault Malformed = 5

abbrev pub keyword_says : Result (Keyword × ℕ) KeyFault → Said Keyword
keyword_says (Ok (k, at)) = Ok k
keyword_says (Err f) = Err (key_fault f)

-- a keyword with where its argument begins; or else whether its name is one of the hierarchy
abbrev pub known : ℕ → Bool → Option Keyword → Result (Keyword × ℕ) KeyFault
known at listed None = Err (cond listed Gap Slip)
known at listed (Some k) = Ok (k, at)

unfoldable pub key_read : List ℕ → Result (Keyword × ℕ) KeyFault
key_read w =
    let name = spelled (inside w) in
    cond (is_formed w) (known (length w - length (argument w)) (one_of name hierarchy) (meaning name carried)) (Err Malformed)

-- the argument of a keyword line begins there
pub record ArgumentFrom (w : List ℕ) (at : ℕ) : Type 0 where
  pub text : drop at w ≡ argument w
  pub within : at ≤ length w
