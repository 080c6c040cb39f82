-- Names as texts, and whether two are the same.
use Rattle.std.specs.Prelude.{ℕ, List, Bool, take}
use Rattle.laws.specs.Lists.{eqs}
use Rattle.records.specs.Texts.{Name}

-- the bytes that a name holds: a length past its bytes takes all of them
unfoldable pub name_bytes : Name → List ℕ
name_bytes n = take n.len n.bytes

-- the name is made of these bytes
unfoldable pub is_named : Name → List ℕ → Bool
is_named n w = eqs (name_bytes n) w

unfoldable pub same_name : Name → Name → Bool
same_name a b = is_named a (name_bytes b)
