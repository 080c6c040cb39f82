-- Plain data as the element of a slice, with what the walks ask of it: a declared struct has it by `struct-elem`, a number by `number-elem`.
use mathlib.Core.List.{List, [], ◌∷◌}
use Prim.Native.Nat.{ℕ}
use seplogic.Ra.Ura.{Ura}
use mir.Syntax.{Ty, Written, Width, ty_int}
use mir.Val.{Val, vint}
use base.Stored.{Coded}
use base.Fml.{Fml, Lft}
use types.Logic.{Logic}
use denote.Exit.{unchanged}
use denote.RattleType.{RattleType}
use denote.Laws.{Is, Tells, Makes, Lawful, Copy}
use denote.Memory.{lone}
use denote.Plain.{UInt, uint_Tells, uint_Lawful, uint_copy}
use denote.Shadow.{makes_shadow}
use denote.Struct.Declared.{Declared, fields, row as row_of}
use denote.Struct.Struct.{Plains}
use denote.Struct.Laws as LL

pub record Data : Type 2 where
  pub D : Type 0
  pub τ : Ty
  pub written : Written
  pub reaches : List (Written × List Ty)
  pub lives : Lft
  pub own : D → List Val → Fml
  pub coded : Coded D
  pub shr_at : D → ℕ → ℕ → Lft → Fml
  pub val : D → Val

abbrev pub row : Data → RattleType
row e = record { Denot = e.D; mir = e.τ ∷ []; written = e.written; reaches = e.reaches; lives = e.lives; own_val = e.own; exit = λ k. unchanged; coded = e.coded; shr_at = e.shr_at }

-- the machine values of a datum: it is one value
abbrev pub vals : (e : Data) → e.D → List Val
vals e d = e.val d ∷ []

pub record Elem (e : Data) : Type 2 where
  pub tells : Tells (row e) (Is (row e)) (vals e)
  pub lawful : {M : Type 1} {𝓤 : Ura M} (𝓛 : Logic 𝓤) → Lawful 𝓛 (row e)
  pub makes : {M : Type 1} {𝓤 : Ura M} (𝓛 : Logic 𝓤) → Makes 𝓛 (row e) (Is (row e))
  pub copy : {M : Type 1} {𝓤 : Ura M} (𝓛 : Logic 𝓤) → Copy 𝓛 (row e)

-- ---- a declared struct
abbrev pub of_struct : (T : Declared) → LL.Laws T → Data
of_struct T L = record { D = T.D; τ = lone (row_of T).mir; written = (row_of T).written; reaches = (row_of T).reaches; lives = (row_of T).lives; own = (row_of T).own_val; coded = (row_of T).coded; shr_at = (row_of T).shr_at; val = LL.val T L }

pub struct-elem : (T : Declared) (L : LL.Laws T) → LL.Copyables T.parts → Plains (fields T) → Elem (of_struct T L)
struct-elem T L cs pl = record {
  tells = LL.tells T L;
  lawful = λ 𝓛. record { typed = (LL.lawful T L 𝓛).typed };
  makes = LL.makes T pl;
  copy = λ 𝓛. record { twice = (LL.copy T cs 𝓛).twice };
}

-- ---- a number
abbrev pub of_number : Width → Data
of_number w = record { D = ℕ; τ = ty_int w; written = (UInt w).written; reaches = (UInt w).reaches; lives = (UInt w).lives; own = (UInt w).own_val; coded = (UInt w).coded; shr_at = (UInt w).shr_at; val = vint w }

pub number-elem : (w : Width) → Elem (of_number w)
number-elem w = record {
  tells = uint_Tells w;
  lawful = λ 𝓛. record { typed = (uint_Lawful 𝓛 w).typed };
  makes = λ 𝓛 x vs is. makes_shadow 𝓛 ((UInt w).own_val x vs) (tt, tt) is;
  copy = λ 𝓛. record { twice = (uint_copy 𝓛 w).twice };
}
