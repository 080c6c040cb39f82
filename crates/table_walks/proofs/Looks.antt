-- An enum of plain data as what a walk keeps.
use denote.Memory.{lone}
use denote.Enum.Declared.{Declared as EnumDeclared, variants, shape, row as Enum-Row}
use denote.Enum.Enum.{Plainss, Few}
use denote.Enum.Laws as EL
use Rattle.table_walks.proofs.Elem.{Data, Elem}

abbrev pub of-enum : (T : EnumDeclared) → EL.Laws T → Data
of-enum T L = record { D = T.D; τ = lone (Enum-Row T).mir; written = (Enum-Row T).written; reaches = (Enum-Row T).reaches; lives = (Enum-Row T).lives; own = (Enum-Row T).own_val; coded = (Enum-Row T).coded; shr_at = (Enum-Row T).shr_at; val = EL.val T L }

pub enum-elem : (T : EnumDeclared) (L : EL.Laws T) → Few (shape T) → EL.Copyabless T.parts → Plainss (variants T) → Elem (of-enum T L)
enum-elem T L few cs pl = record {
  tells = EL.tells T L;
  lawful = λ 𝓛. record { typed = (EL.lawful T L 𝓛 few).typed };
  makes = EL.makes T pl;
  copy = λ 𝓛. record { twice = (EL.copy T cs 𝓛).twice };
}
