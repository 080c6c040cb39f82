-- What a line says or leaves as it was before, by what the code answers.
use Rattle.std.specs.Prelude.{Result, Ok, Err}
use Prim.Native.Nat.{ℕ}
use mathlib.Core.Path.{◌≡◌, refl, sym, ap, ◌∙◌}
use mathlib.Core.List.{List}
use Rattle.laws.specs.Said.{or_else}
use Rattle.records.specs.Flaws.{told_in}
use Rattle.records.specs.declared.LineFault.{LineFault}
use Rattle.records.specs.declared.ModelType.{ModelType}
use Rattle.records.proofs.Columns.{told-else}
use Rattle.line_rules.specs.Fields.{word_line}
use Rattle.line_rules.specs.Tables.{model_types}

abbrev type_or : ModelType → Result ModelType LineFault → ModelType
type_or before (Ok t) = t
type_or before (Err f) = before

type-or : (before : ModelType) (x : Result ModelType LineFault) → type_or before x ≡ or_else before x
type-or before (Ok t) = refl
type-or before (Err f) = refl

module _ (before : ModelType) {read : Result ModelType LineFault} (w : List ℕ) (e : read ≡ told_in w (word_line model_types w)) where
  type-is : type_or before read ≡ or_else before (word_line model_types w)
  type-is = ap (type_or before) e ∙ type-or before (told_in w (word_line model_types w)) ∙ told-else w before (word_line model_types w)

  pub type-some : {t : ModelType} → read ≡ Ok t → t ≡ or_else before (word_line model_types w)
  type-some q = sym (ap (type_or before) q) ∙ type-is

  pub type-none : {f : LineFault} → read ≡ Err f → before ≡ or_else before (word_line model_types w)
  type-none q = sym (ap (type_or before) q) ∙ type-is
