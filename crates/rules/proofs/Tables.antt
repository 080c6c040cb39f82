-- A model's tables by its keywords: a text without a keyword opens none, and a keyword opens one if its spelling is among those of the tables.
use Rattle.std.specs.Prelude.{None, Some}
use mathlib.Core.Path.{◌≡◌, refl, ap, ◌∙◌}
use mathlib.Core.List.{List, [], ◌∷◌, ◌++◌}
use mathlib.Core.Bool.{Bool, cond}
use Prim.Native.Nat.{ℕ}
use Rattle.laws.specs.Bytes.{bytes, is_blank}
use Rattle.laws.specs.Lists.{one_of}
use Rattle.words.specs.Words.{words, grown, onto_word}
use Rattle.keywords.specs.declared.Keyword.{Keyword}
use Rattle.keywords.specs.declared.Keyword.TheVariants.{InModel}
use Rattle.keywords.specs.declared.ModelPart.TheVariants.{Current, Waveform}
use Rattle.keywords.specs.declared.CurrentTable.TheVariants.{Pulldown, Pullup, GndClamp, PowerClamp}
use Rattle.keywords.proofs.Spelling.{spelling}
use Rattle.records.specs.declared.Edge.TheVariants.{Rising, Falling}
use Rattle.cut_lines.specs.Texts.{Text}
use Rattle.line_rules.specs.Tables.{table_keywords}
use Rattle.rules.specs.Reading.{key_name, under, TableIs, tables_in}
use Rattle.rules.specs.Keys.{key_at}
use Rattle.rules.proofs.Keys.{key-named, are_spellings, none-of-spellings}

table_keys : List Keyword
table_keys =
    InModel (Current Pulldown) ∷ InModel (Current Pullup) ∷ InModel (Current GndClamp) ∷ InModel (Current PowerClamp)
    ∷ InModel (Waveform Rising) ∷ InModel (Waveform Falling)
    ∷ []

tables-are : words (bytes table_keywords) ≡ are_spellings table_keys
unfolding words grown onto_word is_blank table_keys
tables-are = refl

-- the table under a keyword of this name, if there is one
abbrev pub table_under : List ℕ → List (List ℕ) → List TableIs
table_under name ls = cond (one_of name (words (bytes table_keywords))) (record { key = name; lines = ls } ∷ []) []

module _ (t : Text) (ts : List Text) where
  pub tables-skip : key_at t ≡ None → tables_in (t ∷ ts) ≡ tables_in ts
  unfolding tables_in
  tables-skip e =
      ap (λ (is : Bool). cond is (record { key = key_name t; lines = under ts } ∷ []) [] ++ tables_in ts)
      (ap (one_of (key_name t)) tables-are ∙ none-of-spellings t table_keys e)

  pub tables-key : (k : Keyword) → key_at t ≡ Some k → tables_in (t ∷ ts) ≡ table_under (bytes (spelling k)) (under ts) ++ tables_in ts
  unfolding tables_in
  tables-key k e = ap (λ (name : List ℕ). table_under name (under ts) ++ tables_in ts) (key-named t k e)
