-- The rows of a model as a fold over its keywords: one that opens a table adds the words of its rows.
use Rattle.std.specs.Prelude.{None, Some}
use Prim.Native.Nat.{ℕ}
use mathlib.Core.Path.{◌≡◌, refl, sym, ap, ◌∙◌}
use mathlib.Core.List.{List, [], ◌∷◌, ◌++◌, append_assoc, append-nil, flat_map}
use mathlib.Core.Bool.{Bool, true, false, cond}
use Rattle.laws.specs.Bytes.{bytes, is_blank}
use Rattle.laws.specs.Lists.{eqs, one_of}
use Rattle.words.specs.Words.{words, grown, onto_word}
use Rattle.keywords.specs.declared.Keyword.{Keyword}
use Rattle.keywords.proofs.Spelling.{spelling}
use Rattle.cut_lines.specs.Texts.{Text}
use Rattle.line_rules.specs.Tables.{table_keywords}
use Rattle.rules.specs.Reading.{argument_at, under, TableIs, tables_in}
use Rattle.rules.specs.Keys.{key_at}
use Rattle.rules.proofs.Keys.{each-keyword}
use Rattle.rules.proofs.Tables.{tables-skip, tables-key}
use Rattle.layout.specs.Laid.{rows_of}
use Rattle.records.specs.Stored.{stored}
use Rattle.lines_under.proofs.Keyed.{KeyFold}
use Rattle.table_rows.specs.Parts.{model_words, opens_table, key_rows}
use Rattle.table_rows.proofs.Stores.{stored-append}

-- by name and by case
spelling-table : (k : Keyword) → one_of (bytes (spelling k)) (words (bytes table_keywords)) ≡ opens_table k
unfolding one_of eqs words grown onto_word is_blank
spelling-table = each-keyword _ refl refl refl refl refl refl refl refl refl refl refl refl refl refl refl refl refl refl refl refl refl refl refl refl

-- a table more, if t is true
abbrev pub more_tables : Bool → TableIs → List TableIs → List TableIs
more_tables t x more = cond t (x ∷ []) [] ++ more

pub tables_more : (t : Text) (ts : List Text) (k : Keyword) → key_at t ≡ Some k
    → tables_in (t ∷ ts) ≡ more_tables (opens_table k) (record { key = bytes (spelling k); lines = under ts }) (tables_in ts)
tables_more t ts k e =
    tables-key t ts k e
    ∙ ap (λ (is : Bool). more_tables is (record { key = bytes (spelling k); lines = under ts }) (tables_in ts)) (spelling-table k)

rows_more : (t : Bool) (x : TableIs) (more : List TableIs) → stored (flat_map rows_of (more_tables t x more)) ≡ stored (cond t (rows_of x) []) ++ stored (flat_map rows_of more)
unfolding stored flat_map
rows_more true x more = stored-append (rows_of x) (flat_map rows_of more)
rows_more false x more = refl

-- ---- the fold

abbrev pub words_on : List ℕ → List Text → List ℕ
words_on v ts = v ++ model_words ts

abbrev pub words_step : List ℕ → Keyword → List ℕ → List (List ℕ) → List ℕ
words_step v k w ls = v ++ stored (key_rows k ls)

words-skip : (v : List ℕ) (t : Text) (ts : List Text) → key_at t ≡ None → words_on v (t ∷ ts) ≡ words_on v ts
words-skip v t ts e = ap (λ (l : List TableIs). v ++ stored (flat_map rows_of l)) (tables-skip t ts e)

words_more : (v : List ℕ) (t : Text) (ts : List Text) (k : Keyword) → key_at t ≡ Some k → words_on v (t ∷ ts) ≡ words_on (words_step v k (argument_at t) (under ts)) ts
words_more v t ts k e =
    ap (λ (l : List TableIs). v ++ stored (flat_map rows_of l)) (tables_more t ts k e)
    ∙ ap (λ (l : List ℕ). v ++ l) (rows_more (opens_table k) _ (tables_in ts))
    ∙ sym (append_assoc v (stored (key_rows k (under ts))) (model_words ts))

words-none : (v : List ℕ) → words_on v [] ≡ v
unfolding tables_in stored flat_map
words-none v = append-nil v

pub model-fold : KeyFold words_on words_step
model-fold = record { empty = words-none; skip = words-skip; more = words_more }
