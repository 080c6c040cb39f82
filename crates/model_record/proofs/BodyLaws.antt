-- The keywords of a model as a fold over the keywords, and the whole record: a table more, if the keyword opens one, and the first of its kind counts.
use Rattle.std.specs.Prelude.{None, Some}
use Prim.Native.Nat.{ℕ, ◌+◌}
use Prim.Native.String.{String}
use mathlib.Core.Path.{◌≡◌, refl, sym, ap, ◌∙◌}
use mathlib.Core.List.{List, [], ◌∷◌, ◌++◌, flat_map}
use mathlib.Core.Bool.{Bool, true, false, cond}
use native.Mathlib.Omega.{arith}
use lib.ListN.{length, length-append}
use Rattle.laws.specs.Bytes.{bytes, is_blank}
use Rattle.laws.specs.Lists.{front, eqs, one_of}
use Rattle.laws.proofs.Tests.{by-test, cond_yes, cond_same}
use Rattle.words.specs.Words.{words, grown, onto_word}
use Rattle.keywords.specs.declared.Keyword.{Keyword}
use Rattle.keywords.specs.declared.Keyword.TheVariants.{InModel}
use Rattle.keywords.specs.declared.ModelPart.TheVariants.{VoltageRange, TemperatureRange, Ramp}
use Rattle.keywords.proofs.Spelling.{spelling}
use Rattle.cut_lines.specs.Texts.{Text}
use Rattle.line_rules.specs.Tables.{waveform_keywords}
use Rattle.rules.specs.Reading.{argument_at, under, key_says, number_said, range_in, no_range, ramp_in, TableIs, tables_in, split_says, model_in, is_within}
use Rattle.rules.specs.Keys.{key_at}
use Rattle.rules.proofs.Keys.{each-keyword, says-skip, says-key, says_map}
use Rattle.rules.proofs.Tables.{tables-skip}
use Rattle.records.specs.Stored.{name_laid}
use Rattle.records.specs.declared.Range.{Range}
use Rattle.records.specs.declared.Table.{Table}
use Rattle.layout.specs.Laid.{rows_of, table_at, waveforms_laid}
use Rattle.lines_under.proofs.Laws.{under-within}
use Rattle.lines_under.proofs.Keyed.{KeyFold}
use Rattle.table_rows.specs.Parts.{opens_table}
use Rattle.table_rows.proofs.PartLaws.{more_tables, tables_more}
use Rattle.model_record.specs.Firsts.{bare_lines, firsts_on, defaulted}
use Rattle.model_record.specs.Bodies.{absent_table, bare_body, with_table, body_step, table_on, body_on, model_over}
use Rattle.model_record.specs.declared.Body.{Body}

-- ---- a table more: x, if t is true; n is the next row's place

abbrev row_behind : Bool → TableIs → ℕ → ℕ
row_behind t x n = cond t (n + length (rows_of x)) n

rows_behind : (t : Bool) (x : TableIs) (more : List TableIs) (n : ℕ)
    → n + length (flat_map rows_of (more_tables t x more)) ≡ row_behind t x n + length (flat_map rows_of more)
unfolding flat_map
rows_behind true x more n = omega (arith, length-append (rows_of x) (flat_map rows_of more))
rows_behind false x more n = refl

-- how many waveforms there are with it
abbrev waves_with : Bool → TableIs → ℕ → ℕ
waves_with t x m = cond t (cond (one_of x.key (words (bytes waveform_keywords))) (m + 1) m) m

one_more : {A : Type 0} (t : Bool) (a : A) (l : List A) (m : ℕ) → m + length (cond t (a ∷ []) [] ++ l) ≡ cond t (m + 1) m + length l
one_more true a l m = omega arith
one_more false a l m = refl

waves-behind : (t : Bool) (x : TableIs) (more : List TableIs) (n m : ℕ)
    → m + length (waveforms_laid (more_tables t x more) n) ≡ waves_with t x m + length (waveforms_laid more (row_behind t x n))
unfolding waveforms_laid
waves-behind true x more n m = one_more (one_of x.key (words (bytes waveform_keywords))) _ (waveforms_laid more (n + length (rows_of x))) m
waves-behind false x more n m = refl

-- the table of a kind with it
abbrev table_with : Bool → TableIs → ℕ → Table → String → Table
table_with t x n u key = cond t (cond (eqs x.key (bytes key)) (with_table u n (length (rows_of x))) u) u

table-behind : (t : Bool) (x : TableIs) (more : List TableIs) (n : ℕ) (u : Table) (key : String)
    → table_on u (more_tables t x more) n key ≡ table_on (table_with t x n u key) more (row_behind t x n) key
unfolding table_on
table-behind true x more n u key = refl
table-behind false x more n u key = refl

-- once there is one, it counts
module _ (key : String) where
  first-counts : (ts : List TableIs) (u : Table) (n : ℕ) → u.given ≡ true → table_on u ts n key ≡ u
  unfolding table_on
  first-counts [] u n e = refl
  first-counts (t ∷ ts) u n e =
      let same : cond (eqs t.key (bytes key)) (with_table u n (length (rows_of t))) u ≡ u =
      ap (λ (v : Table). cond (eqs t.key (bytes key)) v u) (cond_yes _ _ e) ∙ sym (cond_same (eqs t.key (bytes key)) u)
      in
      ap (λ (v : Table). table_on v ts (n + length (rows_of t)) key) same ∙ first-counts ts u (n + length (rows_of t)) e

  first-is : (ts : List TableIs) (n : ℕ) → table_on absent_table ts n key ≡ table_at ts n key
  unfolding table_on table_at
  first-is [] n = refl
  first-is (t ∷ ts) n =
      by-test (eqs t.key (bytes key))
      (λ q. rw q (first-counts ts _ (n + length (rows_of t)) refl))
      (λ q. rw q (first-is ts (n + length (rows_of t))))

-- ---- a keyword more

body-skip : (b : Body) (t : Text) (ts : List Text) → key_at t ≡ None → body_on b (t ∷ ts) ≡ body_on b ts
unfolding body_on
body-skip b t ts e =
    rw (
      says-skip (λ w ls. (range_in w ls).cells) b.voltage t ts (InModel VoltageRange) e,
      says-skip range_in b.temperature t ts (InModel TemperatureRange) e,
      says-skip ramp_in b.ramp t ts (InModel Ramp) e,
      tables-skip t ts e,
    )

-- by its name; x is the table that it opens, if it does
abbrev body_by : Body → List ℕ → Bool → TableIs → List ℕ → List (List ℕ) → List Text → Body
body_by b name t x w ls ts =
    record {
      voltage = key_says "voltage_range" (λ v ks. (range_in v ks).cells) (cond (eqs name (bytes "voltage_range")) (range_in w ls).cells b.voltage) ts;
      temperature = key_says "temperature_range" range_in (cond (eqs name (bytes "temperature_range")) (range_in w ls) b.temperature) ts;
      pulldown = table_on (table_with t x b.row b.pulldown "pulldown") (tables_in ts) (row_behind t x b.row) "pulldown";
      pullup = table_on (table_with t x b.row b.pullup "pullup") (tables_in ts) (row_behind t x b.row) "pullup";
      ground = table_on (table_with t x b.row b.ground "gnd_clamp") (tables_in ts) (row_behind t x b.row) "gnd_clamp";
      power = table_on (table_with t x b.row b.power "power_clamp") (tables_in ts) (row_behind t x b.row) "power_clamp";
      ramp = key_says "ramp" ramp_in (cond (eqs name (bytes "ramp")) (ramp_in w ls) b.ramp) ts;
      waveforms = waves_with t x b.waveforms + length (waveforms_laid (tables_in ts) (row_behind t x b.row));
      row = row_behind t x b.row + length (flat_map rows_of (tables_in ts));
    }

-- the table that a keyword opens, if it does
abbrev table_of : Keyword → List (List ℕ) → TableIs
table_of k ls = record { key = bytes (spelling k); lines = ls }

body-by : (b : Body) (w : List ℕ) (ls : List (List ℕ)) (ts : List Text) (k : Keyword)
    → body_by b (bytes (spelling k)) (opens_table k) (table_of k ls) w ls ts ≡ body_on (body_step b k w ls) ts
unfolding body_on one_of eqs words grown onto_word is_blank
body-by b w ls ts = each-keyword _ refl refl refl refl refl refl refl refl refl refl refl refl refl refl refl refl refl refl refl refl refl refl refl refl

body_more : (b : Body) (t : Text) (ts : List Text) (k : Keyword) → key_at t ≡ Some k → body_on b (t ∷ ts) ≡ body_on (body_step b k (argument_at t) (under ts)) ts
unfolding body_on
body_more b t ts k e =
    let is = opens_table k in
    let x = table_of k (under ts) in
    let more = tables_in ts in
    rw (
      says-key (λ w ls. (range_in w ls).cells) b.voltage t ts "voltage_range" k e,
      says-key range_in b.temperature t ts "temperature_range" k e,
      says-key ramp_in b.ramp t ts "ramp" k e,
      tables_more t ts k e,
      table-behind is x more b.row b.pulldown "pulldown",
      table-behind is x more b.row b.pullup "pullup",
      table-behind is x more b.row b.ground "gnd_clamp",
      table-behind is x more b.row b.power "power_clamp",
      waves-behind is x more b.row b.waveforms,
      rows_behind is x more b.row,
    )
    (body-by b (argument_at t) (under ts) ts k)

no_more : (n : ℕ) → n + 0 ≡ n
no_more n = omega arith

body-empty : (b : Body) → body_on b [] ≡ b
unfolding body_on key_says tables_in table_on waveforms_laid flat_map
body-empty b = rw (no_more b.waveforms, no_more b.row)

pub body-fold : KeyFold body_on body_step
body-fold = record { empty = body-empty; skip = body-skip; more = body_more }

-- ---- the whole record: what its first lines and its keywords give

module _ (row start n : ℕ) (name : List ℕ) (ts : List Text) where
  abbrev inside : List Text
  inside = front is_within ts

  waves-are : 0 + length (waveforms_laid (tables_in inside) row) ≡ length (waveforms_laid (tables_in inside) row)
  waves-are = omega arith

  pub model_is : model_over n start (name_laid name) (defaulted (firsts_on bare_lines (under ts))) (body_on (bare_body row) inside)
      ≡ model_in n (table_at (tables_in inside) row) (record { start = start; count = length (waveforms_laid (tables_in inside) row) }) name inside
  unfolding body_on firsts_on split_says model_in number_said
  model_is =
      rw (
        sym (under-within ts),
        sym (says_map (λ (r : Range). r.cells) "voltage_range" range_in no_range inside),
        first-is "pulldown" (tables_in inside) row,
        first-is "pullup" (tables_in inside) row,
        first-is "gnd_clamp" (tables_in inside) row,
        first-is "power_clamp" (tables_in inside) row,
        waves-are,
      )
