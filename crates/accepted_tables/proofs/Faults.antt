-- What a line says where it has no fault: no fault is 0, and what is said has what its reading asks. By the definitions, reading by reading.
use Rattle.std.specs.Prelude.{Result, Ok, Err, Option, None, Some}
use Prim.Native.Nat.{ℕ, ◌+◌, ◌-◌, ◌^◌}
use Prim.Native.Char.{code}
use Prim.Native.String.{String}
use mathlib.Core.Path.{◌≡◌, refl, sym, ap, ◌∙◌}
use mathlib.Core.List.{List, [], ◌∷◌}
use mathlib.Core.Logic.{inl, inr}
use mathlib.Core.Bool.{Bool, true, false, cond, ◌&&◌, ◌||◌}
use native.Mathlib.Omega.{arith}
use lib.ListN.{length, drop}
use lib.Dec.{eqb, leb, ltb}
use borrow.Author.Tests.{eqb-true}
use Rattle.laws.specs.Bytes.{is_letter, is_blank}
use Rattle.laws.specs.Lists.{after, begins, all, among}
use Rattle.laws.specs.Said.{Said, fault_in, read_on, or_fault}
use Rattle.laws.proofs.Tests.{by-test, cond-all, and_first, and_second, never}
use Rattle.laws.proofs.Lists.{none_of}
use Rattle.decimal.specs.Decimal.{offset, figures, after_figures, letters, is_missing, ranged, result_of, unsigned, number_of, given_cell, cell_of}
use Rattle.decimal.specs.declared.Decimal.{Decimal}
use Rattle.decimal.specs.declared.Cell.{Cell}
use Rattle.decimal.specs.declared.Cell.TheVariants.{Number, Missing}
use Rattle.words.specs.Words.{word, words, rest_from}
use Rattle.words.proofs.Laws.{words-rest}
use Rattle.name_table.specs.Names.{Naming, meaning}
use Rattle.records.specs.Flaws.{Flaw, Reads, flaw, sound, flaw_in, said_at}
use Rattle.records.specs.declared.Triple.{Triple}
use Rattle.records.specs.declared.RampCell.{RampCell}
use Rattle.records.specs.declared.RampCell.TheVariants.{Ratio, Absent}
use Rattle.records.specs.declared.RampTriple.{RampTriple}
use Rattle.line_rules.specs.Fields.{is_sized, is_upward, word_by, exactly, ended, alone, passing, word_in, after_name, typ_min_max, cells_by, three_cells, ratio_of, slope_from, slope_of, slope_or_missing, upward, three_slopes, behind_name, word_line, cells_line, group_line, slopes_line, behind_equals, number_line, line_says}
use Rattle.line_rules.proofs.Says.{Says, line-says}
use Rattle.rules.specs.Model.{is_number}
use Rattle.rules.specs.Reading.{no_range}
use Rattle.accepted_tables.specs.Fallbacks.{Flawless}
use Rattle.accepted_tables.specs.Facts.{is_slope, Slopes, GroupFacts}

-- ---- a value that has Q, or a fault that is one: of a word, and of a line

pub data Sure {F A : Type 0} (number : F → ℕ) (Q : A → Type 0) : Result A F → Type 0 where
  value : (a : A) → Q a → Sure number Q (Ok a)
  faulty : (f : F) → (number f ≡ 0 → ⊥) → Sure number Q (Err f)

abbrev pub SureWord : {A : Type 0} → (A → Type 0) → Said A → Type 0
SureWord Q x = Sure (λ (n : ℕ). n) Q x

abbrev pub SureLine : {A : Type 0} → (A → Type 0) → Reads A → Type 0
SureLine Q x = Sure (λ (f : Flaw). f.number) Q x

pub said : {A : Type 0} {Q : A → Type 0} (x : Reads A) → SureLine Q x → Flawless (flaw_in x) → (a : A) × (x ≡ Ok a) × Q a
said x (value a q) h = (a, refl, q)
said x (faulty f s) h = absurd (s h)

abbrev Any : {A : Type 0} → A → Type 0
Any a = Unit {0}

module _ {F : Type 0} {number : F → ℕ} where
  sure-on : {A B : Type 0} {Q : A → Type 0} {R : B → Type 0} (x : Result A F) (go : A → Result B F) → Sure number Q x → ((a : A) → Q a → Sure number R (go a)) → Sure number R (read_on x go)
  sure-on x go (value a q) g = g a q
  sure-on x go (faulty f s) g = faulty f s

  sure-cond : {A : Type 0} (Q : A → Type 0) (t : Bool) (x y : Result A F) → Sure number Q x → Sure number Q y → Sure number Q (cond t x y)
  sure-cond Q t x y a b = cond-all (Sure number Q) t x y (λ h. a) (λ h. b)

  sure-any : {A : Type 0} {Q : A → Type 0} {x : Result A F} → Sure number Q x → Sure number Any x
  sure-any (value a q) = value a tt
  sure-any (faulty f s) = faulty f s

  three-sure : {A B : Type 0} (Q R S : A → Type 0) (T : B → Type 0) (kept : A → A → A → B) (x y z : Result A F)
      → ((a b c : A) → Q a → R b → S c → T (kept a b c)) → Sure number Q x → Sure number R y → Sure number S z → Sure number T (typ_min_max kept x y z)
  three-sure Q R S T kept x y z k a b c = sure-on x _ a (λ p f. sure-on y _ b (λ q g. sure-on z _ c (λ r h. value (kept p q r) (k p q r f g h))))

eleven : {A : Type 0} {Q : A → Type 0} → SureWord Q (Err 11)
eleven = faulty 11 (omega arith)

twelve : {A : Type 0} {Q : A → Type 0} → SureWord Q (Err 12)
twelve = faulty 12 (omega arith)

ten : {A : Type 0} {Q : A → Type 0} {rest : List ℕ} → SureLine Q (Err (flaw 10 rest))
ten {rest = rest} = faulty (flaw 10 rest) (omega arith)

thirteen : {A : Type 0} {Q : A → Type 0} → SureLine Q (Err (flaw 13 []))
thirteen = faulty (flaw 13 []) (omega arith)

-- ---- numbers and cells

abbrev IsNumber : Cell → Type 0
IsNumber c = is_number c ≡ true

ranged-sure : (minus : Bool) (n up down : ℕ) → SureWord Any (ranged minus n up down)
unfolding ranged
ranged-sure minus n up down =
    sure-cond Any (eqb n 0) _ _ (value (record { negative = false; digits = 0; power = offset }) tt)
    (sure-cond Any (leb (10 ^ 15) n || ltb (up + offset) down || ltb (down + 24) up) _ _ twelve
    (value (record { negative = minus; digits = n; power = up + offset - down }) tt))

unsigned-sure : (minus : Bool) (s : List ℕ) → SureWord Any (unsigned minus s)
unfolding unsigned result_of
unsigned-sure minus s =
    sure-cond Any (eqb (length (figures s)) 0) _ _ eleven (sure-cond Any (all is_letter (letters (after_figures s))) _ _ (ranged-sure minus _ _ _) eleven)

number-sure : (w : List ℕ) → SureWord Any (number_of w)
unfolding number_of
number-sure w = unsigned-sure _ _

given-sure : (w : List ℕ) → SureWord IsNumber (given_cell w)
unfolding given_cell
given-sure w = sure-on (number_of w) _ (number-sure w) (λ d q. value (Number d) refl)

cell-sure : (w : List ℕ) → SureWord Any (cell_of w)
unfolding cell_of
cell-sure w = sure-cond Any (is_missing w) _ _ (value Missing tt) (sure-any (given-sure w))

-- ---- words, cells and slopes on a line

module _ {A : Type 0} (Q : A → Type 0) where
  sure-at : (r : List ℕ) (x : Said A) → SureWord Q x → SureLine Q (said_at r x)
  sure-at r x (value a q) = value a q
  sure-at r x (faulty n s) = faulty (flaw n r) s

  word-sure : (read : List ℕ → Said A) → ((w : List ℕ) → SureWord Q (read w)) → (n : ℕ) (v : List ℕ) → SureLine Q (word_by read n v)
  unfolding word_by
  word-sure read s n v = sure-at (rest_from n v) (read (word n (words v))) (s (word n (words v)))

  exactly-sure : (n : ℕ) (said : Reads A) (v : List ℕ) → SureLine Q said → SureLine Q (exactly n said v)
  unfolding exactly
  exactly-sure n said v s = sure-cond Q (eqb (length (words v)) n) said _ s ten

  alone-sure : (read : List ℕ → Said A) → ((w : List ℕ) → SureWord Q (read w)) → (v : List ℕ) → SureLine Q (alone read v)
  unfolding alone ended
  alone-sure read s v = sure-on (word_by read 0 v) _ (word-sure read s 0 v) (λ a q. sure-cond Q (eqb (length (rest_from 1 v)) 0) (Ok a) _ (value a q) ten)

  behind-sure : (read : List ℕ → Reads A) → ((v : List ℕ) → SureLine Q (read v)) → (w : List ℕ) → SureLine Q (behind_name read w)
  unfolding behind_name
  behind-sure read s w = sure-cond Q (begins (code "=") (after_name w)) _ _ ten (s (after_name w))

abbrev TypNumber : Triple → Type 0
TypNumber t = IsNumber t.typ

pub cells-sure : (v : List ℕ) → SureLine TypNumber (three_cells v)
unfolding three_cells cells_by
cells-sure v =
    exactly-sure TypNumber 3 _ v
    (three-sure IsNumber Any Any TypNumber (λ a b c. record { typ = a; min = b; max = c }) _ _ _ (λ a b c f g h. f)
    (word-sure IsNumber given_cell given-sure 0 v) (word-sure Any cell_of cell-sure 1 v) (word-sure Any cell_of cell-sure 2 v))

pub cells-line-sure : (w : List ℕ) → SureLine TypNumber (cells_line w)
unfolding cells_line
cells-line-sure w = behind-sure TypNumber three_cells cells-sure w

-- ---- C_comp by structure: what a line gives is given, with a number for typ

group-line-says : (w : List ℕ) → Says GroupFacts (group_line w)
unfolding group_line
group-line-says w = from (cells_line w) (cells-line-sure w)
  where
    from : (x : Reads Triple) → SureLine TypNumber x → Says GroupFacts (read_on x (λ c. Ok (record { given = true; cells = c })))
    from x (value a q) = inr (refl, q)
    from x (faulty f s) = tt

pub group-facts : (name : String) (ls : List (List ℕ)) → GroupFacts (line_says name group_line no_range ls)
group-facts name ls = line-says GroupFacts name group_line group-line-says no_range (inl refl) ls

-- ---- words and numbers

pub word-line-sure : {A : Type 0} (table : List (Naming A)) (w : List ℕ) → SureLine Any (word_line table w)
unfolding word_line word_in
word-line-sure table w = behind-sure Any (alone (word_in table)) (alone-sure Any (word_in table) (λ v. sure-or (meaning v table))) w
  where
    sure-or : {B : Type 0} (x : Option B) → SureWord Any (or_fault 10 x)
    sure-or None = faulty 10 (omega arith)
    sure-or (Some b) = value b tt

pub number-line-sure : (w : List ℕ) → SureLine IsNumber (number_line w)
unfolding number_line behind_equals
number-line-sure w =
    let v : List ℕ = after is_blank (after_name w) in
    sure-cond IsNumber (begins (code "=") v) _ _ (exactly-sure IsNumber 1 _ (drop 1 v) (word-sure IsNumber given_cell given-sure 0 (drop 1 v))) ten

-- ---- slopes

abbrev is_ratio : RampCell → Bool
is_ratio (Ratio d e) = true
is_ratio Absent = false

abbrev IsRatio : RampCell → Type 0
IsRatio c = is_ratio c ≡ true

ratio-sure : (x y : Said Decimal) → SureWord Any x → SureWord Any y → SureWord IsRatio (ratio_of x y)
ratio-sure x y (value d q) b = sure-on y _ b (λ e r. value (Ratio d e) refl)
ratio-sure x y (faulty n s) b = cond-all (λ (k : ℕ). SureWord IsRatio (Err k)) (eqb (fault_in y) 11) 11 n (λ h. eleven) (λ h. faulty n s)

slope-from-sure : (before behind : List ℕ) → SureWord IsRatio (slope_from before behind)
unfolding slope_from
slope-from-sure before [] = eleven
slope-from-sure before (slash ∷ behind) =
    sure-cond IsRatio (among (code "/") behind) _ _ eleven (ratio-sure (number_of before) (number_of behind) (number-sure before) (number-sure behind))

slope-sure : (w : List ℕ) → SureWord IsRatio (slope_of w)
unfolding slope_of
slope-sure w = slope-from-sure _ _

slope-or-sure : (w : List ℕ) → SureWord Any (slope_or_missing w)
unfolding slope_or_missing
slope-or-sure w = sure-cond Any (is_missing w) _ _ (value Absent tt) (sure-any (slope-sure w))

-- a ratio whose divisor is above zero
slope-is : (c : RampCell) → is_ratio c ≡ true → is_upward c ≡ true → is_slope c ≡ true
slope-is (Ratio d e) q h = h
slope-is Absent q h = q

upward-sure : (t : RampTriple) → IsRatio t.typ → SureLine Slopes (upward t)
unfolding upward
upward-sure t q =
    let typ : Bool = is_upward t.typ in
    let min : Bool = is_upward t.min in
    let max : Bool = is_upward t.max in
    cond-all (SureLine Slopes) (typ && (min && max)) (Ok t) (Err (flaw 13 []))
    (λ h.
    let others : (min && max) ≡ true = and_second typ (min && max) h in
    value t (record { typ = slope-is t.typ q (and_first typ (min && max) h); min = and_first min max others; max = and_second min max others }))
    (λ h. thirteen)

slopes-sure : (v : List ℕ) → SureLine Slopes (three_slopes v)
unfolding three_slopes
slopes-sure v =
    exactly-sure Slopes 3 _ v
    (sure-on _ upward
    (three-sure IsRatio Any Any (λ (t : RampTriple). IsRatio t.typ) (λ a b c. record { typ = a; min = b; max = c }) _ _ _ (λ a b c f g h. f)
    (word-sure IsRatio slope_of slope-sure 0 v) (word-sure Any slope_or_missing slope-or-sure 1 v) (word-sure Any slope_or_missing slope-or-sure 2 v))
    upward-sure)

pub slopes-line-sure : (w : List ℕ) → SureLine Slopes (slopes_line w)
unfolding slopes_line
slopes-line-sure w = behind-sure Slopes three_slopes slopes-sure w

-- ---- a word that passes a test

pub word-passes : (p : List ℕ → Bool) (v : List ℕ) → Flawless (flaw_in (word_by (passing p) 0 v)) → p (word 0 (words v)) ≡ true
unfolding word_by passing
word-passes p v h = by-test (p (word 0 (words v))) (λ t. t) (λ t. let z : 10 ≡ 0 = rw t at h in absurd (omega arith))

-- the only one
only-word : (p : List ℕ → Bool) (ws : List (List ℕ)) → p [] ≡ false → p (word 0 ws) ≡ true → length (drop 1 ws) ≡ 0 → length ws ≡ 1
unfolding word
only-word p [] empty h e = absurd (never (p []) h empty)
only-word p (w ∷ ws) empty h e = omega (arith, e)

module _ (p : List ℕ → Bool) (v : List ℕ) (h : Flawless (flaw_in (alone (passing p) v))) where
  pub alone-passes : p (word 0 (words v)) ≡ true
  unfolding alone word_by passing
  alone-passes = by-test (p (word 0 (words v))) (λ t. t) (λ t. let z : 10 ≡ 0 = rw t at h in absurd (omega arith))

  alone-ends : length (rest_from 1 v) ≡ 0
  unfolding alone word_by passing ended
  alone-ends = by-test (eqb (length (rest_from 1 v)) 0) (λ t. eqb-true _ _ t) (λ t. let z : 10 ≡ 0 = rw (alone-passes, t) at h in absurd (omega arith))

  pub alone-one : p [] ≡ false → length (words v) ≡ 1
  unfolding words
  alone-one empty =
      only-word p (words v) empty alone-passes (sym (ap length (words-rest 1 v)) ∙ ap (λ (r : List ℕ). length (words r)) (none_of (rest_from 1 v) alone-ends))

pub sized-passes : (w : List ℕ) → Flawless (cond (is_sized 40 w) sound (flaw 10 w)) → is_sized 40 w ≡ true
sized-passes w h = by-test (is_sized 40 w) (λ t. t) (λ t. let z : 10 ≡ 0 = rw t at h in absurd (omega arith))
