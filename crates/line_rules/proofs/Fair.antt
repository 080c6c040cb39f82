-- What stands on a line is fair: it is read, or its fault is 10, 11, 12 or 13. So the fault of what is told is what a check of its flaw answers.
use Rattle.std.specs.Prelude.{Result, Ok, Err}
use Prim.Native.Nat.{ℕ}
use Prim.Native.Char.{code}
use mathlib.Core.Path.{◌≡◌, refl, sym, ap, subst, ◌∙◌}
use mathlib.Core.List.{List, [], ◌∷◌}
use mathlib.Core.Bool.{Bool, true, false, cond, ◌&&◌}
use native.Mathlib.Omega.{arith}
use lib.ListN.{length, drop}
use borrow.Author.Tests.{ne_eqb}
use lib.Dec.{eqb}
use Rattle.laws.specs.Bytes.{bytes, is_blank}
use Rattle.laws.specs.Lists.{after, begins, among}
use Rattle.laws.specs.Said.{Said, read_on}
use Rattle.laws.proofs.Tests.{by_order, impossible, cond_no, cond-all}
use Rattle.decimal.specs.Decimal.{number_of, given_cell, cell_of}
use Rattle.decimal.specs.declared.Cell.{Cell}
use Rattle.words.specs.Words.{word, words, rest_from}
use Rattle.name_table.specs.Names.{Naming, meaning}
use Rattle.records.specs.Flaws.{Flaw, Reads, flaw, flaw_in, said_at, told, told_in, checked}
use Rattle.records.specs.declared.LineFault.{LineFault}
use Rattle.records.specs.declared.RampTriple.{RampTriple}
use Rattle.records.proofs.Columns.{Columned, Columns}
use Rattle.line_rules.specs.Fields.{word_by, exactly, ended, alone, word_in, typ_min_max, cells_by, three_cells, row_of, slope_of, slope_or_missing, is_upward, upward, three_slopes, after_name, behind_name, word_line, cells_line, slopes_line, behind_equals, number_line, same_words, long_heading, heading}
use Rattle.line_rules.proofs.Columns.{number-columns, given-columns, cell-columns, or-columns, slope-columns, missing-columns}
use Rattle.laws.proofs.Known.{Known, listed}

-- ---- flaws, and readings that have no other

abbrev pub of_flaws : List ℕ
of_flaws = 10 ∷ 11 ∷ 12 ∷ 13 ∷ []

pub data Fair {A : Type 0} : Reads A → Type 0 where
  value : {a : A} → Fair (Ok a)
  faulty : {f : Flaw} → Known of_flaws f.number → Fair (Err f)

pub ten : {A : Type 0} {r : List ℕ} → Fair {A = A} (Err (flaw 10 r))
unfolding among
ten = faulty (listed refl)

-- a word's fault
columned : (n : ℕ) → Columned n → Known of_flaws n
unfolding among
columned n h =
    by_order n 10 (λ a. at 10 (omega (arith, h.0)) (listed refl))
    (λ a. by_order n 11 (λ b. at 11 (omega arith) (listed refl)) (λ b. at 12 (omega (arith, h.1)) (listed refl)))
  where
    at : (m : ℕ) → n ≡ m → Known of_flaws m → Known of_flaws n
    at m e k = subst (Known of_flaws) (sym e) k

-- ---- how readings are made

pub on-fair : {A B : Type 0} {x : Reads A} {go : A → Reads B} → Fair x → ((a : A) → Fair (go a)) → Fair (read_on x go)
on-fair (value {a = a}) q = q a
on-fair (faulty p) q = faulty p

module _ {A : Type 0} where
  pub either-fair : (t : Bool) {x y : Reads A} → Fair x → Fair y → Fair (cond t x y)
  either-fair t {x} {y} p q = cond-all Fair t x y (λ h. p) (λ h. q)

  pub at-fair : (r : List ℕ) (x : Said A) → Columns x → Fair (said_at r x)
  at-fair r (Ok a) h = value
  at-fair r (Err n) h = faulty (columned n h)

  pub word-fair : (read : List ℕ → Said A) → ((w : List ℕ) → Columns (read w)) → (n : ℕ) (v : List ℕ) → Fair (word_by read n v)
  unfolding word_by
  word-fair read h n v = at-fair (rest_from n v) (read (word n (words v))) (h (word n (words v)))

  pub exactly-fair : (n : ℕ) {x : Reads A} (v : List ℕ) → Fair x → Fair (exactly n x v)
  unfolding exactly
  exactly-fair n v p = either-fair (eqb (length (words v)) n) p ten

  pub alone-fair : (read : List ℕ → Said A) → ((w : List ℕ) → Columns (read w)) → (v : List ℕ) → Fair (alone read v)
  unfolding alone ended
  alone-fair read h v = on-fair (word-fair read h 0 v) (λ a. either-fair (eqb (length (rest_from 1 v)) 0) value ten)

  pub behind-fair : (read : List ℕ → Reads A) → ((v : List ℕ) → Fair (read v)) → (w : List ℕ) → Fair (behind_name read w)
  unfolding behind_name
  behind-fair read p w = either-fair (begins (code "=") (after_name w)) ten (p (after_name w))

  pub three-fair : {B : Type 0} (kept : A → A → A → B) {x y z : Reads A} → Fair x → Fair y → Fair z → Fair (typ_min_max kept x y z)
  three-fair kept p q r = on-fair p (λ a. on-fair q (λ b. on-fair r (λ c. value)))

-- ---- what stands on a line

pub cells-fair : (typ : List ℕ → Said Cell) → ((w : List ℕ) → Columns (typ w)) → (v : List ℕ) → Fair (cells_by typ v)
unfolding cells_by
cells-fair typ h v =
    exactly-fair 3 v (three-fair _ (word-fair typ h 0 v) (word-fair cell_of cell-columns 1 v) (word-fair cell_of cell-columns 2 v))

pub given-fair : (v : List ℕ) → Fair (three_cells v)
unfolding three_cells
given-fair v = cells-fair given_cell given-columns v

pub row-fair : (w : List ℕ) → Fair (row_of w)
unfolding row_of
row-fair w =
    exactly-fair 4 w (on-fair (word-fair number_of number-columns 0 w) (λ d. on-fair (cells-fair cell_of cell-columns (rest_from 1 w)) (λ c. value)))

pub upward-fair : (t : RampTriple) → Fair (upward t)
unfolding among upward
upward-fair t = either-fair (is_upward t.typ && (is_upward t.min && is_upward t.max)) value (faulty (listed refl))

pub slopes-fair : (v : List ℕ) → Fair (three_slopes v)
unfolding three_slopes
slopes-fair v =
    exactly-fair 3 v
    (on-fair
    (three-fair _ (word-fair slope_of slope-columns 0 v) (word-fair slope_or_missing missing-columns 1 v) (word-fair slope_or_missing missing-columns 2 v))
    upward-fair)

pub word-line-fair : {A : Type 0} (table : List (Naming A)) (w : List ℕ) → Fair (word_line table w)
unfolding word_line word_in
word-line-fair table w = behind-fair (alone (word_in table)) (alone-fair (word_in table) (λ v. or-columns (meaning v table))) w

pub cells-line-fair : (w : List ℕ) → Fair (cells_line w)
unfolding cells_line
cells-line-fair w = behind-fair three_cells given-fair w

pub slopes-line-fair : (w : List ℕ) → Fair (slopes_line w)
unfolding slopes_line
slopes-line-fair w = behind-fair three_slopes slopes-fair w

pub number-line-fair : (w : List ℕ) → Fair (number_line w)
unfolding number_line behind_equals
number-line-fair w =
    let v : List ℕ = after is_blank (after_name w) in
    either-fair (begins (code "=") v) (exactly-fair 1 (drop 1 v) (word-fair given_cell given-columns 0 (drop 1 v))) ten

pub heading-fair : (v : List ℕ) → Fair (heading v)
unfolding heading
heading-fair v =
    either-fair (same_words (words v) (words (bytes "signal_name model_name"))) value (either-fair (same_words (words v) long_heading) value ten)

-- ---- what a check of a reading answers

-- its fault; what it says is left out
abbrev pub fault_of : {A : Type 0} → Result A LineFault → Result (Unit {0}) LineFault
fault_of (Ok a) = Ok tt
fault_of (Err f) = Err f

-- one of these is not 0
not_none : (n : ℕ) → Known of_flaws n → eqb n 0 ≡ false
unfolding among
not_none n (listed h) = ne_eqb n 0 (λ e. let z : false ≡ true = sym (ap (λ (m : ℕ). among m of_flaws) e) ∙ h in impossible (cc))

pub fair-checked : {A : Type 0} (w : List ℕ) {x : Reads A} → Fair x → fault_of (told_in w x) ≡ checked (told w (flaw_in x))
fair-checked w value = refl
fair-checked w (faulty {f} p) = sym (cond_no (Ok tt) (Err (told w f)) (not_none f.number p))
