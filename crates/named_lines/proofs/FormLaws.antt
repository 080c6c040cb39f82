-- Laws on the forms of names, and on what a line tells of a word's form, one for each branch of the code.
use Rattle.std.specs.Prelude.{Result, Ok, Err}
use Prim.Native.Nat.{ℕ, ◌+◌, ◌≤◌, ◌<◌}
use Prim.Native.Char.{code}
use mathlib.Core.Path.{◌≡◌, sym, ap, ◌∙◌}
use mathlib.Core.List.{List}
use mathlib.Core.Bool.{Bool, true, false, cond}
use native.Mathlib.Omega.{arith}
use lib.ListN.{length, drop, get_or}
use lib.Dec.{eqb, leb}
use borrow.Author.Tests.{le-leb, lt-leb}
use Rattle.laws.specs.Bytes.{bytes, is_blank, is_small}
use Rattle.laws.specs.Lists.{front, among, part, eqs}
use Rattle.laws.specs.Said.{Said}
use Rattle.laws.proofs.Tests.{and_left, cond_yes, cond_no}
use Rattle.laws.proofs.Lists.{from_cons, none_of}
use Rattle.laws.proofs.Bytes.{digit-yes, digit-below, digit-above}
use Rattle.laws.proofs.Fronts.{after-at, front_at}
use Rattle.words.specs.Places.{WordAt}
use Rattle.words.specs.declared.Word.{Word}
use Rattle.records.specs.Flaws.{flaw, sound, flaw_in, told, told_in, bare, at_place, said_there, line_fault_in}
use Rattle.records.specs.declared.LineFault.{LineFault}
use Rattle.records.proofs.Columns.{told-fault}
use Rattle.line_rules.specs.Fields.{is_sized, is_bracketed, is_file_byte, is_file_name, word_by, ended, alone, passing, no_argument}
use Rattle.line_rules.proofs.Columns.{passing-columns}
use Rattle.line_rules.proofs.Told.{ten-at, word-told, ended-flaw, alone-wrong, alone-right}

-- ---- length and first byte

pub sized-none : (n : ℕ) (w : List ℕ) → length w ≡ 0 → is_sized n w ≡ false
unfolding is_sized
sized-none n w h = rw h

pub sized-some : (n : ℕ) (w : List ℕ) → (length w ≡ 0 → ⊥) → is_sized n w ≡ leb (length w) n
unfolding is_sized
sized-some n w h = rw (le-leb 1 (length w) (omega arith))

pub bracketed-none : (w : List ℕ) → length w ≡ 0 → is_bracketed w ≡ false
unfolding is_bracketed
bracketed-none w h = ap is_bracketed (none_of w h)

pub bracketed-some : (w : List ℕ) → (length w ≡ 0 → ⊥) → is_bracketed w ≡ eqb (get_or w 0 0) (code "[")
unfolding is_bracketed
bracketed-some w h = ap is_bracketed (from_cons w 0 0 (omega arith))

-- ---- a byte of a file's name

pub file-small : (b : ℕ) → code "a" ≤ b → b ≤ code "z" → is_file_byte b ≡ true
unfolding is_file_byte is_small
file-small b h k = rw (le-leb 97 b h, le-leb b 122 k)

pub file-digit : (b : ℕ) → code "0" ≤ b → b ≤ code "9" → is_file_byte b ≡ true
unfolding is_file_byte is_small
file-digit b h k = rw (lt-leb 97 b (omega arith), digit-yes b h k)

abbrev pub file_marks : List ℕ
file_marks = bytes "_^$~!#%&-{})(@'`"

pub file-low : (b : ℕ) → b < code "0" → is_file_byte b ≡ among b file_marks
unfolding is_file_byte is_small
file-low b h = rw (lt-leb 97 b (omega arith), digit-below b h)

pub file-between : (b : ℕ) → code "9" < b → b < code "a" → is_file_byte b ≡ among b file_marks
unfolding is_file_byte is_small
file-between b h k = rw (lt-leb 97 b k, digit-above b h)

pub file-high : (b : ℕ) → code "z" < b → is_file_byte b ≡ among b file_marks
unfolding is_file_byte is_small
file-high b h = rw (le-leb 97 b (omega arith), lt-leb b 122 h, digit-above b (omega arith))

-- ---- a file's name by where its first bytes end

module _ (w : List ℕ) (end : ℕ) (h : end ≡ 0 + length (front is_file_byte w)) where
  pub file-sized : is_sized 40 (part 0 end w) ≡ false → is_file_name w ≡ false
  unfolding is_file_name
  file-sized k = and_left _ _ (ap (is_sized 40) (sym (front_at is_file_byte w 0 end h)) ∙ k)

  pub file-ended : is_sized 40 (part 0 end w) ≡ true → is_file_name w ≡ eqs (drop end w) (bytes ".ibs")
  unfolding is_file_name
  file-ended k =
      let s : is_sized 40 (front is_file_byte w) ≡ true = ap (is_sized 40) (sym (front_at is_file_byte w 0 end h)) ∙ k in
      rw s (ap (λ (x : List ℕ). eqs x (bytes ".ibs")) (after-at is_file_byte w 0 end h))

-- ---- what is told of a text from a place on

module _ (n : ℕ) (s : List ℕ) (at : ℕ) where
  pub sized-wrong : at ≤ length s → is_sized n (drop at s) ≡ false → told s (cond (is_sized n (drop at s)) sound (flaw 10 (drop at s))) ≡ at_place 10 at
  sized-wrong h q = ap (told s) (cond_no sound (flaw 10 (drop at s)) q) ∙ ten-at s at h

module _ (p : List ℕ → Bool) (s : List ℕ) (at : ℕ) (r : Word) (h : WordAt s at r) where
  abbrev text : List ℕ
  text = part r.start r.end s

  passes : p text ≡ true → passing p text ≡ Ok text
  unfolding passing
  passes q = cond_yes _ _ q

  fails : p text ≡ false → passing p text ≡ Err 10
  unfolding passing
  fails q = cond_no _ _ q

  word-form : {x : Said (List ℕ)} → passing p text ≡ x → told s (flaw_in (word_by (passing p) 0 (drop at s))) ≡ line_fault_in (said_there r.start x)
  word-form q =
      sym (told-fault s (word_by (passing p) 0 (drop at s)))
      ∙ ap line_fault_in (word-told s at r h (passing p) (passing-columns p text))
      ∙ ap (λ (x : Said (List ℕ)). line_fault_in (said_there r.start x)) q

  pub word-right : p text ≡ true → told s (flaw_in (word_by (passing p) 0 (drop at s))) ≡ bare 0
  word-right q = word-form (passes q)

  pub word-wrong : p text ≡ false → told s (flaw_in (word_by (passing p) 0 (drop at s))) ≡ at_place 10 r.start
  word-wrong q = word-form (fails q)

  -- and nothing behind it
  told-alone : {x : Result (List ℕ) LineFault} → told_in s (alone (passing p) (drop at s)) ≡ x → told s (flaw_in (alone (passing p) (drop at s))) ≡ line_fault_in x
  told-alone q = sym (told-fault s (alone (passing p) (drop at s))) ∙ ap line_fault_in q

  pub argument-wrong : p text ≡ false → told s (flaw_in (alone (passing p) (drop at s))) ≡ at_place 10 r.start
  argument-wrong q = told-alone (alone-wrong (passing p) s at r h (passing-columns p text) (fails q))

  pub argument-right : (n : ℕ) → p text ≡ true → n ≡ r.end + length (front is_blank (drop r.end s))
      → told s (flaw_in (alone (passing p) (drop at s))) ≡ told s (no_argument (drop n s))
  argument-right n q e =
      told-alone (alone-right (passing p) s at r h (passing-columns p text) n (passes q) e)
      ∙ told-fault s (ended text (drop n s))
      ∙ ap (told s) (ended-flaw text (drop n s))
