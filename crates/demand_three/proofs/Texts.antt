-- The texts of lines: of lines one after the other, of a line with a keyword, and wherever the lines stand. By induction over the lines.
use Prim.Native.Nat.{ℕ, suc, ◌+◌, ◌-◌}
use mathlib.Core.Path.{◌≡◌, refl, sym, ap, ◌∙◌}
use mathlib.Core.List.{List, [], ◌∷◌, ◌++◌, append_assoc}
use mathlib.Core.Bool.{true, false, cond, ◌&&◌}
use native.Mathlib.Omega.{arith}
use lib.ListN.{length}
use Rattle.laws.specs.Lists.{all}
use Rattle.records.specs.Flaws.{flaw_in, told, bare}
use Rattle.laws.proofs.Tests.{by-test, cond_no}
use Rattle.lines.specs.Lines.{Physical, cut}
use Rattle.cut_lines.specs.Change.{is_change, change_of}
use Rattle.cut_lines.specs.Texts.{Text, plain, change, onto_texts, texts_from}
use Rattle.cut_lines.proofs.Renumbered.{texts-map}
use Rattle.line_rules.specs.Fields.{is_bracketed}
use Rattle.rules.specs.Reading.{is_within}
use Rattle.rules.proofs.Keys.{within-key}
use Rattle.rules.proofs.Numberless.{Numberless}
use Rattle.cut_lines.specs.InForce.{char_after_line, char_after_lines}
use Rattle.demand_three.specs.Lines.{text_on}

-- ---- one line: its own texts, none or one, and those of the lines behind it

unfoldable pub line_texts : ℕ → ℕ → Physical → List Text
line_texts c k l = cond (is_change l.bytes) (change k (told l.bytes (flaw_in (change_of l.bytes))) ∷ []) (onto_texts k (cut c l.bytes) [])

onto-append : (k : ℕ) (w : List ℕ) (ts : List Text) → onto_texts k w ts ≡ onto_texts k w [] ++ ts
unfolding onto_texts
onto-append k [] ts = refl
onto-append k (b ∷ bs) ts = refl

pub texts-line : (c k : ℕ) (l : Physical) (ls : List Physical) → texts_from c k (l ∷ ls) ≡ line_texts c k l ++ texts_from (char_after_line c l) (k + 1) ls
unfolding texts_from line_texts char_after_line
texts-line c k l ls =
    by-test (is_change l.bytes)
    (λ t. rw t)
    (λ t. rw t (onto-append k (cut c l.bytes) (texts_from c (k + 1) ls)))

-- ---- lines one after the other

pub texts-append : (c k : ℕ) (ls ms : List Physical) → texts_from c k (ls ++ ms) ≡ texts_from c k ls ++ texts_from (char_after_lines c ls) (k + length ls) ms
unfolding texts_from char_after_lines
texts-append c k [] ms = let e : k ≡ k + 0 = omega arith in ap (λ (j : ℕ). texts_from c j ms) e
texts-append c k (l ∷ ls) ms =
    let e : k + 1 + length ls ≡ k + suc (length ls) = omega arith in
    let d = char_after_line c l in
    texts-line c k l (ls ++ ms)
    ∙ ap (λ (ts : List Text). line_texts c k l ++ ts) (texts-append d (k + 1) ls ms ∙ ap (λ (j : ℕ). texts_from d (k + 1) ls ++ texts_from (char_after_lines d ls) j ms) e)
    ∙ sym (append_assoc (line_texts c k l) (texts_from d (k + 1) ls) (texts_from (char_after_lines d ls) (k + suc (length ls)) ms))
    ∙ ap (λ (ts : List Text). ts ++ texts_from (char_after_lines d ls) (k + suc (length ls)) ms) (sym (texts-line c k l ls))

-- ---- a line that opens a section or is [End]

onto-key : (k : ℕ) (w : List ℕ) → is_within (plain 0 w) ≡ false → onto_texts k w [] ≡ plain k w ∷ []
unfolding onto_texts is_bracketed
onto-key k [] h = let z : true ≡ false = sym (within-key (plain 0 [])) ∙ h in cc
onto-key k (b ∷ bs) h = refl

key-line : (c k : ℕ) (l : Physical) → is_within (text_on c l) ≡ false → line_texts c k l ≡ plain k (cut c l.bytes) ∷ []
unfolding text_on line_texts
key-line c k l h =
    by-test (is_change l.bytes)
    (λ t. let z : true ≡ false = sym (within-key (change 0 (bare 0))) ∙ rw t at h in cc)
    (λ t. cond_no _ _ t ∙ onto-key k (cut c l.bytes) (rw t at h))

pub key-first : (c k : ℕ) (l : Physical) (ls : List Physical) → is_within (text_on c l) ≡ false
    → texts_from c k (l ∷ ls) ≡ plain k (cut c l.bytes) ∷ texts_from (char_after_line c l) (k + 1) ls
key-first c k l ls h = texts-line c k l ls ∙ ap (λ (ts : List Text). ts ++ texts_from (char_after_line c l) (k + 1) ls) (key-line c k l h)

pub key-text : (c : ℕ) (l : Physical) → is_within (text_on c l) ≡ false → text_on c l ≡ plain 0 (cut c l.bytes)
unfolding text_on
key-text c l h =
    by-test (is_change l.bytes)
    (λ t. let z : true ≡ false = sym (within-key (change 0 (bare 0))) ∙ rw t at h in cc)
    (λ t. cond_no _ _ t)

-- ---- what hangs on no line's number is the same wherever the lines stand

pub anywhere : {A : Type 0} (g : List Text → A) → Numberless g → (c j k : ℕ) (ls : List Physical) → g (texts_from c j ls) ≡ g (texts_from c k ls)
anywhere g n c j k ls =
    let f : ℕ → ℕ = λ i. i - j + k in
    sym (n f (texts_from c j ls)) ∙ ap g (texts-map f c j k ls (λ i q. omega arith))

pub within-numberless : Numberless (all is_within)
unfolding all
within-numberless f [] = refl
within-numberless f (plain k w ∷ ts) = ap (λ t. is_within (plain k w) && t) (within-numberless f ts)
within-numberless f (change k n ∷ ts) = ap (λ t. is_within (change k n) && t) (within-numberless f ts)
