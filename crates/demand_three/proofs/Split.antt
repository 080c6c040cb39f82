-- The texts of a file in which a section stands: those before it, its keyword, its other texts, the keyword straight after, and the rest.
use Prim.Native.Nat.{ℕ, suc, ◌+◌, ◌≤◌, ◌<◌}
use Prim.Native.Char.{code}
use mathlib.Core.Path.{◌≡◌, sym, ap, ◌∙◌}
use mathlib.Core.List.{List, [], ◌∷◌, ◌++◌, map, append_assoc}
use mathlib.Core.Bool.{false, true}
use native.Mathlib.Omega.{arith}
use lib.ListN.{length}
use borrow.Author.Tests.{not-true}
use Rattle.lines.specs.Lines.{Physical, lines_of, cut}
use Rattle.cut_lines.specs.Texts.{Text, plain, texts_from}
use Rattle.rules.specs.Reading.{is_within}
use Rattle.rules.specs.Whole.{texts_of}
use Rattle.cut_lines.specs.InForce.{char_after_line, char_after_lines}
use Rattle.demand_three.specs.Lines.{text_on, begins_another}
use Rattle.demand_three.specs.Demand.{Stands}
use Rattle.laws.proofs.Tests.{impossible}
use Rattle.cut_lines.proofs.Renumbered.{text_at, texts-map}
use Rattle.demand_three.proofs.Texts.{texts-append, key-first, key-text}

-- the section is first and others, and stands behind the lines before
pub record Split (c : ℕ) (first : Physical) (others : List Physical) (s : List ℕ) (before : List Physical) : Type 0 where
  pub next : List ℕ
  pub rest : List Text
  pub texts : texts_of s
      ≡ texts_from (code "|") 1 before
      ++ (plain (length before + 1) (cut c first.bytes)
      ∷ (texts_from (char_after_line c first) (length before + 1 + 1) others
      ++ (plain (length before + suc (length others) + 1) next ∷ rest)))
  pub ends : is_within (plain 0 next) ≡ false
  pub late : (f : ℕ → ℕ) → ((n : ℕ) → length before + suc (length others) < n → f n ≡ n) → map (text_at f) rest ≡ rest

pub early : (f : ℕ → ℕ) (c : ℕ) (ls : List Physical) → ((n : ℕ) → n ≤ length ls → f n ≡ n) → map (text_at f) (texts_from c 1 ls) ≡ texts_from c 1 ls
early f c ls h = texts-map f c 1 1 ls (λ i q. h (1 + i) (omega arith))

module _ (c : ℕ) (first : Physical) (others : List Physical) (s : List ℕ) (opens : is_within (text_on c first) ≡ false) where
  split_after : (before after : List Physical) → char_after_lines (code "|") before ≡ c → begins_another (char_after_lines c (first ∷ others)) after ≡ true
      → lines_of s ≡ before ++ (first ∷ others) ++ after → Split c first others s before
  unfolding begins_another texts_of
  split_after before [] h e q = impossible (cc)
  split_after before (l ∷ ls) h e q =
      let d = char_after_lines c (first ∷ others) in
      let another : is_within (text_on d l) ≡ false = not-true _ e in
      let a : 1 + length before ≡ length before + 1 = omega arith in
      let b : 1 + length before + suc (length others) ≡ length before + suc (length others) + 1 = omega arith in
      record {
        next = cut d l.bytes;
        rest = texts_from (char_after_line d l) (length before + suc (length others) + 1 + 1) ls;
        texts =
            ap (texts_from (code "|") 1) (q ∙ append_assoc before (first ∷ others) (l ∷ ls))
            ∙ texts-append (code "|") 1 before (first ∷ others ++ (l ∷ ls))
            ∙ ap (λ (ts : List Text). texts_from (code "|") 1 before ++ ts)
            (ap (λ (x : ℕ). texts_from x (1 + length before) (first ∷ others ++ (l ∷ ls))) h
            ∙ texts-append c (1 + length before) (first ∷ others) (l ∷ ls)
            ∙ ap (λ (k : ℕ). texts_from c (1 + length before) (first ∷ others) ++ texts_from d k (l ∷ ls)) b
            ∙ ap (λ (k : ℕ). texts_from c k (first ∷ others) ++ texts_from d (length before + suc (length others) + 1) (l ∷ ls)) a
            ∙ rw (key-first c (length before + 1) first others opens, key-first d (length before + suc (length others) + 1) l ls another));
        ends = sym (ap is_within (key-text d l another)) ∙ another;
        late = λ f fixed. texts-map f (char_after_line d l) _ _ ls (λ i r. fixed _ (omega arith));
      }

  pub split : (p : Stands c (first ∷ others) s) → Split c first others s p.before
  split p = split_after p.before p.after p.char p.ends p.lines
