-- Laws of `specs/Places.antt`: where a line lies whole, and a search for what cutting leaves of it.
use Prim.Native.Nat.{ℕ, suc, ◌-◌, ◌≤◌, ◌<◌}
use mathlib.Core.Path.{◌≡◌, refl, sym, ap, ◌∙◌, subst}
use mathlib.Core.List.{List, [], ◌∷◌}
use native.Mathlib.Omega.{arith}
use lib.ListN.{length, drop}
use borrow.Author.Tests.{eq-eqb, ne_eqb}
use Rattle.laws.specs.Lists.{part}
use Rattle.laws.proofs.Lists.{part_none}
use Rattle.laws.proofs.Tests.{by_order, cond_yes, cond_no}
use Rattle.records.specs.declared.LineFault.{LineFault}
use Rattle.lines.specs.Lines.{lines_of}
use Rattle.lines.specs.Places.{first_bytes, line_from, RawAt}
use Rattle.lines.specs.declared.Line.{Line}
use Rattle.lines.proofs.Handed.{hands_none, raw_at}
use Rattle.cut_lines.specs.Texts.{Text, plain, change}
use Rattle.cut_lines.specs.Cursors.{first_cursor, rest, Placed, TextIs, ChangeIs, OutIs}
use Rattle.cut_lines.specs.declared.Cursor.{Cursor}
use Rattle.refusal_text.specs.Places.{place_behind, of_line, text_in, text_of_line, Lies}
use Rattle.refusal_text.proofs.Laws.{stands-behind, line-text, no_lines}

-- ---- the line, whole

pub line-lies : (s : List ℕ) (at : ℕ) (l : Line) → at ≤ length s → l ≡ line_from s at → Lies s (first_bytes (lines_of (drop at s))) (record { start = at; end = l.end })
unfolding first_bytes
line-lies s at l h e =
    by_order (suc at) (length s)
    (λ k.
    let raw = subst (RawAt s at) (sym e) (raw_at s at k) in
    record { is = raw.text ∙ sym (ap first_bytes raw.more); starts = raw.starts; ends = raw.ends })
    (λ k.
    let none : l.end ≡ at = ap (λ (m : Line). m.end) (e ∙ sym (hands_none s at (omega (arith, k)))) in
    record {
      is = ap (λ (n : ℕ). part at n s) none ∙ part_none s at ∙ sym (ap first_bytes (no_lines s at (omega (arith, k))));
      starts = omega (arith, none);
      ends = omega (arith, none, h);
    })

pub whole-lies : (s : List ℕ) (n p : ℕ) (l : Line) → 0 < n → p ≡ place_behind s (n - 1) → l ≡ line_from s p → Lies s (of_line first_bytes s n) (record { start = p; end = l.end })
whole-lies s n p l h e k =
    let within : p ≤ length s = subst (λ (q : ℕ). q ≤ length s) (sym e) (stands-behind s (n - 1)).within in
    subst (λ (t : List ℕ). Lies s t (record { start = p; end = l.end })) (line-text first_bytes s n p h e) (line-lies s p l within k)

-- nothing lies at the front of a file
pub none-lies : (s text : List ℕ) → [] ≡ text → Lies s text (record { start = 0; end = 0 })
none-lies s text e = record { is = part_none s 0 ∙ e; starts = omega arith; ends = omega arith }

-- ---- among the texts

module _ (n : ℕ) (whole : List ℕ) (k : ℕ) {ts us : List Text} where
  in-plain : (w : List ℕ) → ts ≡ plain k w ∷ us → k ≡ n → text_in n whole ts ≡ w
  unfolding text_in
  in-plain w e h = ap (text_in n whole) e ∙ cond_yes _ _ (eq-eqb k n h)

  behind-plain : (w : List ℕ) → ts ≡ plain k w ∷ us → (k ≡ n → ⊥) → text_in n whole ts ≡ text_in n whole us
  unfolding text_in
  behind-plain w e h = ap (text_in n whole) e ∙ cond_no _ _ (ne_eqb k n h)

  in-change : (f : LineFault) → ts ≡ change k f ∷ us → k ≡ n → text_in n whole ts ≡ whole
  unfolding text_in
  in-change f e h = ap (text_in n whole) e ∙ cond_yes _ _ (eq-eqb k n h)

  behind-change : (f : LineFault) → ts ≡ change k f ∷ us → (k ≡ n → ⊥) → text_in n whole ts ≡ text_in n whole us
  unfolding text_in
  behind-change f e h = ap (text_in n whole) e ∙ cond_no _ _ (ne_eqb k n h)

-- ---- a search for the text of line n that has come to d

pub record Sought (s : List ℕ) (n : ℕ) (d : Cursor) : Type 0 where
  pub same : text_in n (of_line first_bytes s n) (rest s d) ≡ text_of_line s n
  pub placed : Placed s d

pub sought-first : (s : List ℕ) (n : ℕ) → Sought s n first_cursor
unfolding text_of_line
sought-first s n = record { same = refl; placed = record { within = omega arith; lines = omega arith } }

module _ {s : List ℕ} {n : ℕ} {d : Cursor} (p : Sought s n d) where
  pub text-found : {k a e : ℕ} {m : Cursor} → TextIs s d k a e m → k ≡ n → Lies s (text_of_line s n) (record { start = a; end = e })
  text-found {k} {a} {e} t h =
      record { is = sym (in-plain n (of_line first_bytes s n) k (part a e s) t.more h) ∙ p.same; starts = omega (arith, t.starts); ends = t.fits }

  pub text-passed : {k a e : ℕ} {m : Cursor} → TextIs s d k a e m → (k ≡ n → ⊥) → Sought s n m
  text-passed {k} {a} {e} t h =
      record { same = sym (behind-plain n (of_line first_bytes s n) k (part a e s) t.more h) ∙ p.same; placed = t.goes.placed }

  pub change-found : {k : ℕ} {f : LineFault} {m : Cursor} → ChangeIs s d k f m → k ≡ n → of_line first_bytes s n ≡ text_of_line s n
  change-found {k} {f} t h = sym (in-change n (of_line first_bytes s n) k f t.more h) ∙ p.same

  pub change-passed : {k : ℕ} {f : LineFault} {m : Cursor} → ChangeIs s d k f m → (k ≡ n → ⊥) → Sought s n m
  change-passed {k} {f} t h =
      record { same = sym (behind-change n (of_line first_bytes s n) k f t.more h) ∙ p.same; placed = t.goes.placed }

  pub text_out : {k : ℕ} → OutIs s d k → Lies s (text_of_line s n) (record { start = 0; end = 0 })
  unfolding text_in
  text_out t = none-lies s (text_of_line s n) (sym (ap (text_in n (of_line first_bytes s n)) t.more) ∙ p.same)
