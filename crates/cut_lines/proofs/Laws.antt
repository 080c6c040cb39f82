-- Laws of `specs/Texts.antt`: the line at a cursor gives the first text, or none, and the others follow from the next cursor; and what `next_text` answers once lines are passed.
use Rattle.std.specs.Prelude.{Result, Ok}
use Prim.Native.Nat.{ℕ, ◌+◌, ◌-◌, ◌≤◌, ◌<◌}
use mathlib.Core.Path.{◌≡◌, refl, sym, ap, ◌∙◌}
use mathlib.Core.List.{List, [], ◌∷◌}
use mathlib.Core.Bool.{true, false}
use native.Mathlib.Omega.{arith}
use lib.ListN.{length, take, drop, drop_of_length-le, length-take}
use lib.Seq.{take-take}
use Rattle.laws.specs.Lists.{part}
use Rattle.laws.specs.Said.{or_else}
use Rattle.records.specs.Flaws.{flaw_in, told, told_in, line_fault_in}
use Rattle.records.specs.declared.LineFault.{LineFault}
use Rattle.records.proofs.Columns.{told-fault, told-else}
use Rattle.laws.proofs.Tests.{cond_yes, cond_no}
use Rattle.laws.proofs.Lists.{part_length}
use Rattle.lines.specs.Lines.{Physical, lines_of, fault_from, cut}
use Rattle.lines.proofs.Places.{cut-take}
use Rattle.cut_lines.specs.Texts.{Text, plain, change, onto_texts, texts_from}
use Rattle.lines.proofs.Numbers.{others-clean, line-short, cut_short}
use Rattle.lines.specs.Places.{line_at, cut_from, RawAt}
use Rattle.lines.specs.declared.CutLine.{CutLine}
use Rattle.lines.proofs.Handed.{raw-handed, cut-whole, cut-end}
use Rattle.cut_lines.specs.Change.{is_change, change_of}
use Rattle.cut_lines.specs.Cursors.{first_cursor, rest, past, CleanFrom, Placed, Goes, TextIs, ChangeIs, OutIs}
use Rattle.cut_lines.specs.declared.Cursor.{Cursor}

-- ---- the line at a cursor

-- the line at a cursor is l, and n stands behind it
pub record Steps (s : List ℕ) (c : Cursor) (l : Physical) (n : Cursor) : Type 0 where
  pub more : lines_of (drop c.at s) ≡ l ∷ lines_of (drop n.at s)
  pub line : n.line ≡ c.line + 1
  pub rises : c.at < n.at
  pub within : n.at ≤ length s

-- what is left of it lies from there up to e
pub record CutIs (s : List ℕ) (c : Cursor) (e : ℕ) (n : Cursor) : Type 0 where
  pub physical : Physical
  pub steps : Steps s c physical n
  pub kind : is_change physical.bytes ≡ false
  pub text : part c.at e s ≡ cut c.comment physical.bytes
  pub char : n.comment ≡ c.comment
  pub starts : c.at ≤ e
  pub ends : e ≤ length s

-- it is a [Comment Char] line with this fault
pub record ChangedIs (s : List ℕ) (c : Cursor) (f : LineFault) (n : Cursor) : Type 0 where
  pub physical : Physical
  pub steps : Steps s c physical n
  pub kind : is_change physical.bytes ≡ true
  pub fault : f ≡ told physical.bytes (flaw_in (change_of physical.bytes))
  pub char : n.comment ≡ or_else c.comment (change_of physical.bytes)

-- what cutting leaves of the line from a place to end
cut_at : (s : List ℕ) (at end c e : ℕ) → end ≤ length s → e ≡ at + length (cut c (part at end s)) → part at e s ≡ cut c (part at end s)
cut_at s at end c e k h =
    let m : ℕ = length (cut c (part at end s)) in
    let j : e - at ≡ m = omega arith in
    ap (λ (n : ℕ). take n (drop at s)) j
    ∙ sym (take-take m (end - at) (drop at s) (omega (arith, cut_short c (part at end s), part_length s at end k)))
    ∙ cut-take c (part at end s)

-- as it is read
module _ (s : List ℕ) (at line c : ℕ) (l : CutLine) (some : at < length s) (is : l ≡ cut_from s at c) where
  pub read : RawAt s at l.whole
  read = raw-handed s at l.whole some (cut-whole s at c l is)

  pub cut-is : is_change (part at l.whole.end s) ≡ false
      → CutIs s (record { at = at; line = line; comment = c }) l.cut (record { at = l.whole.next; line = line + 1; comment = c })
  cut-is k =
      let e = cut-end s at c l is in
      record {
        physical = read.line;
        steps = record { more = read.more; line = refl; rises = read.rises; within = read.within };
        kind = ap is_change (sym read.text) ∙ k;
        text = cut_at s at l.whole.end c l.cut read.ends e ∙ ap (cut c) read.text;
        char = refl;
        starts = omega (arith, e);
        ends = omega (arith, e, read.ends, read.starts, cut_short c (part at l.whole.end s), part_length s at l.whole.end read.ends);
      }

  pub changed-is : (x : Result ℕ LineFault) → x ≡ told_in (part at l.whole.end s) (change_of (part at l.whole.end s)) → is_change (part at l.whole.end s) ≡ true
      → ChangedIs s (record { at = at; line = line; comment = c }) (line_fault_in x) (record { at = l.whole.next; line = line + 1; comment = or_else c x })
  changed-is x e k =
      let said = e ∙ ap (λ (w : List ℕ). told_in w (change_of w)) read.text in
      record {
        physical = read.line;
        steps = record { more = read.more; line = refl; rises = read.rises; within = read.within };
        kind = ap is_change (sym read.text) ∙ k;
        fault = ap line_fault_in said ∙ told-fault read.line.bytes (change_of read.line.bytes);
        char = ap (or_else c) said ∙ told-else read.line.bytes c (change_of read.line.bytes);
      }

-- ---- nothing is left

module _ (s : List ℕ) (c : Cursor) (h : length s ≤ c.at) where
  rest_end : rest s c ≡ []
  unfolding rest texts_from lines_of
  rest_end = rw (drop_of_length-le s h)

  past_end : past s c ≡ c.line
  unfolding past lines_of
  past_end = rw (drop_of_length-le s h) (omega arith)

-- ---- a line more

module _ (s : List ℕ) (c n : Cursor) (l : Physical) (h : Steps s c l n) where
  past-step : past s c ≡ past s n
  unfolding past
  past-step = omega (arith, h.line, ap length h.more)

  placed-step : Placed s c → Placed s n
  placed-step p = record { within = h.within; lines = omega (arith, h.line, h.rises, p.lines) }

  -- the line's bytes have no fault, and nor have those behind it
  first-clean : CleanFrom s c → fault_from c.line (l ∷ lines_of (drop n.at s)) ≡ Ok tt
  first-clean g = ap (fault_from c.line) (sym h.more) ∙ g

  clean_step : CleanFrom s c → CleanFrom s n
  clean_step g = ap (λ (k : ℕ). fault_from k (lines_of (drop n.at s))) h.line ∙ others-clean c.line l (lines_of (drop n.at s)) (first-clean g)

  short-step : CleanFrom s c → length l.bytes ≤ 120
  short-step g = line-short c.line l (lines_of (drop n.at s)) (first-clean g)

onto-none : (k : ℕ) (w : List ℕ) (ts : List Text) → length w ≡ 0 → onto_texts k w ts ≡ ts
unfolding onto_texts
onto-none k [] ts h = refl
onto-none k (b ∷ bs) ts h = absurd (omega arith)

onto-some : (k : ℕ) (w : List ℕ) (ts : List Text) → 0 < length w → onto_texts k w ts ≡ plain k w ∷ ts
unfolding onto_texts
onto-some k [] ts h = absurd (omega arith)
onto-some k (b ∷ bs) ts h = refl

module _ (s : List ℕ) (c : Cursor) (e : ℕ) (n : Cursor) (h : CutIs s c e n) where
  rest-cut : rest s c ≡ onto_texts c.line (part c.at e s) (rest s n)
  unfolding rest texts_from
  rest-cut =
      ap (texts_from c.comment c.line) h.steps.more
      ∙ cond_no _ _ h.kind
      ∙ rw (h.text, h.char, h.steps.line)

  -- what is left of a line is no longer than the line
  text-short : CleanFrom s c → e ≤ c.at + 120
  text-short g =
      omega (arith, part_length s c.at e h.ends, ap length h.text, cut_short c.comment h.physical.bytes, short-step s c n h.physical h.steps g)

  rest-empty : e ≤ c.at → rest s c ≡ rest s n
  rest-empty k = rest-cut ∙ onto-none _ _ _ (omega (arith, length-take (e - c.at) (drop c.at s)))

  rest-text : c.at < e → rest s c ≡ plain c.line (part c.at e s) ∷ rest s n
  rest-text k = rest-cut ∙ onto-some _ _ _ (omega (arith, part_length s c.at e h.ends))

rest-change : (s : List ℕ) (c : Cursor) (f : LineFault) (n : Cursor) → ChangedIs s c f n → rest s c ≡ change c.line f ∷ rest s n
unfolding rest texts_from
rest-change s c f n h =
    ap (texts_from c.comment c.line) h.steps.more
    ∙ cond_yes _ _ h.kind
    ∙ rw (h.fault, h.char, h.steps.line)

-- a cursor is its three fields
rest-here : (s : List ℕ) (c : Cursor) (x : ℕ) → x ≡ c.comment → rest s (record { at = c.at; line = c.line; comment = x }) ≡ rest s c
unfolding rest
rest-here s c x e = rw e refl

-- ---- lines that leave nothing are passed: the texts from c on are those from d on

pub record Passed (s : List ℕ) (c d : Cursor) : Type 0 where
  pub placed : Placed s d
  pub from : c.at ≤ d.at
  pub ends : past s c ≡ past s d
  pub texts : rest s c ≡ rest s d
  pub clean : CleanFrom s c → CleanFrom s d

pub passed_none : (s : List ℕ) (c : Cursor) → Placed s c → Passed s c c
passed_none s c p = record { placed = p; from = omega arith; ends = refl; texts = refl; clean = λ g. g }

module _ (s : List ℕ) (c d : Cursor) (p : Passed s c d) where
  goes-behind : (n : Cursor) (l : Physical) → Steps s d l n → Goes s c n
  goes-behind n l h =
      record {
        placed = placed-step s d n l h p.placed;
        rises = omega (arith, p.from, h.rises);
        ends = p.ends ∙ past-step s d n l h;
        clean = λ g. clean_step s d n l h (p.clean g);
      }

  module _ (e : ℕ) (n : Cursor) (h : CutIs s d e n) where
    pub passed-empty : e ≤ d.at → Passed s c n
    passed-empty k =
        let g = goes-behind n _ h.steps in
        record { placed = g.placed; from = omega (arith, g.rises); ends = g.ends; texts = p.texts ∙ rest-empty s d e n h k; clean = g.clean }

    pub passed-text : d.at < e → TextIs s c d.line d.at e n
    unfolding past
    passed-text k =
        record {
          more = p.texts ∙ rest-text s d e n h k;
          here = rest-here s d n.comment h.char ∙ rest-text s d e n h k;
          goes = goes-behind n _ h.steps;
          line = h.steps.line;
          from = p.from;
          lines = p.placed.lines;
          place = p.ends;
          short = λ g. text-short s d e n h (p.clean g);
          starts = k;
          fits = h.ends;
        }

  pub passed-change : (f : LineFault) (n : Cursor) → ChangedIs s d f n → ChangeIs s c d.line f n
  passed-change f n h = record { more = p.texts ∙ rest-change s d f n h; goes = goes-behind n _ h.steps }

  pub passed-out : length s ≤ d.at → OutIs s c d.line
  passed-out h = record { more = p.texts ∙ rest_end s d h; ends = sym (p.ends ∙ past_end s d h) }

-- ---- the number of a line, by its place

pub line-placed : (s : List ℕ) (c : Cursor) (k a : ℕ) → past s c ≡ past s first_cursor → past s c ≡ k + length (lines_of (drop a s)) → k ≡ line_at s a
unfolding past line_at
line-placed s c k a e h = omega (arith, e, h)
