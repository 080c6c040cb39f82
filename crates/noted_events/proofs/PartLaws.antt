-- Laws on where a word or an argument of a line lies in the file.
use Prim.Native.Nat.{ℕ, ◌+◌, ◌-◌, ◌≤◌, ◌<◌}
use Prim.Native.Char.{code}
use mathlib.Core.Path.{◌≡◌, refl, sym, ap, ◌∙◌}
use mathlib.Core.List.{List}
use native.Mathlib.Omega.{arith}
use lib.ListN.{length, drop, drop_of_length-le}
use lib.Seq.{drop-drop}
use Rattle.laws.specs.Lists.{part, front, after, other}
use Rattle.laws.specs.Bytes.{is_blank}
use Rattle.laws.proofs.Lists.{part_length, part-from, part-part}
use Rattle.laws.proofs.Fronts.{after-at}
use Rattle.words.specs.Words.{words}
use Rattle.words.specs.Places.{WordAt}
use Rattle.words.specs.declared.Word.{Word}
use Rattle.keywords.specs.Form.{argument, closing}
use Rattle.named_lines.proofs.LineLaws.{first-is}
use Rattle.noted_events.specs.Places.{further_by, FirstIn, ArgumentIn}

pub first-in : (s : List ℕ) (a e : ℕ) (w : Word) → a ≤ e → e ≤ length s → WordAt (part a e s) 0 w → FirstIn s a e (record { start = a + w.start; end = a + w.end })
first-in s a e w h g at =
    let f = first-is (part a e s) w at in
    let n : length (part a e s) ≡ e - a = part_length s a e g in
    let k : w.end ≤ e - a = omega (arith, f.ends, n) in
    record {
      is = ap (further_by a) at.is;
      text = sym (part-part s a e w.start w.end k) ∙ f.text;
      others = ap words (sym (part-from s a e w.end)) ∙ f.others;
      from = omega arith;
      starts = omega (arith, f.starts);
      ends = omega (arith, k, h);
    }

module _ (s : List ℕ) (a e stop : ℕ) (lt : a < e) (le : e ≤ length s) (is : stop ≡ 1 + length (front (other (code "]")) (drop 1 (part a e s)))) where
  -- an argument that begins at r
  begins : (r : ℕ) → part r e s ≡ argument (part a e s) → r ≤ e → r ≡ e - length (argument (part a e s))
  begins r h g = omega (arith, ap length h, part_length s r e le, g)

  closes : closing (part a e s) ≡ drop stop (part a e s)
  unfolding closing
  closes = after-at (other (code "]")) (part a e s) 1 stop is

  pub argument-none : length (part a e s) ≤ stop → ArgumentIn s a e e
  unfolding argument after
  argument-none h =
      let n : e - e ≡ 0 = omega arith in
      let t : part e e s ≡ argument (part a e s) = rw closes rw (drop_of_length-le (part a e s) h) rw n refl in
      record { is = begins e t (omega arith); text = t; from = omega (arith, lt); ends = omega arith }

  pub argument-some : (r : ℕ) → r ≡ stop + 1 + length (front is_blank (drop (stop + 1) (part a e s))) → r ≤ length (part a e s) → ArgumentIn s a e (a + r)
  unfolding argument
  argument-some r h g =
      let n : length (part a e s) ≡ e - a = part_length s a e le in
      let t : part (a + r) e s ≡ argument (part a e s) =
      sym (part-from s a e r) ∙ sym (after-at is_blank (part a e s) (stop + 1) r h) ∙ ap (after is_blank) (sym (drop-drop 1 stop (part a e s)) ∙ ap (drop 1) (sym closes)) in
      record {
        is = begins (a + r) t (omega (arith, g, n, lt));
        text = t;
        from = omega arith;
        ends = omega (arith, g, n, lt);
      }
