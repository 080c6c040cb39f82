-- The parts of a word: what the code knows while it passes digits, and what it has then read.
use Prim.Native.Nat.{ℕ, ◌+◌, ◌-◌, ◌*◌, ◌^◌, ◌%◌, ◌≤◌, ◌<◌, min}
use Prim.Native.Char.{code}
use mathlib.Core.Path.{◌≡◌, refl, sym, ap, subst, ◌∙◌}
use mathlib.Core.List.{List, [], ◌∷◌, ◌++◌, append_assoc, append-nil}
use mathlib.Core.Bool.{true, false, ◌||◌}
use mathlib.Core.Logic.{◌⊎◌, ⊎_elim}
use native.Mathlib.Nat.{lt_of_lt_of_le, pow-le-pow_right, pow-suc}
use native.Mathlib.Numerals.{add-one}
use native.Mathlib.Omega.{arith}
use lib.ListN.{length, drop, get_or, drop_of_length-le, length-append}
use lib.Dec.{eqb}
use borrow.Author.Tests.{eq-eqb, ne_eqb}
use Rattle.laws.specs.Bytes.{is_digit, is_letter}
use Rattle.laws.specs.Lists.{front, after, all, part}
use Rattle.laws.proofs.Tests.{by_order, cond_yes, cond_no, cond-all, and_first, and_second, never}
use Rattle.laws.proofs.Lists.{from_cons, part_none, part-more, none_of}
use Rattle.laws.proofs.Fronts.{front-more, front_at, after-at}
use Rattle.decimal.specs.declared.word.Sign.{Sign}
use Rattle.decimal.specs.declared.word.Figures.{Figures}
use Rattle.decimal.specs.declared.word.Plain.{Plain}
use Rattle.decimal.specs.Decimal.{is_minus, after_sign, point_places, after_point, figures, after_figures, after_e, exponent_digits, letters, numeral, numeral_from}
use Rattle.decimal.specs.Parts.{cap, short, StandsFor, SignRead, DigitsRead, PlainRead, CappedRead, Spans, MantissaRead, ShortRead, ExponentRead}
use Rattle.laws.proofs.Bytes.{digit-yes, digit-below, digit-above, letter-below}
use Rattle.decimal.proofs.Numerals.{numeral-append, stands-grown, stands-none, stands-zero, stands-digit}

-- ---- digits: those from `at` up to i are passed

pub record Passed (w : List ℕ) (at n zeros m z i : ℕ) : Type 0 where
  pub stands : (ds : List ℕ) → StandsFor n zeros ds → StandsFor m z (ds ++ part at i w)
  pub stop : i + length (front is_digit (drop i w)) ≡ at + length (front is_digit (drop at w))
  pub from : at ≤ i
  pub within : i ≤ length w
  pub capped : m ≤ cap
  pub few : z ≤ i

module _ (w : List ℕ) (at n zeros : ℕ) where
  pub passed_none : at ≤ length w → n ≤ cap → zeros ≤ at → Passed w at n zeros n zeros at
  passed_none h k l =
      record {
        stands = λ ds s. subst (StandsFor n zeros) (sym (ap (λ (l : List ℕ). ds ++ l) (part_none w at) ∙ append-nil ds)) s;
        stop = refl;
        from = omega arith;
        within = h;
        capped = k;
        few = l;
      }

  module _ (m z i : ℕ) (p : Passed w at n zeros m z i) where
    -- the digit at i joins
    joined : i < length w → (ds : List ℕ) → ds ++ part at (i + 1) w ≡ ds ++ part at i w ++ (get_or w i 0 ∷ [])
    joined h ds = ap (λ (l : List ℕ). ds ++ l) (part-more w at i 0 p.from h) ∙ sym (append_assoc ds (part at i w) (get_or w i 0 ∷ []))

    passed-more : (r k : ℕ) → i < length w → is_digit (get_or w i 0) ≡ true → r ≤ cap → k ≤ i + 1
        → ((ds : List ℕ) → StandsFor m z ds → StandsFor r k (ds ++ (get_or w i 0 ∷ [])))
        → Passed w at n zeros r k (i + 1)
    passed-more r k h t e f g =
        record {
          stands = λ ds s. subst (StandsFor r k) (sym (joined h ds)) (g (ds ++ part at i w) (p.stands ds s));
          stop = front-more is_digit w i 0 h t ∙ p.stop;
          from = omega (arith, p.from);
          within = omega arith;
          capped = e;
          few = f;
        }

    pub passed-zero : i < length w → get_or w i 0 ≡ code "0" → Passed w at n zeros m (z + 1) (i + 1)
    passed-zero h e =
        passed-more m (z + 1) h (digit-yes _ (omega arith) (omega arith)) p.capped (omega (arith, p.few))
        (λ ds s. stands-zero m z (get_or w i 0) ds e s)

    pub passed-digit : (g r : ℕ) → i < length w → code "1" ≤ get_or w i 0 → get_or w i 0 ≤ code "9"
        → g ≡ min (m * 10 ^ z) cap → r ≡ min (g * 10 + (get_or w i 0 - code "0")) cap → Passed w at n zeros r 0 (i + 1)
    passed-digit g r h a b e q =
        passed-more r 0 h (digit-yes _ (omega arith) (omega arith)) (omega arith) (omega arith)
        (λ ds s. stands-digit m z (get_or w i 0) g r ds (λ k. omega arith) s e q)

    -- no digit stands at i
    pub passed-end : i + length (front is_digit (drop i w)) ≡ i → DigitsRead w at n zeros (record { number = m; zeros = z; at = i })
    passed-end e =
        let s : i ≡ at + length (front is_digit (drop at w)) = sym e ∙ p.stop in
        record {
          stands = λ ds t. subst (λ (l : List ℕ). StandsFor m z (ds ++ l)) (front_at is_digit w at i s) (p.stands ds t);
          stop = s;
          within = p.within;
          capped = p.capped;
          few = p.few;
        }

-- ---- digits as they are: the number that they say from i on, after what was read, is that from `at` on

pub record Goes (w : List ℕ) (at n m i : ℕ) : Type 0 where
  pub number : numeral_from m (front is_digit (drop i w)) ≡ numeral_from n (front is_digit (drop at w))
  pub stop : i + length (front is_digit (drop i w)) ≡ at + length (front is_digit (drop at w))
  pub from : at ≤ i
  pub within : i ≤ length w
  pub small : m < 10 ^ i

ten-short : (i n : ℕ) → i ≤ short → n < 10 ^ i → n < cap
ten-short i n h k = lt_of_lt_of_le k (pow-le-pow_right (omega arith) h)

pub ten-more : (i m d : ℕ) → m < 10 ^ i → d < 10 → m * 10 + d < 10 ^ (i + 1)
ten-more i m d h k =
    let e : 10 ^ (i + 1) ≡ 10 ^ i * 10 = ap (λ (j : ℕ). 10 ^ j) (add-one i) ∙ pow-suc 10 i in
    omega (arith, h, k, e)

module _ (w : List ℕ) (at n : ℕ) where
  module _ (m i : ℕ) (p : Goes w at n m i) where
    pub goes-digit : i < length w → code "0" ≤ get_or w i 0 → get_or w i 0 ≤ code "9" → Goes w at n (m * 10 + (get_or w i 0 - code "0")) (i + 1)
    unfolding numeral_from front
    goes-digit h a b =
        let t = digit-yes (get_or w i 0) a b in
        record {
          number = sym (rw (from_cons w i 0 h, t)) ∙ p.number;
          stop = front-more is_digit w i 0 h t ∙ p.stop;
          from = omega (arith, p.from);
          within = omega arith;
          small = ten-more i m (get_or w i 0 - 48) p.small (omega arith);
        }

    -- within a short word what was read is so small that a digit more fits
    pub goes-fits : length w ≤ short → i < length w → m * 10 + 9 < cap
    goes-fits h k = ten-short (i + 1) (m * 10 + 9) (omega arith) (ten-more i m 9 p.small (omega arith))

    -- no digit stands at i
    pub goes_end : i + length (front is_digit (drop i w)) ≡ i → PlainRead w at n (record { number = m; at = i })
    unfolding numeral_from
    goes_end e =
        record {
          number = sym (ap (numeral_from m) (none_of (front is_digit (drop i w)) (omega (arith, e)))) ∙ p.number;
          stop = sym e ∙ p.stop;
          within = p.within;
          small = p.small;
        }

-- ---- how far a byte lies behind "0", in 64 bits: a digit less than ten, and nothing else

pub near-0 : (b : ℕ) → b < 2 ^ 8 → (b + 18446744073709551568) % 18446744073709551616 ≤ 9
    → (code "0" ≤ b) × (b ≤ code "9") × ((b + 18446744073709551568) % 18446744073709551616 ≡ b - code "0")
near-0 b f h = (omega (arith, f, h), omega (arith, f, h), omega (arith, f, h))

pub far_from_0 : (b : ℕ) → b < 2 ^ 8 → 9 < (b + 18446744073709551568) % 18446744073709551616 → is_digit b ≡ false
far_from_0 b f h = by_order b 47 (λ k. digit-below b (omega (arith, k))) (λ k. digit-above b (omega (arith, f, h, k)))

-- ---- the number that digits say, capped: what was read of them with its waiting zeros

pub capped-read : (w : List ℕ) (at r : ℕ) (d : Figures) → DigitsRead w at 0 0 d → r ≡ min (d.number * 10 ^ d.zeros) cap
    → CappedRead w at (record { number = r; at = d.at })
capped-read w at r d h e =
    record { number = stands-grown _ _ r _ (h.stands [] stands-none) e; stop = h.stop; within = h.within }

-- ---- the sign at a place: none where the word ends, or another byte stands there

pub sign-end : (w : List ℕ) (at : ℕ) → length w ≤ at → at ≤ length w → SignRead w at (record { minus = false; at = at })
unfolding is_minus after_sign
sign-end w at h k =
    let e = drop_of_length-le w h in
    record { minus = rw e; rest = rw e; within = k }

module _ (w : List ℕ) (at : ℕ) (h : at < length w) where
  pub sign-plus : get_or w at 0 ≡ code "+" → SignRead w at (record { minus = false; at = at + 1 })
  unfolding is_minus after_sign
  sign-plus e =
      let f = from_cons w at 0 h in
      record { minus = rw (f, e); rest = sym (rw (f, e)); within = omega arith }

  pub sign-minus : get_or w at 0 ≡ code "-" → SignRead w at (record { minus = true; at = at + 1 })
  unfolding is_minus after_sign
  sign-minus e =
      let f = from_cons w at 0 h in
      record { minus = rw (f, e); rest = sym (rw (f, e)); within = omega arith }

  pub sign-none : (get_or w at 0 ≡ code "+" → ⊥) → (get_or w at 0 ≡ code "-" → ⊥) → SignRead w at (record { minus = false; at = at })
  unfolding is_minus after_sign
  sign-none p m =
      let f = from_cons w at 0 h in
      let a = ne_eqb _ _ p in
      let b = ne_eqb _ _ m in
      record { minus = rw (f, b); rest = rw f (simp (a, b)); within = omega arith }

-- ---- the point and the places after it

pub places-end : (w : List ℕ) (i : ℕ) → length w ≤ i → (point_places (drop i w) ≡ []) × (after_point (drop i w) ≡ drop i w)
unfolding point_places after_point
places-end w i h = rw (drop_of_length-le w h) (refl, refl)

pub places-none : (w : List ℕ) (i : ℕ) → i < length w → (get_or w i 0 ≡ code "." → ⊥) → (point_places (drop i w) ≡ []) × (after_point (drop i w) ≡ drop i w)
unfolding point_places after_point
places-none w i h k = rw (from_cons w i 0 h, ne_eqb _ _ k) (refl, refl)

places-point : (w : List ℕ) (i : ℕ) → i < length w → get_or w i 0 ≡ code "."
    → (point_places (drop i w) ≡ front is_digit (drop (i + 1) w)) × (after_point (drop i w) ≡ after is_digit (drop (i + 1) w))
unfolding point_places after_point
places-point w i h k = rw (from_cons w i 0 h, k) (refl, refl)

-- where the digits with their point lie: those from `at` on end at `stop`
module _ (w : List ℕ) (at stop : ℕ) (found : stop ≡ at + length (front is_digit (drop at w))) where
  behind : after is_digit (drop at w) ≡ drop stop w
  behind = after-at is_digit w at stop found

  -- as they are, with no point
  module _ (within : stop ≤ length w) (e : (point_places (drop stop w) ≡ []) × (after_point (drop stop w) ≡ drop stop w)) where
    figures-plain : figures (drop at w) ≡ front is_digit (drop at w)
    unfolding figures
    figures-plain = ap (λ (l : List ℕ). front is_digit (drop at w) ++ l) (ap point_places behind ∙ e.0) ∙ append-nil _

    spans-plain : (n z : ℕ) → Spans w (drop at w) (record { number = n; zeros = z; count = stop - at; places = 0; at = stop })
    unfolding after_figures
    spans-plain n z =
        record {
          count = omega (arith, ap length figures-plain);
          places = sym (ap length (ap point_places behind ∙ e.0));
          rest = sym (ap after_point behind ∙ e.1);
          within = within;
          some = omega arith;
          short = omega arith;
        }

  -- before and after the point
  module _ (h : stop < length w) (k : get_or w stop 0 ≡ code ".") (end : ℕ) (more : end ≡ stop + 1 + length (front is_digit (drop (stop + 1) w))) where
    beyond : point_places (after is_digit (drop at w)) ≡ front is_digit (drop (stop + 1) w)
    beyond = ap point_places behind ∙ (places-point w stop h k).0

    figures-point : figures (drop at w) ≡ front is_digit (drop at w) ++ front is_digit (drop (stop + 1) w)
    unfolding figures
    figures-point = ap (λ (l : List ℕ). front is_digit (drop at w) ++ l) beyond

    spans-point : (n z : ℕ) → end ≤ length w
        → Spans w (drop at w) (record { number = n; zeros = z; count = stop - at + (end - stop - 1); places = end - stop - 1; at = end })
    unfolding after_figures
    spans-point n z within =
        record {
          count = omega (arith, ap length figures-point, length-append (front is_digit (drop at w)) (front is_digit (drop (stop + 1) w)));
          places = omega (arith, ap length beyond);
          rest = sym (ap after_point behind ∙ (places-point w stop h k).1 ∙ after-at is_digit w (stop + 1) end more);
          within = within;
          some = omega arith;
          short = omega arith;
        }

module _ (w : List ℕ) (at : ℕ) (f : Figures) (d : DigitsRead w at 0 0 f) where
  pub mantissa-plain : (point_places (drop f.at w) ≡ []) × (after_point (drop f.at w) ≡ drop f.at w)
      → MantissaRead w (drop at w) (record { number = f.number; zeros = f.zeros; count = f.at - at; places = 0; at = f.at })
  mantissa-plain e =
      record {
        stands = subst (StandsFor f.number f.zeros) (sym (figures-plain w at f.at d.stop d.within e)) (d.stands [] stands-none);
        spans = spans-plain w at f.at d.stop d.within e f.number f.zeros;
        few = omega (arith, d.few, d.within);
      }

  pub mantissa-point : (g : Figures) → f.at < length w → get_or w f.at 0 ≡ code "." → DigitsRead w (f.at + 1) f.number f.zeros g
      → MantissaRead w (drop at w) (record { number = g.number; zeros = g.zeros; count = f.at - at + (g.at - f.at - 1); places = g.at - f.at - 1; at = g.at })
  mantissa-point g h k m =
      record {
        stands =
            subst (StandsFor g.number g.zeros) (sym (figures-point w at f.at d.stop h k g.at m.stop))
            (m.stands (front is_digit (drop at w)) (d.stands [] stands-none));
        spans = spans-point w at f.at d.stop h k g.at m.stop g.number g.zeros m.within;
        few = omega (arith, m.few, m.within);
      }

-- the same in a short word
module _ (w : List ℕ) (at : ℕ) (few : length w ≤ short) (f : Plain) (d : PlainRead w at 0 f) where
  pub short-plain : (point_places (drop f.at w) ≡ []) × (after_point (drop f.at w) ≡ drop f.at w)
      → ShortRead w (drop at w) (record { number = f.number; zeros = 0; count = f.at - at; places = 0; at = f.at })
  unfolding numeral
  short-plain e =
      record {
        number = d.number ∙ ap (numeral_from 0) (sym (figures-plain w at f.at d.stop d.within e));
        spans = spans-plain w at f.at d.stop d.within e f.number 0;
        small = ten-short f.at f.number (omega (arith, d.within)) d.small;
      }

  pub short-point : (g : Plain) → f.at < length w → get_or w f.at 0 ≡ code "." → PlainRead w (f.at + 1) f.number g
      → ShortRead w (drop at w) (record { number = g.number; zeros = 0; count = f.at - at + (g.at - f.at - 1); places = g.at - f.at - 1; at = g.at })
  unfolding numeral
  short-point g h k m =
      let ahead = front is_digit (drop at w) in
      let more = front is_digit (drop (f.at + 1) w) in
      record {
        number =
            m.number
            ∙ ap (λ (n : ℕ). numeral_from n more) d.number
            ∙ sym (ap (numeral_from 0) (figures-point w at f.at d.stop h k g.at m.stop) ∙ numeral-append 0 ahead more);
        spans = spans-point w at f.at d.stop h k g.at m.stop g.number 0 m.within;
        small = ten-short g.at g.number (omega (arith, m.within)) m.small;
      }

-- ---- the exponent

pub e-here : (w : List ℕ) (at : ℕ) → at < length w → (get_or w at 0 ≡ code "E") ⊎ (get_or w at 0 ≡ code "e") → after_e (drop at w) ≡ drop (at + 1) w
unfolding after_e
e-here w at h k = rw (from_cons w at 0 h) (⊎_elim (λ e. rw e) (λ e. rw e) k)

pub e-none : (w : List ℕ) (at : ℕ) → at < length w → (get_or w at 0 ≡ code "E" → ⊥) → (get_or w at 0 ≡ code "e" → ⊥) → after_e (drop at w) ≡ []
unfolding after_e
e-none w at h k l = rw (from_cons w at 0 h) (simp (ne_eqb _ _ k, ne_eqb _ _ l))

pub e-end : (w : List ℕ) (at : ℕ) → length w ≤ at → after_e (drop at w) ≡ []
unfolding after_e
e-end w at h = rw (drop_of_length-le w h)

-- no e: no digits of an exponent
pub exponent-none : (w : List ℕ) (at : ℕ) → at ≤ length w → after_e (drop at w) ≡ []
    → ExponentRead w (drop at w) (record { minus = false; size = 0; at = at })
unfolding exponent_digits letters is_minus after_sign front numeral numeral_from
exponent-none w at h e =
    record { minus = sym (ap is_minus e); size = rw e; rest = rw e; within = h }

-- letters alone: the e that they may begin with has no digits
letter-digit : (b : ℕ) → is_letter b ≡ true → is_digit b ≡ false
letter-digit b h =
    by_order b 57
    (λ k. absurd (never (is_letter b) h (letter-below b (omega arith))))
    (λ k. digit-above b k)

letter-sign : (b : ℕ) → is_letter b ≡ true → (eqb b (code "+") ≡ false) × (eqb b (code "-") ≡ false)
letter-sign b h =
    by_order b 45
    (λ k. absurd (never (is_letter b) h (letter-below b (omega arith))))
    (λ k. (ne_eqb b 43 (omega arith), ne_eqb b 45 (omega arith)))

letters-begin : (s : List ℕ) → all is_letter s ≡ true → (is_minus s ≡ false) × (front is_digit (after_sign s) ≡ [])
unfolding is_minus after_sign front all
letters-begin [] h = (refl, refl)
letters-begin (b ∷ bs) h =
    let l = and_first (is_letter b) (all is_letter bs) h in
    let s = letter-sign b l in
    (s.1, rw (s.0, s.1, letter-digit b l))

letters-after : (s : List ℕ) → all is_letter s ≡ true → all is_letter (after_e s) ≡ true
unfolding after_e all
letters-after [] h = refl
letters-after (b ∷ bs) h =
    cond-all (λ l. all is_letter l ≡ true) (eqb b (code "e") || eqb b (code "E")) bs []
    (λ k. and_second (is_letter b) (all is_letter bs) h) (λ k. refl)

pub exponent-letters : (w : List ℕ) (at : ℕ) → at ≤ length w → all is_letter (drop at w) ≡ true
    → ExponentRead w (drop at w) (record { minus = false; size = 0; at = at })
unfolding exponent_digits letters numeral numeral_from
exponent-letters w at h e =
    let g = letters-begin (after_e (drop at w)) (letters-after (drop at w) e) in
    record { minus = sym g.0; size = rw g.1; rest = rw g.1; within = h }

module _ (w : List ℕ) (at : ℕ) (h : at < length w) (e : after_e (drop at w) ≡ drop (at + 1) w)
    (s : Sign) (hs : SignRead w (at + 1) s) (d : Plain) (hd : CappedRead w s.at d) where
  abbrev said : List ℕ
  said = front is_digit (after_sign (after_e (drop at w)))

  read : said ≡ front is_digit (drop s.at w)
  read = ap (λ (l : List ℕ). front is_digit (after_sign l)) e ∙ ap (front is_digit) (sym hs.rest)

  pub exponent-empty : d.at ≡ s.at → ExponentRead w (drop at w) (record { minus = s.minus; size = 0; at = at })
  unfolding exponent_digits letters numeral numeral_from
  exponent-empty k =
      let n : length said ≡ 0 = omega (arith, ap length read, hd.stop) in
      record {
        minus = hs.minus ∙ ap is_minus (sym e);
        size = sym (ap (λ (l : List ℕ). min (numeral l) cap) (none_of said n));
        rest = sym (cond_yes (drop at w) (after is_digit (after_sign (after_e (drop at w)))) (eq-eqb (length said) 0 n));
        within = omega arith;
      }

  pub exponent-some : (d.at ≡ s.at → ⊥) → ExponentRead w (drop at w) (record { minus = s.minus; size = d.number; at = d.at })
  unfolding exponent_digits letters
  exponent-some k =
      let n : length said ≡ 0 → ⊥ = λ z. k (omega (arith, ap length read, hd.stop)) in
      record {
        minus = hs.minus ∙ ap is_minus (sym e);
        size = hd.number ∙ ap (λ (l : List ℕ). min (numeral l) cap) (sym read);
        rest =
            sym (cond_no (drop at w) (after is_digit (after_sign (after_e (drop at w)))) (ne_eqb (length said) 0 n)
            ∙ ap (λ (l : List ℕ). after is_digit (after_sign l)) e
            ∙ ap (after is_digit) (sym hs.rest)
            ∙ after-at is_digit w s.at d.at hd.stop);
        within = hd.within;
      }
