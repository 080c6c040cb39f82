-- The words of a row by their places: the first from a place on, and the others behind it.
use Rattle.std.specs.Prelude.{Result}
use Prim.Native.Nat.{ℕ, suc, ◌+◌, ◌-◌, ◌≤◌}
use mathlib.Core.Path.{◌≡◌, refl, sym, ap, ◌∙◌}
use mathlib.Core.List.{List, [], ◌∷◌}
use native.Mathlib.Omega.{arith}
use lib.ListN.{length, drop, length-drop}
use lib.Seq.{drop-drop}
use Rattle.laws.specs.Bytes.{is_blank}
use Rattle.laws.specs.Lists.{front, after, part}
use Rattle.laws.proofs.Tests.{by_order}
use Rattle.laws.proofs.Lists.{part_none, part_length}
use Rattle.laws.proofs.Fronts.{after-at, front-le}
use Rattle.laws.specs.Said.{or_else}
use Rattle.words.specs.Words.{word, words, is_ink, rest_from}
use Rattle.words.specs.Places.{WordAt}
use Rattle.words.specs.declared.Word.{Word}
use Rattle.words.proofs.Laws.{words-rest, words-none, words-some}
use Rattle.line_cells.specs.Threes.{bytes_of, Within}
use Rattle.line_cells.proofs.Rows.{pin-cells-blank}
use Rattle.rules.specs.Component.{kept_model, pin_cells, pin_in}
use Rattle.records.specs.Flaws.{told_in}
use Rattle.records.specs.Stored.{name_laid, no_cells}
use Rattle.records.specs.declared.LineFault.{LineFault}
use Rattle.records.specs.declared.Triple.{Triple}
use Rattle.records.proofs.Columns.{told-else}

pub record WordFrom (s : List ℕ) (at : ℕ) (r : Word) : Type 0 where
  pub text : bytes_of s r ≡ word 0 (words (drop at s))
  pub others : words (drop r.end s) ≡ drop 1 (words (drop at s))
  pub next : (n : ℕ) → rest_from (suc n) (drop at s) ≡ rest_from n (drop r.end s)
  pub within : Within s r

pub word-from : (s : List ℕ) (at : ℕ) (r : Word) → WordAt s at r → WordFrom s at r
unfolding word words
word-from s at r h =
    record {
      text =
          by_order (length s) r.start
          (λ k.
          let e : r.end ≡ r.start = omega (arith, h.starts, h.ends) in
          ap (λ (n : ℕ). part r.start n s) e ∙ part_none s r.start ∙ sym (ap (word 0) (h.none k)))
          (λ k. sym (ap (word 0) (h.some k)));
      others = sym (words-rest 0 (drop r.end s)) ∙ ap words (sym (h.next 0)) ∙ words-rest 1 (drop at s);
      next = h.next;
      within = record { starts = h.starts; ends = h.ends };
    }

-- words by their places
word-second : (ws : List (List ℕ)) → word 0 (drop 1 ws) ≡ word 1 ws
unfolding word
word-second [] = refl
word-second (a ∷ ws) = refl

word-third : (ws : List (List ℕ)) → word 0 (drop 1 (drop 1 ws)) ≡ word 2 ws
unfolding word
word-third [] = refl
word-third (a ∷ []) = refl
word-third (a ∷ b ∷ ws) = refl

-- ---- a pin row: three words, each from where the one before ends, and the cells behind them

module _ (w : List ℕ) (name signal model : Word) (a : WordFrom w 0 name) (b : WordFrom w name.end signal) (c : WordFrom w signal.end model) where
  pub pin-is : (r : Result Triple LineFault) → r ≡ told_in w (pin_cells (drop model.end w))
      → (let cells = or_else no_cells r in
      record {
        name = name_laid (bytes_of w name);
        signal = name_laid (bytes_of w signal);
        model = name_laid (kept_model (bytes_of w model));
        resistance = cells.typ;
        inductance = cells.min;
        capacitance = cells.max;
      })
      ≡ pin_in w
  unfolding pin_in
  pin-is r e =
      let next : List (List ℕ) → List (List ℕ) = λ l. drop 1 l in
      let second = b.text ∙ ap (word 0) a.others ∙ word-second (words w) in
      let third = c.text ∙ ap (word 0) (b.others ∙ ap next a.others) ∙ word-third (words w) in
      let behind = ap pin_cells (a.next 2 ∙ b.next 1 ∙ c.next 0) ∙ pin-cells-blank (drop model.end w) in
      let cells =
      ap (or_else no_cells) e
      ∙ told-else w no_cells (pin_cells (drop model.end w))
      ∙ ap (or_else no_cells) (sym behind)
      in
      rw (a.text, second, third, cells)

-- ---- a selector row

module _ (w : List ℕ) (model : Word) (start : ℕ) (m : WordFrom w 0 model) (s : start ≡ 0 + length (front is_blank w)) where
  long : length (word 0 (words w)) ≡ model.end - model.start
  long = sym (ap length m.text) ∙ part_length w model.start model.end m.within.ends

  pub choice-fits : start + (model.end - model.start) ≤ length w
  unfolding word
  choice-fits =
      by_order (length w) start
      (λ k. omega (arith, sym long ∙ ap (λ (ws : List (List ℕ)). length (word 0 ws)) (words-none w 0 start s k), front-le is_blank w))
      (λ k.
      let end : ℕ = start + length (front is_ink (drop start w)) in
      let fits : end ≤ length w = omega (arith, front-le is_ink (drop start w), length-drop start w) in
      omega (arith, sym long ∙ ap (λ (ws : List (List ℕ)). length (word 0 ws)) (words-some w 0 start s k end refl), part_length w start end fits))

  pub choice-behind : (at : ℕ) → at ≡ start + (model.end - model.start) + length (front is_blank (drop (start + (model.end - model.start)) w))
      → drop at w ≡ after is_blank (drop (length (word 0 (words w))) (after is_blank w))
  choice-behind at h =
      sym
      (ap (λ (x : List ℕ). after is_blank (drop (length (word 0 (words w))) x)) (after-at is_blank w 0 start s)
      ∙ ap (λ (n : ℕ). after is_blank (drop n (drop start w))) long
      ∙ ap (after is_blank) (drop-drop (model.end - model.start) start w)
      ∙ after-at is_blank w (start + (model.end - model.start)) at h)
