-- Laws of the pin rows: the leftmost name that fails, else what stands behind the names; and of a package's lines by their names.
use Rattle.std.specs.Prelude.{Result, Ok, Err}
use Prim.Native.Nat.{ℕ, suc, ◌≤◌, ◌<◌}
use mathlib.Core.Path.{◌≡◌, refl, sym, ap, ◌∙◌}
use mathlib.Core.List.{List}
use mathlib.Core.Bool.{Bool, true, false, cond, ◌&&◌, ◌||◌, or-true}
use native.Mathlib.Omega.{arith}
use lib.ListN.{length, drop, drop_of_length-le}
use lib.Dec.{eqb, leb}
use borrow.Author.Tests.{eq-eqb, le-leb, lt-leb}
use Rattle.laws.specs.Bytes.{is_blank}
use Rattle.laws.specs.Lists.{eqs}
use Rattle.laws.proofs.Tests.{by-test, by_order, cond_yes, cond_no}
use Rattle.words.specs.Words.{word, words, grown, onto_word, rest_from}
use Rattle.words.specs.Places.{WordAt}
use Rattle.words.specs.declared.Word.{Word}
use Rattle.words.proofs.Laws.{words-rest}
use Rattle.words.proofs.Chains.{link, done, words-under, words-past}
use Rattle.name_table.specs.Names.{place_from}
use Rattle.records.specs.Stored.{no_cells}
use Rattle.records.proofs.Columns.{told-sound}
use Rattle.records.specs.Flaws.{Flaw, Reads, flaw, flaw_in, told, at_place, checked}
use Rattle.records.specs.declared.LineFault.{LineFault}
use Rattle.records.specs.declared.Triple.{Triple}
use Rattle.line_rules.specs.Fields.{is_pin_name, is_sized, is_pin_model}
use Rattle.line_rules.specs.Tables.{package_lines}
use Rattle.line_rules.proofs.Told.{ten-at, word-text}
use Rattle.line_cells.specs.Threes.{bytes_of}
use Rattle.line_cells.proofs.Rows.{pin-cells-blank}
use Rattle.given.specs.Given.{gave}
use Rattle.given.specs.declared.Given.{Given}
use Rattle.rules.specs.Component.{pin_cells, pin_flaw}
use Rattle.component_steps.specs.Steps.{NamesLie, names_fault, all_three}
use Rattle.component_steps.specs.declared.PinNames.{PinNames}

-- ---- the row

-- the words behind one are those after it, also where there is none
word_next : (s : List ℕ) (at : ℕ) (r : Word) → WordAt s at r → (n : ℕ) → word (suc n) (words (drop at s)) ≡ word n (words (drop r.end s))
unfolding word words
word_next s at r h n =
    by_order (length s) r.start
    (λ k.
    let past : length s ≤ r.end = omega (arith, h.starts) in
    ap (word (suc n)) (h.none k) ∙ sym (ap (λ (v : List ℕ). word n (words v)) (drop_of_length-le s past)))
    (λ k. ap (word (suc n)) (h.some k))

-- a fault of the names, or else of what stands behind them
abbrev or_behind : LineFault → LineFault → LineFault
or_behind behind f = cond (eqb f.number 0) behind f

abbrev or_checked : Result (Unit {0}) LineFault → Result (Unit {0}) LineFault → Result (Unit {0}) LineFault
or_checked behind (Ok u) = behind
or_checked behind (Err f) = Err f

behind-checked : (behind f : LineFault) → or_checked (checked behind) (checked f) ≡ checked (or_behind behind f)
behind-checked behind f = by-test (eqb f.number 0) (λ h. rw h refl) (λ h. rw h (rw h refl))

module _ (w : List ℕ) (r : PinNames) (l : NamesLie w r) where
  within : (x : Word) {at : ℕ} → WordAt w at x → x.start ≤ length w
  within x h = omega (arith, h.starts, h.ends)

  pin-word : word 0 (words w) ≡ bytes_of w r.pin
  pin-word = sym (word-text w 0 r.pin l.pin)

  signal-word : word 1 (words w) ≡ bytes_of w r.signal
  signal-word = word_next w 0 r.pin l.pin 0 ∙ sym (word-text w r.pin.end r.signal l.signal)

  model-word : word 2 (words w) ≡ bytes_of w r.model
  model-word =
      word_next w 0 r.pin l.pin 1 ∙ word_next w r.pin.end r.signal l.signal 0 ∙ sym (word-text w r.signal.end r.model l.model)

  pin-told : told w (flaw 10 (rest_from 0 w)) ≡ at_place 10 r.pin.start
  pin-told = ap (λ (v : List ℕ). told w (flaw 10 v)) l.pin.here ∙ ten-at w r.pin.start (within r.pin l.pin)

  signal-told : told w (flaw 10 (rest_from 1 w)) ≡ at_place 10 r.signal.start
  signal-told = ap (λ (v : List ℕ). told w (flaw 10 v)) (l.pin.next 0 ∙ l.signal.here) ∙ ten-at w r.signal.start (within r.signal l.signal)

  model-told : told w (flaw 10 (rest_from 2 w)) ≡ at_place 10 r.model.start
  model-told =
      ap (λ (v : List ℕ). told w (flaw 10 v)) (l.pin.next 1 ∙ l.signal.next 0 ∙ l.model.here) ∙ ten-at w r.model.start (within r.model l.model)

  cells_rest : rest_from 3 w ≡ rest_from 0 (drop r.model.end w)
  cells_rest = l.pin.next 2 ∙ l.signal.next 1 ∙ l.model.next 0

  -- behind three names: cells, or nothing under the short heading
  abbrev behind : Bool → Flaw
  behind long = cond (long || leb (length (words w)) 3) (flaw_in (pin_cells (rest_from 3 w))) (flaw 10 (rest_from 3 w))

  no_cells_lem : length (words w) ≤ 3 → pin_cells (rest_from 3 w) ≡ Ok no_cells
  unfolding pin_cells
  no_cells_lem few = cond_yes _ _ (eq-eqb (length (words (rest_from 3 w))) 0 (ap length (words-rest 3 w ∙ drop_of_length-le (words w) few)))

  row_told : (long : Bool) → told w (pin_flaw long w) ≡ or_behind (told w (behind long)) (names_fault w r.pin r.signal r.model)
  unfolding pin_flaw names_fault
  row_told long =
      rw (pin-word, signal-word, model-word)
      (by-test (is_pin_name (bytes_of w r.pin))
      (λ a.
      by-test (is_sized 40 (bytes_of w r.signal))
      (λ b.
      by-test (is_pin_model (bytes_of w r.model))
      (λ c. rw (a, b, c) refl)
      (λ c. rw (a, b, c) model-told))
      (λ b. rw (a, b) signal-told))
      (λ a. rw a pin-told))

  -- what the names' check answers, a name that fails or none
  module _ {a : Result (Unit {0}) LineFault} (e : a ≡ checked (names_fault w r.pin r.signal r.model)) (long : Bool) where
    pub row-checked : {b : Result (Unit {0}) LineFault} → a ≡ b → or_checked (checked (told w (behind long))) b ≡ checked (told w (pin_flaw long w))
    row-checked is =
        ap (or_checked (checked (told w (behind long)))) (sym is ∙ e)
        ∙ behind-checked (told w (behind long)) (names_fault w r.pin r.signal r.model)
        ∙ sym (ap checked (row_told long))

    module _ {u : Unit {0}} (sound : a ≡ Ok u) where
      pub row-cells : long ≡ true → checked (told w (flaw_in (pin_cells (drop r.model.end w)))) ≡ checked (told w (pin_flaw long w))
      row-cells k =
          sym
          (ap (λ (t : Bool). checked (told w (cond (t || leb (length (words w)) 3) (flaw_in (pin_cells (rest_from 3 w))) (flaw 10 (rest_from 3 w))))) k
          ∙ ap (λ (x : Reads Triple). checked (told w (flaw_in x))) (ap pin_cells cells_rest ∙ pin-cells-blank (drop r.model.end w)))
          ∙ row-checked sound

      -- the word behind the names
      module _ {cell : Word} (next : WordAt w r.model.end cell) where
        pub row-short : long ≡ false → cell.start < length w → Err (at_place 10 cell.start) ≡ checked (told w (pin_flaw long w))
        row-short k q =
            let many : 3 < length (words w) = words-past (link l.pin (link l.signal (link l.model done))) next q in
            sym
            (ap checked
            (ap (λ (t : Bool). told w (cond (t || leb (length (words w)) 3) (flaw_in (pin_cells (rest_from 3 w))) (flaw 10 (rest_from 3 w)))) k
            ∙ ap (told w) (cond_no _ _ (lt-leb (length (words w)) 3 many))
            ∙ ap (λ (v : List ℕ). told w (flaw 10 v)) (cells_rest ∙ next.here)
            ∙ ten-at w cell.start (within cell next)))
            ∙ row-checked sound

        pub row-names : length w ≤ cell.start → Ok tt ≡ checked (told w (pin_flaw long w))
        row-names q =
            let few : length (words w) ≤ 3 = words-under (link l.pin (link l.signal (link l.model done))) next q in
            sym
            (ap checked
            (ap (told w) (cond_yes _ _ (ap (λ (t : Bool). long || t) (le-leb (length (words w)) 3 few) ∙ or-true long))
            ∙ ap (λ (x : Reads Triple). told w (flaw_in x)) (no_cells_lem few)
            ∙ told-sound w))
            ∙ row-checked sound

-- ---- [Package]

pub package-given : (g : Given) → all_three g ≡ (gave g package_lines "R_pkg" && (gave g package_lines "L_pkg" && gave g package_lines "C_pkg"))
unfolding gave place_from words grown onto_word is_blank eqs
package-given g = refl
