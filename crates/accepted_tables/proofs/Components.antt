-- A component's package and pins, and a selector's rows, from text to text. What closed is complete, and what was given has been read.
use Rattle.std.specs.Prelude.{Ok, None, Some}
use Prim.Native.Nat.{ℕ, ◌≤◌}
use Prim.Native.String.{String}
use mathlib.Core.Path.{◌≡◌, refl, sym, ap, subst, ◌∙◌}
use mathlib.Core.List.{List, [], ◌∷◌, ◌++◌}
use mathlib.Core.Bool.{Bool, true, false, cond, not, ◌&&◌}
use native.Mathlib.Omega.{arith}
use lib.ListN.{length, length-append, length-take}
use lib.Dec.{eqb, leb}
use borrow.Author.Tests.{not-false, leb-true}
use Rattle.laws.specs.Bytes.{bytes, is_blank}
use Rattle.laws.specs.Lists.{eqs, front, Every}
use Rattle.laws.proofs.Tests.{by-test, cond-all, cond_no, cond_map, and_first, and_second, never, impossible}
use Rattle.laws.proofs.Every.{every_append}
use Rattle.words.specs.Words.{words, grown, onto_word}
use Rattle.name_table.specs.Names.{place_from}
use Rattle.keywords.specs.Form.{argument}
use Rattle.keywords.specs.Carried.{key_of}
use Rattle.keywords.specs.declared.Keyword.TheVariants as key
use Rattle.keywords.specs.declared.ComponentPart.{ComponentPart}
use Rattle.keywords.specs.declared.ComponentPart.TheVariants.{Manufacturer, Package, Pin}
use Rattle.cut_lines.specs.Texts.{Text, plain, change}
use Rattle.records.specs.declared.Triple.{Triple}
use Rattle.line_rules.specs.Fields.{word_by, passing, is_sized, is_bracketed, is_model_name, cells_line, line_says}
use Rattle.line_rules.specs.Tables.{package_lines}
use Rattle.line_rules.proofs.Places.{says-append}
use Rattle.given.specs.Given.{none_given, has, with}
use Rattle.given.specs.declared.Given.{Given}
use Rattle.given.proofs.Laws.{has_other}
use Rattle.rules.specs.Component.{component_flaw, component_done}
use Rattle.rules.specs.Going.{quietly}
use Rattle.rules.specs.Selector.{selector_line, selector_shut}
use Rattle.rules.specs.Model.{is_number}
use Rattle.rules.specs.Steps.{keyed, on_plain, on_change, on_text}
use Rattle.rules.specs.Whole.{Held}
use Rattle.records.specs.declared.Lengths.{Lengths}
use Rattle.rules.specs.Reading.{argument_at, is_key, under, lines_under, key_says, is_within}
use Rattle.rules.specs.Keys.{key_at}
use Rattle.rules.proofs.Keys.{lines-skip, lines-key, says-skip, says-key}
use Rattle.keywords.proofs.Spelling.{spelling}
use Rattle.records.specs.Stored.{name_laid}
use Rattle.records.specs.Texts.{Name}
use Rattle.rules.specs.declared.ComponentList.{ComponentList}
use Rattle.rules.specs.declared.ComponentList.TheVariants.{ComponentFirst, ComponentShut, PackageLines, PinRows}
use Rattle.rules.specs.declared.ComponentState.{ComponentState}
use Rattle.rules.specs.declared.SelectorState.{SelectorState}
use Rattle.rules.specs.declared.Stage.{Stage}
use Rattle.rules.specs.declared.Stage.TheVariants.{InComponent, InSelector}
use Rattle.rules.specs.declared.Event.{Event}
use Rattle.rules.specs.declared.Event.TheVariants.{Quiet, ChoiceRow}
use Rattle.layout_by_notes.proofs.Goes.{Goes, past-closing, past_all, anywhere}
use Rattle.layout_by_notes.proofs.Ahead.{key-at, no_key, under-key, under-line, under-change}
use Rattle.accepted_tables.specs.Fallbacks.{Flawless, LocationLine, PackageLine, PinLine, ChoiceLine}
use Rattle.records.specs.Flaws.{flaw_in, told}
use Rattle.records.specs.declared.LineFault.{LineFault}
use Rattle.accepted_tables.proofs.Checks.{past-refuse, past-passes, gone, Passes, Runs}
use Rattle.accepted_tables.proofs.Faults.{said, cells-line-sure, word-passes, sized-passes}
use Rattle.accepted_tables.proofs.Named.{gave-none}
use Rattle.accepted_tables.proofs.First.{under_none}
use Rattle.accepted_tables.proofs.Lists.{Reads, reads-line}
use Rattle.accepted_tables.proofs.ComponentSteps.{Shuts, ComponentText, location_line, package_line, pin_row, ComponentKey, part, by-texts}

abbrev pub TypNumber : Triple → Type 0
TypNumber t = is_number t.typ ≡ true

-- ---- what the lines of the open list come to

abbrev pub ListReads : ComponentList → List (List ℕ) → Type 0
ListReads ComponentFirst ls = Every LocationLine ls
ListReads ComponentShut ls = Unit {0}
ListReads (PackageLines o g) ls =
    Reads TypNumber g package_lines "R_pkg" cells_line ls × Reads TypNumber g package_lines "L_pkg" cells_line ls × Reads TypNumber g package_lines "C_pkg" cells_line ls × Every PackageLine ls
ListReads (PinRows o long any) ls = (any ≡ false → 1 ≤ length ls) × Every PinLine ls

list-shuts : (l : ComponentList) → Shuts l → ListReads l []
unfolding line_says
list-shuts ComponentFirst s = tt
list-shuts ComponentShut s = tt
list-shuts (PackageLines o g) s = (λ x q. q s.0, λ x q. q s.1, λ x q. q s.2, tt)
list-shuts (PinRows o long any) s = (λ h. absurd (never any s h), tt)

resistance-place : place_from 0 (bytes "R_pkg") (words (bytes package_lines)) ≡ Some 0
unfolding place_from words grown onto_word is_blank eqs
resistance-place = refl

inductance-place : place_from 0 (bytes "L_pkg") (words (bytes package_lines)) ≡ Some 1
unfolding place_from words grown onto_word is_blank eqs
inductance-place = refl

capacitance-place : place_from 0 (bytes "C_pkg") (words (bytes package_lines)) ≡ Some 2
unfolding place_from words grown onto_word is_blank eqs
capacitance-place = refl

list-line : (c n : ComponentState) (w : List ℕ) (e : Event) (ls : List (List ℕ)) → ComponentText c w n e → ListReads n.list ls → ListReads c.list (w ∷ ls)
list-line c n w e ls (location_line g q ok) so =
    subst (λ (l : ComponentList). ListReads l (w ∷ ls)) (sym q) (ok, subst (λ (l : ComponentList). ListReads l ls) q so)
list-line c n w e ls (package_line o g i q at ok) so =
    let own : (j : ℕ) → i ≡ j → (v : Triple) × (cells_line w ≡ Ok v) × TypNumber v = λ j i. said (cells_line w) (cells-line-sure w) ok in
    subst (λ (l : ComponentList). ListReads l (w ∷ ls)) (sym q) (
      reads-line TypNumber g package_lines "R_pkg" cells_line w ls i 0 resistance-place at (own 0) so.0,
      reads-line TypNumber g package_lines "L_pkg" cells_line w ls i 1 inductance-place at (own 1) so.1,
      reads-line TypNumber g package_lines "C_pkg" cells_line w ls i 2 capacitance-place at (own 2) so.2,
      (ok, so.3),
    )
list-line c n w e ls (pin_row o long any q ok) so =
    subst (λ (l : ComponentList). ListReads l (w ∷ ls)) (sym q) (λ h. omega arith, ((long, ok), so.1))

-- ---- from here on; x is what was read of a line before

abbrev Made : Given → List Text → Type 0
Made parts ts = (x : List ℕ) → (has parts 0 ≡ true → is_sized 40 x ≡ true) → is_sized 40 (key_says "manufacturer" (λ w ls. w) x ts) ≡ true

abbrev Packaged : Given → String → List Text → Type 0
Packaged parts name ts = (x : Triple) → (has parts 1 ≡ true → TypNumber x) → TypNumber (line_says name cells_line x (lines_under "package" ts))

pub record Parts (c : ComponentState) (ts : List Text) : Type 0 where
  pub list : ListReads c.list (under ts)
  pub packaged : Every PackageLine (lines_under "package" ts)
  pub maker : Made c.parts ts
  pub resistance : Packaged c.parts "R_pkg" ts
  pub inductance : Packaged c.parts "L_pkg" ts
  pub capacitance : Packaged c.parts "C_pkg" ts
  pub least : has c.parts 2 ≡ false → 1 ≤ length (lines_under "pin" ts)
  pub pins : Every PinLine (lines_under "pin" ts)

-- ---- the section ends

record Done (c : ComponentState) : Type 0 where
  maker : has c.parts 0 ≡ true
  cells : has c.parts 1 ≡ true
  pin : has c.parts 2 ≡ true

done : (c : ComponentState) → component_done c ≡ 0 → Done c
unfolding component_done
done c h =
    let x : Bool = has c.parts 0 in
    let y : Bool = has c.parts 1 in
    let z : Bool = has c.parts 2 in
    by-test (x && (y && z))
    (λ t. let u : (y && z) ≡ true = and_second x (y && z) t in record { maker = and_first x (y && z) t; cells = and_first y z u; pin = and_second y z u })
    (λ t. let e : 9 ≡ 0 = sym (cond_no 0 9 t) ∙ h in absurd (omega arith))

parts-done : (c : ComponentState) → Shuts c.list → component_done c ≡ 0 → Parts c []
unfolding lines_under key_says line_says
parts-done c s d =
    let end = done c d in
    record {
      list = subst (ListReads c.list) (sym under_none) (list-shuts c.list s);
      packaged = tt;
      maker = λ x q. q end.maker;
      resistance = λ x q. q end.cells;
      inductance = λ x q. q end.cells;
      capacitance = λ x q. q end.cells;
      least = λ h. absurd (never (has c.parts 2) end.pin h);
      pins = tt;
    }

-- ---- a text without a keyword

module _ (c n : ComponentState) (t : Text) (ts : List Text) (e : key_at t ≡ None) (same : c.parts ≡ n.parts) where
  packaged-skip : (name : String) → Packaged n.parts name ts → Packaged c.parts name (t ∷ ts)
  packaged-skip name so x q =
      subst (λ (ls : List (List ℕ)). TypNumber (line_says name cells_line x ls)) (sym (lines-skip t ts (key.InComponent Package) e))
      (so x (λ h. q (ap (λ (g : Given). has g 1) same ∙ h)))

  unkeyed : ListReads c.list (under (t ∷ ts)) → Parts n ts → Parts c (t ∷ ts)
  unkeyed list so =
      record {
        list = list;
        packaged = subst (Every PackageLine) (sym (lines-skip t ts (key.InComponent Package) e)) so.packaged;
        maker =
            λ x q.
            subst (λ (y : List ℕ). is_sized 40 y ≡ true) (sym (says-skip (λ w ls. w) x t ts (key.InComponent Manufacturer) e))
            (so.maker x (λ h. q (ap (λ (g : Given). has g 0) same ∙ h)));
        resistance = packaged-skip "R_pkg" so.resistance;
        inductance = packaged-skip "L_pkg" so.inductance;
        capacitance = packaged-skip "C_pkg" so.capacitance;
        least = λ h. subst (λ (ls : List (List ℕ)). 1 ≤ length ls) (sym (lines-skip t ts (key.InComponent Pin) e)) (so.least (ap (λ (g : Given). has g 2) (sym same) ∙ h));
        pins = subst (Every PinLine) (sym (lines-skip t ts (key.InComponent Pin) e)) so.pins;
      }

same_parts : (c n : ComponentState) (w : List ℕ) (e : Event) → ComponentText c w n e → c.parts ≡ n.parts
same_parts c n w e (location_line g q ok) = refl
same_parts c n w e (package_line o g i q at ok) = refl
same_parts c n w e (pin_row o long any q ok) = refl

parts-line : (c n : ComponentState) (k : ℕ) (w : List ℕ) (e : Event) (ts : List Text) → is_bracketed w ≡ false → ComponentText c w n e → Parts n ts → Parts c (plain k w ∷ ts)
parts-line c n k w e ts b y so =
    unkeyed c n (plain k w) ts (no_key k w ts b) (same_parts c n w e y)
    (subst (ListReads c.list) (sym (under-line k w ts b)) (list-line c n w e (under ts) y so.list))
    so

parts-change : (c : ComponentState) (k : ℕ) (f : LineFault) (ts : List Text) → Parts c ts → Parts c (change k f ∷ ts)
parts-change c k f ts so = unkeyed c c (change k f) ts refl refl (subst (ListReads c.list) (sym (under-change k f ts)) so.list) so

-- ---- a keyword

module _ (c : ComponentState) (k : ℕ) (w : List ℕ) (ts : List Text) (b : is_bracketed w ≡ true) (s : Shuts c.list) where
  list-key : ListReads c.list (under (plain k w ∷ ts))
  list-key = subst (ListReads c.list) (sym (under-key k w ts b)) (list-shuts c.list s)

  -- the lines of another keyword
  packaged-other : (i : ℕ) (name : String) → (1 ≡ i → ⊥) → lines_under "package" (plain k w ∷ ts) ≡ lines_under "package" ts
      → Packaged (with c.parts i) name ts → Packaged c.parts name (plain k w ∷ ts)
  packaged-other i name apart e so x q =
      subst (λ (ls : List (List ℕ)). TypNumber (line_says name cells_line x ls)) (sym e) (so x (λ h. q (sym (has_other c.parts 1 i apart) ∙ h)))

  -- its own
  packaged-own : (name : String) (j : ℕ) → place_from 0 (bytes name) (words (bytes package_lines)) ≡ Some j
      → lines_under "package" (plain k w ∷ ts) ≡ under ts ++ lines_under "package" ts
      → Reads TypNumber none_given package_lines name cells_line (under ts)
      → Packaged (with c.parts 1) name ts → Packaged c.parts name (plain k w ∷ ts)
  packaged-own name j placed e read so x q =
      subst TypNumber (sym (ap (line_says name cells_line x) e ∙ says-append name cells_line x (under ts) (lines_under "package" ts)))
      (so (line_says name cells_line x (under ts)) (λ h. read x (gave-none package_lines name j placed)))

  maker-other : (i : ℕ) (p : ComponentPart) → (0 ≡ i → ⊥) → key_at (plain k w) ≡ Some (key.InComponent p) → eqs (bytes (spelling (key.InComponent p))) (bytes "manufacturer") ≡ false
      → Made (with c.parts i) ts → Made c.parts (plain k w ∷ ts)
  maker-other i p apart e n so x q =
      subst (λ (y : List ℕ). is_sized 40 y ≡ true)
      (sym (says-key (λ v ls. v) x (plain k w) ts "manufacturer" (key.InComponent p) e
      ∙ ap (λ (t : Bool). key_says "manufacturer" (λ v ls. v) (cond t (argument w) x) ts) n))
      (so x (λ h. q (sym (has_other c.parts 0 i apart) ∙ h)))

  maker-own : key_at (plain k w) ≡ Some (key.InComponent Manufacturer) → Flawless (component_flaw (argument w) Manufacturer)
      → Made (with c.parts 0) ts → Made c.parts (plain k w ∷ ts)
  unfolding eqs
  maker-own e f so x q =
      subst (λ (y : List ℕ). is_sized 40 y ≡ true) (sym (says-key (λ v ls. v) x (plain k w) ts "manufacturer" (key.InComponent Manufacturer) e))
      (so (argument w) (λ h. sized-passes (argument w) f))

  least_other : (i : ℕ) → (2 ≡ i → ⊥) → lines_under "pin" (plain k w ∷ ts) ≡ lines_under "pin" ts
      → (has (with c.parts i) 2 ≡ false → 1 ≤ length (lines_under "pin" ts)) → has c.parts 2 ≡ false → 1 ≤ length (lines_under "pin" (plain k w ∷ ts))
  least_other i apart e so h =
      subst (λ (ls : List (List ℕ)). 1 ≤ length ls) (sym e) (so (has_other c.parts 2 i apart ∙ h))

  parts-key : (p : ComponentPart) (n : ComponentState) → key_of w ≡ Ok (key.InComponent p) → ComponentKey c k (argument w) p n → Parts n ts → Parts c (plain k w ∷ ts)
  unfolding eqs
  parts-key p n q (part Manufacturer h f) so =
      let e = key-at k w ts b q in
      let cells = lines-key (plain k w) ts "package" (key.InComponent Manufacturer) e in
      let pin = lines-key (plain k w) ts "pin" (key.InComponent Manufacturer) e in
      record {
        list = list-key;
        packaged = subst (Every PackageLine) (sym cells) so.packaged;
        maker = maker-own e f so.maker;
        resistance = packaged-other 0 "R_pkg" (omega arith) cells so.resistance;
        inductance = packaged-other 0 "L_pkg" (omega arith) cells so.inductance;
        capacitance = packaged-other 0 "C_pkg" (omega arith) cells so.capacitance;
        least = least_other 0 (omega arith) pin so.least;
        pins = subst (Every PinLine) (sym pin) so.pins;
      }
  parts-key p n q (part Package h f) so =
      let e = key-at k w ts b q in
      let cells = lines-key (plain k w) ts "package" (key.InComponent Package) e in
      let pin = lines-key (plain k w) ts "pin" (key.InComponent Package) e in
      record {
        list = list-key;
        packaged = subst (Every PackageLine) (sym cells) (every_append PackageLine (under ts) (lines_under "package" ts) so.list.3 so.packaged);
        maker = maker-other 1 Package (omega arith) e refl so.maker;
        resistance = packaged-own "R_pkg" 0 resistance-place cells so.list.0 so.resistance;
        inductance = packaged-own "L_pkg" 1 inductance-place cells so.list.1 so.inductance;
        capacitance = packaged-own "C_pkg" 2 capacitance-place cells so.list.2 so.capacitance;
        least = least_other 1 (omega arith) pin so.least;
        pins = subst (Every PinLine) (sym pin) so.pins;
      }
  parts-key p n q (part Pin h f) so =
      let e = key-at k w ts b q in
      let cells = lines-key (plain k w) ts "package" (key.InComponent Pin) e in
      let pin = lines-key (plain k w) ts "pin" (key.InComponent Pin) e in
      record {
        list = list-key;
        packaged = subst (Every PackageLine) (sym cells) so.packaged;
        maker = maker-other 2 Pin (omega arith) e refl so.maker;
        resistance = packaged-other 2 "R_pkg" (omega arith) cells so.resistance;
        inductance = packaged-other 2 "L_pkg" (omega arith) cells so.inductance;
        capacitance = packaged-other 2 "C_pkg" (omega arith) cells so.capacitance;
        least = λ z. subst (λ (ls : List (List ℕ)). 1 ≤ length ls) (sym pin) (omega (arith, so.list.0 refl, length-append (under ts) (lines_under "pin" ts)));
        pins = subst (Every PinLine) (sym pin) (every_append PinLine (under ts) (lines_under "pin" ts) so.list.1 so.pins);
      }

pub parts-read : (l : Lengths) (ts : List Text) (c : ComponentState) (h : Held) → Runs l h (InComponent c) ts → Parts c (front is_within ts)
parts-read l =
    by-texts l (λ (c : ComponentState) (h : Held) (ts : List Text). Parts c ts) (λ c h s d. parts-done c s d) (λ c h k f ts so. parts-change c k f ts so)
    (λ c n h g k w e ts b y a so. parts-line c n k w e ts b y so)
    (λ c n h k w p ts b q s y so. parts-key c k w ts b s p n q y so)

-- ---- the manufacturer as it is laid

maker-laid : (x : List ℕ) (ts : List Text) → key_says "manufacturer" (λ w ls. name_laid w) (name_laid x) ts ≡ name_laid (key_says "manufacturer" (λ w ls. w) x ts)
unfolding key_says
maker-laid x [] = refl
maker-laid x (t ∷ ts) =
    let own : Bool = is_key "manufacturer" t in
    ap (λ (y : Name). key_says "manufacturer" (λ w ls. name_laid w) y ts) (sym (cond_map name_laid own (argument_at t) x)) ∙ maker-laid (cond own (argument_at t) x) ts

pub maker-least : (ts : List Text) → is_sized 40 (key_says "manufacturer" (λ w ls. w) [] ts) ≡ true → 1 ≤ (key_says "manufacturer" (λ w ls. name_laid w) (name_laid []) ts).len
unfolding is_sized
maker-least ts h =
    let w : List ℕ = key_says "manufacturer" (λ v ls. v) [] ts in
    subst (λ (y : Name). 1 ≤ y.len) (sym (maker-laid [] ts)) (omega (arith, length-take 40 w, leb-true 1 (length w) (and_first (leb 1 (length w)) (leb (length w) 40) h)))

-- ---- a selector's rows

-- what a text leaves: a keyword closes the rows, of which there is one
abbrev pub SelectorStep : SelectorState → Text → Stage → Event → Type 0
SelectorStep s (plain k w) u e =
    (is_bracketed w ≡ true → s.any ≡ true) × (is_bracketed w ≡ false → (u ≡ InSelector (record { line = s.line; any = true })) × ChoiceLine w × (e ≡ ChoiceRow))
SelectorStep s (change k f) u e = (u ≡ InSelector s) × (e ≡ Quiet)

selector-plain : (s : SelectorState) (k : ℕ) (w : List ℕ) → Goes (SelectorStep s (plain k w)) (on_plain (InSelector s) k w)
unfolding on_plain selector_shut selector_line
selector-plain s k w =
    cond-all (Goes (SelectorStep s (plain k w))) (is_bracketed w) _ _
    (λ b.
    past-closing (SelectorStep s (plain k w)) (λ (t : Stage). s.any ≡ true) (λ (t : Stage). keyed t k w (key_of w)) (selector_shut s)
    (past-refuse (λ (t : Stage) (e : Event). s.any ≡ true) (not s.any) 9 s.line (quietly (InSelector s)) (λ h. not-false s.any h))
    (λ t any.
    past_all (SelectorStep s (plain k w)) (λ (u : Stage) (e : Event). Unit {0}) (keyed t k w (key_of w)) (anywhere (keyed t k w (key_of w)))
    (λ u e z. (λ h. any, λ h. absurd (never (is_bracketed w) b h)))))
    (λ b.
    past-passes (SelectorStep s (plain k w)) (told w (flaw_in (word_by (passing is_model_name) 0 w))) k _
    (λ h. (λ z. absurd (never (is_bracketed w) z b), λ z. (refl, word-passes is_model_name w h, refl))))

pub selector-text : (s : SelectorState) (t : Text) → Goes (SelectorStep s t) (on_text (InSelector s) t)
unfolding on_change
selector-text s (plain k w) = selector-plain s k w
selector-text s (change k f) =
    past-refuse (SelectorStep s (change k f)) false 7 k _
    (λ a. past-refuse (SelectorStep s (change k f)) (eqb f.number 5) 5 k _ (λ b. past-refuse (SelectorStep s (change k f)) false 7 k _ (λ d. past-passes (SelectorStep s (change k f)) f k _ (λ e. (refl, refl)))))

pub record Rows (any : Bool) (ls : List (List ℕ)) : Type 0 where
  pub least : any ≡ false → 1 ≤ length ls
  pub choices : Every ChoiceLine ls

pub rows-read : (ts : List Text) (s : SelectorState) → Passes (InSelector s) ts → Rows s.any (under ts)
rows-read [] s h = impossible (cc)
rows-read (plain k w ∷ ts) s h =
    let step = gone (SelectorStep s (plain k w)) _ h.0 h.1 (selector-text s (plain k w)) h.2 in
    by-test (is_bracketed w)
    (λ b. subst (Rows s.any) (sym (under-key k w ts b)) (record { least = λ z. absurd (never s.any (step.0 b) z); choices = tt }))
    (λ b.
    let so = rows-read ts (record { line = s.line; any = true }) (subst (λ (u : Stage). Passes u ts) (step.1 b).0 h.3) in
    subst (Rows s.any) (sym (under-line k w ts b)) (record { least = λ z. omega arith; choices = ((step.1 b).1, so.choices) }))
rows-read (change k f ∷ ts) s h =
    let step = gone (SelectorStep s (change k f)) _ h.0 h.1 (selector-text s (change k f)) h.2 in
    subst (Rows s.any) (sym (under-change k f ts)) (rows-read ts s (subst (λ (u : Stage). Passes u ts) step.0 h.3))
