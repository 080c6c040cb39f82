-- The keywords of the header and of a component, as folds over the keywords; and the component as it lies in its table.
use Rattle.std.specs.Prelude.{None, Some}
use Prim.Native.Nat.{ℕ, ◌+◌}
use mathlib.Core.Path.{◌≡◌, refl, sym}
use mathlib.Core.List.{List, [], ◌∷◌, ◌++◌}
use mathlib.Core.Bool.{Bool, true, false, cond}
use native.Mathlib.Omega.{arith}
use lib.ListN.{length, length-append, length-map}
use Rattle.laws.specs.Bytes.{bytes}
use Rattle.laws.specs.Lists.{front, eqs}
use Rattle.keywords.specs.declared.Keyword.{Keyword}
use Rattle.keywords.specs.declared.Keyword.TheVariants.{InHeader, InComponent}
use Rattle.keywords.specs.declared.HeaderPart.TheVariants.{FileName, FileRev}
use Rattle.keywords.specs.declared.ComponentPart.TheVariants.{Manufacturer, Package, Pin}
use Rattle.keywords.proofs.Spelling.{spelling}
use Rattle.cut_lines.specs.Texts.{Text}
use Rattle.line_rules.specs.Fields.{cells_line, line_says}
use Rattle.line_rules.proofs.Places.{says-append}
use Rattle.records.specs.Stored.{name_laid, words_laid}
use Rattle.records.specs.declared.Header.{Header}
use Rattle.rules.specs.Component.{pin_in}
use Rattle.rules.specs.Reading.{argument_at, under, lines_under, key_says, pins_in, component_in, header_says, is_within}
use Rattle.rules.specs.Keys.{key_at}
use Rattle.rules.proofs.Keys.{each-keyword, says-skip, says-key, lines-skip, lines-key, says_map}
use Rattle.lines_under.proofs.Laws.{under-within}
use Rattle.lines_under.proofs.Keyed.{KeyFold}
use Rattle.component_records.specs.Views.{header_laid, no_header, head_in, head_step, boxes_in, sites_in, no_sites, no_parts, parts_in, part_step}
use Rattle.component_records.specs.declared.lists.Boxes.{Boxes}
use Rattle.component_records.specs.declared.sections.Parts.{Parts}

-- ---- the header

head-skip : (h : Header) (t : Text) (ts : List Text) → key_at t ≡ None → head_in h (t ∷ ts) ≡ head_in h ts
unfolding head_in
head-skip h t ts e =
    rw (says-skip (λ w ls. words_laid w) h.name t ts (InHeader FileName) e, says-skip (λ w ls. words_laid w) h.revision t ts (InHeader FileRev) e)

-- by a keyword's name
abbrev head_by : Header → List ℕ → List ℕ → List Text → Header
head_by h name w ts =
    record {
      name = key_says "file_name" (λ v ls. words_laid v) (cond (eqs name (bytes "file_name")) (words_laid w) h.name) ts;
      revision = key_says "file_rev" (λ v ls. words_laid v) (cond (eqs name (bytes "file_rev")) (words_laid w) h.revision) ts;
    }

head-by : (h : Header) (w : List ℕ) (ls : List (List ℕ)) (ts : List Text) (k : Keyword) → head_by h (bytes (spelling k)) w ts ≡ head_in (head_step h k w ls) ts
unfolding head_in eqs
head-by h w ls ts = each-keyword _ refl refl refl refl refl refl refl refl refl refl refl refl refl refl refl refl refl refl refl refl refl refl refl refl

head_more : (h : Header) (t : Text) (ts : List Text) (k : Keyword) → key_at t ≡ Some k → head_in h (t ∷ ts) ≡ head_in (head_step h k (argument_at t) (under ts)) ts
unfolding head_in
head_more h t ts k e =
    rw (says-key (λ w ls. words_laid w) h.name t ts "file_name" k e, says-key (λ w ls. words_laid w) h.revision t ts "file_rev" k e)
    (head-by h (argument_at t) (under ts) ts k)

pub head-fold : KeyFold head_in head_step
unfolding head_in key_says
head-fold = record { empty = λ h. refl; skip = head-skip; more = head_more }

pub head-laid : (ts : List Text) → head_in no_header (front is_within ts) ≡ header_laid ts
unfolding head_in header_says
head-laid ts =
    rw (says_map words_laid "file_name" (λ w ls. w) [] (front is_within ts), says_map words_laid "file_rev" (λ w ls. w) [] (front is_within ts))

-- ---- a component's keywords

boxes-append : (b : Boxes) (ls ks : List (List ℕ)) → boxes_in b (ls ++ ks) ≡ boxes_in (boxes_in b ls) ks
unfolding boxes_in
boxes-append b ls ks =
    rw (says-append "R_pkg" cells_line b.resistance ls ks, says-append "L_pkg" cells_line b.inductance ls ks, says-append "C_pkg" cells_line b.capacitance ls ks)

part-skip : (q : Parts) (t : Text) (ts : List Text) → key_at t ≡ None → parts_in q (t ∷ ts) ≡ parts_in q ts
unfolding parts_in
part-skip q t ts e =
    rw (says-skip (λ w ls. name_laid w) q.manufacturer t ts (InComponent Manufacturer) e, lines-skip t ts (InComponent Package) e, lines-skip t ts (InComponent Pin) e)

abbrev part_by : Parts → List ℕ → List ℕ → List (List ℕ) → List Text → Parts
part_by q name w ls ts =
    record {
      manufacturer = key_says "manufacturer" (λ v ks. name_laid v) (cond (eqs name (bytes "manufacturer")) (name_laid w) q.manufacturer) ts;
      boxes = boxes_in (boxes_in q.boxes (cond (eqs name (bytes "package")) ls [])) (lines_under "package" ts);
      pins = cond (eqs name (bytes "pin")) (q.pins + length ls) q.pins + length (lines_under "pin" ts);
    }

part_by_lem : (q : Parts) (w : List ℕ) (ls : List (List ℕ)) (ts : List Text) (k : Keyword) → part_by q (bytes (spelling k)) w ls ts ≡ parts_in (part_step q k w ls) ts
unfolding parts_in boxes_in line_says eqs
part_by_lem q w ls ts = each-keyword _ refl refl refl refl refl refl refl refl refl refl refl refl refl refl refl refl refl refl refl refl refl refl refl refl

more-lines : (n : ℕ) (t : Bool) (ls ks : List (List ℕ)) → n + length (cond t ls [] ++ ks) ≡ cond t (n + length ls) n + length ks
more-lines n true ls ks = omega (arith, length-append ls ks)
more-lines n false ls ks = refl

part-more : (q : Parts) (t : Text) (ts : List Text) (k : Keyword) → key_at t ≡ Some k → parts_in q (t ∷ ts) ≡ parts_in (part_step q k (argument_at t) (under ts)) ts
unfolding parts_in
part-more q t ts k e =
    rw (
      says-key (λ w ls. name_laid w) q.manufacturer t ts "manufacturer" k e,
      lines-key t ts "package" k e,
      lines-key t ts "pin" k e,
      boxes-append q.boxes (cond (eqs (bytes (spelling k)) (bytes "package")) (under ts) []) (lines_under "package" ts),
      more-lines q.pins (eqs (bytes (spelling k)) (bytes "pin")) (under ts) (lines_under "pin" ts),
    )
    (part_by_lem q (argument_at t) (under ts) ts k)

no_more : (n : ℕ) → n + 0 ≡ n
no_more n = omega arith

part-empty : (q : Parts) → parts_in q [] ≡ q
unfolding parts_in boxes_in line_says key_says lines_under
part-empty q = rw (no_more q.pins)

pub part-fold : KeyFold parts_in part_step
part-fold = record { empty = part-empty; skip = part-skip; more = part-more }

-- ---- the component as it lies in its table: x and q are what its first lines and its keywords give

module _ (ts : List Text) where
  pins-are : (0 + length (lines_under "pin" (front is_within ts))) ≡ length (pins_in (front is_within ts))
  unfolding pins_in
  pins-are = omega (arith, length-map (lines_under "pin" (front is_within ts)) pin_in)

  pub component-is : (section start : ℕ) (name : List ℕ)
      → (let x = sites_in no_sites (under ts) in
      let q = parts_in no_parts (front is_within ts) in
      record {
        section = section;
        name = name_laid name;
        si = x.si;
        timing = x.timing;
        manufacturer = q.manufacturer;
        resistance = q.boxes.resistance;
        inductance = q.boxes.inductance;
        capacitance = q.boxes.capacitance;
        pins = record { start = start; count = q.pins };
      })
      ≡ component_in section (record { start = start; count = length (pins_in (front is_within ts)) }) name (front is_within ts)
  unfolding component_in sites_in parts_in boxes_in
  component-is section start name = rw (sym (under-within ts), pins-are)
