-- Pins within a component, and rows within a selector: each name is none of those before it there. From text to text, by what is admitted.
use Rattle.std.specs.Prelude.{Ok}
use Prim.Native.Nat.{ℕ, ◌≤◌}
use mathlib.Core.Path.{◌≡◌, refl, sym, ap, subst, ◌∙◌}
use mathlib.Core.List.{List, [], ◌∷◌, ◌++◌, map, append-nil}
use mathlib.Core.Logic.{inl, inr, ⊎_elim}
use mathlib.Core.Bool.{Bool, true, false}
use native.Mathlib.Omega.{arith}
use lib.ListN.{length}
use Rattle.laws.specs.Lists.{eqs, front, Every}
use Rattle.records.specs.declared.LineFault.{LineFault}
use Rattle.laws.proofs.Tests.{by-test, cond_yes, cond_no, never, impossible}
use Rattle.words.specs.Words.{word, words}
use Rattle.keywords.specs.Form.{argument}
use Rattle.keywords.specs.Carried.{key_of}
use Rattle.keywords.specs.declared.Keyword.TheVariants as key
use Rattle.keywords.specs.declared.ComponentPart.{ComponentPart}
use Rattle.keywords.specs.declared.ComponentPart.TheVariants.{Manufacturer, Package, Pin}
use Rattle.cut_lines.specs.Texts.{Text, plain, change}
use Rattle.records.specs.Stored.{name_laid}
use Rattle.records.specs.declared.Kind.{Kind}
use Rattle.records.specs.declared.Kind.TheVariants.{OfPin, OfChoice}
use Rattle.records.specs.declared.Lengths.{Lengths}
use Rattle.line_rules.specs.Fields.{is_bracketed}
use Rattle.given.specs.Given.{has, with}
use Rattle.given.specs.declared.Given.{Given}
use Rattle.given.proofs.Laws.{has-with, has_other}
use Rattle.rules.specs.Outline.{Entry, is, named}
use Rattle.rules.specs.Whole.{Held, row_entry, admit}
use Rattle.rules.specs.Reading.{under, lines_under, is_within}
use Rattle.rules.proofs.Keys.{lines-skip, lines-key}
use Rattle.rules.specs.declared.ComponentList.{ComponentList}
use Rattle.rules.specs.declared.ComponentList.TheVariants.{ComponentFirst, ComponentShut, PackageLines, PinRows}
use Rattle.rules.specs.declared.ComponentState.{ComponentState}
use Rattle.rules.specs.declared.SelectorState.{SelectorState}
use Rattle.rules.specs.declared.Stage.{Stage}
use Rattle.rules.specs.declared.Stage.TheVariants.{InComponent, InSelector}
use Rattle.rules.specs.declared.Event.{Event}
use Rattle.layout_by_notes.proofs.Ahead.{key-at, no_key, under-key, under-line, under-change}
use Rattle.accepted_tables.specs.Facts.{Among, Unique}
use Rattle.accepted_tables.proofs.Checks.{gone, Runs}
use Rattle.accepted_tables.proofs.First.{under_none}
use Rattle.accepted_tables.proofs.Sections.{entry-admitted}
use Rattle.accepted_tables.proofs.ComponentSteps.{held_same, ComponentText, location_line, package_line, pin_row, ComponentKey, part, by-texts}
use Rattle.accepted_tables.proofs.Components.{SelectorStep, selector-text}
use Rattle.accepted_tables.proofs.Members.{map-among, every-at}
use Rattle.accepted_tables.proofs.Names.{named_in, name-same}

-- ---- names that come after those seen, each none of those before

abbrev pub Fresh : List (List ℕ) → List (List ℕ) → Type 0
Fresh seen [] = Unit {0}
Fresh seen (w ∷ ws) = (Among w seen → ⊥) × Fresh (w ∷ seen) ws

fresh-fewer : (ws seen fewer : List (List ℕ)) → ((x : List ℕ) → Among x fewer → Among x seen) → Fresh seen ws → Fresh fewer ws
fresh-fewer [] seen fewer sub f = tt
fresh-fewer (w ∷ ws) seen fewer sub f = (
  λ x. f.0 (sub w x),
  fresh-fewer ws (w ∷ seen) (w ∷ fewer) (λ x m. ⊎_elim (λ e. inl e) (λ y. inr (sub x y)) m) f.1,
)

fresh-apart : (ws seen : List (List ℕ)) (x : List ℕ) → Fresh seen ws → Among x seen → Among x ws → ⊥
fresh-apart [] seen x f s m = m
fresh-apart (w ∷ ws) seen x f s (inl e) = f.0 (subst (λ (y : List ℕ). Among y seen) e s)
fresh-apart (w ∷ ws) seen x f s (inr m) = fresh-apart ws (w ∷ seen) x f.1 (inr s) m

fresh-unique : (ws seen : List (List ℕ)) → Fresh seen ws → Unique ws
fresh-unique [] seen f = tt
fresh-unique (w ∷ ws) seen f = (fresh-apart ws (w ∷ seen) w f.1 (inl refl), fresh-unique ws (w ∷ seen) f.1)

-- names that fit lie in records as they are
pub names-unique : (ws seen : List (List ℕ)) → Every (λ (w : List ℕ). length w ≤ 40) ws → Fresh seen ws → Unique (map name_laid ws)
names-unique ws seen fits f = laid ws fits (fresh-unique ws seen f)
  where
    laid : (vs : List (List ℕ)) → Every (λ (w : List ℕ). length w ≤ 40) vs → Unique vs → Unique (map name_laid vs)
    laid [] s u = tt
    laid (v ∷ vs) s u = (
      λ m.
          let r = map-among name_laid (name_laid v) vs m in
          let same : v ≡ r.0 = name-same v r.0 s.0 (every-at (λ (w : List ℕ). length w ≤ 40) vs r.0 s.1 r.1) r.2 in
          u.0 (subst (λ (x : List ℕ). Among x vs) (sym same) r.1),
      laid vs s.1 u.1,
    )

-- ---- the names of the rows that the file holds latest

abbrev pub row_name : List ℕ → List ℕ
row_name w = word 0 (words w)

abbrev pub seen : Kind → Held → List (List ℕ)
seen k h = map (λ (e : Entry). e.name) (front (is k) h.entries)

front-pass : (p : Entry → Bool) (es : List Entry) (e : Entry) → Among e (front p es) → p e ≡ true
unfolding front
front-pass p [] e m = absurd m
front-pass p (b ∷ es) e m =
    by-test (p b)
    (λ t. ⊎_elim (λ i. ap p i ∙ t) (λ y. front-pass p es e y) (subst (Among e) (cond_yes (b ∷ front p es) [] t) m))
    (λ t. absurd (subst (Among e) (cond_no (b ∷ front p es) [] t) m))

unseen : (k : Kind) (x : List ℕ) (h : Held) → named (is k) x (front (is k) h.entries) ≡ false → Among x (seen k h) → ⊥
unseen k x h u m =
    let r = map-among (λ (e : Entry). e.name) x (front (is k) h.entries) m in
    never (named (is k) x (front (is k) h.entries))
    (named_in (is k) x r.0 (front (is k) h.entries) r.1 (front-pass (is k) h.entries r.0 r.1) r.2)
    u

seen_more : (k : Kind) (e : Entry) (h g : Held) → is k e ≡ true → g.entries ≡ e ∷ h.entries → seen k g ≡ e.name ∷ seen k h
unfolding front
seen_more k e h g t q =
    ap (λ (es : List Entry). map (λ (x : Entry). x.name) (front (is k) es)) q
    ∙ ap (map (λ (x : Entry). x.name)) (cond_yes (e ∷ front (is k) h.entries) [] t)

-- ---- a component's pins

abbrev is_pins : ComponentList → Bool
is_pins ComponentFirst = false
is_pins ComponentShut = false
is_pins (PackageLines o g) = false
is_pins (PinRows o long any) = true

record PinsFresh (c : ComponentState) (h : Held) (ts : List Text) : Type 0 where
  rows : is_pins c.list ≡ true → Fresh (seen OfPin h) (map row_name (under ts))
  ahead : has c.parts 2 ≡ false → Fresh (seen OfPin h) (map row_name (lines_under "pin" ts))
  once : has c.parts 2 ≡ true → lines_under "pin" ts ≡ []

pins-done : (c : ComponentState) (h : Held) → PinsFresh c h []
unfolding lines_under
pins-done c h = record { rows = λ q. subst (λ (ls : List (List ℕ)). Fresh (seen OfPin h) (map row_name ls)) (sym under_none) tt; ahead = λ q. tt; once = λ q. refl }

pins-change : (c : ComponentState) (h : Held) (k : ℕ) (f : LineFault) (ts : List Text) → PinsFresh c h ts → PinsFresh c h (change k f ∷ ts)
pins-change c h k f ts so =
    let skip = lines-skip (change k f) ts (key.InComponent Pin) refl in
    record {
      rows = λ q. subst (λ (ls : List (List ℕ)). Fresh (seen OfPin h) (map row_name ls)) (sym (under-change k f ts)) (so.rows q);
      ahead = λ q. subst (λ (ls : List (List ℕ)). Fresh (seen OfPin h) (map row_name ls)) (sym skip) (so.ahead q);
      once = λ q. skip ∙ so.once q;
    }

module _ (l : Lengths) (k : ℕ) (w : List ℕ) (ts : List Text) (b : is_bracketed w ≡ false) where
  skipped : lines_under "pin" (plain k w ∷ ts) ≡ lines_under "pin" ts
  skipped = lines-skip (plain k w) ts (key.InComponent Pin) (no_key k w ts b)

  -- a line that is no pin row
  pins-other : (c n : ComponentState) (h g : Held) → is_pins c.list ≡ false → c.parts ≡ n.parts → g ≡ h → PinsFresh n g ts → PinsFresh c h (plain k w ∷ ts)
  pins-other c n h g f same e so =
      record {
        rows = λ q. absurd (never (is_pins c.list) q f);
        ahead =
            λ q.
            subst (λ (ls : List (List ℕ)). Fresh (seen OfPin h) (map row_name ls)) (sym skipped)
            (subst (λ (z : Held). Fresh (seen OfPin z) (map row_name (lines_under "pin" ts))) e (so.ahead (ap (λ (x : Given). has x 2) (sym same) ∙ q)));
        once = λ q. skipped ∙ so.once (ap (λ (x : Given). has x 2) (sym same) ∙ q);
      }

  pins-line : (c n : ComponentState) (h g : Held) (e : Event) → ComponentText c w n e → admit l h k w e ≡ Ok g → PinsFresh n g ts → PinsFresh c h (plain k w ∷ ts)
  pins-line c n h g e (location_line x q ok) a so = pins-other c n h g (ap is_pins q) refl (held_same g h a) so
  pins-line c n h g e (package_line o x i q at ok) a so = pins-other c n h g (ap is_pins q) refl (held_same g h a) so
  pins-line c n h g e (pin_row o long any q ok) a so =
      let entry : Entry = row_entry OfPin k 2 w in
      let admitted = entry-admitted l h entry g a in
      let more : seen OfPin g ≡ row_name w ∷ seen OfPin h = seen_more OfPin entry h g refl admitted.1 in
      record {
        rows =
            λ z.
            subst (λ (ls : List (List ℕ)). Fresh (seen OfPin h) (map row_name ls)) (sym (under-line k w ts b)) (
              unseen OfPin (row_name w) h admitted.0,
              subst (λ (s : List (List ℕ)). Fresh s (map row_name (under ts))) more (so.rows refl),
            );
        ahead =
            λ z.
            subst (λ (ls : List (List ℕ)). Fresh (seen OfPin h) (map row_name ls)) (sym skipped)
            (fresh-fewer (map row_name (lines_under "pin" ts)) (seen OfPin g) (seen OfPin h) (λ x m. subst (Among x) (sym more) (inr m)) (so.ahead z));
        once = λ z. skipped ∙ so.once z;
      }

module _ (k : ℕ) (w : List ℕ) (ts : List Text) (b : is_bracketed w ≡ true) where
  no_rows : (c : ComponentState) (h : Held) → is_pins c.list ≡ true → Fresh (seen OfPin h) (map row_name (under (plain k w ∷ ts)))
  no_rows c h q = subst (λ (ls : List (List ℕ)). Fresh (seen OfPin h) (map row_name ls)) (sym (under-key k w ts b)) tt

  -- another keyword than [Pin]
  pins-past : (c n : ComponentState) (h : Held) (i : ℕ) → (2 ≡ i → ⊥) → n.parts ≡ with c.parts i → lines_under "pin" (plain k w ∷ ts) ≡ lines_under "pin" ts
      → PinsFresh n h ts → PinsFresh c h (plain k w ∷ ts)
  pins-past c n h i apart e skip so =
      let same : has n.parts 2 ≡ has c.parts 2 = ap (λ (x : Given). has x 2) e ∙ has_other c.parts 2 i apart in
      record {
        rows = no_rows c h;
        ahead = λ q. subst (λ (ls : List (List ℕ)). Fresh (seen OfPin h) (map row_name ls)) (sym skip) (so.ahead (same ∙ q));
        once = λ q. skip ∙ so.once (same ∙ q);
      }

  pins-key : (c : ComponentState) (p : ComponentPart) (n : ComponentState) (h : Held) → key_of w ≡ Ok (key.InComponent p) → ComponentKey c k (argument w) p n → PinsFresh n h ts → PinsFresh c h (plain k w ∷ ts)
  unfolding eqs
  pins-key c p n h q (part Manufacturer z f) so =
      pins-past c n h 0 (omega arith) refl (lines-key (plain k w) ts "pin" (key.InComponent Manufacturer) (key-at k w ts b q)) so
  pins-key c p n h q (part Package z f) so =
      pins-past c n h 1 (omega arith) refl (lines-key (plain k w) ts "pin" (key.InComponent Package) (key-at k w ts b q)) so
  pins-key c p n h q (part Pin z f) so =
      let own = lines-key (plain k w) ts "pin" (key.InComponent Pin) (key-at k w ts b q) in
      let rest : lines_under "pin" ts ≡ [] = so.once (has-with c.parts 2 (omega arith)) in
      let all : lines_under "pin" (plain k w ∷ ts) ≡ under ts = own ∙ ap (λ (ls : List (List ℕ)). under ts ++ ls) rest ∙ append-nil (under ts) in
      record {
        rows = no_rows c h;
        ahead = λ x. subst (λ (ls : List (List ℕ)). Fresh (seen OfPin h) (map row_name ls)) (sym all) (so.rows refl);
        once = λ x. absurd (never (has c.parts 2) x z);
      }

pub pins-fresh : (l : Lengths) (ts : List Text) (c : ComponentState) (h : Held) → Runs l h (InComponent c) ts → has c.parts 2 ≡ false
    → Fresh (seen OfPin h) (map row_name (lines_under "pin" (front is_within ts)))
pins-fresh l ts c h r q =
    (by-texts l PinsFresh (λ d z s e. pins-done d z) pins-change
    (λ d n z g k w e us b y a so. pins-line l k w us b d n z g e y a so)
    (λ d n z k w p us b e s y so. pins-key k w us b d p n z e y so)
    ts c h r).ahead q

-- ---- a selector's rows

pub choices-fresh : (l : Lengths) (ts : List Text) (s : SelectorState) (h : Held) → Runs l h (InSelector s) ts → Fresh (seen OfChoice h) (map row_name (under ts))
choices-fresh l [] s h r = impossible (cc)
choices-fresh l (plain k w ∷ ts) s h r =
    let step = gone (SelectorStep s (plain k w)) _ r.0 r.1 (selector-text s (plain k w)) r.2 in
    by-test (is_bracketed w)
    (λ b. subst (λ (ls : List (List ℕ)). Fresh (seen OfChoice h) (map row_name ls)) (sym (under-key k w ts b)) tt)
    (λ b.
    let went = step.1 b in
    let g : Held = r.3 in
    let entry : Entry = row_entry OfChoice k 0 w in
    let admitted = entry-admitted l h entry g (sym (ap (admit l h k w) went.2) ∙ r.4) in
    let more : seen OfChoice g ≡ row_name w ∷ seen OfChoice h = seen_more OfChoice entry h g refl admitted.1 in
    let so = choices-fresh l ts (record { line = s.line; any = true }) g (subst (λ (u : Stage). Runs l g u ts) went.0 r.5) in
    subst (λ (ls : List (List ℕ)). Fresh (seen OfChoice h) (map row_name ls)) (sym (under-line k w ts b)) (
      unseen OfChoice (row_name w) h admitted.0,
      subst (λ (z : List (List ℕ)). Fresh z (map row_name (under ts))) more so,
    ))
choices-fresh l (change k f ∷ ts) s h r =
    let step = gone (SelectorStep s (change k f)) _ r.0 r.1 (selector-text s (change k f)) r.2 in
    let g : Held = r.3 in
    let same : g ≡ h = held_same g h (sym (ap (admit l h k []) step.1) ∙ r.4) in
    let so = choices-fresh l ts s g (subst (λ (u : Stage). Runs l g u ts) step.0 r.5) in
    subst (λ (ls : List (List ℕ)). Fresh (seen OfChoice h) (map row_name ls)) (sym (under-change k f ts))
    (subst (λ (z : Held). Fresh (seen OfChoice z) (map row_name (under ts))) same so)
