-- The texts of a component, one after another: what each leaves, and what its checks say. By cases on the open list, and on the keyword.
use Rattle.std.specs.Prelude.{Result, Ok, Err, Some}
use Prim.Native.Nat.{ℕ}
use mathlib.Core.Path.{◌≡◌, refl, sym, subst, ◌∙◌}
use mathlib.Core.List.{List, [], ◌∷◌}
use mathlib.Core.Bool.{Bool, true, false, ◌&&◌}
use borrow.Author.Tests.{not-false}
use Rattle.laws.specs.Lists.{front}
use Rattle.laws.specs.Said.{Said}
use Rattle.laws.proofs.Tests.{cond-all, and_first, and_second, impossible}
use Rattle.keywords.specs.Form.{argument}
use Rattle.keywords.specs.Carried.{key_of}
use Rattle.keywords.specs.declared.Keyword.{Keyword}
use Rattle.keywords.specs.declared.Keyword.TheVariants as key
use Rattle.keywords.specs.declared.ComponentPart.{ComponentPart}
use Rattle.cut_lines.specs.Texts.{Text, plain, change}
use Rattle.line_rules.specs.Fields.{is_bracketed, line_at, word_line, cells_line}
use Rattle.line_rules.specs.Tables.{component_lines, locations, package_lines}
use Rattle.given.specs.Given.{has, with, gave}
use Rattle.given.specs.declared.Given.{Given}
use Rattle.rules.specs.Going.{quietly, and_then, Went}
use Rattle.rules.specs.Component.{with_list, pin_flaw, component_line, component_place, component_flaw, component_opens, component_part, component_shut, component_done}
use Rattle.rules.specs.Steps.{shut, done, opened, on_version, on_keyword, keyed, on_plain, on_change, on_text}
use Rattle.rules.specs.Whole.{Held, admit, text_of, line_of}
use Rattle.rules.specs.Reading.{is_within}
use Rattle.records.specs.Flaws.{flaw_in, told}
use Rattle.records.specs.declared.LineFault.{LineFault}
use Rattle.records.specs.declared.Lengths.{Lengths}
use Rattle.rules.specs.Keys.{is_end}
use Rattle.rules.specs.declared.ComponentList.{ComponentList}
use Rattle.rules.specs.declared.ComponentList.TheVariants.{ComponentFirst, ComponentShut, PackageLines, PinRows}
use Rattle.rules.specs.declared.ComponentState.{ComponentState}
use Rattle.rules.specs.declared.Stage.{Stage}
use Rattle.rules.specs.declared.Stage.TheVariants.{InComponent}
use Rattle.rules.specs.declared.Event.{Event}
use Rattle.rules.specs.declared.Event.TheVariants.{Quiet, PinRow}
use Rattle.layout_by_notes.proofs.Goes.{Goes, past-closing, past_all, anywhere}
use Rattle.layout_by_notes.proofs.Ahead.{key-at, no_key}
use Rattle.accepted_tables.specs.Fallbacks.{Flawless}
use Rattle.accepted_tables.proofs.Checks.{past-refuse, past-unless, past-passes, past-once, past-named, gone, Runs, inside, outside}

-- ---- what closing a list, and the section, says

abbrev pub Shuts : ComponentList → Type 0
Shuts ComponentFirst = Unit {0}
Shuts ComponentShut = Unit {0}
Shuts (PackageLines o g) = (gave g package_lines "R_pkg" ≡ true) × (gave g package_lines "L_pkg" ≡ true) × (gave g package_lines "C_pkg" ≡ true)
Shuts (PinRows o long any) = any ≡ true

abbrev Shut : ComponentState → ComponentList → Stage → Event → Type 0
Shut c l t e = (t ≡ InComponent (with_list c ComponentShut)) × Shuts l

shut-goes : (c : ComponentState) (l : ComponentList) → Goes (Shut c l) (component_shut c l)
shut-goes c ComponentFirst = (refl, tt)
shut-goes c ComponentShut = (refl, tt)
shut-goes c (PackageLines o g) =
    let r : Bool = gave g package_lines "R_pkg" in
    let l : Bool = gave g package_lines "L_pkg" in
    let f : Bool = gave g package_lines "C_pkg" in
    past-refuse _ _ 9 o _
    (λ h.
    let b : (r && (l && f)) ≡ true = not-false (r && (l && f)) h in
    let d : (l && f) ≡ true = and_second r (l && f) b in
    (refl, (and_first r (l && f) b, and_first l f d, and_second l f d)))
shut-goes c (PinRows o long any) = past-refuse _ _ 9 o _ (λ h. (refl, not-false any h))

-- ---- a line that is no keyword line

pub data ComponentText (c : ComponentState) (w : List ℕ) : ComponentState → Event → Type 0 where
  location_line : (g : Given) → c.list ≡ ComponentFirst → Flawless (flaw_in (word_line locations w)) → ComponentText c w (record { line = c.line; first = g; parts = c.parts; list = c.list }) Quiet
  package_line : (o : ℕ) (g : Given) (i : ℕ) → c.list ≡ PackageLines o g → line_at package_lines w ≡ Some i → Flawless (flaw_in (cells_line w))
      → ComponentText c w (with_list c (PackageLines o (with g i))) Quiet
  pin_row : (o : ℕ) (long any : Bool) → c.list ≡ PinRows o long any → Flawless (pin_flaw long w)
      → ComponentText c w (with_list c (PinRows o long true)) PinRow

abbrev Line : ComponentState → List ℕ → Stage → Event → Type 0
Line c w u e = (n : ComponentState) × (u ≡ InComponent n) × ComponentText c w n e

line-goes : (c : ComponentState) (k : ℕ) (w : List ℕ) (l : ComponentList) → c.list ≡ l → Goes (Line c w) (component_line c k w l)
line-goes c k w ComponentFirst q = past-named (Line c w) c.first (line_at component_lines w) _ k w _ (λ i a h f. (_, refl, location_line (with c.first i) q f))
line-goes c k w ComponentShut q = tt
line-goes c k w (PackageLines o g) q = past-named (Line c w) g (line_at package_lines w) _ k w _ (λ i a h f. (_, refl, package_line o g i q a f))
line-goes c k w (PinRows o long any) q = past-passes (Line c w) (told w (pin_flaw long w)) k _ (λ f. (_, refl, pin_row o long any q f))

-- ---- a keyword of the component, w being its argument

pub data ComponentKey (c : ComponentState) (k : ℕ) (w : List ℕ) : ComponentPart → ComponentState → Type 0 where
  part : (p : ComponentPart) → has c.parts (component_place p) ≡ false → Flawless (component_flaw w p)
      → ComponentKey c k w p (record { line = c.line; first = c.first; parts = with c.parts (component_place p); list = component_opens k w p })

abbrev Key : ComponentState → ℕ → List ℕ → ComponentPart → Stage → Event → Type 0
Key c k w p u e = (n : ComponentState) × (u ≡ InComponent n) × ComponentKey c k w p n × (e ≡ Quiet)

part-goes : (c : ComponentState) (k : ℕ) (w : List ℕ) (p : ComponentPart) → Goes (Key c k (argument w) p) (component_part (with_list c ComponentShut) k w p)
unfolding component_part
part-goes c k w p =
    past-once (Key c k (argument w) p) c.parts (component_place p) (told w (component_flaw (argument w) p)) k
    (λ (g : Given). InComponent (record { line = c.line; first = c.first; parts = g; list = component_opens k (argument w) p }))
    (λ h f. (_, refl, part p h f, refl))

-- ---- a text

pub data ComponentStep (c : ComponentState) : Text → Stage → Event → Type 0 where
  by_change : {k : ℕ} {f : LineFault} → ComponentStep c (change k f) (InComponent c) Quiet
  by_line : {k : ℕ} {w : List ℕ} (n : ComponentState) {e : Event} → is_bracketed w ≡ false → ComponentText c w n e → ComponentStep c (plain k w) (InComponent n) e
  by_key : {k : ℕ} {w : List ℕ} (p : ComponentPart) (n : ComponentState) → is_bracketed w ≡ true → key_of w ≡ Ok (key.InComponent p) → Shuts c.list
      → ComponentKey c k (argument w) p n → ComponentStep c (plain k w) (InComponent n) Quiet
  by_end : {k : ℕ} {w : List ℕ} {u : Stage} {e : Event} (x : Keyword) → is_bracketed w ≡ true → key_of w ≡ Ok x → is_end (Some x) ≡ true → Shuts c.list
      → component_done c ≡ 0 → ComponentStep c (plain k w) u e

abbrev Step : ComponentState → Text → Stage → Event → Type 0
Step c t u e = ComponentStep c t u e

done-shut : (c : ComponentState) → component_done (with_list c ComponentShut) ≡ component_done c
unfolding component_done
done-shut c = refl

module _ (c : ComponentState) (k : ℕ) (w : List ℕ) (b : is_bracketed w ≡ true) (s : Shuts c.list) where
  -- the section ends, whatever goes on
  end_goes : (x : Keyword) → key_of w ≡ Ok x → is_end (Some x) ≡ true → (f : Stage → Went)
      → Goes (Step c (plain k w)) (and_then (done k (InComponent (with_list c ComponentShut))) f)
  end_goes x q e f =
      past-closing (Step c (plain k w)) (λ (t : Stage). component_done c ≡ 0) f (done k (InComponent (with_list c ComponentShut)))
      (past-unless (λ (t : Stage) (z : Event). component_done c ≡ 0) (component_done (with_list c ComponentShut)) c.line (quietly (InComponent (with_list c ComponentShut)))
      (λ h. sym (done-shut c) ∙ h))
      (λ t d. past_all (Step c (plain k w)) (λ (u : Stage) (z : Event). Unit {0}) (f t) (anywhere (f t)) (λ u z a. by_end x b q e s d))

  keyword-goes : (x : Keyword) → key_of w ≡ Ok x → Goes (Step c (plain k w)) (on_keyword (InComponent (with_list c ComponentShut)) k w x)
  unfolding on_version
  keyword-goes key.IbisVer q = tt
  keyword-goes (key.InHeader p) q = tt
  keyword-goes (key.Opens o) q = end_goes (key.Opens o) q refl (λ (t : Stage). opened k w o)
  keyword-goes (key.InComponent p) q =
      past_all (Step c (plain k w)) (Key c k (argument w) p) (component_part (with_list c ComponentShut) k w p) (part-goes c k w p)
      (λ u e g. subst (λ (v : Stage). ComponentStep c (plain k w) v e) (sym g.1) (subst (ComponentStep c (plain k w) (InComponent g.0)) (sym g.3) (by_key p g.0 b q s g.2)))
  keyword-goes (key.InModel p) q = tt
  keyword-goes key.End q = end_goes key.End q refl _

  keyed-goes : (x : Said Keyword) → key_of w ≡ x → Goes (Step c (plain k w)) (keyed (InComponent (with_list c ComponentShut)) k w x)
  keyed-goes (Err n) q = tt
  keyed-goes (Ok x) q = keyword-goes x q

plain-goes : (c : ComponentState) (k : ℕ) (w : List ℕ) → Goes (Step c (plain k w)) (on_plain (InComponent c) k w)
unfolding on_plain
plain-goes c k w =
    cond-all (Goes (Step c (plain k w))) (is_bracketed w) _ _
    (λ b.
    past-closing (Step c (plain k w)) (λ (t : Stage). (t ≡ InComponent (with_list c ComponentShut)) × Shuts c.list) _ (shut k (InComponent c)) (shut-goes c c.list)
    (λ t z. subst (λ (v : Stage). Goes (Step c (plain k w)) (keyed v k w (key_of w))) (sym z.0) (keyed-goes c k w b z.1 (key_of w) refl)))
    (λ b.
    past_all (Step c (plain k w)) (Line c w) (component_line c k w c.list) (line-goes c k w c.list refl)
    (λ u e g. subst (λ (v : Stage). ComponentStep c (plain k w) v e) (sym g.1) (by_line g.0 b g.2)))

text-goes : (c : ComponentState) (t : Text) → Goes (Step c t) (on_text (InComponent c) t)
unfolding on_change
text-goes c (plain k w) = plain-goes c k w
text-goes c (change k f) = past-refuse _ _ 7 k _ (λ a. past-refuse _ _ 5 k _ (λ b. past-refuse _ _ 7 k _ (λ d. past-passes _ f k _ (λ e. by_change))))

-- ---- what holds when the section ends, and holds before a text if behind it, holds of all its texts

pub held_same : {F : Type 0} (g h : Held) → ◌≡◌ {A = Result Held F} (Ok h) (Ok g) → g ≡ h
held_same g h q = cc

module _ (l : Lengths) (P : ComponentState → Held → List Text → Type 0)
    (closing : (c : ComponentState) (h : Held) → Shuts c.list → component_done c ≡ 0 → P c h [])
    (changing : (c : ComponentState) (h : Held) (k : ℕ) (f : LineFault) (ts : List Text) → P c h ts → P c h (change k f ∷ ts))
    (lining : (c n : ComponentState) (h g : Held) (k : ℕ) (w : List ℕ) (e : Event) (ts : List Text) → is_bracketed w ≡ false → ComponentText c w n e
    → admit l h k w e ≡ Ok g → P n g ts → P c h (plain k w ∷ ts))
    (keying : (c n : ComponentState) (h : Held) (k : ℕ) (w : List ℕ) (p : ComponentPart) (ts : List Text) → is_bracketed w ≡ true → key_of w ≡ Ok (key.InComponent p)
    → Shuts c.list → ComponentKey c k (argument w) p n → P n h ts → P c h (plain k w ∷ ts)) where
  step-on : (c : ComponentState) (h g : Held) (t : Text) (ts : List Text) (u : Stage) (e : Event) → ComponentStep c t u e → admit l h (line_of t) (text_of t) e ≡ Ok g → Runs l g u ts
      → ((n : ComponentState) (z : Held) → Runs l z (InComponent n) ts → P n z (front is_within ts)) → P c h (front is_within (t ∷ ts))
  step-on c h g t ts u e (by_change {k = k} {f = f}) a r rest =
      subst (P c h) (sym (inside (change k f) ts refl refl)) (changing c h k f (front is_within ts) (subst (λ (z : Held). P c z (front is_within ts)) (held_same g h a) (rest c g r)))
  step-on c h g t ts u e (by_line {k = k} {w = w} n {e = x} b y) a r rest =
      subst (P c h) (sym (inside (plain k w) ts (no_key k w ts b) refl)) (lining c n h g k w x (front is_within ts) b y a (rest n g r))
  step-on c h g t ts u e (by_key {k = k} {w = w} p n b q s y) a r rest =
      subst (P c h) (sym (inside (plain k w) ts (key-at k w ts b q) refl))
      (keying c n h k w p (front is_within ts) b q s y (subst (λ (z : Held). P n z (front is_within ts)) (held_same g h a) (rest n g r)))
  step-on c h g t ts u e (by_end {k = k} {w = w} x b q i s d) a r rest =
      subst (P c h) (sym (outside (plain k w) ts (key-at k w ts b q) i)) (closing c h s d)

  pub by-texts : (ts : List Text) (c : ComponentState) (h : Held) → Runs l h (InComponent c) ts → P c h (front is_within ts)
  by-texts [] c h r = impossible (cc)
  by-texts (t ∷ ts) c h r =
      step-on c h r.3 t ts r.0 r.1 (gone (Step c t) _ r.0 r.1 (text-goes c t) r.2) r.4 r.5 (λ n z g. by-texts ts n z g)
