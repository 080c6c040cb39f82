-- Equal tables say the same, section by section: what the first section adds begins behind what was there, and its number tells its kind.
use Prim.Native.Nat.{ℕ, ◌+◌}
use Prim.Native.String.{String}
use mathlib.Core.Path.{◌≡◌, refl, sym, ap, ap₂, ◌∙◌}
use mathlib.Core.List.{List, [], ◌∷◌, ◌++◌, map, append_assoc}
use native.Mathlib.Omega.{arith}
use lib.ListN.{length, take, drop, get_or}
use lib.Seq.{take-append_seam, drop-append_seam}
use Rattle.laws.proofs.Tests.{impossible}
use Rattle.cut_lines.specs.Texts.{Text}
use Rattle.rules.specs.Reading.{pins_in, component_in, choices_in, model_in, tables_in, SectionIs, component, selector, model}
use Rattle.rules.specs.Same.{nowhere, no_table, table_of, waveforms_of, SameSection, SameSections}
use Rattle.layout.specs.Laid.{Laid, tables, table_at, waveforms_laid, with_section, laid_from}
use Rattle.layout.proofs.Growth.{From, extends-from}
use Rattle.records.specs.declared.Component.{Component}
use Rattle.records.specs.declared.Pin.{Pin}
use Rattle.records.specs.declared.Selector.{Selector}
use Rattle.records.specs.declared.Choice.{Choice}
use Rattle.records.specs.declared.Model.{Model}
use Rattle.records.specs.declared.Waveform.{Waveform}
use Rattle.records.specs.declared.Row.{Row}
use Rattle.tables_say.proofs.Rows.{table_from, waveform_from, table-from, waveforms-from, lie-behind}

-- ---- lists that begin alike

module _ {A : Type 0} where
  begin-alike : (xs ys zs : List A) → xs ++ ys ≡ xs ++ zs → ys ≡ zs
  begin-alike xs ys zs e = sym (drop-append_seam xs ys) ∙ ap (drop (length xs)) e ∙ drop-append_seam xs zs

  -- as many come next
  pub next-alike : (xs ys zs more others : List A) → length ys ≡ length zs → xs ++ ys ++ more ≡ xs ++ zs ++ others → ys ≡ zs
  next-alike xs ys zs more others n e =
      let f : ys ++ more ≡ zs ++ others = begin-alike xs (ys ++ more) (zs ++ others) (sym (append_assoc xs ys more) ∙ e ∙ append_assoc xs zs others) in
      sym (take-append_seam ys more) ∙ ap₂ (λ (k : ℕ) (l : List A). take k l) n f ∙ take-append_seam zs others

  one_alike : (xs : List A) (y z : A) (more others : List A) → xs ++ (y ∷ []) ++ more ≡ xs ++ (z ∷ []) ++ others → y ≡ z
  one_alike xs y z more others e = ap (λ (l : List A). get_or l 0 y) (next-alike xs (y ∷ []) (z ∷ []) more others refl e)

  -- a record of section n is none of a later section
  no-later : (number : A → ℕ) (y : A) (more others : List A) → From number (number y + 1) others → y ∷ more ≡ others → ⊥
  no-later number y more [] h e = impossible (cc)
  no-later number y more (z ∷ zs) h e =
      let f : number y ≡ number z = ap (λ (l : List A). number (get_or l 0 y)) e in
      omega (arith, h, f)

  apart : (number : A → ℕ) (xs : List A) (y : A) (more others : List A) → From number (number y + 1) others → xs ++ (y ∷ []) ++ more ≡ xs ++ others → ⊥
  apart number xs y more others h e = no-later number y more others h (begin-alike xs (y ∷ more) others (sym (append_assoc xs (y ∷ []) more) ∙ e))

-- ---- tables that sections from n on make equal

record Meet (n : ℕ) (t u : Laid) : Type 0 where
  more : Laid
  others : Laid
  components : t.components ++ more.components ≡ u.components ++ others.components
  pins : t.pins ++ more.pins ≡ u.pins ++ others.pins
  selectors : t.selectors ++ more.selectors ≡ u.selectors ++ others.selectors
  choices : t.choices ++ more.choices ≡ u.choices ++ others.choices
  models : t.models ++ more.models ≡ u.models ++ others.models
  waveforms : t.waveforms ++ more.waveforms ≡ u.waveforms ++ others.waveforms
  rows : t.rows ++ more.rows ≡ u.rows ++ others.rows
  components_from : From (λ (c : Component). c.section) n others.components
  selectors_from : From (λ (s : Selector). s.section) n others.selectors
  models_from : From (λ (m : Model). m.section) n others.models

meet : (n : ℕ) (t u : Laid) (xs ys : List SectionIs) → laid_from t n xs ≡ laid_from u n ys → Meet n t u
meet n t u xs ys e =
    let a = extends-from n t xs in
    let b = extends-from n u ys in
    record {
      more = a.later;
      others = b.later;
      components = sym a.components ∙ ap (λ (l : Laid). l.components) e ∙ b.components;
      pins = sym a.pins ∙ ap (λ (l : Laid). l.pins) e ∙ b.pins;
      selectors = sym a.selectors ∙ ap (λ (l : Laid). l.selectors) e ∙ b.selectors;
      choices = sym a.choices ∙ ap (λ (l : Laid). l.choices) e ∙ b.choices;
      models = sym a.models ∙ ap (λ (l : Laid). l.models) e ∙ b.models;
      waveforms = sym a.waveforms ∙ ap (λ (l : Laid). l.waveforms) e ∙ b.waveforms;
      rows = sym a.rows ∙ ap (λ (l : Laid). l.rows) e ∙ b.rows;
      components_from = b.components_from;
      selectors_from = b.selectors_from;
      models_from = b.models_from;
    }

-- ---- the next sections, both numbered n, behind the same; only the rows before may differ, as long as the tables become equal

abbrev with_rows : Laid → List Row → Laid
with_rows l rs = tables l.components l.pins l.selectors l.choices l.models l.waveforms rs

-- a component and a model wherever their parts lie
abbrev alone : Component → Component
alone c =
    record {
      section = 0;
      name = c.name;
      si = c.si;
      timing = c.timing;
      manufacturer = c.manufacturer;
      resistance = c.resistance;
      inductance = c.inductance;
      capacitance = c.capacitance;
      pins = nowhere;
    }

abbrev bare : Model → Model
bare m =
    record {
      section = 0;
      name = m.name;
      kind = m.kind;
      polarity = m.polarity;
      enable = m.enable;
      comp = m.comp;
      split = m.split;
      vinl = m.vinl;
      vinh = m.vinh;
      vmeas = m.vmeas;
      cref = m.cref;
      rref = m.rref;
      vref = m.vref;
      voltage = m.voltage;
      temperature = m.temperature;
      pulldown = no_table "pulldown";
      pullup = no_table "pullup";
      ground = no_table "gnd_clamp";
      power = no_table "power_clamp";
      ramp = m.ramp;
      waveforms = nowhere;
    }

module _ (n : ℕ) (l : Laid) (rs qs : List Row) where
  abbrev first : SectionIs → Laid
  first x = with_section (with_rows l rs) n x

  abbrev second : SectionIs → Laid
  second y = with_section (with_rows l qs) n y

  -- the two sections say the same, and behind them again only the rows may differ
  record Alike (x y : SectionIs) : Type 0 where
    same : SameSection x y
    next : second y ≡ with_rows (first x) (second y).rows

  -- a section of another kind, or none
  module _ (v : List ℕ) (ts : List Text) (u : Laid) where
    no-component : l.components ≡ u.components → Meet (n + 1) (first (component v ts)) u → ⊥
    unfolding component_in
    no-component e m = apart (λ (c : Component). c.section) l.components _ m.more.components m.others.components m.components_from (m.components ∙ rw e refl)

    no-selector : l.selectors ≡ u.selectors → Meet (n + 1) (first (selector v ts)) u → ⊥
    no-selector e m = apart (λ (s : Selector). s.section) l.selectors _ m.more.selectors m.others.selectors m.selectors_from (m.selectors ∙ rw e refl)

    no-model : l.models ≡ u.models → Meet (n + 1) (first (model v ts)) u → ⊥
    unfolding model_in
    no-model e m = apart (λ (x : Model). x.section) l.models _ m.more.models m.others.models m.models_from (m.models ∙ rw e refl)

  none_more : (x : SectionIs) → Meet (n + 1) (first x) (with_rows l qs) → ⊥
  none_more (component v ts) m = no-component v ts _ refl m
  none_more (selector v ts) m = no-selector v ts _ refl m
  none_more (model v ts) m = no-model v ts _ refl m

  module _ (v w : List ℕ) (ts us : List Text) where
    alike-component : Meet (n + 1) (first (component v ts)) (second (component w us)) → Alike (component v ts) (component w us)
    unfolding component_in
    alike-component m =
        let c = one_alike l.components _ _ m.more.components m.others.components m.components in
        let p = next-alike l.pins (pins_in ts) (pins_in us) m.more.pins m.others.pins (ap (λ (c : Component). c.pins.count) c) m.pins in
        record {
          same = (ap alone c, p);
          next = ap₂ (λ (c : Component) (ps : List Pin). tables (l.components ++ (c ∷ [])) (l.pins ++ ps) l.selectors l.choices l.models l.waveforms qs) (sym c) (sym p);
        }

    alike-selector : Meet (n + 1) (first (selector v ts)) (second (selector w us)) → Alike (selector v ts) (selector w us)
    alike-selector m =
        let s = one_alike l.selectors _ _ m.more.selectors m.others.selectors m.selectors in
        let c = next-alike l.choices (choices_in ts) (choices_in us) m.more.choices m.others.choices (ap (λ (s : Selector). s.choices.count) s) m.choices in
        record {
          same = (ap (λ (s : Selector). s.name) s, c);
          next = ap₂ (λ (s : Selector) (cs : List Choice). tables l.components l.pins (l.selectors ++ (s ∷ [])) (l.choices ++ cs) l.models l.waveforms qs) (sym s) (sym c);
        }

    abbrev Meets : Type 0
    Meets = Meet (n + 1) (first (model v ts)) (second (model w us))

    same-table : Meets → (key : String) → table_at (tables_in ts) (length rs) key ≡ table_at (tables_in us) (length qs) key → table_of (tables_in ts) key ≡ table_of (tables_in us) key
    same-table m key e =
        table-from _ (length rs) (tables_in ts) key (lie-behind rs m.more.rows (tables_in ts))
        ∙ ap₂ table_from m.rows e
        ∙ sym (table-from _ (length qs) (tables_in us) key (lie-behind qs m.others.rows (tables_in us)))

    same-waveforms : Meets → waveforms_laid (tables_in ts) (length rs) ≡ waveforms_laid (tables_in us) (length qs) → waveforms_of (tables_in ts) ≡ waveforms_of (tables_in us)
    same-waveforms m e =
        waveforms-from _ (length rs) (tables_in ts) (lie-behind rs m.more.rows (tables_in ts))
        ∙ ap₂ (λ (store : List Row) (ws : List Waveform). map (waveform_from store) ws) m.rows e
        ∙ sym (waveforms-from _ (length qs) (tables_in us) (lie-behind qs m.others.rows (tables_in us)))

    alike-model : Meets → Alike (model v ts) (model w us)
    unfolding model_in
    alike-model m =
        let x = one_alike l.models _ _ m.more.models m.others.models m.models in
        let p = next-alike l.waveforms _ _ m.more.waveforms m.others.waveforms (ap (λ (x : Model). x.waveforms.count) x) m.waveforms in
        record {
          same =
              record {
                model = ap bare x;
                pulldown = same-table m "pulldown" (ap (λ (x : Model). x.pulldown) x);
                pullup = same-table m "pullup" (ap (λ (x : Model). x.pullup) x);
                ground = same-table m "gnd_clamp" (ap (λ (x : Model). x.ground) x);
                power = same-table m "power_clamp" (ap (λ (x : Model). x.power) x);
                waveforms = same-waveforms m p;
              };
          next = ap₂ (λ (x : Model) (ws : List Waveform). tables l.components l.pins l.selectors l.choices (l.models ++ (x ∷ [])) (l.waveforms ++ ws) (second (model w us)).rows) (sym x) (sym p);
        }

  alike : (x y : SectionIs) → Meet (n + 1) (first x) (second y) → Alike x y
  alike (component v ts) (component w us) m = alike-component v w ts us m
  alike (component v ts) (selector w us) m = absurd (no-component v ts _ refl m)
  alike (component v ts) (model w us) m = absurd (no-component v ts _ refl m)
  alike (selector v ts) (component w us) m = absurd (no-selector v ts _ refl m)
  alike (selector v ts) (selector w us) m = alike-selector v w ts us m
  alike (selector v ts) (model w us) m = absurd (no-selector v ts _ refl m)
  alike (model v ts) (component w us) m = absurd (no-model v ts _ refl m)
  alike (model v ts) (selector w us) m = absurd (no-model v ts _ refl m)
  alike (model v ts) (model w us) m = alike-model v w ts us m

-- ---- all sections

pub same-sections : (n : ℕ) (l : Laid) (rs qs : List Row) (xs ys : List SectionIs) → laid_from (with_rows l rs) n xs ≡ laid_from (with_rows l qs) n ys → SameSections xs ys
unfolding laid_from
same-sections n l rs qs [] [] e = tt
same-sections n l rs qs [] (y ∷ ys) e = none_more n l qs rs y (meet (n + 1) _ _ ys [] (sym e))
same-sections n l rs qs (x ∷ xs) [] e = none_more n l rs qs x (meet (n + 1) _ _ xs [] e)
same-sections n l rs qs (x ∷ xs) (y ∷ ys) e =
    let a = alike n l rs qs x y (meet (n + 1) _ _ xs ys e) in (
      a.same,
      same-sections (n + 1) (first n l rs qs x) (first n l rs qs x).rows (second n l rs qs y).rows xs ys (e ∙ ap (λ (t : Laid). laid_from t (n + 1) ys) a.next),
    )
