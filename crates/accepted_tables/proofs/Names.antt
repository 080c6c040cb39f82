-- Names in the tables are those noted: none is used twice, what is named is found, and what is there is listed. By the notes' entries.
use Rattle.std.specs.Prelude.{Option, None, Some}
use Prim.Native.Nat.{ℕ, ◌≤◌}
use mathlib.Core.Path.{◌≡◌, refl, sym, ap, subst, ◌∙◌}
use mathlib.Core.List.{List, [], ◌∷◌, map, reverse}
use mathlib.Core.Logic.{◌⊎◌, inl, inr, ⊎_elim}
use mathlib.Core.Bool.{Bool, true, false, cond, ◌&&◌, ◌||◌}
use native.Mathlib.Omega.{arith}
use lib.ListN.{length, take}
use lib.Seq.{take_all, take-append_seam}
use lib.Dec.{eqb}
use borrow.Author.Tests.{eqb-true}
use Rattle.laws.specs.Bytes.{bytes, capital}
use Rattle.laws.specs.Lists.{eqs, one_of, Every}
use Rattle.laws.proofs.Tests.{by-test, cond_yes, cond_no, and_both, and_first, and_second, never, impossible}
use Rattle.laws.proofs.Same.{eqs-refl, eqs-eq}
use Rattle.words.specs.Words.{word, words}
use Rattle.line_rules.specs.Fields.{needs_no_model}
use Rattle.records.specs.Stored.{padded, name_laid}
use Rattle.records.specs.Texts.{Name}
use Rattle.records.specs.declared.Kind.{Kind}
use Rattle.records.specs.declared.Kind.TheVariants.{OfComponent, OfPin, OfSelector, OfChoice, OfModel}
use Rattle.rules.specs.Component.{kept_model}
use Rattle.rules.specs.Outline.{Entry, place, is, is_model_or_selector, named, lists, is_used, is_found, is_listed, first_failing}
use Rattle.rules.specs.Last.{found, listed_in}
use Rattle.notes.specs.Noted.{Note, entry_of, or_used, clash}
use Rattle.layout_by_notes.specs.Lies.{pick, is_of}
use Rattle.accepted_tables.specs.Facts.{Among, Unique, no_models}
use Rattle.accepted_tables.proofs.Events.{Own, Fine}
use Rattle.accepted_tables.proofs.Members.{every-at, reverse-among, among-reverse, among-map, map-among, pick-among, among-pick, every_in, unique-last}
use Rattle.layout_by_notes.proofs.Lists.{latest-last}

-- ---- a name in a record is the name that was noted, if it fits

abbrev text_in : Name → List ℕ
text_in n = take n.len n.bytes

name-kept : (w : List ℕ) → length w ≤ 40 → text_in (name_laid w) ≡ w
unfolding padded
name-kept w h = take-append_seam (take 40 w) _ ∙ take_all 40 w h

pub name-same : (v w : List ℕ) → length v ≤ 40 → length w ≤ 40 → name_laid v ≡ name_laid w → v ≡ w
name-same v w h k e = sym (name-kept v h) ∙ ap text_in e ∙ name-kept w k

-- ---- kinds

kind_at : ℕ → Kind
kind_at n = cond (eqb n 0) OfComponent (cond (eqb n 1) OfPin (cond (eqb n 2) OfSelector (cond (eqb n 3) OfChoice OfModel)))

kind-back : (k : Kind) → kind_at (place k) ≡ k
unfolding kind_at
kind-back OfComponent = refl
kind-back OfPin = refl
kind-back OfSelector = refl
kind-back OfChoice = refl
kind-back OfModel = refl

pub kind-is : (k : Kind) (e : Entry) → is k e ≡ true → e.kind ≡ k
kind-is k e h = sym (kind-back e.kind) ∙ ap kind_at (sym (eqb-true (place k) (place e.kind) h)) ∙ kind-back k

-- ---- tests over entries

or_split : (a b : Bool) → (a || b) ≡ true → (a ≡ true) ⊎ (b ≡ true)
or_split true b h = inl refl
or_split false b h = inr h

or-first : (a b : Bool) → a ≡ true → (a || b) ≡ true
or-first true b h = refl
or-first false b h = cc

or-second : (a b : Bool) → b ≡ true → (a || b) ≡ true
or-second true b h = refl
or-second false b h = h

module _ (p : Entry → Bool) (x : List ℕ) where
  named_some : (es : List Entry) → named p x es ≡ true → (e : Entry) × Among e es × (p e ≡ true) × (x ≡ e.name)
  unfolding named
  named_some [] h = impossible (cc)
  named_some (e ∷ es) h =
      let here : Bool = p e && eqs x e.name in
      ⊎_elim
      (λ t. (e, inl refl, and_first (p e) (eqs x e.name) t, eqs-eq x e.name (and_second (p e) (eqs x e.name) t)))
      (λ t. let r = named_some es t in (r.0, inr r.1, r.2, r.3))
      (or_split here (named p x es) h)

  lists-some : (es : List Entry) → lists p x es ≡ true → (e : Entry) × Among e es × (p e ≡ true) × (x ≡ e.names)
  unfolding lists
  lists-some [] h = impossible (cc)
  lists-some (e ∷ es) h =
      let here : Bool = p e && eqs x e.names in
      ⊎_elim
      (λ t. (e, inl refl, and_first (p e) (eqs x e.names) t, eqs-eq x e.names (and_second (p e) (eqs x e.names) t)))
      (λ t. let r = lists-some es t in (r.0, inr r.1, r.2, r.3))
      (or_split here (lists p x es) h)

  pub named_in : (e : Entry) (es : List Entry) → Among e es → p e ≡ true → x ≡ e.name → named p x es ≡ true
  unfolding named
  named_in e [] m t q = absurd m
  named_in e (b ∷ es) (inl i) t q =
      or-first (p b && eqs x b.name) (named p x es)
      (and_both (p b) (eqs x b.name) (ap p (sym i) ∙ t) (ap (eqs x) (sym (q ∙ ap (λ (y : Entry). y.name) i)) ∙ eqs-refl x))
  named_in e (b ∷ es) (inr m) t q = or-second (p b && eqs x b.name) (named p x es) (named_in e es m t q)

-- no entry fails: those that fail stand on a line
all_pass : (p : Entry → Bool) (es : List Entry) → Every (λ (e : Entry). 1 ≤ e.line) es → first_failing p es ≡ 0 → Every (λ (e : Entry). p e ≡ true) es
unfolding first_failing
all_pass p [] l h = tt
all_pass p (e ∷ es) l h =
    by-test (p e)
    (λ t. (t, all_pass p es l.1 (sym (cond_yes _ _ t) ∙ h)))
    (λ t. let z : e.line ≡ 0 = sym (cond_no _ _ t) ∙ h in absurd (omega (arith, z, l.0)))

-- ---- the notes

abbrev pub note_name : Note → Name
note_name n = name_laid n.name

abbrev pub pin_model : Note → Name
pin_model n = name_laid (kept_model (word 2 (words n.text)))

abbrev pub choice_model : Note → Name
choice_model n = name_laid (word 0 (words n.text))

kept_same : (w : List ℕ) → needs_no_model w ≡ false → kept_model w ≡ w
unfolding kept_model
kept_same w h = cond_no (map capital w) w h

reserved : (w : List ℕ) → needs_no_model w ≡ true → Among (name_laid (kept_model w)) no_models
unfolding needs_no_model kept_model one_of
reserved w h =
    let v : List ℕ = map capital w in
    let kept : kept_model w ≡ v = cond_yes v w h in
    subst (λ (x : List ℕ). Among (name_laid x) no_models) (sym kept)
    (⊎_elim
    (λ t. inl (ap name_laid (eqs-eq v (bytes "POWER") t)))
    (λ r.
    ⊎_elim
    (λ t. inr (inl (ap name_laid (eqs-eq v (bytes "GND") t))))
    (λ q. ⊎_elim (λ t. inr (inr (inl (ap name_laid (eqs-eq v (bytes "NC") t))))) (λ z. impossible (cc)) (or_split (eqs v (bytes "NC")) false q))
    (or_split (eqs v (bytes "GND")) (eqs v (bytes "NC") || false) r))
    (or_split (eqs v (bytes "POWER")) (eqs v (bytes "GND") || (eqs v (bytes "NC") || false)) h))

module _ (ns : List Note) (fine : Every Fine ns) where
  abbrev pub all : List Entry
  all = reverse (map entry_of ns)

  abbrev pub of : Kind → List Note
  of k = reverse (pick (is_of k) ns)

  abbrev pub Found : Name → Type 0
  Found x = Among x no_models ⊎ (Among x (map note_name (of OfModel)) ⊎ Among x (map note_name (of OfSelector)))

  abbrev pub Listed : Name → Type 0
  Listed x = Among x (map pin_model (of OfPin)) ⊎ Among x (map choice_model (of OfChoice))

  of-in : (k : Kind) (n : Note) → is_of k n ≡ true → Among n ns → Among n (of k)
  of-in k n t m = among-reverse n (pick (is_of k) ns) (among-pick (is_of k) n ns t m)

  in-of : (k : Kind) (n : Note) → Among n (of k) → (is_of k n ≡ true) × Among n ns
  in-of k n m = pick-among (is_of k) n ns (reverse-among n (pick (is_of k) ns) m)

  note-of : (e : Entry) → Among e all → (n : Note) × Among n ns × (e ≡ entry_of n)
  note-of e m = map-among entry_of e ns (reverse-among e (map entry_of ns) m)

  lines : (xs : List Note) → Every Fine xs → Every (λ (e : Entry). 1 ≤ e.line) (map entry_of xs)
  lines [] f = tt
  lines (n ∷ xs) f = (f.0.line, lines xs f.1)

  all_lines : Every (λ (e : Entry). 1 ≤ e.line) all
  all_lines = every_in (λ (e : Entry). 1 ≤ e.line) all (λ e m. every-at (λ (x : Entry). 1 ≤ x.line) (map entry_of ns) e (lines ns fine) (reverse-among e (map entry_of ns) m))

  passing : (p : Entry → Bool) → first_failing p all ≡ 0 → (n : Note) → Among n ns → p (entry_of n) ≡ true
  passing p h n m =
      every-at (λ (e : Entry). p e ≡ true) all (entry_of n) (all_pass p all all_lines h) (among-reverse (entry_of n) (map entry_of ns) (among-map entry_of n ns m))

  -- a name that some entry of a kind has is in that kind's table
  named_table : (k : Kind) (x : List ℕ) (e : Entry) → Among e all → is k e ≡ true → x ≡ e.name → Among (name_laid x) (map note_name (of k))
  named_table k x e m t q =
      let r = note-of e m in
      let same : name_laid x ≡ note_name r.0 = ap name_laid (q ∙ ap (λ (y : Entry). y.name) r.2) in
      subst (λ (y : Name). Among y (map note_name (of k))) (sym same)
      (among-map note_name r.0 (of k) (of-in k r.0 (ap (is k) (sym r.2) ∙ t) r.1))

  module _ (h : first_failing (found all) all ≡ 0) where
    pub pins-found : Every Found (map pin_model (of OfPin))
    pins-found = every_in Found (map pin_model (of OfPin)) by
      where
        by : (x : Name) → Among x (map pin_model (of OfPin)) → Found x
        by x m =
            let r = map-among pin_model x (of OfPin) m in
            let n : Note = r.0 in
            let own = in-of OfPin n r.1 in
            let kind : n.kind ≡ OfPin = kind-is OfPin (entry_of n) own.0 in
            let names : n.names ≡ word 2 (words n.text) = (subst (Own n) kind (every-at Fine ns n fine own.1).own).1 in
            let there : (needs_no_model n.names || named is_model_or_selector n.names all) ≡ true = sym (ap (is_found all (entry_of n)) kind) ∙ passing (found all) h n own.1 in
            let model : x ≡ name_laid (kept_model n.names) = r.2 ∙ ap (λ (w : List ℕ). name_laid (kept_model w)) (sym names) in
            subst Found (sym model)
            (by-test (needs_no_model n.names)
            (λ t. inl (reserved n.names t))
            (λ t.
            let same : name_laid n.names ≡ name_laid (kept_model n.names) = ap name_laid (sym (kept_same n.names t)) in
            let e = named_some is_model_or_selector n.names all (subst (λ (b : Bool). (b || named is_model_or_selector n.names all) ≡ true) t there) in
            subst Found same
            (⊎_elim
            (λ z. inr (inl (named_table OfModel n.names e.0 e.1 z e.3)))
            (λ z. inr (inr (named_table OfSelector n.names e.0 e.1 z e.3)))
            (or_split (is OfModel e.0) (is OfSelector e.0) e.2))))

    pub choices-found : Every (λ (x : Name). Among x (map note_name (of OfModel))) (map choice_model (of OfChoice))
    choices-found = every_in (λ (x : Name). Among x (map note_name (of OfModel))) (map choice_model (of OfChoice)) by
      where
        by : (x : Name) → Among x (map choice_model (of OfChoice)) → Among x (map note_name (of OfModel))
        by x m =
            let r = map-among choice_model x (of OfChoice) m in
            let n : Note = r.0 in
            let own = in-of OfChoice n r.1 in
            let kind : n.kind ≡ OfChoice = kind-is OfChoice (entry_of n) own.0 in
            let names : n.names ≡ word 0 (words n.text) = (subst (Own n) kind (every-at Fine ns n fine own.1).own).1 in
            let there : named (is OfModel) n.names all ≡ true = sym (ap (is_found all (entry_of n)) kind) ∙ passing (found all) h n own.1 in
            let e = named_some (is OfModel) n.names all there in
            subst (λ (y : Name). Among y (map note_name (of OfModel))) (sym (r.2 ∙ ap name_laid (sym names)))
            (named_table OfModel n.names e.0 e.1 e.2 e.3)

  -- ---- listed

  -- a model's or selector's name that an entry names is in the table of those rows
  named-by-pin : (n : Note) → needs_no_model n.name ≡ false → lists (is OfPin) n.name all ≡ true → Among (note_name n) (map pin_model (of OfPin))
  named-by-pin n free h =
      let e = lists-some (is OfPin) n.name all h in
      let r = note-of e.0 e.1 in
      let pin : is_of OfPin r.0 ≡ true = ap (is OfPin) (sym r.2) ∙ e.2 in
      let kind : r.0.kind ≡ OfPin = kind-is OfPin (entry_of r.0) pin in
      let names : r.0.names ≡ word 2 (words r.0.text) = (subst (Own r.0) kind (every-at Fine ns r.0 fine r.1).own).1 in
      let same : n.name ≡ word 2 (words r.0.text) = e.3 ∙ ap (λ (y : Entry). y.names) r.2 ∙ names in
      subst (λ (y : Name). Among y (map pin_model (of OfPin))) (ap (λ (w : List ℕ). name_laid (kept_model w)) (sym same) ∙ ap name_laid (kept_same n.name free))
      (among-map pin_model r.0 (of OfPin) (of-in OfPin r.0 pin r.1))

  named-by-choice : (n : Note) → lists (is OfChoice) n.name all ≡ true → Among (note_name n) (map choice_model (of OfChoice))
  named-by-choice n h =
      let e = lists-some (is OfChoice) n.name all h in
      let r = note-of e.0 e.1 in
      let choice : is_of OfChoice r.0 ≡ true = ap (is OfChoice) (sym r.2) ∙ e.2 in
      let kind : r.0.kind ≡ OfChoice = kind-is OfChoice (entry_of r.0) choice in
      let names : r.0.names ≡ word 0 (words r.0.text) = (subst (Own r.0) kind (every-at Fine ns r.0 fine r.1).own).1 in
      let same : n.name ≡ word 0 (words r.0.text) = e.3 ∙ ap (λ (y : Entry). y.names) r.2 ∙ names in
      subst (λ (y : Name). Among y (map choice_model (of OfChoice))) (ap name_laid (sym same))
      (among-map choice_model r.0 (of OfChoice) (of-in OfChoice r.0 choice r.1))

  module _ (h : first_failing (listed_in all) all ≡ 0) where
    pub models-listed : Every Listed (map note_name (of OfModel))
    models-listed = every_in Listed (map note_name (of OfModel)) by
      where
        by : (x : Name) → Among x (map note_name (of OfModel)) → Listed x
        by x m =
            let r = map-among note_name x (of OfModel) m in
            let n : Note = r.0 in
            let own = in-of OfModel n r.1 in
            let kind : n.kind ≡ OfModel = kind-is OfModel (entry_of n) own.0 in
            let free : needs_no_model n.name ≡ false = subst (Own n) kind (every-at Fine ns n fine own.1).own in
            let there : (lists (is OfPin) n.name all || lists (is OfChoice) n.name all) ≡ true = sym (ap (is_listed all (entry_of n)) kind) ∙ passing (listed_in all) h n own.1 in
            subst Listed (sym r.2)
            (⊎_elim (λ t. inl (named-by-pin n free t)) (λ t. inr (named-by-choice n t)) (or_split (lists (is OfPin) n.name all) (lists (is OfChoice) n.name all) there))

    pub selectors-listed : Every (λ (x : Name). Among x (map pin_model (of OfPin))) (map note_name (of OfSelector))
    selectors-listed = every_in (λ (x : Name). Among x (map pin_model (of OfPin))) (map note_name (of OfSelector)) by
      where
        by : (x : Name) → Among x (map note_name (of OfSelector)) → Among x (map pin_model (of OfPin))
        by x m =
            let r = map-among note_name x (of OfSelector) m in
            let n : Note = r.0 in
            let own = in-of OfSelector n r.1 in
            let kind : n.kind ≡ OfSelector = kind-is OfSelector (entry_of n) own.0 in
            let free : needs_no_model n.name ≡ false = subst (Own n) kind (every-at Fine ns n fine own.1).own in
            let there : lists (is OfPin) n.name all ≡ true = sym (ap (is_listed all (entry_of n)) kind) ∙ passing (listed_in all) h n own.1 in
            subst (λ (y : Name). Among y (map pin_model (of OfPin))) (sym r.2) (named-by-pin n free there)

-- ---- no name is used twice

clash-parts : (e : Entry) (u : Bool) (c : Option ℕ) → or_used e u c ≡ None → (c ≡ None) × (u ≡ false)
clash-parts e u (Some k) h = impossible (cc)
clash-parts e true None h = impossible (cc)
clash-parts e false None h = (refl, refl)

clash-split : (e : Entry) (es : List Entry) → clash (e ∷ es) ≡ None → (clash es ≡ None) × (is_used e.kind e.name es ≡ false)
unfolding clash
clash-split e es h = clash-parts e (is_used e.kind e.name es) (clash es) h

-- the names of kind k are looked for among those that pass p
module _ (k : Kind) (p : Entry → Bool) (used : (x : List ℕ) (es : List Entry) → is_used k x es ≡ named p x es) where
  -- a note that passes p, among those before, has another name
  name-apart : (n : Note) (ns : List Note) → is_of k n ≡ true → is_used n.kind n.name (map entry_of ns) ≡ false
      → (m : Note) → Among m ns → p (entry_of m) ≡ true → n.name ≡ m.name → ⊥
  name-apart n ns t u m x q e =
      never (named p n.name (map entry_of ns))
      (named_in p n.name (entry_of m) (map entry_of ns) (among-map entry_of m ns x) q e)
      (sym (used n.name (map entry_of ns)) ∙ sym (ap (λ (y : Kind). is_used y n.name (map entry_of ns)) (kind-is k (entry_of n) t)) ∙ u)

  unique-pick : ((e : Entry) → is k e ≡ true → p e ≡ true) → (ns : List Note) → Every Fine ns → clash (map entry_of ns) ≡ None → Unique (map note_name (pick (is_of k) ns))
  unfolding pick
  unique-pick own [] fine h = tt
  unique-pick own (n ∷ ns) fine h =
      let c = clash-split (entry_of n) (map entry_of ns) h in
      let rest = unique-pick own ns fine.1 c.0 in
      let more : List Note = pick (is_of k) ns in
      by-test (is_of k n)
      (λ t.
      subst (λ (l : List Note). Unique (map note_name l)) (sym (cond_yes (n ∷ more) more t)) (
        λ x.
            let r = map-among note_name (note_name n) more x in
            let m = pick-among (is_of k) r.0 ns r.1 in
            name-apart n ns t c.1 r.0 m.1 (own (entry_of r.0) m.0)
            (name-same n.name r.0.name fine.0.fits (every-at Fine ns r.0 fine.1 m.1).fits r.2),
        rest,
      ))
      (λ t. subst (λ (l : List Note). Unique (map note_name l)) (sym (cond_no (n ∷ more) more t)) rest)

unique-latest : (f : Note → Name) (l : List Note) → Unique (map f l) → Unique (map f (reverse l))
unique-latest f [] u = tt
unique-latest f (a ∷ l) u =
    subst Unique (latest-last f a l)
    (unique-last (map f (reverse l)) (f a) (unique-latest f l u.1)
    (λ x. let r = map-among f (f a) (reverse l) x in u.0 (subst (λ (y : Name). Among y (map f l)) (sym r.2) (among-map f r.0 l (reverse-among r.0 l r.1)))))

-- a model and a selector
module _ (ns : List Note) where
  both-differ : Every Fine ns → clash (map entry_of ns) ≡ None → (a b : Note) → Among a ns → Among b ns → is_of OfModel a ≡ true → is_of OfSelector b ≡ true → a.name ≡ b.name → ⊥
  both-differ fine h a b x y s t e = by ns h x y
    where
      by : (l : List Note) → clash (map entry_of l) ≡ None → Among a l → Among b l → ⊥
      by [] c u v = u
      by (n ∷ l) c (inl i) (inl j) =
          let same : OfModel ≡ OfSelector = sym (kind-is OfModel (entry_of a) s) ∙ ap (λ (z : Note). z.kind) (i ∙ sym j) ∙ kind-is OfSelector (entry_of b) t in
          impossible (cc)
      by (n ∷ l) c (inl i) (inr v) =
          name-apart OfModel is_model_or_selector (λ z es. refl) n l (ap (is_of OfModel) (sym i) ∙ s) (clash-split (entry_of n) (map entry_of l) c).1 b v
          (or-second (is OfModel (entry_of b)) (is OfSelector (entry_of b)) t)
          (ap (λ (z : Note). z.name) (sym i) ∙ e)
      by (n ∷ l) c (inr u) (inl j) =
          name-apart OfSelector is_model_or_selector (λ z es. refl) n l (ap (is_of OfSelector) (sym j) ∙ t) (clash-split (entry_of n) (map entry_of l) c).1 a u
          (or-first (is OfModel (entry_of a)) (is OfSelector (entry_of a)) s)
          (ap (λ (z : Note). z.name) (sym j) ∙ sym e)
      by (n ∷ l) c (inr u) (inr v) = by l (clash-split (entry_of n) (map entry_of l) c).0 u v

module _ (ns : List Note) (fine : Every Fine ns) (h : clash (map entry_of ns) ≡ None) where
  pub components-unique : Unique (map note_name (of ns fine OfComponent))
  components-unique = unique-latest note_name (pick (is_of OfComponent) ns) (unique-pick OfComponent (is OfComponent) (λ x es. refl) (λ e t. t) ns fine h)

  pub models-unique : Unique (map note_name (of ns fine OfModel))
  models-unique = unique-latest note_name (pick (is_of OfModel) ns) (unique-pick OfModel is_model_or_selector (λ x es. refl) (λ e t. or-first (is OfModel e) (is OfSelector e) t) ns fine h)

  pub selectors-unique : Unique (map note_name (of ns fine OfSelector))
  selectors-unique = unique-latest note_name (pick (is_of OfSelector) ns) (unique-pick OfSelector is_model_or_selector (λ x es. refl) (λ e t. or-second (is OfModel e) (is OfSelector e) t) ns fine h)

  pub together-unique : Every (λ (x : Name). Among x (map note_name (of ns fine OfModel)) → ⊥) (map note_name (of ns fine OfSelector))
  together-unique =
      every_in (λ (x : Name). Among x (map note_name (of ns fine OfModel)) → ⊥) (map note_name (of ns fine OfSelector))
      (λ x m z.
      let r = map-among note_name x (of ns fine OfSelector) m in
      let q = map-among note_name x (of ns fine OfModel) z in
      let s = in-of ns fine OfSelector r.0 r.1 in
      let t = in-of ns fine OfModel q.0 q.1 in
      both-differ ns fine h q.0 r.0 t.1 s.1 t.0 s.0
      (name-same q.0.name r.0.name (every-at Fine ns q.0 fine t.1).fits (every-at Fine ns r.0 fine s.1).fits (sym q.2 ∙ r.2)))
