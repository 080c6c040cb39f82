-- The place that the code finds among a table's words stands for the meaning, over any table: what a line of a name and a word says, and its fault.
use Rattle.std.specs.Prelude.{Result, Ok, Err, Option, None, Some}
use Prim.Native.Nat.{ℕ, zero, suc, ◌+◌, ◌≤◌, ◌<◌}
use mathlib.Core.Path.{◌≡◌, refl, sym, ap, ◌∙◌}
use mathlib.Core.List.{List, [], ◌∷◌}
use native.Mathlib.Omega.{arith}
use lib.ListN.{length, drop}
use Rattle.laws.specs.Bytes.{is_blank}
use Rattle.laws.specs.Lists.{front, part}
use Rattle.laws.specs.Said.{or_fault}
use Rattle.laws.proofs.Tests.{by_order, impossible}
use Rattle.words.specs.Words.{words, grown, onto_word}
use Rattle.words.specs.Places.{WordAt}
use Rattle.words.specs.declared.Word.{Word}
use Rattle.name_table.specs.Names.{Naming, place_from}
use Rattle.name_table.specs.Places.{names_of, meaning_at, meaning_of}
use Rattle.name_table.specs.Listed.{names_in}
use Rattle.name_table.specs.declared.NameList.{NameList}
use Rattle.name_table.specs.declared.NameList.TheVariants.{Polarities, Enables}
use Rattle.name_table.proofs.Laws.{meaning-place, meaning-past, stands_at}
use Rattle.records.specs.Flaws.{Reads, flaw_in, told, told_in, bare, at_place, line_fault_in}
use Rattle.records.specs.declared.LineFault.{LineFault}
use Rattle.records.specs.declared.Polarity.{Polarity}
use Rattle.records.specs.declared.Enable.{Enable}
use Rattle.records.proofs.Columns.{Columns, told-fault}
use Rattle.line_rules.specs.Fields.{ended, alone, word_in, word_line}
use Rattle.line_rules.specs.Tables.{polarities, enables}
use Rattle.line_rules.proofs.Alike.{Alike, alike-line}
use Rattle.line_rules.proofs.Says.{Says}
use Rattle.line_rules.proofs.Fair.{Fair, alone-fair, behind-fair}
use Rattle.line_rules.proofs.Told.{ten-at, ended-none, ended_some, alone-wrong, alone-right}
use Rattle.named_lines.specs.Views.{place_said, place_in, place_line}

-- ---- a word alone, by its place in a list

said-columns : (f : Option ℕ) → Columns (place_said f)
said-columns None = (omega arith, omega arith)
said-columns (Some k) = tt

module _ (list : NameList) (s : List ℕ) (at : ℕ) (r : Word) (h : WordAt s at r) {f : Option ℕ} (e : f ≡ place_from 0 (part r.start r.end s) (names_in list)) where
  place-said : {g : Option ℕ} → f ≡ g → place_in list (part r.start r.end s) ≡ place_said g
  unfolding place_in
  place-said q = ap place_said (sym e ∙ q)

  columned : Columns (place_in list (part r.start r.end s))
  unfolding place_in
  columned = said-columns (place_from 0 (part r.start r.end s) (names_in list))

  pub listed-wrong : f ≡ None → told_in s (alone (place_in list) (drop at s)) ≡ Err (at_place 10 r.start)
  listed-wrong q = alone-wrong (place_in list) s at r h columned (place-said q)

  module _ {k : ℕ} (q : f ≡ Some k) (p : ℕ) (n : p ≡ r.end + length (front is_blank (drop r.end s))) where
    listed-right : told_in s (alone (place_in list) (drop at s)) ≡ told_in s (ended k (drop p s))
    listed-right = alone-right (place_in list) s at r h columned p (place-said q) n

    pub listed_more : p < length s → told_in s (alone (place_in list) (drop at s)) ≡ Err (at_place 10 p)
    listed_more l = listed-right ∙ ap (told_in s) (ended_some k s p l) ∙ ap Err (ten-at s p (omega arith))

    pub listed-alone : length s ≤ p → told_in s (alone (place_in list) (drop at s)) ≡ Ok k
    listed-alone l = listed-right ∙ ap (told_in s) (ended-none k s p l)

-- what the answer tells
abbrev listed_fault : Result ℕ LineFault → LineFault
listed_fault (Ok k) = bare 0
listed_fault (Err f) = f

listed_back : (x : Result ℕ LineFault) → listed_fault x ≡ line_fault_in x
listed_back (Ok k) = refl
listed_back (Err f) = refl

pub listed-told : (w : List ℕ) (x : Reads ℕ) {r a : Result ℕ LineFault} → r ≡ told_in w x → r ≡ a → listed_fault a ≡ told w (flaw_in x)
listed-told w x e q = ap listed_fault (sym q ∙ e) ∙ listed_back (told_in w x) ∙ told-fault w x

-- ---- a place and what it means

abbrev Means : {A : Type 0} → List (Naming A) → ℕ → A → Type 0
Means es k a = meaning_at es k ≡ Some a

abbrev Given : {A : Type 0} → Option A → Type 0
Given None = ⊥
Given (Some a) = Unit {0}

given-within : {A : Type 0} (es : List (Naming A)) (k : ℕ) → k < length es → Given (meaning_at es k)
unfolding meaning_at
given-within [] k h = absurd (omega arith)
given-within (e ∷ es) zero h = tt
given-within (e ∷ es) (suc k) h = given-within es k (omega arith)

names-length : {A : Type 0} (es : List (Naming A)) → length (names_of es) ≡ length es
unfolding names_of
names-length [] = refl
names-length (e ∷ es) = ap suc (names-length es)

or-alike : {A : Type 0} (es : List (Naming A)) (k : ℕ) (o : Option A) → Given o → meaning_at es k ≡ o → Alike {F = ℕ} (Means es) (Ok k) (or_fault 10 o)
or-alike es k None g q = absurd g
or-alike es k (Some a) g q = q

found_alike : {A : Type 0} (es : List (Naming A)) (v : List ℕ) (f : Option ℕ) → place_from 0 v (names_of es) ≡ f → Alike {F = ℕ} (Means es) (place_said f) (or_fault 10 (meaning_of es f))
unfolding meaning_of
found_alike es v None q = refl
found_alike es v (Some k) q =
    or-alike es k (meaning_at es k) (given-within es k (omega (arith, (stands_at v (names_of es) k q).0, names-length es))) refl

module _ {A : Type 0} (es : List (Naming A)) (list : NameList) (names : names_in list ≡ names_of es) where
  place-alike : (v : List ℕ) → Alike (Means es) (place_in list v) (word_in es v)
  unfolding place_in word_in
  place-alike v =
      rw (names, meaning-place v es) (found_alike es v (place_from 0 v (names_of es)) refl)

  line-alike : (w : List ℕ) → Alike (Means es) (place_line list w) (word_line es w)
  unfolding place_line word_line
  line-alike w = alike-line (Means es) (place_in list) (word_in es) place-alike w

-- ---- what the code's answer says of the line

-- it says something of which P holds
abbrev Sure : {A : Type 0} → (A → Type 0) → Reads A → Type 0
Sure P (Ok a) = P a
Sure P (Err f) = ⊥

module _ {A : Type 0} (es : List (Naming A)) where
  alike-flaw : (x : Reads ℕ) (y : Reads A) → Alike (Means es) x y → flaw_in x ≡ flaw_in y
  alike-flaw (Ok k) (Ok a) h = refl
  alike-flaw (Err f) (Err g) h = h
  alike-flaw (Ok k) (Err g) h = absurd h
  alike-flaw (Err f) (Ok a) h = absurd h

  alike-fault : (w : List ℕ) (x : Reads ℕ) (y : Reads A) {f : LineFault} → Alike (Means es) x y → Err f ≡ told_in w x → told_in w y ≡ Err f
  alike-fault w (Err g) (Err i) {f} h q = let e : told w g ≡ told w i = ap (told w) h in let k : f ≡ told w g = cc in ap Err (sym (k ∙ e))
  alike-fault w (Ok k) y h q = impossible cc
  alike-fault w (Err f) (Ok a) h q = absurd h

  alike-sure : (w : List ℕ) (x : Reads ℕ) (y : Reads A) {k : ℕ} → Alike (Means es) x y → Ok k ≡ told_in w x → Sure (Means es k) y
  alike-sure w (Ok j) (Ok a) {k} h q = let e : k ≡ j = cc in ap (meaning_at es) e ∙ h
  alike-sure w (Err f) y h q = impossible cc
  alike-sure w (Ok j) (Err g) h q = absurd h

  alike-says : (P : A → Type 0) (x : Reads ℕ) (y : Reads A) → Alike (Means es) x y → ((k : ℕ) (a : A) → Means es k a → P a) → Says P y
  alike-says P (Ok k) (Ok a) h f = f k a h
  alike-says P (Ok k) (Err g) h f = tt
  alike-says P (Err g) (Ok a) h f = absurd h
  alike-says P (Err g) (Err i) h f = tt

  sure-within : (k : ℕ) (y : Reads A) → Sure (Means es k) y → k < length es
  sure-within k (Ok a) h = by_order (length es) k (λ l. nothing (sym (meaning-past es k l) ∙ h)) (λ l. l)
    where
      nothing : {X : Type 0} → None ≡ Some a → X
      nothing q = impossible cc
  sure-within k (Err f) h = absurd h

  sure-means : (k : ℕ) {a : A} (y : Reads A) → Sure (Means es k) y → Some a ≡ meaning_at es k → y ≡ Ok a
  sure-means k {a} (Ok b) h q = let e : Some a ≡ Some b = q ∙ h in cc
  sure-means k (Err f) h q = absurd h

module _ {A : Type 0} (es : List (Naming A)) (list : NameList) (names : names_in list ≡ names_of es) (w : List ℕ) where
  pub line-flaw : flaw_in (place_line list w) ≡ flaw_in (word_line es w)
  line-flaw = alike-flaw es (place_line list w) (word_line es w) (line-alike es list names w)

  pub line-says : (P : A → Type 0) → ((k : ℕ) (a : A) → Means es k a → P a) → Says P (word_line es w)
  line-says P f = alike-says es P (place_line list w) (word_line es w) (line-alike es list names w) f

  module _ {r : Result ℕ LineFault} (e : r ≡ told_in w (place_line list w)) where
    pub line-fault : {f : LineFault} → r ≡ Err f → told_in w (word_line es w) ≡ Err f
    line-fault q = alike-fault es w (place_line list w) (word_line es w) (line-alike es list names w) (sym q ∙ e)

    sure : {k : ℕ} → r ≡ Ok k → Sure (Means es k) (word_line es w)
    sure q = alike-sure es w (place_line list w) (word_line es w) (line-alike es list names w) (sym q ∙ e)

    pub line-within : {k : ℕ} → r ≡ Ok k → k < length es
    line-within {k} q = sure-within es k (word_line es w) (sure q)

    pub line-means : {k : ℕ} {a : A} → r ≡ Ok k → Some a ≡ meaning_at es k → word_line es w ≡ Ok a
    line-means {k} q m = sure-means es k (word_line es w) (sure q) m

-- ---- the word is fair

pub place-fair : (list : NameList) (w : List ℕ) → Fair (place_line list w)
unfolding place_line place_in
place-fair list w = behind-fair (alone (place_in list)) (alone-fair (place_in list) (λ v. said-columns (place_from 0 v (names_in list)))) w

-- ---- Polarity and Enable say none of the words for an absent line

pub polarity-given : (w : List ℕ) → Says (λ (p : Option Polarity). p ≡ None → ⊥) (word_line polarities w)
unfolding words grown onto_word is_blank names_of polarities meaning_at
polarity-given w = line-says polarities Polarities refl w _ given
  where
    given : (k : ℕ) (p : Option Polarity) → meaning_at polarities k ≡ Some p → p ≡ None → ⊥
    given zero p h q = let z : ◌≡◌ {A = ℕ} 0 1 = cc in absurd (omega arith)
    given (suc zero) p h q = let z : ◌≡◌ {A = ℕ} 0 1 = cc in absurd (omega arith)
    given (suc (suc k)) p h q = let z : ◌≡◌ {A = ℕ} 0 1 = cc in absurd (omega arith)

pub enable-given : (w : List ℕ) → Says (λ (e : Option Enable). e ≡ None → ⊥) (word_line enables w)
unfolding words grown onto_word is_blank names_of enables meaning_at
enable-given w = line-says enables Enables refl w _ given
  where
    given : (k : ℕ) (e : Option Enable) → meaning_at enables k ≡ Some e → e ≡ None → ⊥
    given zero e h q = let z : ◌≡◌ {A = ℕ} 0 1 = cc in absurd (omega arith)
    given (suc zero) e h q = let z : ◌≡◌ {A = ℕ} 0 1 = cc in absurd (omega arith)
    given (suc (suc k)) e h q = let z : ◌≡◌ {A = ℕ} 0 1 = cc in absurd (omega arith)
