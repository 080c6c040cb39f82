-- Keywords by name and by case: a text has a keyword exactly if its name is that keyword's spelling.
use Rattle.std.specs.Prelude.{Option, None, Some}
use Prim.Native.Nat.{ℕ}
use Prim.Native.String.{String}
use mathlib.Core.Path.{◌≡◌, refl, sym, ap, ◌∙◌}
use mathlib.Core.List.{List, [], ◌∷◌, ◌++◌}
use mathlib.Core.Bool.{Bool, false, cond, not, ◌&&◌}
use Rattle.laws.specs.Bytes.{bytes, is_blank}
use Rattle.laws.specs.Lists.{eqs, front, one_of}
use Rattle.laws.specs.Said.{or_fault}
use Rattle.laws.proofs.Tests.{by-test, cond_yes, cond_no, cond_map, impossible}
use Rattle.laws.proofs.Same.{eqs-eq}
use Rattle.words.specs.Words.{word, words, grown, onto_word}
use Rattle.name_table.specs.Names.{meaning}
use Rattle.keywords.specs.Form.{inside, is_formed, spelled}
use Rattle.keywords.specs.Carried.{carried, key_of}
use Rattle.keywords.specs.declared.Keyword.{Keyword}
use Rattle.keywords.specs.declared.Keyword.TheVariants.{IbisVer, InHeader, Opens, InComponent, InModel, End}
use Rattle.keywords.specs.declared.HeaderPart.TheVariants.{FileName, FileRev, FreeText}
use Rattle.keywords.specs.declared.HeaderText.TheVariants.{Date, Source, Notes, Disclaimer, Copyright}
use Rattle.keywords.specs.declared.Section.TheVariants.{Component, Selector, Model}
use Rattle.keywords.specs.declared.ComponentPart.TheVariants.{Manufacturer, Package, Pin}
use Rattle.keywords.specs.declared.ModelPart.TheVariants.{VoltageRange, TemperatureRange, Current, Ramp, Waveform}
use Rattle.keywords.specs.declared.CurrentTable.TheVariants.{Pulldown, Pullup, GndClamp, PowerClamp}
use Rattle.keywords.proofs.Spelling.{spelling, spelling-known, spelled-known}
use Rattle.records.specs.declared.Edge.TheVariants.{Rising, Falling}
use Rattle.cut_lines.specs.Texts.{Text, plain, change}
use Rattle.line_rules.specs.Fields.{is_bracketed}
use Rattle.rules.specs.Reading.{key_name, is_key, argument_at, under, lines_under, key_says, is_within, SectionIs, component, selector, model, sections_in}
use Rattle.rules.specs.Keys.{key_in, key_at, opens, is_end, onto_sections}

-- ---- a property of all keywords is one of each spelling

module _ (P : Keyword → Type 0) where
  pub each-keyword : P IbisVer → P (InHeader FileName) → P (InHeader FileRev)
      → P (InHeader (FreeText Date)) → P (InHeader (FreeText Source)) → P (InHeader (FreeText Notes)) → P (InHeader (FreeText Disclaimer)) → P (InHeader (FreeText Copyright))
      → P (Opens Component) → P (Opens Selector) → P (Opens Model)
      → P (InComponent Manufacturer) → P (InComponent Package) → P (InComponent Pin)
      → P (InModel VoltageRange) → P (InModel TemperatureRange)
      → P (InModel (Current Pulldown)) → P (InModel (Current Pullup)) → P (InModel (Current GndClamp)) → P (InModel (Current PowerClamp)) → P (InModel Ramp)
      → P (InModel (Waveform Rising)) → P (InModel (Waveform Falling)) → P End
      → (k : Keyword) → P k
  each-keyword a b c d e f g h i j k l m n o p q r s t u v w x IbisVer = a
  each-keyword a b c d e f g h i j k l m n o p q r s t u v w x (InHeader FileName) = b
  each-keyword a b c d e f g h i j k l m n o p q r s t u v w x (InHeader FileRev) = c
  each-keyword a b c d e f g h i j k l m n o p q r s t u v w x (InHeader (FreeText Date)) = d
  each-keyword a b c d e f g h i j k l m n o p q r s t u v w x (InHeader (FreeText Source)) = e
  each-keyword a b c d e f g h i j k l m n o p q r s t u v w x (InHeader (FreeText Notes)) = f
  each-keyword a b c d e f g h i j k l m n o p q r s t u v w x (InHeader (FreeText Disclaimer)) = g
  each-keyword a b c d e f g h i j k l m n o p q r s t u v w x (InHeader (FreeText Copyright)) = h
  each-keyword a b c d e f g h i j k l m n o p q r s t u v w x (Opens Component) = i
  each-keyword a b c d e f g h i j k l m n o p q r s t u v w x (Opens Selector) = j
  each-keyword a b c d e f g h i j k l m n o p q r s t u v w x (Opens Model) = k
  each-keyword a b c d e f g h i j k l m n o p q r s t u v w x (InComponent Manufacturer) = l
  each-keyword a b c d e f g h i j k l m n o p q r s t u v w x (InComponent Package) = m
  each-keyword a b c d e f g h i j k l m n o p q r s t u v w x (InComponent Pin) = n
  each-keyword a b c d e f g h i j k l m n o p q r s t u v w x (InModel VoltageRange) = o
  each-keyword a b c d e f g h i j k l m n o p q r s t u v w x (InModel TemperatureRange) = p
  each-keyword a b c d e f g h i j k l m n o p q r s t u v w x (InModel (Current Pulldown)) = q
  each-keyword a b c d e f g h i j k l m n o p q r s t u v w x (InModel (Current Pullup)) = r
  each-keyword a b c d e f g h i j k l m n o p q r s t u v w x (InModel (Current GndClamp)) = s
  each-keyword a b c d e f g h i j k l m n o p q r s t u v w x (InModel (Current PowerClamp)) = t
  each-keyword a b c d e f g h i j k l m n o p q r s t u v w x (InModel Ramp) = u
  each-keyword a b c d e f g h i j k l m n o p q r s t u v w x (InModel (Waveform Rising)) = v
  each-keyword a b c d e f g h i j k l m n o p q r s t u v w x (InModel (Waveform Falling)) = w
  each-keyword a b c d e f g h i j k l m n o p q r s t u v w x End = x

-- ---- a keyword line is one that is bracketed and well formed

key_in_lem : (n : ℕ) (x : Option Keyword) → key_in (or_fault n x) ≡ x
key_in_lem n None = refl
key_in_lem n (Some k) = refl

is_keyed : List ℕ → Bool
is_keyed w = is_bracketed w && is_formed w

key-open : (j : ℕ) (w : List ℕ) → key_at (plain j w) ≡ cond (is_keyed w) (meaning (spelled (inside w)) carried) None
unfolding key_of is_keyed
key-open j w =
    by-test (is_bracketed w)
    (λ b. by-test (is_formed w) (λ f. rw (b, f) (key_in_lem _ _)) (λ f. rw (b, f)))
    (λ b. rw b)

some-none : {A : Type 0} {X : Type 0} (a : A) → Some a ≡ None → X
some-none a e = let z : ◌≡◌ {A = ℕ} 0 1 = cc in impossible z

pub key-named : (t : Text) (k : Keyword) → key_at t ≡ Some k → key_name t ≡ bytes (spelling k)
unfolding is_keyed
key-named (plain j w) k e =
    by-test (is_keyed w)
    (λ b. cond_yes _ _ b ∙ spelled-known _ k (sym (cond_yes _ _ b) ∙ sym (key-open j w) ∙ e))
    (λ b. some-none k (sym e ∙ key-open j w ∙ cond_no _ _ b))
key-named (change j n) k e = some-none k (sym e)

spelling-some : (k : Keyword) → eqs [] (bytes (spelling k)) ≡ false
unfolding eqs
spelling-some = each-keyword _ refl refl refl refl refl refl refl refl refl refl refl refl refl refl refl refl refl refl refl refl refl refl refl refl

-- a text without a keyword has no keyword's name
pub key-unnamed : (t : Text) (k : Keyword) → key_at t ≡ None → is_key (spelling k) t ≡ false
unfolding is_keyed
key-unnamed (plain j w) k e =
    by-test (is_keyed w)
    (λ b.
    by-test (eqs (spelled (inside w)) (bytes (spelling k)))
    (λ q.
    let known : meaning (spelled (inside w)) carried ≡ Some k = ap (λ (x : List ℕ). meaning x carried) (eqs-eq _ _ q) ∙ spelling-known k in
    some-none k (sym known ∙ sym (cond_yes _ _ b) ∙ sym (key-open j w) ∙ e))
    (λ q. ap (λ (x : List ℕ). eqs x (bytes (spelling k))) (cond_yes _ _ b) ∙ q))
    (λ b. ap (λ (x : List ℕ). eqs x (bytes (spelling k))) (cond_no _ _ b) ∙ spelling-some k)
key-unnamed (change j n) k e = spelling-some k

-- a text's name, as one of a list of names
pub key-one_of : (t : Text) (k : Keyword) (names : List (List ℕ)) → key_at t ≡ Some k → one_of (key_name t) names ≡ one_of (bytes (spelling k)) names
key-one_of t k names e = ap (λ (x : List ℕ). one_of x names) (key-named t k e)

pub key-is : (t : Text) (k : Keyword) (name : String) → key_at t ≡ Some k → is_key name t ≡ eqs (bytes (spelling k)) (bytes name)
key-is t k name e = ap (λ (x : List ℕ). eqs x (bytes name)) (key-named t k e)

-- ---- the end of a section, and what a keyword opens

abbrev bounds : List (List ℕ)
bounds = words (bytes "component model_selector model end")

spelling-within : (k : Keyword) → one_of (bytes (spelling k)) bounds ≡ is_end (Some k)
unfolding one_of eqs words grown onto_word is_blank
spelling-within = each-keyword _ refl refl refl refl refl refl refl refl refl refl refl refl refl refl refl refl refl refl refl refl refl refl refl refl

-- none of the names in a list of keywords' spellings
abbrev pub are_spellings : List Keyword → List (List ℕ)
are_spellings [] = []
are_spellings (k ∷ ks) = bytes (spelling k) ∷ are_spellings ks

pub none-of-spellings : (t : Text) (ks : List Keyword) → key_at t ≡ None → one_of (key_name t) (are_spellings ks) ≡ false
unfolding one_of
none-of-spellings t [] e = refl
none-of-spellings t (k ∷ ks) e = rw (key-unnamed t k e) (none-of-spellings t ks e)

bounds-are : bounds ≡ are_spellings (Opens Component ∷ Opens Selector ∷ Opens Model ∷ End ∷ [])
unfolding words grown onto_word is_blank
bounds-are = refl

within_by : (t : Text) (x : Option Keyword) → key_at t ≡ x → is_within t ≡ not (is_end x)
within_by t None e = ap not (ap (one_of (key_name t)) bounds-are ∙ none-of-spellings t (Opens Component ∷ Opens Selector ∷ Opens Model ∷ End ∷ []) e)
within_by t (Some k) e = ap not (key-one_of t k bounds e ∙ spelling-within k)

pub within-key : (t : Text) → is_within t ≡ not (is_end (key_at t))
within-key t = within_by t (key_at t) refl

-- ---- a section more, by its keyword

abbrev by_name : List ℕ → List ℕ → List Text → List SectionIs → List SectionIs
by_name name w ts more =
    cond (eqs name (bytes "component")) (component w ts ∷ more)
    (cond (eqs name (bytes "model_selector")) (selector (word 0 (words w)) ts ∷ more)
    (cond (eqs name (bytes "model")) (model (word 0 (words w)) ts ∷ more) more))

spelling-opens : (w : List ℕ) (ts : List Text) (more : List SectionIs) (k : Keyword) → by_name (bytes (spelling k)) w ts more ≡ onto_sections w ts more (opens (Some k))
unfolding eqs
spelling-opens w ts more = each-keyword _ refl refl refl refl refl refl refl refl refl refl refl refl refl refl refl refl refl refl refl refl refl refl refl refl

section-by : (t : Text) (ts : List Text) (x : Option Keyword) → key_at t ≡ x
    → sections_in (t ∷ ts) ≡ onto_sections (argument_at t) (front is_within ts) (sections_in ts) (opens x)
unfolding sections_in
section-by t ts None e =
    rw (key-unnamed t (Opens Component) e, key-unnamed t (Opens Selector) e, key-unnamed t (Opens Model) e)
section-by t ts (Some k) e =
    ap (λ (x : List ℕ). by_name x (argument_at t) (front is_within ts) (sections_in ts)) (key-named t k e) ∙ spelling-opens _ _ _ k

pub section-at : (t : Text) (ts : List Text)
    → sections_in (t ∷ ts) ≡ onto_sections (argument_at t) (front is_within ts) (sections_in ts) (opens (key_at t))
section-at t ts = section-by t ts (key_at t) refl

-- ---- what is read by name, a text more: of a text without a keyword nothing, else by its keyword

module _ {A : Type 0} (read : List ℕ → List (List ℕ) → A) (x : A) (t : Text) (ts : List Text) where
  pub says-skip : (k : Keyword) → key_at t ≡ None → key_says (spelling k) read x (t ∷ ts) ≡ key_says (spelling k) read x ts
  unfolding key_says
  says-skip k e = rw (key-unnamed t k e)

  pub says-key : (name : String) (k : Keyword) → key_at t ≡ Some k
      → key_says name read x (t ∷ ts) ≡ key_says name read (cond (eqs (bytes (spelling k)) (bytes name)) (read (argument_at t) (under ts)) x) ts
  unfolding key_says
  says-key name k e = rw (key-is t k name e)

module _ (t : Text) (ts : List Text) where
  pub lines-skip : (k : Keyword) → key_at t ≡ None → lines_under (spelling k) (t ∷ ts) ≡ lines_under (spelling k) ts
  unfolding lines_under
  lines-skip k e = rw (key-unnamed t k e)

  pub lines-key : (name : String) (k : Keyword) → key_at t ≡ Some k
      → lines_under name (t ∷ ts) ≡ cond (eqs (bytes (spelling k)) (bytes name)) (under ts) [] ++ lines_under name ts
  unfolding lines_under
  lines-key name k e = rw (key-is t k name e)

pub says_map : {A B : Type 0} (f : A → B) (name : String) (read : List ℕ → List (List ℕ) → A) (x : A) (ts : List Text)
    → f (key_says name read x ts) ≡ key_says name (λ w ls. f (read w ls)) (f x) ts
unfolding key_says
says_map f name read x [] = refl
says_map f name read x (t ∷ ts) =
    says_map f name read (cond (is_key name t) (read (argument_at t) (under ts)) x) ts
    ∙ ap (λ y. key_says name (λ w ls. f (read w ls)) y ts) (cond_map f (is_key name t) (read (argument_at t) (under ts)) x)
