-- The header of an accepted file, from text to text: its file name and its revision have been read, and have passed their checks.
use Rattle.std.specs.Prelude.{Ok, Err, None, Some}
use Prim.Native.Nat.{ℕ, ◌≤◌}
use Prim.Native.String.{String}
use mathlib.Core.Path.{◌≡◌, refl, sym, ap, subst, ◌∙◌}
use mathlib.Core.List.{List, [], ◌∷◌}
use mathlib.Core.Bool.{Bool, true, false, cond, ◌&&◌}
use native.Mathlib.Omega.{arith}
use lib.ListN.{length}
use lib.Dec.{eqb, leb}
use borrow.Author.Tests.{eqb-false}
use Rattle.laws.specs.Bytes.{bytes}
use Rattle.laws.specs.Lists.{eqs, front}
use Rattle.laws.specs.Said.{Said}
use Rattle.laws.proofs.Tests.{by-test, cond-all, cond_no, and_first, and_second, impossible}
use Rattle.keywords.specs.Form.{argument}
use Rattle.keywords.specs.Carried.{key_of}
use Rattle.keywords.specs.declared.Keyword.{Keyword}
use Rattle.keywords.specs.declared.Keyword.TheVariants as key
use Rattle.keywords.specs.declared.HeaderPart.{HeaderPart}
use Rattle.keywords.specs.declared.HeaderPart.TheVariants.{FileName, FileRev, FreeText}
use Rattle.keywords.specs.declared.HeaderText.TheVariants.{Date, Source, Notes, Disclaimer, Copyright}
use Rattle.cut_lines.specs.Texts.{Text, plain, change}
use Rattle.line_rules.specs.Fields.{is_bracketed, is_sized, is_file_name}
use Rattle.given.specs.Given.{none_given, has, with}
use Rattle.given.specs.declared.Given.{Given}
use Rattle.given.proofs.Laws.{has_other}
use Rattle.rules.specs.Going.{quietly, and_then, Went}
use Rattle.rules.specs.Header.{version, header_place, header_flaw, header_part, header_line, header_done}
use Rattle.rules.specs.Steps.{done, opened, on_version, on_keyword, keyed, on_plain, on_change, on_text}
use Rattle.rules.specs.Reading.{key_says, is_within, header_says}
use Rattle.rules.specs.Keys.{key_at, is_end}
use Rattle.rules.proofs.Keys.{says-skip, says-key}
use Rattle.keywords.proofs.Spelling.{spelling}
use Rattle.rules.specs.declared.HeaderState.{HeaderState}
use Rattle.rules.specs.declared.Stage.{Stage}
use Rattle.rules.specs.declared.Stage.TheVariants.{BeforeVersion, InHeader}
use Rattle.rules.specs.declared.Event.{Event}
use Rattle.layout_by_notes.proofs.Goes.{Goes, past-closing, past_all, anywhere}
use Rattle.layout_by_notes.proofs.Ahead.{key-at, no_key}
use Rattle.records.specs.Flaws.{told}
use Rattle.accepted_tables.specs.Fallbacks.{Flawless, OneWord}
use Rattle.accepted_tables.proofs.Faults.{alone-passes, alone-one}
use Rattle.accepted_tables.proofs.Checks.{past-refuse, past-unless, past-passes, past-once, gone, Passes, inside, outside}
use Rattle.accepted_tables.proofs.Models.{not-given}

-- ---- a text of the header

pub data HeaderStep (h : HeaderState) : Text → Stage → Type 0 where
  stays : {t : Text} (n : HeaderState) → key_at t ≡ None → n.parts ≡ h.parts → HeaderStep h t (InHeader n)
  by_part : {k : ℕ} {w : List ℕ} (p : HeaderPart) (n : HeaderState) → key_at (plain k w) ≡ Some (key.InHeader p) → n.parts ≡ with h.parts (header_place p)
      → Flawless (header_flaw (argument w) p) → HeaderStep h (plain k w) (InHeader n)
  by_end : {t : Text} {u : Stage} (x : Keyword) → key_at t ≡ Some x → is_end (Some x) ≡ true → header_done h ≡ 0 → HeaderStep h t u

abbrev Step : HeaderState → Text → Stage → Event → Type 0
Step h t u e = HeaderStep h t u

-- with its text closed
abbrev closed : HeaderState → HeaderState
closed h = record { line = h.line; text = false; parts = h.parts }

module _ (h : HeaderState) (k : ℕ) (w : List ℕ) (b : is_bracketed w ≡ true) where
  -- the header ends, whatever goes on
  end_goes : (x : Keyword) → key_of w ≡ Ok x → is_end (Some x) ≡ true → (f : Stage → Went) → Goes (Step h (plain k w)) (and_then (done k (InHeader (closed h))) f)
  unfolding header_done
  end_goes x q e f =
      past-closing (Step h (plain k w)) (λ (t : Stage). header_done h ≡ 0) f (done k (InHeader (closed h)))
      (past-unless (λ (t : Stage) (z : Event). header_done h ≡ 0) (header_done (closed h)) h.line (quietly (InHeader (closed h))) (λ d. d))
      (λ t d. past_all (Step h (plain k w)) (λ (u : Stage) (z : Event). Unit {0}) (f t) (anywhere (f t)) (λ u z a. by_end x (key-at k w [] b q) e d))

  -- the header as a part leaves it
  abbrev opening : HeaderPart → Given → HeaderState
  opening p g = record { line = h.line; text = leb (header_place (FreeText Date)) (header_place p); parts = g }

  keyword-goes : (x : Keyword) → key_of w ≡ Ok x → Goes (Step h (plain k w)) (on_keyword (InHeader (closed h)) k w x)
  unfolding on_version header_part
  keyword-goes key.IbisVer q = tt
  keyword-goes (key.InHeader p) q =
      past-once (Step h (plain k w)) h.parts (header_place p) (told w (header_flaw (argument w) p)) k (λ (g : Given). InHeader (opening p g)) (λ z f. by_part p (opening p (with h.parts (header_place p))) (key-at k w [] b q) refl f)
  keyword-goes (key.Opens o) q = end_goes (key.Opens o) q refl (λ (t : Stage). opened k w o)
  keyword-goes (key.InComponent p) q = tt
  keyword-goes (key.InModel p) q = tt
  keyword-goes key.End q = end_goes key.End q refl _

  keyed-goes : (x : Said Keyword) → key_of w ≡ x → Goes (Step h (plain k w)) (keyed (InHeader (closed h)) k w x)
  keyed-goes (Err n) q = tt
  keyed-goes (Ok x) q = keyword-goes x q

text-goes : (h : HeaderState) (t : Text) → Goes (Step h t) (on_text (InHeader h) t)
unfolding on_plain on_change header_line
text-goes h (plain k w) =
    cond-all (Goes (Step h (plain k w))) (is_bracketed w) _ _
    (λ b. keyed-goes h k w b (key_of w) refl)
    (λ b. cond-all (Goes (Step h (plain k w))) h.text _ _ (λ e. stays h (no_key k w [] b) refl) (λ e. tt))
text-goes h (change k x) =
    past-refuse (Step h (change k x)) _ 7 k _
    (λ a. past-refuse (Step h (change k x)) _ 5 k _ (λ b. past-refuse (Step h (change k x)) _ 7 k _ (λ d. past-passes (Step h (change k x)) x k _ (λ e. stays h refl refl))))

-- ---- from here on; x is what was read before

abbrev IsName : List ℕ → Type 0
IsName w = OneWord is_file_name w

abbrev HasBytes : List ℕ → Type 0
HasBytes w = 1 ≤ length w

abbrev first : List ℕ → List (List ℕ) → List ℕ
first w ls = w

record Reads (g : Given) (ts : List Text) : Type 0 where
  name : (x : List ℕ) → (has g 0 ≡ true → IsName x) → IsName (key_says "file_name" first x ts)
  revision : (x : List ℕ) → (has g 1 ≡ true → HasBytes x) → HasBytes (key_says "file_rev" first x ts)

reads_end : (h : HeaderState) → header_done h ≡ 0 → Reads h.parts []
unfolding header_done key_says
reads_end h d =
    let a : Bool = has h.parts 0 in
    let b : Bool = has h.parts 1 in
    let both : (a && b) ≡ true = by-test (a && b) (λ t. t) (λ t. let e : 9 ≡ 0 = sym (cond_no 0 9 t) ∙ d in absurd (omega arith)) in
    record { name = λ x q. q (and_first a b both); revision = λ x q. q (and_second a b both) }

reads-skip : (g : Given) (t : Text) (ts : List Text) → key_at t ≡ None → Reads g ts → Reads g (t ∷ ts)
reads-skip g t ts e so =
    record {
      name = λ x q. subst IsName (sym (says-skip first x t ts (key.InHeader FileName) e)) (so.name x q);
      revision = λ x q. subst HasBytes (sym (says-skip first x t ts (key.InHeader FileRev) e)) (so.revision x q);
    }

-- the [IBIS Ver] line says neither
reads-version : (t : Text) (ts : List Text) → key_at t ≡ Some key.IbisVer → Reads none_given ts → Reads none_given (t ∷ ts)
unfolding eqs
reads-version t ts e so =
    record {
      name = λ x q. subst IsName (sym (says-key first x t ts "file_name" key.IbisVer e)) (so.name x q);
      revision = λ x q. subst HasBytes (sym (says-key first x t ts "file_rev" key.IbisVer e)) (so.revision x q);
    }

-- a file name, and a revision, without a fault
no_name : is_file_name [] ≡ false
unfolding is_file_name is_sized front
no_name = refl

name-fine : (w : List ℕ) → Flawless (header_flaw w FileName) → IsName w
name-fine w h = (alone-one is_file_name w h no_name, alone-passes is_file_name w h)

revision-fine : (w : List ℕ) → Flawless (header_flaw w FileRev) → HasBytes w
revision-fine w h =
    by-test (eqb (length w) 0)
    (λ t. let e : 10 ≡ 0 = rw t at h in absurd (omega arith))
    (λ t. let e = eqb-false (length w) 0 t in omega (arith, e))

-- what stands at place i of the header's parts, under this name
module _ (P : List ℕ → Type 0) (name : String) (i : ℕ) (g : Given) (k : ℕ) (w : List ℕ) (ts : List Text) (p : HeaderPart) (e : key_at (plain k w) ≡ Some (key.InHeader p)) where
  abbrev From : Given → List Text → Type 0
  From f us = (x : List ℕ) → (has f i ≡ true → P x) → P (key_says name first x us)

  keyed-says : (t : Bool) → eqs (bytes (spelling (key.InHeader p))) (bytes name) ≡ t → (x : List ℕ)
      → key_says name first x (plain k w ∷ ts) ≡ key_says name first (cond t (argument w) x) ts
  keyed-says t n x = says-key first x (plain k w) ts name (key.InHeader p) e ∙ ap (λ (z : Bool). key_says name first (cond z (argument w) x) ts) n

  other : eqs (bytes (spelling (key.InHeader p))) (bytes name) ≡ false → (i ≡ header_place p → ⊥) → From (with g (header_place p)) ts → From g (plain k w ∷ ts)
  other n apart so x q = subst P (sym (keyed-says false n x)) (so x (λ h. q (sym (has_other g i (header_place p) apart) ∙ h)))

  own : eqs (bytes (spelling (key.InHeader p))) (bytes name) ≡ true → P (argument w) → From (with g (header_place p)) ts → From g (plain k w ∷ ts)
  own n fine so x q = subst P (sym (keyed-says true n x)) (so (argument w) (λ h. fine))

reads-part : (g : Given) (k : ℕ) (w : List ℕ) (ts : List Text) (p : HeaderPart) → key_at (plain k w) ≡ Some (key.InHeader p) → Flawless (header_flaw (argument w) p)
    → Reads (with g (header_place p)) ts → Reads g (plain k w ∷ ts)
unfolding eqs
reads-part g k w ts FileName e f so =
    record {
      name = own IsName "file_name" 0 g k w ts FileName e refl (name-fine (argument w) f) so.name;
      revision = other HasBytes "file_rev" 1 g k w ts FileName e refl (omega arith) so.revision;
    }
reads-part g k w ts FileRev e f so =
    record {
      name = other IsName "file_name" 0 g k w ts FileRev e refl (omega arith) so.name;
      revision = own HasBytes "file_rev" 1 g k w ts FileRev e refl (revision-fine (argument w) f) so.revision;
    }
reads-part g k w ts (FreeText Date) e f so =
    record {
      name = other IsName "file_name" 0 g k w ts (FreeText Date) e refl (omega arith) so.name;
      revision = other HasBytes "file_rev" 1 g k w ts (FreeText Date) e refl (omega arith) so.revision;
    }
reads-part g k w ts (FreeText Source) e f so =
    record {
      name = other IsName "file_name" 0 g k w ts (FreeText Source) e refl (omega arith) so.name;
      revision = other HasBytes "file_rev" 1 g k w ts (FreeText Source) e refl (omega arith) so.revision;
    }
reads-part g k w ts (FreeText Notes) e f so =
    record {
      name = other IsName "file_name" 0 g k w ts (FreeText Notes) e refl (omega arith) so.name;
      revision = other HasBytes "file_rev" 1 g k w ts (FreeText Notes) e refl (omega arith) so.revision;
    }
reads-part g k w ts (FreeText Disclaimer) e f so =
    record {
      name = other IsName "file_name" 0 g k w ts (FreeText Disclaimer) e refl (omega arith) so.name;
      revision = other HasBytes "file_rev" 1 g k w ts (FreeText Disclaimer) e refl (omega arith) so.revision;
    }
reads-part g k w ts (FreeText Copyright) e f so =
    record {
      name = other IsName "file_name" 0 g k w ts (FreeText Copyright) e refl (omega arith) so.name;
      revision = other HasBytes "file_rev" 1 g k w ts (FreeText Copyright) e refl (omega arith) so.revision;
    }

-- ---- all its texts

module _ (ts : List Text) (rest : (h : HeaderState) → Passes (InHeader h) ts → Reads h.parts (front is_within ts)) where
  step-on : (h : HeaderState) (t : Text) (u : Stage) → HeaderStep h t u → Passes u ts → Reads h.parts (front is_within (t ∷ ts))
  step-on h t u (stays {t = x} n e same) r =
      subst (Reads h.parts) (sym (inside x ts e refl)) (reads-skip h.parts x (front is_within ts) e (subst (λ (g : Given). Reads g (front is_within ts)) same (rest n r)))
  step-on h t u (by_part {k = k} {w = w} p n e same f) r =
      subst (Reads h.parts) (sym (inside (plain k w) ts e refl))
      (reads-part h.parts k w (front is_within ts) p e f (subst (λ (g : Given). Reads g (front is_within ts)) same (rest n r)))
  step-on h t u (by_end {t = x} y e i d) r = subst (Reads h.parts) (sym (outside x ts e i)) (reads_end h d)

header-reads : (ts : List Text) (h : HeaderState) → Passes (InHeader h) ts → Reads h.parts (front is_within ts)
header-reads [] h r = impossible (cc)
header-reads (t ∷ ts) h r = step-on ts (header-reads ts) h t r.0 (gone (Step h t) _ r.0 r.1 (text-goes h t) r.2) r.3

-- ---- before it stands [IBIS Ver]

abbrev Begins : Text → Stage → Event → Type 0
Begins t u e = (h : HeaderState) × (u ≡ InHeader h) × (h.parts ≡ none_given) × (key_at t ≡ Some key.IbisVer)

first-keyword : (k : ℕ) (w : List ℕ) (b : is_bracketed w ≡ true) (x : Said Keyword) → key_of w ≡ x → Goes (Begins (plain k w)) (keyed BeforeVersion k w x)
unfolding on_version version
first-keyword k w b (Err n) q = tt
first-keyword k w b (Ok key.IbisVer) q = past-passes (Begins (plain k w)) _ k _ (λ h. (_, refl, refl, key-at k w [] b q))
first-keyword k w b (Ok (key.InHeader p)) q = tt
first-keyword k w b (Ok (key.Opens o)) q = tt
first-keyword k w b (Ok (key.InComponent p)) q = tt
first-keyword k w b (Ok (key.InModel p)) q = tt
first-keyword k w b (Ok key.End) q = tt

first-text : (t : Text) → Goes (Begins t) (on_text BeforeVersion t)
unfolding on_plain on_change
first-text (plain k w) = cond-all (Goes (Begins (plain k w))) (is_bracketed w) _ _ (λ b. first-keyword k w b (key_of w) refl) (λ b. tt)
first-text (change k x) =
    past-refuse (Begins (change k x)) _ 7 k _ (λ a. past-refuse (Begins (change k x)) _ 5 k _ (λ b. past-refuse (Begins (change k x)) _ 7 k _ (λ d. impossible (cc))))

file-reads : (ts : List Text) → Passes BeforeVersion ts → Reads none_given (front is_within ts)
file-reads [] r = impossible (cc)
file-reads (t ∷ ts) r =
    let b = gone (Begins t) _ r.0 r.1 (first-text t) r.2 in
    let so = header-reads ts b.0 (subst (λ (u : Stage). Passes u ts) b.1 r.3) in
    subst (Reads none_given) (sym (inside t ts b.3 refl)) (reads-version t (front is_within ts) b.3 (subst (λ (g : Given). Reads g (front is_within ts)) b.2 so))

module _ (ts : List Text) (r : Passes BeforeVersion ts) where
  pub name-said : OneWord is_file_name (header_says "file_name" ts)
  unfolding header_says
  name-said = (file-reads ts r).name [] (not-given 0)

  pub revision-said : 1 ≤ length (header_says "file_rev" ts)
  unfolding header_says
  revision-said = (file-reads ts r).revision [] (not-given 1)
