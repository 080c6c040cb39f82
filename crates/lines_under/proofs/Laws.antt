-- Laws on lines and keywords: a text more, by its kind; and what holds within a section.
use Rattle.std.specs.Prelude.{Option, None, Some, Ok, Err, Result}
use Prim.Native.Nat.{ℕ, ◌+◌, ◌≤◌}
use mathlib.Core.Path.{◌≡◌, refl, sym, ap, ◌∙◌}
use mathlib.Core.List.{List, [], ◌∷◌}
use mathlib.Core.Bool.{Bool, true, false, cond, not}
use native.Mathlib.Omega.{arith}
use borrow.Author.Tests.{not-true}
use Rattle.laws.specs.Lists.{front, after, part}
use Rattle.laws.proofs.Tests.{by-test, cond_yes, cond_no, cond_map}
use Rattle.laws.proofs.Lists.{part_length, part-from}
use Rattle.laws.specs.Said.{Said}
use Rattle.records.specs.declared.LineFault.{LineFault}
use Rattle.keywords.specs.Carried.{key_of}
use Rattle.keywords.specs.Answers.{keyword_says, key_read}
use Rattle.keywords.specs.declared.Keyword.{Keyword}
use Rattle.keywords.specs.declared.KeyFault.{KeyFault}
use Rattle.keywords.specs.declared.KeyFault.TheVariants.{Malformed}
use Rattle.cut_lines.specs.Texts.{Text, plain, change}
use Rattle.cut_lines.specs.Cursors.{rest, Placed, TextIs, ChangeIs, OutIs}
use Rattle.cut_lines.specs.declared.Cursor.{Cursor}
use Rattle.line_rules.specs.Fields.{is_bracketed}
use Rattle.rules.specs.Reading.{under, is_within}
use Rattle.rules.specs.Keys.{key_in, key_at, is_end}
use Rattle.rules.proofs.Keys.{within-key}
use Rattle.keywords.proofs.Arguments.{key-argument}
use Rattle.keywords.proofs.Spelling.{key-said}
use Rattle.lines_under.specs.Under.{is_line, text_read, is_some, is_keyless, LineIs, StopsAt, NoLineIs, KeyIs}

-- ---- the lines under a keyword, by the first text

module _ {ts us : List Text} (k : ℕ) where
  pub under-change : (f : LineFault) → ts ≡ change k f ∷ us → (under ts ≡ under us) × (after is_line ts ≡ after is_line us)
  unfolding under after
  under-change f e = (rw e, rw e)

  module _ (w : List ℕ) (e : ts ≡ plain k w ∷ us) where
    pub under-line : is_bracketed w ≡ false → (under ts ≡ w ∷ under us) × (after is_line ts ≡ after is_line us)
    unfolding under after
    under-line h = (rw (e, h), rw (e, h))

    pub under-key : is_bracketed w ≡ true → (under ts ≡ []) × (after is_line ts ≡ ts)
    unfolding under after
    under-key h = (rw (e, h), rw (e, h))

pub under-end : {ts : List Text} → ts ≡ [] → (under ts ≡ []) × (after is_line ts ≡ ts)
unfolding under after
under-end e = (rw e, rw e)

-- ---- the next keyword, by the first text

module _ {ts us : List Text} (t : Text) (e : ts ≡ t ∷ us) where
  pub key-skip : key_at t ≡ None → after is_keyless ts ≡ after is_keyless us
  unfolding after
  key-skip h = rw (e, h)

  pub key-stop : (k : Keyword) → key_at t ≡ Some k → after is_keyless ts ≡ t ∷ us
  unfolding after
  key-stop k h = rw (e, h)

pub key-end : {ts : List Text} → ts ≡ [] → after is_keyless ts ≡ []
unfolding after
key-end e = rw e

-- as the code reads it
pub key-at : (k : ℕ) (w : List ℕ) (r : Result (Keyword × ℕ) KeyFault) → text_read w ≡ r → key_at (plain k w) ≡ key_in (keyword_says r)
unfolding text_read
key-at k w r e =
    ap (λ (x : Said Keyword). cond (is_bracketed w) (key_in x) None) (sym (key-said w))
    ∙ sym (cond_map (λ (x : Result (Keyword × ℕ) KeyFault). key_in (keyword_says x)) (is_bracketed w) (key_read w) (Err Malformed))
    ∙ ap (λ (x : Result (Keyword × ℕ) KeyFault). key_in (keyword_says x)) e

pub key-known : (w : List ℕ) (k : Keyword) (at : ℕ) → text_read w ≡ Ok (k, at) → key_read w ≡ Ok (k, at)
unfolding text_read
key-known w k at e =
    by-test (is_bracketed w)
    (λ h. sym (cond_yes _ _ h) ∙ e)
    (λ h. let m : ◌≡◌ {A = Result (Keyword × ℕ) KeyFault} (Err Malformed) (Ok (k, at)) = sym (cond_no _ _ h) ∙ e in let z : ◌≡◌ {A = ℕ} 0 1 = cc in absurd (omega arith))

-- ---- a reading of the lines under a keyword that has come from c to d

pub record Along (s : List ℕ) (c d : Cursor) : Type 0 where
  pub behind : after is_line (rest s c) ≡ after is_line (rest s d)
  pub placed : Placed s d
  pub rises : c.at ≤ d.at

pub along-start : (s : List ℕ) (c : Cursor) → Placed s c → Along s c c
along-start s c h = record { behind = refl; placed = h; rises = omega arith }

module _ {s : List ℕ} {c d : Cursor} (p : Along s c d) where
  pub along-line : {a e : ℕ} {n : Cursor} → LineIs s d a e n → Along s c n
  along-line l = record { behind = p.behind ∙ l.behind; placed = l.placed; rises = omega (arith, p.rises, l.rises) }

  pub along-end : {n : Cursor} → NoLineIs s d n → StopsAt s c n
  along-end l =
      record { behind = p.behind ∙ l.stops.behind; placed = l.stops.placed; rises = omega (arith, p.rises, l.stops.rises) }

  along-here : after is_line (rest s d) ≡ rest s d → StopsAt s c d
  along-here h = record { behind = p.behind ∙ h; placed = p.placed; rises = p.rises }

-- the same with no line passed
pub record Passed (s : List ℕ) (c d : Cursor) : Type 0 where
  pub along : Along s c d
  pub lines : under (rest s c) ≡ under (rest s d)

module _ {s : List ℕ} {c d : Cursor} (p : Passed s c d) where
  pub passed-change : {k : ℕ} {f : LineFault} {n : Cursor} → ChangeIs s d k f n → Passed s c n
  passed-change {k} {f} t =
      let u = under-change k f t.more in
      record {
        along = record { behind = p.along.behind ∙ u.1; placed = t.goes.placed; rises = omega (arith, p.along.rises, t.goes.rises) };
        lines = p.lines ∙ u.0;
      }

  pub passed-line : {k a e : ℕ} {n : Cursor} → TextIs s d k a e n → is_bracketed (part a e s) ≡ false → LineIs s c a e n
  passed-line {k} {a} {e} t h =
      let u = under-line k (part a e s) t.more h in
      record {
        more = p.lines ∙ u.0;
        behind = p.along.behind ∙ u.1;
        placed = t.goes.placed;
        rises = omega (arith, p.along.rises, t.goes.rises);
        starts = t.starts;
        fits = t.fits;
      }

  pub passed-key : {k a e : ℕ} {n : Cursor} → TextIs s d k a e n → is_bracketed (part a e s) ≡ true → NoLineIs s c d
  passed-key {k} {a} {e} t h =
      let u = under-key k (part a e s) t.more h in
      record { more = p.lines ∙ u.0; stops = along-here p.along u.1 }

  pub passed-out : {k : ℕ} → OutIs s d k → NoLineIs s c d
  passed-out t =
      let u = under-end t.more in
      record { more = p.lines ∙ u.0; stops = along-here p.along u.1 }

-- ---- a search for the next keyword that has come to d

pub record Sought (s : List ℕ) (c d : Cursor) : Type 0 where
  pub keys : after is_keyless (rest s c) ≡ after is_keyless (rest s d)
  pub placed : Placed s d
  pub rises : c.at ≤ d.at

module _ {s : List ℕ} {c d : Cursor} (p : Sought s c d) where
  pub sought-change : {k : ℕ} {f : LineFault} {n : Cursor} → ChangeIs s d k f n → Sought s c n
  sought-change {k} {f} t =
      record { keys = p.keys ∙ key-skip (change k f) t.more refl; placed = t.goes.placed; rises = omega (arith, p.rises, t.goes.rises) }

  pub sought-none : {k a e : ℕ} {n : Cursor} → TextIs s d k a e n → key_in (keyword_says (text_read (part a e s))) ≡ None → Sought s c n
  sought-none {k} {a} {e} t h =
      let none-at = key-at k (part a e s) (text_read (part a e s)) refl ∙ h in
      record { keys = p.keys ∙ key-skip (plain k (part a e s)) t.more none-at; placed = t.goes.placed; rises = omega (arith, p.rises, t.goes.rises) }

  module _ {k a e : ℕ} {n : Cursor} (t : TextIs s d k a e n) {key : Keyword} {at : ℕ} (h : text_read (part a e s) ≡ Ok (key, at)) where
    pub sought-within : a + at ≤ e
    sought-within =
        omega (arith, (key-argument (part a e s) (key-known (part a e s) key at h)).within, part_length s a e t.fits, t.starts)

    pub sought-found : KeyIs s c key (a + at) e n
    sought-found =
        record {
          text = plain k (part a e s);
          more = p.keys ∙ key-stop (plain k (part a e s)) t.more key (key-at k (part a e s) (Ok (key, at)) h);
          key = key-at k (part a e s) (Ok (key, at)) h;
          said = sym (key-argument (part a e s) (key-known (part a e s) key at h)).text ∙ part-from s a e at;
          placed = t.goes.placed;
          rises = omega (arith, p.rises, t.goes.rises);
          starts = sought-within;
          fits = t.fits;
        }

  pub sought-out : {k : ℕ} → OutIs s d k → after is_keyless (rest s c) ≡ []
  sought-out t = p.keys ∙ key-end t.more

none_is : (k : Option Keyword) → not (is_some k) ≡ true → k ≡ None
none_is None h = refl
none_is (Some k) h = let z : ◌≡◌ {A = ℕ} 0 1 = cc in absurd (omega arith)

-- ---- what has no keyword: every line, and it stands within its section

line-keyless : (t : Text) → is_line t ≡ true → is_keyless t ≡ true
line-keyless (plain k w) h = ap (λ (b : Bool). not (is_some (cond b (key_in (key_of w)) None))) (not-true (is_bracketed w) h)
line-keyless (change k f) h = refl

keyless-none : (t : Text) → is_keyless t ≡ true → key_at t ≡ None
keyless-none t h = none_is (key_at t) h

keyless-within : (t : Text) → is_keyless t ≡ true → is_within t ≡ true
keyless-within t h = within-key t ∙ ap (λ (k : Option Keyword). not (is_end k)) (keyless-none t h)

-- passing over the lines first changes nothing
pub keys-behind : (ts : List Text) → after is_keyless (after is_line ts) ≡ after is_keyless ts
unfolding after
keys-behind [] = refl
keys-behind (t ∷ ts) =
    by-test (is_line t)
    (λ h. rw (h, line-keyless t h) (keys-behind ts))
    (λ h. rw h)

-- the lines under a keyword are within its section
pub under-within : (ts : List Text) → under (front is_within ts) ≡ under ts
unfolding under front
under-within [] = refl
under-within (plain k w ∷ ts) =
    by-test (is_bracketed w)
    (λ h. by-test (is_within (plain k w)) (λ i. rw (i, h)) (λ i. rw (i, h)))
    (λ h. rw (keyless-within (plain k w) (line-keyless (plain k w) (ap not h)), h) (ap (λ (ls : List (List ℕ)). w ∷ ls) (under-within ts)))
under-within (change k f ∷ ts) = rw (keyless-within (change k f) refl) (under-within ts)

-- ---- what looks at keywords alone

module _ {A : Type 0} (f : List Text → A) (skips : (t : Text) (ts : List Text) → key_at t ≡ None → f (t ∷ ts) ≡ f ts) where
  pub keys-only : (ts : List Text) → f ts ≡ f (after is_keyless ts)
  unfolding after
  keys-only [] = refl
  keys-only (t ∷ ts) =
      by-test (is_keyless t)
      (λ h. rw h (skips t ts (keyless-none t h) ∙ keys-only ts))
      (λ h. rw h)

  front-skips : (t : Text) (ts : List Text) → key_at t ≡ None → f (front is_within (t ∷ ts)) ≡ f (front is_within ts)
  unfolding front
  front-skips t ts h = ap f (cond_yes _ _ (within-key t ∙ ap (λ (k : Option Keyword). not (is_end k)) h)) ∙ skips t (front is_within ts) h

-- the same within a section
pub keys-within : {A : Type 0} (f : List Text → A) → ((t : Text) (ts : List Text) → key_at t ≡ None → f (t ∷ ts) ≡ f ts)
    → (ts : List Text) → f (front is_within ts) ≡ f (front is_within (after is_keyless ts))
keys-within f skips = keys-only (λ (ts : List Text). f (front is_within ts)) (front-skips f skips)

-- a keyword ends the section, or is in it
module _ (t : Text) (ts : List Text) (k : Keyword) (e : key_at t ≡ Some k) where
  pub within-stop : is_end (Some k) ≡ true → front is_within (t ∷ ts) ≡ []
  unfolding front
  within-stop h = cond_no _ _ (within-key t ∙ ap (λ (o : Option Keyword). not (is_end o)) e ∙ ap not h)

  pub within-go : is_end (Some k) ≡ false → front is_within (t ∷ ts) ≡ t ∷ front is_within ts
  unfolding front
  within-go h = cond_yes _ _ (within-key t ∙ ap (λ (o : Option Keyword). not (is_end o)) e ∙ ap not h)
