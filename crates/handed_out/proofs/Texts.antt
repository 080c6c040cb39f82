-- What each byte of a file has, each byte has of its lines, its texts, its keywords' arguments and the lines under them, and its sections.
use Prim.Native.Nat.{ℕ, ◌+◌}
use Prim.Native.Char.{code}
use Prim.Native.String.{String}
use mathlib.Core.Bool.{cond}
use mathlib.Core.List.{List, [], ◌∷◌}
use lib.ListN.{drop}
use lib.Dec.{eqb}
use Rattle.laws.specs.Bytes.{is_blank}
use Rattle.laws.specs.Lists.{front, other, Every}
use Rattle.laws.specs.Said.{or_else}
use Rattle.laws.proofs.Tests.{cond-all}
use Rattle.words.specs.Words.{word, words}
use Rattle.lines.specs.Lines.{Physical, is_return, onto_line, lines_of, cut}
use Rattle.keywords.specs.Form.{closing, argument}
use Rattle.cut_lines.specs.Change.{is_change, change_of}
use Rattle.cut_lines.specs.Texts.{Text, plain, change, onto_texts, texts_from}
use Rattle.line_rules.specs.Fields.{is_bracketed}
use Rattle.rules.specs.Whole.{texts_of}
use Rattle.rules.specs.Reading.{is_key, argument_at, under, lines_under, key_says, SectionIs, component, selector, model, is_within, sections_in}
use Rattle.handed_out.proofs.Parts.{every_drop, every_front, every-after, every-trim, every-at, every-if, every-words}

module _ (P : ℕ → Type 0) where
  abbrev LineHas : Physical → Type 0
  LineHas l = Every P l.bytes

  abbrev pub TextHas : Text → Type 0
  TextHas (plain k w) = Every P w
  TextHas (change k f) = Unit {0}

  abbrev pub SectionHas : SectionIs → Type 0
  SectionHas (component w ts) = Every P w × Every TextHas ts
  SectionHas (selector w ts) = Every P w × Every TextHas ts
  SectionHas (model w ts) = Every P w × Every TextHas ts

  -- ---- lines and texts

  line-more : (b : ℕ) (ls : List Physical) → P b → Every LineHas ls → Every LineHas (onto_line b ls)
  unfolding onto_line
  line-more b [] h k = ((h, tt), tt)
  line-more b (l ∷ ls) h k = ((h, k.0), k.1)

  every-lines : (s : List ℕ) → Every P s → Every LineHas (lines_of s)
  unfolding lines_of
  every-lines [] h = tt
  every-lines (b ∷ bs) h =
      let more = every-lines bs h.1 in
      cond-all (Every LineHas) (eqb b (code "\n")) _ _ (λ e. (tt, more))
      (λ e. cond-all (Every LineHas) (is_return b bs) _ _ (λ f. more) (λ f. line-more b (lines_of bs) h.0 more))

  text-more : (k : ℕ) (w : List ℕ) (ts : List Text) → Every P w → Every TextHas ts → Every TextHas (onto_texts k w ts)
  unfolding onto_texts
  text-more k [] ts h t = t
  text-more k (b ∷ bs) ts h t = (h, t)

  cut-each : (c : ℕ) (w : List ℕ) → Every P w → Every P (cut c w)
  unfolding cut
  cut-each c w h = every-trim P is_blank (front (other c) w) (every_front P (other c) w h)

  texts-from : (c k : ℕ) (ls : List Physical) → Every LineHas ls → Every TextHas (texts_from c k ls)
  unfolding texts_from
  texts-from c k [] h = tt
  texts-from c k (l ∷ ls) h =
      cond-all (Every TextHas) (is_change l.bytes) _ _
      (λ e. (tt, texts-from (or_else c (change_of l.bytes)) (k + 1) ls h.1))
      (λ e. text-more k (cut c l.bytes) _ (cut-each c l.bytes h.0) (texts-from c (k + 1) ls h.1))

  pub every-text : (s : List ℕ) → Every P s → Every TextHas (texts_of s)
  unfolding texts_of
  every-text s h = texts-from (code "|") 1 (lines_of s) (every-lines s h)

  -- ---- keyword lines

  pub every-word : (n : ℕ) (w : List ℕ) → Every P w → Every P (word n (words w))
  unfolding word
  every-word n w h = every-at (Every P) (words w) n [] tt (every-words P w h)

  argument-has : (t : Text) → TextHas t → Every P (argument_at t)
  unfolding argument closing
  argument-has (plain k w) h =
      every-after P is_blank (drop 1 (closing w)) (every_drop P 1 (closing w) (every-after P (other (code "]")) (drop 1 w) (every_drop P 1 w h)))
  argument-has (change k f) h = tt

  pub every-under : (ts : List Text) → Every TextHas ts → Every (Every P) (under ts)
  unfolding under
  every-under [] h = tt
  every-under (plain k w ∷ ts) h = cond-all (Every (Every P)) (is_bracketed w) _ _ (λ e. tt) (λ e. (h.0, every-under ts h.1))
  every-under (change k f ∷ ts) h = every-under ts h.1

  pub every-lines-under : (name : String) (ts : List Text) → Every TextHas ts → Every (Every P) (lines_under name ts)
  unfolding lines_under
  every-lines-under name [] h = tt
  every-lines-under name (t ∷ ts) h =
      every-if (Every P) (is_key name t) (under ts) (lines_under name ts) (every-under ts h.1) (every-lines-under name ts h.1)

  pub key-says : {A : Type 0} (Q : A → Type 0) (name : String) (read : List ℕ → List (List ℕ) → A) (before : A) (ts : List Text)
      → ((w : List ℕ) (ls : List (List ℕ)) → Every P w → Q (read w ls)) → Q before → Every TextHas ts → Q (key_says name read before ts)
  unfolding key_says
  key-says Q name read before [] f q h = q
  key-says Q name read before (t ∷ ts) f q h =
      key-says Q name read (cond (is_key name t) (read (argument_at t) (under ts)) before) ts f (cond-all Q (is_key name t) _ _ (λ e. f (argument_at t) (under ts) (argument-has t h.0)) (λ e. q)) h.1

  -- ---- sections

  pub every-section : (ts : List Text) → Every TextHas ts → Every SectionHas (sections_in ts)
  unfolding sections_in
  every-section [] h = tt
  every-section (t ∷ ts) h =
      let all = argument-has t h.0 in
      let first = every-word 0 (argument_at t) all in
      let within = every_front TextHas is_within ts h.1 in
      let more = every-section ts h.1 in
      cond-all (Every SectionHas) (is_key "component" t) _ _ (λ e. ((all, within), more))
      (λ e. cond-all (Every SectionHas) (is_key "model_selector" t) _ _ (λ f. ((first, within), more))
      (λ f. cond-all (Every SectionHas) (is_key "model" t) _ _ (λ g. ((first, within), more)) (λ g. more)))
