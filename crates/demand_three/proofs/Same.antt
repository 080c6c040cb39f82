-- What is read of a section: at its place among the sections stands the model that its own texts give, whatever their numbers.
use Rattle.std.specs.Prelude.{Option, None, Some}
use Prim.Native.Nat.{ℕ, suc, ◌+◌}
use Prim.Native.Char.{code}
use mathlib.Core.Path.{◌≡◌, refl, sym, ap, ap₂, ◌∙◌}
use mathlib.Core.List.{List, [], ◌∷◌, ◌++◌}
use mathlib.Core.Bool.{true, not}
use lib.ListN.{length, drop}
use Rattle.laws.specs.Bytes.{bytes}
use Rattle.laws.specs.Lists.{front, all, eqs}
use Rattle.laws.proofs.Tests.{and_first, and_second}
use Rattle.laws.proofs.Fronts.{front-whole, front-before}
use Rattle.laws.proofs.Same.{eqs-eq}
use Rattle.lines.specs.Lines.{Physical, cut}
use Rattle.words.specs.Words.{word, words}
use Rattle.keywords.specs.Form.{argument}
use Rattle.keywords.specs.declared.Keyword.{Keyword}
use Rattle.keywords.specs.declared.Keyword.TheVariants as key
use Rattle.keywords.specs.declared.Section.{Section}
use Rattle.cut_lines.specs.Texts.{Text, plain, texts_from}
use Rattle.rules.specs.Reading.{key_name, is_key, argument_at, model_in, TableIs, tables_in, SectionIs, model, is_within, sections_in, file_in}
use Rattle.rules.specs.Keys.{key_at, opens, is_end, onto_sections}
use Rattle.rules.specs.Same.{nowhere, no_table, table_of, waveforms_of, SameModel}
use Rattle.rules.specs.Whole.{texts_of}
use Rattle.rules.proofs.Keys.{within-key, section-at}
use Rattle.rules.proofs.Numberless.{Numberless, model-numberless, tables-within-numberless}
use Rattle.cut_lines.specs.InForce.{char_after_line}
use Rattle.demand_three.specs.Lines.{sections_on, is_model_section}
use Rattle.demand_three.specs.Demand.{Stands, place_of, Says}
use Rattle.demand_three.proofs.Texts.{key-first, anywhere}
use Rattle.demand_three.proofs.Split.{split}
use Rattle.demand_three.proofs.Tables.{lies_in, lies_same}
use Rattle.demand_three.proofs.Sound.{key-ends, key-model, body-within}

-- ---- the sections of texts behind others

onto-drop : (v w : List ℕ) (ts us : List Text) (xs ys : List SectionIs) (o : Option Section)
    → drop (length (onto_sections v ts xs o)) (onto_sections w us ys o) ≡ drop (length xs) ys
onto-drop v w ts us xs ys None = refl
onto-drop v w ts us xs ys (Some o) = refl

sections-behind : (ts us : List Text) → drop (length (sections_in ts)) (sections_in (ts ++ us)) ≡ sections_in us
unfolding sections_in
sections-behind [] us = refl
sections-behind (t ∷ ts) us =
    ap₂ (λ (xs ys : List SectionIs). drop (length xs) ys) (section-at t ts) (section-at t (ts ++ us))
    ∙ onto-drop (argument_at t) (argument_at t) _ _ (sections_in ts) (sections_in (ts ++ us)) (opens (key_at t))
    ∙ sections-behind ts us

-- ---- a model's keyword opens one, and what is within opens none

opens-model : (t : Text) (ts : List Text) → is_key "model" t ≡ true → sections_in (t ∷ ts) ≡ model (word 0 (words (argument_at t))) (front is_within ts) ∷ sections_in ts
unfolding sections_in eqs
opens-model t ts h = rw (eqs-eq (key_name t) (bytes "model") h)

opens-none : (x : Option Keyword) → not (is_end x) ≡ true → opens x ≡ None
opens-none None h = refl
opens-none (Some key.IbisVer) h = refl
opens-none (Some (key.InHeader p)) h = refl
opens-none (Some (key.Opens o)) h = cc
opens-none (Some (key.InComponent p)) h = refl
opens-none (Some (key.InModel p)) h = refl
opens-none (Some key.End) h = refl

none_within : (ts : List Text) → all is_within ts ≡ true → sections_in ts ≡ []
unfolding sections_in all
none_within [] h = refl
none_within (t ∷ ts) h =
    section-at t ts
    ∙ ap (onto_sections (argument_at t) (front is_within ts) (sections_in ts)) (opens-none (key_at t) (sym (within-key t) ∙ and_first (is_within t) _ h))
    ∙ none_within ts (and_second (is_within t) _ h)

-- ---- the section

module _ (c : ℕ) (first : Physical) (others : List Physical) (h : is_model_section c (first ∷ others) ≡ true) where
  unfoldable pub name : List ℕ
  name = word 0 (words (argument (cut c first.bytes)))

  -- its texts behind its keyword, if they stand from line k on
  abbrev pub body : ℕ → List Text
  body k = texts_from (char_after_line c first) k others

  pub alone : sections_in (texts_from c 1 (first ∷ others)) ≡ model name (body 2) ∷ []
  unfolding name
  alone =
      ap sections_in (key-first c 1 first others (key-ends c first others h))
      ∙ opens-model (plain 1 (cut c first.bytes)) (body 2) (key-model c first others h)
      ∙ ap₂ (λ (ts : List Text) (xs : List SectionIs). model name ts ∷ xs)
      (front-whole is_within (body 2) (body-within c first others h 2)) (none_within (body 2) (body-within c first others h 2))

  -- in a file
  at-section : (s : List ℕ) (p : Stands c (first ∷ others) s)
      → (more : List SectionIs) × (drop (place_of p) (file_in (texts_of s)).sections ≡ model name (body (length p.before + 1 + 1)) ∷ more)
  unfolding name file_in sections_on
  at-section s p =
      let sp = split c first others s (key-ends c first others h) p in
      let k = length p.before + 1 in
      let before = texts_from (code "|") 1 p.before in
      let next = plain (length p.before + suc (length others) + 1) sp.next in
      let behind = body (k + 1) ++ (next ∷ sp.rest) in (
        sections_in behind,
        ap (λ (ts : List Text). drop (length (sections_in before)) (sections_in ts)) sp.texts
            ∙ sections-behind before (plain k (cut c first.bytes) ∷ behind)
            ∙ opens-model (plain k (cut c first.bytes)) behind (key-model c first others h)
            ∙ ap (λ (ts : List Text). model name ts ∷ sections_in behind) (front-before is_within (body (k + 1)) next sp.rest (body-within c first others h (k + 1)) sp.ends),
      )

  -- whatever the numbers
  same_read : {A : Type 0} (g : List Text → A) → Numberless (λ (ts : List Text). g (front is_within ts)) → (j k : ℕ) → g (body j) ≡ g (body k)
  same_read g n j k =
      sym (ap g (front-whole is_within (body j) (body-within c first others h j)))
      ∙ anywhere (λ (ts : List Text). g (front is_within ts)) n (char_after_line c first) j k others
      ∙ ap g (front-whole is_within (body k) (body-within c first others h k))

  same_tables : (j k : ℕ) → tables_in (body j) ≡ tables_in (body k)
  same_tables = same_read tables_in tables-within-numberless

  same-model : (j k : ℕ) → SameModel name (body j) name (body k)
  same-model j k =
      record {
        model = same_read (model_in 0 no_table nowhere name) (model-numberless 0 no_table nowhere name) j k;
        pulldown = ap (λ (ts : List TableIs). table_of ts "pulldown") (same_tables j k);
        pullup = ap (λ (ts : List TableIs). table_of ts "pullup") (same_tables j k);
        ground = ap (λ (ts : List TableIs). table_of ts "gnd_clamp") (same_tables j k);
        power = ap (λ (ts : List TableIs). table_of ts "power_clamp") (same_tables j k);
        waveforms = ap waveforms_of (same_tables j k);
      }

  pub says-alone : (s : List ℕ) (p : Stands c (first ∷ others) s) → Says s p name (body 2)
  says-alone s p =
      let r = at-section s p in
      let k = length p.before + 1 + 1 in
      record {
        texts = body k;
        others = r.0;
        at = r.1;
        same = same-model k 2;
        lies =
            lies_same (place_of p) name (body k) (body 2)
            (λ table waveforms. same_read (model_in (place_of p) table waveforms name) (model-numberless (place_of p) table waveforms name) k 2)
            (same_tables k 2) _ (lies_in r.0 name (body k) (file_in (texts_of s)) (place_of p) r.1);
      }
