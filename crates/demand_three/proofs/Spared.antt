-- What a file tells of the lines after lo, up to hi: the excepted faults, and what those lines tell by themselves. The renumbering that leaves all
-- other lines as they are shows it for the lines before and behind.
use Rattle.std.specs.Prelude.{Result, Ok, Err, Some}
use Prim.Native.Nat.{ℕ, ◌+◌, ◌≤◌, ◌<◌, min}
use mathlib.Core.Path.{◌≡◌, refl, sym, ap, subst, ◌∙◌}
use mathlib.Core.Logic.{◌⊎◌, inl, inr}
use mathlib.Core.List.{List, [], ◌∷◌, ◌++◌, map, reverse_aux, reverse}
use mathlib.Core.Bool.{true, cond}
use native.Mathlib.Omega.{arith}
use lib.Dec.{eqb, leb}
use borrow.Author.Tests.{le-leb, lt-leb}
use Rattle.laws.specs.Lists.{all}
use Rattle.laws.proofs.Tests.{by-test, cond-all, and_first, and_second, impossible}
use Rattle.keywords.specs.Form.{argument}
use Rattle.keywords.specs.declared.Section.{Section}
use Rattle.keywords.specs.declared.Section.TheVariants.{Component, Selector, Model}
use Rattle.cut_lines.specs.Texts.{Text, plain, change}
use Rattle.rules.specs.Steps.{is_ended, on_text}
use Rattle.rules.specs.Reading.{is_within}
use Rattle.rules.specs.Outline.{Entry, count, is, is_used, is_found, first_failing}
use Rattle.rules.specs.Whole.{bound, Held, admit_entry, section_entry, row_entry, admit, Outcome, passed, refused, text_of, line_of, after_admission, after_step, runs, last_checks, concluded}
use Rattle.rules.specs.Last.{found, listed_in}
use Rattle.records.specs.Bounds.{most_waveforms}
use Rattle.records.specs.declared.Kind.TheVariants.{OfComponent, OfPin, OfChoice, OfModel}
use Rattle.records.specs.declared.Fault.{Fault}
use Rattle.records.specs.declared.Lengths.{Lengths}
use Rattle.records.specs.declared.LineFault.{LineFault}
use Rattle.rules.specs.declared.ModelState.{ModelState}
use Rattle.rules.specs.declared.Stage.{Stage}
use Rattle.rules.specs.declared.Stage.TheVariants.{InModel}
use Rattle.rules.specs.declared.Event.{Event}
use Rattle.rules.specs.declared.Event.TheVariants.{Quiet, Opened, PinRow, ChoiceRow, WaveformOpened, TableRow, Ended}
use Rattle.rules.specs.Going.{Went}
use Rattle.rules.proofs.Went.{stage-of}
use Rattle.demand_three.specs.Demand.{Excepted, used_twice, not_listed, full_table}
use Rattle.demand_three.specs.Own.{stopping, texts_tell}
use Rattle.renumbered.proofs.Stages.{stage_at, went_at}
use Rattle.cut_lines.proofs.Renumbered.{text_at}
use Rattle.renumbered.proofs.Steps.{on-text-at}
use Rattle.demand_three.proofs.Within.{is_in_model, is_of_model}
use Rattle.demand_three.proofs.Walks.{in-model, step_stays}

module _ (lo hi : ℕ) where
  -- ---- the renumbering: the lines after lo, up to hi, become 0

  unfoldable pub outside : ℕ → ℕ
  outside n = cond (leb n lo) n (cond (leb n hi) 0 n)

  pub outside_low : (n : ℕ) → n ≤ lo → outside n ≡ n
  unfolding outside
  outside_low n h = rw (le-leb n lo h)

  pub outside_high : (n : ℕ) → lo < n → hi < n → outside n ≡ n
  unfolding outside
  outside_high n h q = rw (lt-leb n lo h, lt-leb n hi q)

  pub outside-only : (n : ℕ) → outside n ≡ n → lo < n → n ≤ hi → ⊥
  unfolding outside
  outside-only n e h q = let z : 0 ≡ n = rw (lt-leb n lo h, le-leb n hi q) at e in omega arith

  -- ---- entries: one made at these lines is a model's

  abbrev pub Fine : Entry → Type 0
  Fine e = lo < e.line → e.line ≤ hi → e.kind ≡ OfModel

  abbrev pub AllFine : List Entry → Type 0
  AllFine [] = Unit {0}
  AllFine (e ∷ es) = Fine e × AllFine es

  fine-reverse : (es more : List Entry) → AllFine es → AllFine more → AllFine (reverse_aux es more)
  fine-reverse [] more h q = q
  fine-reverse (e ∷ es) more h q = fine-reverse es (e ∷ more) h.1 (h.0, q)

  -- ---- a fault that is told there is excepted, or has Own

  module _ (Own : Fault → Type 0) where
    abbrev pub Spare : ℕ → ℕ → ℕ → Type 0
    Spare n k c = lo < k → k ≤ hi → Excepted (lo + 1) n k ⊎ Own (record { number = n; line = k; column = c })

    abbrev pub Safe : Outcome → Type 0
    Safe (passed h) = AllFine h.entries
    Safe (refused n k c) = Spare n k c

    pub spare-outside : (n k c : ℕ) → outside k ≡ k → Spare n k c
    spare-outside n k c e h q = absurd (outside-only k e h q)

    -- ---- admission

    -- at line k
    abbrev pub Admits : ℕ → Result Held LineFault → Type 0
    Admits k (Ok h) = AllFine h.entries
    Admits k (Err x) = Spare x.number k x.column

    pub admits-safe : (k : ℕ) (go : Held → Outcome) (a : Result Held LineFault) → Admits k a → ((h : Held) → AllFine h.entries → Safe (go h)) → Safe (after_admission k go a)
    admits-safe k go (Ok h) x q = q h x
    admits-safe k go (Err y) x q = x

    admits-entry : (k : ℕ) (l : Lengths) (h : Held) (e : Entry) → Fine e → AllFine h.entries → Admits k (admit_entry l h e)
    unfolding admit_entry
    admits-entry k l h e x y =
        cond-all (Admits k) (is_used e.kind e.name h.entries) _ _
        (λ t a b. inl (used_twice refl))
        (λ t. cond-all (Admits k) (leb (bound l e.kind) (count (is e.kind) h.entries)) _ _ (λ u a b. inl (full_table refl)) (λ u. (x, y)))

    -- the section's own keyword
    pub admits-model : (l : Lengths) (h : Held) (k : ℕ) (w : List ℕ) → AllFine h.entries → Admits k (admit l h k w (Opened Model))
    admits-model l h k w y = admits-entry k l h (section_entry k (argument w) Model) (λ a b. refl) y

    -- what a model's lines add
    pub admits-within : (l : Lengths) (h : Held) (k : ℕ) (w : List ℕ) (e : Event) → is_of_model e ≡ true → AllFine h.entries → Admits k (admit l h k w e)
    admits-within l h k w Quiet x y = y
    admits-within l h k w (Opened s) x y = impossible (cc)
    admits-within l h k w PinRow x y = impossible (cc)
    admits-within l h k w ChoiceRow x y = impossible (cc)
    admits-within l h k w WaveformOpened x y = cond-all (Admits k) (leb (min most_waveforms l.waveforms) h.waveforms) _ _ (λ t a b. inl (full_table refl)) (λ t. y)
    admits-within l h k w TableRow x y = y
    admits-within l h k w (Ended f) x y = impossible (cc)

    -- any line outside
    section-fine : (k : ℕ) (w : List ℕ) (s : Section) → outside k ≡ k → Fine (section_entry k w s)
    section-fine k w Component e a b = absurd (outside-only k e a b)
    section-fine k w Selector e a b = absurd (outside-only k e a b)
    section-fine k w Model e a b = refl

    pub admits-outside : (l : Lengths) (h : Held) (k : ℕ) (w : List ℕ) (e : Event) → outside k ≡ k → AllFine h.entries → Admits k (admit l h k w e)
    admits-outside l h k w Quiet x y = y
    admits-outside l h k w (Opened s) x y = admits-entry k l h (section_entry k (argument w) s) (section-fine k (argument w) s x) y
    admits-outside l h k w PinRow x y = admits-entry k l h (row_entry OfPin k 2 w) (λ a b. absurd (outside-only k x a b)) y
    admits-outside l h k w ChoiceRow x y = admits-entry k l h (row_entry OfChoice k 0 w) (λ a b. absurd (outside-only k x a b)) y
    admits-outside l h k w WaveformOpened x y = cond-all (Admits k) (leb (min most_waveforms l.waveforms) h.waveforms) _ _ (λ t. spare-outside 17 k 0 x) (λ t. y)
    admits-outside l h k w TableRow x y = y
    admits-outside l h k w (Ended f) x y =
        cond-all (Admits k) (eqb (count (is OfComponent) h.entries) 0) _ _
        (λ t. spare-outside 9 k 0 x)
        (λ t. cond-all (Admits k) (eqb f.number 0) _ _ (λ u. y) (λ u. spare-outside f.number k f.column x))

    -- ---- one step outside, the texts outside, and the file's end

    abbrev pub Goes : (Stage → Held → Outcome) → Type 0
    Goes go = (s : Stage) (h : Held) → stage_at outside s ≡ s → AllFine h.entries → Safe (go s h)

    pub step-outside : (l : Lengths) (h : Held) (t : Text) (go : Stage → Held → Outcome) (w : Went) → went_at outside w ≡ w → outside (line_of t) ≡ line_of t
        → AllFine h.entries → Goes go → Safe (after_step l h t go w)
    step-outside l h t go (Ok (s, e)) q x y more =
        admits-safe (line_of t) (go s) (admit l h (line_of t) (text_of t) e) (admits-outside l h (line_of t) (text_of t) e x y) (λ g z. more s g (stage-of q) z)
    step-outside l h t go (Err f) q x y more = spare-outside f.number f.line f.column (cc)

    line-outside : (t : Text) → text_at outside t ≡ t → outside (line_of t) ≡ line_of t
    line-outside (plain k w) e = cc
    line-outside (change k x) e = cc

    head-same : (t : Text) (ts us : List Text) (u : Text) → t ∷ ts ≡ u ∷ us → t ≡ u
    head-same t ts us u e = cc

    tail-same : (t : Text) (ts us : List Text) (u : Text) → t ∷ ts ≡ u ∷ us → ts ≡ us
    tail-same t ts us u e = cc

    pub texts-outside : (l : Lengths) (past : ℕ) (ts us : List Text) → map (text_at outside) ts ≡ ts
        → Goes (λ (s : Stage) (h : Held). runs l past s h us) → Goes (λ (s : Stage) (h : Held). runs l past s h (ts ++ us))
    unfolding runs
    texts-outside l past [] us q more s h x y = more s h x y
    texts-outside l past (t ∷ ts) us q more s h x y =
        let e : text_at outside t ≡ t = head-same _ _ _ _ q in
        step-outside l h t _ (on_text s t)
        (on-text-at outside s t ∙ rw (x, e)) (line-outside t e) y
        (λ u g a b. texts-outside l past ts us (tail-same _ _ _ _ q) more u g a b)

    pub out-outside : (l : Lengths) (past : ℕ) → lo < past → hi < past → Goes (λ (s : Stage) (h : Held). runs l past s h [])
    unfolding runs
    out-outside l past a b s h x y = cond-all Safe (is_ended s) (passed h) (refused 19 past 0) (λ t. y) (λ t. spare-outside 19 past 0 (outside_high past a b))

    -- ---- the texts of a section: each goes on, or stops with what the section's lines tell

    step-within : (l : Lengths) (h : Held) (t : Text) (go : Stage → Held → Outcome) (w : Went) → ((f : Fault) → w ≡ Err f → Own f)
        → ((u : Stage) (e : Event) → w ≡ Ok (u, e) → (is_of_model e ≡ true) × ((g : Held) → AllFine g.entries → Safe (go u g)))
        → AllFine h.entries → Safe (after_step l h t go w)
    step-within l h t go (Ok (u, e)) stops goes y =
        let more = goes u e refl in
        admits-safe (line_of t) (go u) (admit l h (line_of t) (text_of t) e) (admits-within l h (line_of t) (text_of t) e more.0 y) more.1
    step-within l h t go (Err f) stops goes y = λ a b. inr (stops f refl)

    -- j is the line of its keyword
    module _ (l : Lengths) (past j : ℕ) (us : List Text) where
      abbrev Tells : Stage → List Text → Type 0
      Tells s ts = (f : Fault) → texts_tell j s ts ≡ Some f → Own f

      pub texts-within : (ts : List Text) (m : ModelState) (h : Held) → all is_within ts ≡ true → Tells (InModel m) ts
          → ((v : ModelState) → Tells (InModel v) [] → (g : Held) → AllFine g.entries → Safe (runs l past (InModel v) g us))
          → AllFine h.entries → Safe (runs l past (InModel m) h (ts ++ us))
      unfolding runs all texts_tell
      texts-within [] m h a tells more y = more m tells h y
      texts-within (t ∷ ts) m h a tells more y =
          step-within l h t _ (on_text (InModel m) t)
          (λ f q. tells f (ap (λ (w : Went). stopping w (λ (u : Stage). texts_tell j u ts)) q))
          (λ u e q.
          let both = step_stays m t u e (and_first _ _ a) q in
          let b = in-model u (and_first _ _ both) in
          let same : texts_tell j (InModel m) (t ∷ ts) ≡ texts_tell j (InModel b.0) ts =
          ap (λ (w : Went). stopping w (λ (s : Stage). texts_tell j s ts)) q ∙ ap (λ (s : Stage). texts_tell j s ts) b.1 in (
            and_second (is_in_model u) _ both,
            λ g z. subst (λ (s : Stage). Safe (runs l past s g (ts ++ us))) (sym b.1)
                (texts-within ts b.0 g (and_second (is_within t) _ a) (λ f r. tells f (same ∙ r)) more z),
          ))
          y

    -- ---- 15 is told at a pin or selector row, 16 is excepted

    found-spares : (every es : List Entry) → AllFine es → lo < first_failing (found every) es → first_failing (found every) es ≤ hi → ⊥
    unfolding first_failing
    found-spares every [] x a b = omega arith
    found-spares every (e ∷ es) x a b =
        by-test (found every e)
        (λ t. found-spares every es x.1 (rw t at a) (rw t at b))
        (λ t.
        let p : lo < e.line = rw t at a in
        let q : e.line ≤ hi = rw t at b in
        let y : is_found every e e.kind ≡ true = ap (is_found every e) (x.0 p q) in
        let z : ◌≡◌ {A = ℕ} 0 1 = cc in
        omega arith)

    pub concluded-safe : (o : Outcome) → Safe o → Safe (concluded o)
    unfolding last_checks
    concluded-safe (refused n k c) x = x
    concluded-safe (passed h) x =
        let es = reverse h.entries in
        let y : AllFine es = fine-reverse h.entries [] x tt in
        cond-all Safe (eqb (first_failing (found es) es) 0) _ _
        (λ t. cond-all Safe (eqb (first_failing (listed_in es) es) 0) _ _ (λ u. x) (λ u a b. inl (not_listed refl)))
        (λ t a b. absurd (found-spares es es y a b))
