-- Laws of `specs/Events.antt`: the log with one thing more is the store with its words written.
use Rattle.std.specs.Prelude.{Ok, Err}
use Prim.Native.Nat.{ℕ, ◌+◌, ◌≤◌, ◌<◌, min}
use mathlib.Core.Path.{◌≡◌, refl, sym, ap, ◌∙◌, subst}
use mathlib.Core.List.{List, [], ◌∷◌}
use mathlib.Core.Bool.{true, false, cond}
use native.Mathlib.Omega.{arith}
use lib.ListN.{length, drop}
use lib.Seq.{get_or-drop}
use lib.Dec.{eqb, leb}
use borrow.Author.Tests.{le-leb, lt-leb, leb-false, eq-eqb, ne_eqb}
use Rattle.laws.specs.Lists.{part}
use Rattle.laws.proofs.Tests.{by-test, cond_yes, cond_no}
use Rattle.words.specs.Words.{word, words}
use Rattle.words.specs.declared.Word.{Word}
use Rattle.lines.specs.Places.{line_at}
use Rattle.cut_lines.specs.Texts.{plain}
use Rattle.cut_lines.specs.Cursors.{rest}
use Rattle.cut_lines.proofs.Laws.{line-placed}
use Rattle.rules.specs.Whole.{bound}
use Rattle.records.specs.Bounds.{most, most_waveforms}
use Rattle.records.specs.declared.Kind.{Kind}
use Rattle.records.specs.declared.Kind.TheVariants.{OfComponent, OfPin, OfSelector, OfChoice, OfModel}
use Rattle.rules.specs.declared.Event.TheVariants.{WaveformOpened, TableRow, Ended}
use Rattle.records.specs.declared.Lengths.{Lengths}
use Rattle.records.specs.Flaws.{bare}
use Rattle.records.specs.declared.LineFault.{LineFault}
use Rattle.notes.specs.Noted.{Note, used, one_more, more_waveforms, more_rows, sections, row_note, going, full, with_note}
use Rattle.notes.proofs.Settles.{more_rows_lem}
use Rattle.note_words.specs.Store.{names_held, words_per_section, words_per_row, is_section, words_per, lies_at, words_of_section, SectionFits, cursor_at, section_from, words_of_row, RowFits, row_from, note_at, with_name, log_in}
use Rattle.note_words.specs.declared.SectionNote.{SectionNote}
use Rattle.note_words.specs.declared.RowNote.{RowNote}
use Rattle.note_words.proofs.Laws.{filed-other, section-said, row-said, filed-more, log-note}
use Rattle.noted_events.specs.Places.{FirstIn}
use Rattle.noted_events.specs.Events.{Told, log_of, told_is, logged_at, section_in, row_in, counted, Within, KeptCounts, KeptBy, Ready}
use Rattle.noted_events.specs.declared.Spot.{Spot}
use Rattle.noted_events.specs.declared.Tally.{Tally}

-- ---- names

pub names-small : (t : Tally) → Within t → t.names ≤ names_held
names-small t w = omega (arith, w.names, w.components, w.pins, w.selectors, w.choices, w.models)

pub used-most : (t : Tally) → Within t → (k : Kind) → used t.counts k ≤ most k
used-most t w OfComponent = w.components
used-most t w OfPin = w.pins
used-most t w OfSelector = w.selectors
used-most t w OfChoice = w.choices
used-most t w OfModel = w.models

pub most-small : (k : Kind) → most k ≤ most OfPin
most-small OfComponent = omega arith
most-small OfPin = omega arith
most-small OfSelector = omega arith
most-small OfChoice = omega arith
most-small OfModel = omega arith

module _ (l : Lengths) (t : Tally) (k : Kind) where
  pub counted-full : bound l k ≤ used t.counts k → Err (bare 17, record { names = t.names + 1; counts = t.counts }) ≡ counted l t k
  unfolding counted
  counted-full h = sym (cond_yes _ _ (le-leb (bound l k) (used t.counts k) h))

  pub counted-going : used t.counts k < bound l k → Ok (record { names = t.names + 1; counts = one_more t.counts k }) ≡ counted l t k
  unfolding counted
  counted-going h = sym (cond_no _ _ (lt-leb (bound l k) (used t.counts k) h))

-- ---- the bounds

kept_more : (l : Lengths) (t : Tally) (k : Kind) → Within t → used t.counts k < bound l k → Within (record { names = t.names + 1; counts = one_more t.counts k })
kept_more l t OfComponent w h = record { names = omega (arith, w.names); components = omega (arith, h); pins = w.pins; selectors = w.selectors; choices = w.choices; models = w.models; waveforms = w.waveforms }
kept_more l t OfPin w h = record { names = omega (arith, w.names); components = w.components; pins = omega (arith, h); selectors = w.selectors; choices = w.choices; models = w.models; waveforms = w.waveforms }
kept_more l t OfSelector w h = record { names = omega (arith, w.names); components = w.components; pins = w.pins; selectors = omega (arith, h); choices = w.choices; models = w.models; waveforms = w.waveforms }
kept_more l t OfChoice w h = record { names = omega (arith, w.names); components = w.components; pins = w.pins; selectors = w.selectors; choices = omega (arith, h); models = w.models; waveforms = w.waveforms }
kept_more l t OfModel w h = record { names = omega (arith, w.names); components = w.components; pins = w.pins; selectors = w.selectors; choices = w.choices; models = omega (arith, h); waveforms = w.waveforms }

-- ---- the words that are written for a name behind those of its kind

module _ (s xs ws : List ℕ) (l : Lengths) (t : Tally) (p : Spot) (n : Note) (ready : Ready s xs t p) (size : length ws ≡ words_per n.kind) where
  abbrev k : Kind
  k = n.kind

  abbrev more : List ℕ
  more = with_name xs t.names (lies_at k (used t.counts k)) ws

  -- they say its note
  name-told : note_at s more t.names ≡ n → with_note l (log_of s xs t) n ≡ told_is s more n.line (counted l t k)
  unfolding with_note log_in counted
  name-told says =
      let log = log-note xs t.names t.counts ready.filed (used-most t ready.within) (names-small t ready.within) ready.store k ws size s n in
      by-test (leb (bound l k) (used t.counts k))
      (λ h. rw h rw (log t.counts says) refl)
      (λ h. rw h rw (log (one_more t.counts k) says) refl)

  name-kept : KeptBy more t (counted l t k)
  unfolding counted
  name-kept =
      by-test (leb (bound l k) (used t.counts k))
      (λ h. rw h (omega (arith, names-small t ready.within)))
      (λ h. rw h
      (record {
        within = kept_more l t k ready.within (leb-false (bound l k) (used t.counts k) h);
        filed = filed-more xs t.names t.counts ready.filed (used-most t ready.within) (names-small t ready.within) ready.store k ws size;
        rows = omega (arith, more_rows_lem t.counts k);
      }))

-- ---- sections and rows

module _ (s xs : List ℕ) (l : Lengths) (t : Tally) (p : Spot) (ready : Ready s xs t p) where
  -- a text is short, and so lies within two bytes
  pub text-ends : (p.end ≤ p.start + 120) × (p.end ≤ 65536)
  text-ends = (ready.text.short ready.clean, omega (arith, ready.text.fits, ready.small))

  line-at : p.line ≡ line_at s p.start
  line-at = line-placed s ready.cursor p.line p.start ready.counted ready.text.place

  -- from its line's place on stands the text itself, and then what is behind it
  pub here-at : rest s (cursor_at s p.start p.next.comment) ≡ plain p.line (part p.start p.end s) ∷ rest s p.next
  here-at = ap (λ (k : ℕ). rest s (record { at = p.start; line = k; comment = p.next.comment })) (sym line-at) ∙ ready.text.here

  pub section-fits : (a e start row : ℕ) → p.start ≤ a → a ≤ e → e ≤ p.end → start < 65536 → row < 65536 → p.next.comment < 256 → SectionFits (section_in p a e t.counts start row)
  section-fits a e start row from order ends first rows comment =
      let w = ready.within in
      record {
        at = omega (arith, ready.text.starts, text-ends.1);
        comment = comment;
        from = from;
        order = order;
        short = omega (arith, ends, text-ends.0);
        start = first;
        row = rows;
        section = omega (arith, w.components, w.selectors, w.models);
      }

  pub row_fits : (name model : Word) → p.start ≤ name.start → name.start ≤ name.end → name.end ≤ p.end → p.start ≤ model.start → model.start ≤ model.end → model.end ≤ p.end
      → RowFits (row_in p name model)
  row_fits name model from order ends model-from model-order model-ends =
      record {
        at = omega (arith, ready.text.starts, text-ends.1);
        text = omega (arith, ready.text.starts);
        short = omega (arith, text-ends.0);
        from = from;
        order = order;
        ends = ends;
        model-from = model-from;
        model-order = model-order;
        model-ends = model-ends;
      }

  pub told-section : (k : Kind) (a e start row : ℕ) (w : List ℕ) {at : ℕ} {x : SectionNote} {ys : List ℕ} {r : Told} → at ≡ lies_at k (used t.counts k) → x ≡ section_in p a e t.counts start row → SectionFits x → is_section k ≡ true → part a e s ≡ w
      → ys ≡ with_name xs t.names at (words_of_section x) → r ≡ counted l t k
      → (with_note l (log_of s xs t) (record { kind = k; line = p.line; name = w; names = []; text = []; behind = rest s p.next; section = sections t.counts; start = start; row = row }) ≡ told_is s ys p.line r) × KeptBy ys t r
  unfolding sections
  told-section k a e start row w lies is fits kinds text written counts =
      let y = section_in p a e t.counts start row in
      let behind : drop 1 (rest s (cursor_at s p.start p.next.comment)) ≡ rest s p.next = ap (drop 1) here-at in
      let size : words_per_section ≡ words_per k = sym (cond_yes _ _ kinds) in
      rw (written, counts, lies, is, sym text, sym behind, line-at) (
        name-told s xs (words_of_section y) l t p (section_from s k y) ready size
            (section-said s xs t.names (used t.counts k) k (used-most t ready.within k) (names-small t ready.within) ready.store y (subst SectionFits is fits) kinds),
        name-kept s xs (words_of_section y) l t p (section_from s k y) ready size,
      )

  pub told-row : (k : Kind) (name model : Word) (m : ℕ) {at : ℕ} {x : RowNote} {ys : List ℕ} {r : Told} → at ≡ lies_at k (used t.counts k) → x ≡ row_in p name model → RowFits x → is_section k ≡ false
      → part name.start name.end s ≡ word 0 (words (part p.start p.end s)) → part model.start model.end s ≡ word m (words (part p.start p.end s))
      → ys ≡ with_name xs t.names at (words_of_row x) → r ≡ counted l t k
      → (with_note l (log_of s xs t) (row_note k p.line m (part p.start p.end s)) ≡ told_is s ys p.line r) × KeptBy ys t r
  told-row k name model m lies is fits kinds named says written counts =
      let y = row_in p name model in
      let size : words_per_row ≡ words_per k = sym (cond_no _ _ kinds) in
      rw (written, counts, lies, is, sym named, sym says, line-at) (
        name-told s xs (words_of_row y) l t p (row_from s k y) ready size
            (row-said s xs t.names (used t.counts k) k (used-most t ready.within k) (names-small t ready.within) ready.store y (subst RowFits is fits) kinds),
        name-kept s xs (words_of_row y) l t p (row_from s k y) ready size,
      )

pub third-in : (s : List ℕ) (a e : ℕ) (x y z : Word) → FirstIn s a e x → FirstIn s x.end e y → FirstIn s y.end e z → part z.start z.end s ≡ word 2 (words (part a e s))
unfolding word
third-in s a e x y z f g h =
    let ws : List (List ℕ) = words (part a e s) in
    h.text ∙ ap (word 0) (g.others ∙ ap (drop 1) f.others) ∙ get_or-drop 1 (drop 1 ws) 0 [] ∙ get_or-drop 1 ws 1 []

-- ---- waveforms

module _ (s xs : List ℕ) (l : Lengths) (t : Tally) (p : Spot) (ready : Ready s xs t p) where
  pub waveform-full : min most_waveforms l.waveforms ≤ t.counts.waveforms → logged_at l s xs t p WaveformOpened ≡ full (bare 17) p.line (log_of s xs t)
  unfolding log_in
  waveform-full h = rw (le-leb (min most_waveforms l.waveforms) t.counts.waveforms h) refl

  pub waveform-going : t.counts.waveforms < min most_waveforms l.waveforms
      → logged_at l s xs t p WaveformOpened ≡ going (log_of s xs (record { names = t.names; counts = more_waveforms t.counts }))
  unfolding log_in
  waveform-going h = rw (lt-leb (min most_waveforms l.waveforms) t.counts.waveforms h) refl

  pub kept-waveform : t.counts.waveforms < min most_waveforms l.waveforms → KeptCounts xs t (record { names = t.names; counts = more_waveforms t.counts })
  kept-waveform h =
      let w : Within t = ready.within in
      record {
        within = record { names = w.names; components = w.components; pins = w.pins; selectors = w.selectors; choices = w.choices; models = w.models; waveforms = omega (arith, h) };
        filed = filed-other xs t.names t.counts (t.counts.waveforms + 1) t.counts.rows ready.filed;
        rows = omega arith;
      }

  -- ---- table rows and the end

  pub row-going : logged_at l s xs t p TableRow ≡ going (log_of s xs (record { names = t.names; counts = more_rows t.counts }))
  unfolding log_in
  row-going = refl

  pub kept_row : KeptCounts xs t (record { names = t.names; counts = more_rows t.counts })
  kept_row =
      let w : Within t = ready.within in
      record {
        within = record { names = w.names; components = w.components; pins = w.pins; selectors = w.selectors; choices = w.choices; models = w.models; waveforms = w.waveforms };
        filed = filed-other xs t.names t.counts t.counts.waveforms (t.counts.rows + 1) ready.filed;
        rows = omega arith;
      }

  pub kept_same : KeptCounts xs t t
  kept_same = record { within = ready.within; filed = ready.filed; rows = omega arith }

  pub end_none : (f : LineFault) → t.counts.components ≡ 0 → logged_at l s xs t p (Ended f) ≡ full (bare 9) p.line (log_of s xs t)
  unfolding log_in
  end_none f h = rw (eq-eqb t.counts.components 0 h) refl

  pub end-some : (f : LineFault) → (t.counts.components ≡ 0 → ⊥)
      → logged_at l s xs t p (Ended f) ≡ cond (eqb f.number 0) (going (log_of s xs t)) (full f p.line (log_of s xs t))
  unfolding log_in
  end-some f h = rw (ne_eqb t.counts.components 0 h) refl
