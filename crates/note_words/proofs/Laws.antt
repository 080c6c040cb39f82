-- Laws of `specs/Store.antt`: where the notes of the kinds lie, what is read where words were written, and where none were.
use Prim.Native.Nat.{ℕ, zero, suc, ◌+◌, ◌/◌, ◌%◌, ◌≤◌, ◌<◌}
use mathlib.Core.Path.{◌≡◌, refl, sym, ap, ◌∙◌, subst}
use mathlib.Core.List.{List, [], ◌∷◌, append_assoc}
use mathlib.Core.Bool.{true, false}
use native.Mathlib.Omega.{arith}
use native.Mathlib.Numerals.{add-one}
use lib.ListN.{length, take, drop, get_or, set, length-set}
use borrow.Rule.Slice.PartMut.{put_mid}
use Rattle.std.proofs.lemmas.Slice.{put_mid-paste}
use Rattle.std.proofs.lemmas.List.Edits.{paste_all, sets-eq}
use lib.Dec.{eqb}
use borrow.Author.Tests.{eq-eqb, lt-ltb, le-ltb}
use Rattle.records.specs.Bounds.{most}
use Rattle.records.specs.declared.Counts.{Counts}
use Rattle.laws.proofs.Tests.{by-test, by_order, cond_yes, cond_no}
use Rattle.records.specs.declared.Kind.{Kind}
use Rattle.records.specs.declared.Kind.TheVariants.{OfComponent, OfPin, OfSelector, OfChoice, OfModel}
use Rattle.rules.specs.Outline.{place}
use Rattle.notes.specs.Noted.{used, one_more, Note}
use Rattle.notes.proofs.Settles.{one_more_lem}
use Rattle.note_words.specs.Store.{names_held, words_per_section, words_per_row, is_section, words_per, area_from, lies_at, kind_by, order_from, store_length, words_of_section, SectionFits, section_from, section_at, words_of_row, RowFits, row_from, row_at, word_of, part_start, part_end, note_of, noted_at, kind_at, noted_line, name_at, note_at, with_name, how_many, Filed, notes_to, log_in}
use Rattle.note_words.specs.declared.SectionNote.{SectionNote}
use Rattle.note_words.specs.declared.RowNote.{RowNote}
use lib.Seq.{sets, length-sets, get_or-set_same, get_or-set_other}

-- ---- words written over a part

pub sets-part : (xs ws ys : List ℕ) (at k : ℕ) → ys ≡ ws → k ≡ length ws → at + length ws ≤ length xs → put_mid at k xs ys ≡ sets xs at ws
sets-part xs ws ys at k e n h =
    put_mid-paste at k xs ys ws (length ws) e (sym n) refl
    ∙ paste_all xs at ws (length ws) refl
    ∙ sym (append_assoc (take at xs) ws (drop (at + length ws) xs))
    ∙ sym (sets-eq ws xs at h)

-- ---- reading

get_other : (xs ws : List ℕ) (at k : ℕ) → ((j : ℕ) → j < length ws → k ≡ at + j → ⊥) → get_or (sets xs at ws) k 0 ≡ get_or xs k 0
get_other xs [] at k h = refl
get_other xs (w ∷ ws) at k h =
    get_other (set xs at w) ws (suc at) k (λ j b e. h (suc j) (omega (arith, b)) (omega (arith, e)))
    ∙ get_or-set_other xs at k w 0 (λ e. h 0 (omega arith) (omega (arith, e)))

get-before : (xs ws : List ℕ) (at k : ℕ) → k < at → get_or (sets xs at ws) k 0 ≡ get_or xs k 0
get-before xs ws at k h = get_other xs ws at k (λ j b e. omega (arith, h, e))

get-behind : (xs ws : List ℕ) (at k : ℕ) → at + length ws ≤ k → get_or (sets xs at ws) k 0 ≡ get_or xs k 0
get-behind xs ws at k h = get_other xs ws at k (λ j b e. omega (arith, h, b, e))

get-among : (xs ws : List ℕ) (at j : ℕ) → j < length ws → at + length ws ≤ length xs → get_or (sets xs at ws) (at + j) 0 ≡ get_or ws j 0
get-among xs [] at j h g = absurd (omega (arith, h))
get-among xs (w ∷ ws) at zero h g =
    let e : at + 0 ≡ at = omega arith in
    rw e (get-before (set xs at w) ws (suc at) at (omega arith) ∙ get_or-set_same xs at w 0 (omega (arith, g)))
get-among xs (w ∷ ws) at (suc j) h g =
    let e : at + suc j ≡ suc at + j = omega arith in
    let n : suc at + length ws ≤ length (set xs at w) = rw (length-set xs at w) (omega (arith, g)) in
    rw e (get-among (set xs at w) ws (suc at) j (omega (arith, h)) n)

-- ---- the areas of the kinds lie apart

-- a note lies before the names in file order
lies-ends : (k : Kind) (j : ℕ) → j ≤ most k → lies_at k j + words_per k ≤ order_from
lies-ends OfComponent j h = omega (arith, h)
lies-ends OfPin j h = omega (arith, h)
lies-ends OfSelector j h = omega (arith, h)
lies-ends OfChoice j h = omega (arith, h)
lies-ends OfModel j h = omega (arith, h)

word-ends : (a w b o : ℕ) → a + w ≤ o → b < w → a + b < o
word-ends a w b o h g = omega (arith, h, g)

lies-below : (k : Kind) (j b : ℕ) → j ≤ most k → b < words_per k → lies_at k j + b < order_from
lies-below k j b h g = word-ends (lies_at k j) (words_per k) b order_from (lies-ends k j h) g

-- a word in the area of a kind
kind-word : (k : Kind) (j b : ℕ) → j ≤ most k → b < words_per k → kind_by (lies_at k j + b) ≡ k
unfolding kind_by
kind-word OfComponent j b h g = cond_yes _ _ (lt-ltb (lies_at OfComponent j + b) (area_from OfPin) (omega (arith, h, g)))
kind-word OfPin j b h g =
    let a = lies_at OfPin j + b in
    cond_no _ _ (le-ltb a (area_from OfPin) (omega arith)) ∙ cond_yes _ _ (lt-ltb a (area_from OfSelector) (omega (arith, h, g)))
kind-word OfSelector j b h g =
    let a = lies_at OfSelector j + b in
    cond_no _ _ (le-ltb a (area_from OfPin) (omega arith)) ∙ cond_no _ _ (le-ltb a (area_from OfSelector) (omega arith)) ∙ cond_yes _ _ (lt-ltb a (area_from OfChoice) (omega (arith, h, g)))
kind-word OfChoice j b h g =
    let a = lies_at OfChoice j + b in
    cond_no _ _ (le-ltb a (area_from OfPin) (omega arith)) ∙ cond_no _ _ (le-ltb a (area_from OfSelector) (omega arith)) ∙ cond_no _ _ (le-ltb a (area_from OfChoice) (omega arith)) ∙ cond_yes _ _ (lt-ltb a (area_from OfModel) (omega (arith, h, g)))
kind-word OfModel j b h g =
    let a = lies_at OfModel j + b in
    cond_no _ _ (le-ltb a (area_from OfPin) (omega arith)) ∙ cond_no _ _ (le-ltb a (area_from OfSelector) (omega arith)) ∙ cond_no _ _ (le-ltb a (area_from OfChoice) (omega arith)) ∙ cond_no _ _ (le-ltb a (area_from OfModel) (omega arith))

some_words : (k : Kind) → 0 < words_per k
some_words k = by-test (is_section k) (λ t. rw t (omega arith)) (λ t. rw t (omega arith))

kind-lies : (k : Kind) (j : ℕ) → j ≤ most k → kind_by (lies_at k j) ≡ k
kind-lies k j h =
    let e : lies_at k j + 0 ≡ lies_at k j = omega arith in
    ap kind_by (sym e) ∙ kind-word k j 0 h (some_words k)

one-note : (k : Kind) (i j b d : ℕ) → b < words_per k → d < words_per k → lies_at k i + b ≡ lies_at k j + d → i ≡ j
one-note OfComponent i j b d h g e = omega (arith, h, g, e)
one-note OfPin i j b d h g e = omega (arith, h, g, e)
one-note OfSelector i j b d h g e = omega (arith, h, g, e)
one-note OfChoice i j b d h g e = omega (arith, h, g, e)
one-note OfModel i j b d h g e = omega (arith, h, g, e)

-- note i of one kind and the next of another, of which there are as many as are counted
lie-apart : (c : Counts) (m k : Kind) (i b d : ℕ) → ((x : Kind) → used c x ≤ most x) → i < used c m → b < words_per m → d < words_per k → lies_at m i + b ≡ lies_at k (used c k) + d → ⊥
lie-apart c m k i b d room h g f e =
    let same : m ≡ k = sym (kind-word m i b (omega (arith, room m, h)) g) ∙ ap kind_by e ∙ kind-word k (used c k) d (room k) f in
    subst (λ (x : Kind). d < words_per x → lies_at m i + b ≡ lies_at x (used c x) + d → ⊥) same
    (λ f e. omega (arith, one-note m i (used c m) b d g f e, h)) f e

-- ---- how many there are of a kind

module _ (xs : List ℕ) (k : Kind) where
  many-step : (n : ℕ) → how_many xs k n ≤ how_many xs k (suc n)
  unfolding how_many
  many-step n = by-test (eqb (place k) (place (kind_at xs n))) (λ e. rw e (omega arith)) (λ e. rw e (omega arith))

  many-here : (n : ℕ) → k ≡ kind_at xs n → how_many xs k (suc n) ≡ how_many xs k n + 1
  unfolding how_many
  many-here n e = cond_yes _ _ (eq-eqb (place k) (place (kind_at xs n)) (ap place e))

  many_below : (i n : ℕ) → i < n → k ≡ kind_at xs i → how_many xs k i < how_many xs k n
  many_below i zero h e = absurd (omega (arith, h))
  many_below i (suc n) h e =
      by_order n i
      (λ a.
      let z : i ≡ n = omega (arith, a, h) in
      subst (λ (m : ℕ). how_many xs k i < how_many xs k (suc m)) z (omega (arith, many-here i e)))
      (λ a. omega (arith, many_below i n a e, many-step n))

-- ---- stores that say the same of where the first n notes lie

module _ (xs ys : List ℕ) (n : ℕ) (same : (i : ℕ) → i < n → noted_at ys i ≡ noted_at xs i) where
  many-same : (k : Kind) (m : ℕ) → m ≤ n → how_many ys k m ≡ how_many xs k m
  unfolding how_many
  many-same k zero h = refl
  many-same k (suc m) h = rw (same m (omega (arith, h))) rw (many-same k m (omega (arith, h))) refl

  lies_same : (i : ℕ) → i < n → noted_at xs i ≡ lies_at (kind_at xs i) (how_many xs (kind_at xs i) i) → noted_at ys i ≡ lies_at (kind_at ys i) (how_many ys (kind_at ys i) i)
  lies_same i h e = rw (same i h) rw (many-same (kind_at xs i) i (omega (arith, h))) e

  filed-same : (c d : Counts) → Filed xs n c → ((k : Kind) → used c k ≡ used d k) → Filed ys n d
  filed-same c d f e =
      record { lies = λ i h. lies_same i h (f.lies i h); counted = λ k. many-same k n (omega arith) ∙ f.counted k ∙ e k }

pub filed-none : (xs : List ℕ) (c : Counts) → ((k : Kind) → used c k ≡ 0) → Filed xs 0 c
unfolding how_many
filed-none xs c h = record { lies = λ i g. absurd (omega (arith, g)); counted = λ k. sym (h k) }

-- waveforms and table rows are counted apart from the names
used-other : (c : Counts) (waveforms rows : ℕ) (k : Kind)
    → used c k ≡ used (record { components = c.components; pins = c.pins; selectors = c.selectors; choices = c.choices; models = c.models; waveforms = waveforms; rows = rows }) k
used-other c waveforms rows OfComponent = refl
used-other c waveforms rows OfPin = refl
used-other c waveforms rows OfSelector = refl
used-other c waveforms rows OfChoice = refl
used-other c waveforms rows OfModel = refl

pub filed-other : (xs : List ℕ) (n : ℕ) (c : Counts) (waveforms rows : ℕ) → Filed xs n c
    → Filed xs n (record { components = c.components; pins = c.pins; selectors = c.selectors; choices = c.choices; models = c.models; waveforms = waveforms; rows = rows })
filed-other xs n c waveforms rows f = filed-same xs xs n (λ i h. refl) c _ f (used-other c waveforms rows)

-- ---- notes of the same words

module _ (s xs ys : List ℕ) (a : ℕ) where
  section-agree : ((b : ℕ) → b < words_per_section → word_of ys a b ≡ word_of xs a b) → section_at ys a ≡ section_at xs a
  section-agree h =
      rw (h 0 (omega arith)) rw (h 1 (omega arith)) rw (h 2 (omega arith)) rw (h 3 (omega arith)) rw (h 4 (omega arith)) refl

  row-agree : ((b : ℕ) → b < words_per_row → word_of ys a b ≡ word_of xs a b) → row_at ys a ≡ row_at xs a
  row-agree h = rw (h 0 (omega arith)) rw (h 1 (omega arith)) rw (h 2 (omega arith)) rw (h 3 (omega arith)) refl

  note-agree : (k : Kind) → ((b : ℕ) → b < words_per k → word_of ys a b ≡ word_of xs a b) → note_of s ys a k ≡ note_of s xs a k
  note-agree k h =
      by-test (is_section k)
      (λ t. cond_yes _ _ t ∙ ap (section_from s k) (section-agree (λ b g. h b (rw t g))) ∙ sym (cond_yes _ _ t))
      (λ t. cond_no _ _ t ∙ ap (row_from s k) (row-agree (λ b g. h b (rw t g))) ∙ sym (cond_no _ _ t))

module _ (s xs ys : List ℕ) (n : ℕ) (c : Counts) (filed : Filed xs n c) (same : (i : ℕ) → i < n → noted_at ys i ≡ noted_at xs i)
    (words : (k : Kind) (j b : ℕ) → j < used c k → b < words_per k → get_or ys (lies_at k j + b) 0 ≡ get_or xs (lies_at k j + b) 0) where
  note-same : (i : ℕ) → i < n → note_at s ys i ≡ note_at s xs i
  unfolding note_at
  note-same i h =
      let k : Kind = kind_at xs i in
      let few : how_many xs k i < used c k = omega (arith, many_below xs k i n h refl, filed.counted k) in
      ap (λ (a : ℕ). note_of s ys a (kind_by a)) (same i h)
      ∙ note-agree s xs ys (noted_at xs i) k
      (λ b g. subst (λ (a : ℕ). get_or ys (a + b) 0 ≡ get_or xs (a + b) 0) (sym (filed.lies i h)) (words k (how_many xs k i) b few g))

  notes-same : (m : ℕ) → m ≤ n → notes_to s ys m ≡ notes_to s xs m
  unfolding notes_to
  notes-same zero h = refl
  notes-same (suc m) h = rw (note-same m (omega (arith, h))) rw (notes-same m (omega (arith, h))) refl

-- ---- what every note has, whatever its kind

module _ (s xs : List ℕ) (a : ℕ) (k : Kind) where
  of-kind : (note_of s xs a k).kind ≡ k
  of-kind = by-test (is_section k) (λ t. rw t refl) (λ t. rw t refl)

module _ (s xs : List ℕ) (i : ℕ) where
  pub note-kind : (note_at s xs i).kind ≡ kind_at xs i
  unfolding note_at
  note-kind = of-kind s xs (noted_at xs i) (kind_at xs i)

  pub note-line : (note_at s xs i).line ≡ noted_line s xs i
  unfolding note_at
  note-line = by-test (is_section (kind_at xs i)) (λ t. rw t refl) (λ t. rw t refl)

  pub note-name : (note_at s xs i).name ≡ name_at s xs i
  unfolding note_at
  note-name = by-test (is_section (kind_at xs i)) (λ t. rw t refl) (λ t. rw t refl)

-- ---- a name's note is put

module _ (xs : List ℕ) (i a : ℕ) (ws : List ℕ) (ends : a + length ws ≤ order_from) (few : i ≤ names_held) (store : store_length ≤ length xs) where
  abbrev put : List ℕ
  put = with_name xs i a ws

  put-at : noted_at put i ≡ a
  put-at = get_or-set_same (sets xs a ws) (order_from + i) a 0 (omega (arith, length-sets xs a ws, few, store))

  put_order : (j : ℕ) → j < i → noted_at put j ≡ noted_at xs j
  put_order j h = get_or-set_other (sets xs a ws) (order_from + i) (order_from + j) a 0 (λ e. omega (arith, h, e)) ∙ get-behind xs ws a (order_from + j) (omega (arith, ends))

  put_word : (b : ℕ) → b < length ws → word_of put a b ≡ get_or ws b 0
  put_word b h = get_or-set_other (sets xs a ws) (order_from + i) (a + b) a 0 (λ e. omega (arith, h, ends, e)) ∙ get-among xs ws a b h (omega (arith, ends, store))

  put_other : (k : ℕ) → k < order_from → ((b : ℕ) → b < length ws → k ≡ a + b → ⊥) → get_or put k 0 ≡ get_or xs k 0
  put_other k h g = get_or-set_other (sets xs a ws) (order_from + i) k a 0 (λ e. omega (arith, h, e)) ∙ get_other xs ws a k g

-- what is read of what was put
module _ (xs : List ℕ) (i a : ℕ) where
  section-put : (x : SectionNote) → SectionFits x → a + words_per_section ≤ order_from → i ≤ names_held → store_length ≤ length xs → section_at (with_name xs i a (words_of_section x)) a ≡ x
  section-put x f ends few store =
      let ys = with_name xs i a (words_of_section x) in
      let word : (b : ℕ) → b < words_per_section → word_of ys a b ≡ get_or (words_of_section x) b 0 = put_word xs i a (words_of_section x) ends few store in
      let at : word_of ys a 0 ≡ x.at = word 0 (omega arith) in
      let name : part_start ys a 1 ≡ x.name = omega (arith, at, word 1 (omega arith), f.from, f.order, f.short) in
      let end : part_end ys a 1 ≡ x.name_end = omega (arith, at, word 1 (omega arith), f.from, f.order, f.short) in
      let comment : word_of ys a 2 / 256 ≡ x.comment = omega (arith, word 2 (omega arith), f.section) in
      let section : word_of ys a 2 % 256 ≡ x.section = omega (arith, word 2 (omega arith), f.section) in
      λ t. record { at = at t; name = name t; name_end = end t; start = word 3 (omega arith) t; row = word 4 (omega arith) t; comment = comment t; section = section t }

  row_put : (x : RowNote) → RowFits x → a + words_per_row ≤ order_from → i ≤ names_held → store_length ≤ length xs → row_at (with_name xs i a (words_of_row x)) a ≡ x
  row_put x f ends few store =
      let ys = with_name xs i a (words_of_row x) in
      let word : (b : ℕ) → b < words_per_row → word_of ys a b ≡ get_or (words_of_row x) b 0 = put_word xs i a (words_of_row x) ends few store in
      let at : word_of ys a 0 ≡ x.at = word 0 (omega arith) in
      let name : part_start ys a 1 ≡ x.name = omega (arith, at, word 1 (omega arith), f.from, f.order, f.ends, f.short) in
      let end : part_end ys a 1 ≡ x.name_end = omega (arith, at, word 1 (omega arith), f.from, f.order, f.ends, f.short) in
      let model : part_start ys a 2 ≡ x.model = omega (arith, at, word 2 (omega arith), f.model-from, f.model-order, f.model-ends, f.short) in
      let model-end : part_end ys a 2 ≡ x.model_end = omega (arith, at, word 2 (omega arith), f.model-from, f.model-order, f.model-ends, f.short) in
      let text : word_of ys a 0 + word_of ys a 3 ≡ x.text_end = omega (arith, at, word 3 (omega arith), f.text) in
      λ t. record { at = at t; name = name t; name_end = end t; model = model t; model_end = model-end t; text_end = text t }

-- what it says
module _ (s xs : List ℕ) (i j : ℕ) (k : Kind) (room : j ≤ most k) (few : i ≤ names_held) (store : store_length ≤ length xs) where
  note-put : (ws : List ℕ) → length ws ≡ words_per k → note_at s (with_name xs i (lies_at k j) ws) i ≡ note_of s (with_name xs i (lies_at k j) ws) (lies_at k j) k
  unfolding note_at
  note-put ws e =
      let ends : lies_at k j + length ws ≤ order_from = rw e (lies-ends k j room) in
      let ys = with_name xs i (lies_at k j) ws in
      ap (λ (a : ℕ). note_of s ys a (kind_by a)) (put-at xs i (lies_at k j) ws ends few store) ∙ ap (note_of s ys (lies_at k j)) (kind-lies k j room)

  pub section-said : (x : SectionNote) → SectionFits x → is_section k ≡ true → note_at s (with_name xs i (lies_at k j) (words_of_section x)) i ≡ section_from s k x
  section-said x f t =
      let e : words_per_section ≡ words_per k = sym (cond_yes _ _ t) in
      let ends : lies_at k j + words_per_section ≤ order_from = subst (λ (w : ℕ). lies_at k j + w ≤ order_from) (sym e) (lies-ends k j room) in
      note-put (words_of_section x) e ∙ cond_yes _ _ t ∙ ap (section_from s k) (section-put xs i (lies_at k j) x f ends few store)

  pub row-said : (x : RowNote) → RowFits x → is_section k ≡ false → note_at s (with_name xs i (lies_at k j) (words_of_row x)) i ≡ row_from s k x
  row-said x f t =
      let e : words_per_row ≡ words_per k = sym (cond_no _ _ t) in
      let ends : lies_at k j + words_per_row ≤ order_from = subst (λ (w : ℕ). lies_at k j + w ≤ order_from) (sym e) (lies-ends k j room) in
      note-put (words_of_row x) e ∙ cond_no _ _ t ∙ ap (row_from s k) (row_put xs i (lies_at k j) x f ends few store)

-- ---- a name's note goes behind those of its kind

module _ (xs : List ℕ) (n : ℕ) (c : Counts) (filed : Filed xs n c) (room : (x : Kind) → used c x ≤ most x) (few : n ≤ names_held) (store : store_length ≤ length xs)
    (k : Kind) (ws : List ℕ) (size : length ws ≡ words_per k) where
  abbrev more : List ℕ
  more = with_name xs n (lies_at k (used c k)) ws

  ends : lies_at k (used c k) + length ws ≤ order_from
  ends = rw size (lies-ends k (used c k) (room k))

  kind-new : kind_at more n ≡ k
  kind-new = ap kind_by (put-at xs n (lies_at k (used c k)) ws ends few store) ∙ kind-lies k (used c k) (room k)

  order_same : (i : ℕ) → i < n → noted_at more i ≡ noted_at xs i
  order_same = put_order xs n (lies_at k (used c k)) ws ends few store

  pub filed-more : Filed more (n + 1) (one_more c k)
  unfolding how_many
  filed-more =
      let many : (x : Kind) → how_many more x n ≡ used c x = λ x. many-same xs more n order_same x n (omega arith) ∙ filed.counted x in
      record {
        lies = λ i h.
            by_order n i
            (λ a.
            let z : n ≡ i = omega (arith, a, h) in
            subst (λ (m : ℕ). noted_at more m ≡ lies_at (kind_at more m) (how_many more (kind_at more m) m)) z
            (rw kind-new rw (many k) (put-at xs n (lies_at k (used c k)) ws ends few store)))
            (λ a. lies_same xs more n order_same i a (filed.lies i a));
        counted = λ x. rw (add-one n) rw kind-new rw (many x) (sym (one_more_lem c k x));
      }

  -- in front of the notes
  pub log-note : (s : List ℕ) (note : Note) (d : Counts) → note_at s more n ≡ note
      → log_in s more (n + 1) d ≡ record { notes = note ∷ notes_to s xs n; counts = d }
  unfolding log_in notes_to
  log-note s note d says =
      rw (add-one n) rw says
      rw (notes-same s xs more n c filed order_same
      (λ m j b h g. put_other xs n (lies_at k (used c k)) ws ends few store (lies_at m j + b) (lies-below m j b (omega (arith, room m, h)) g)
      (λ e f. lie-apart c m k j b e room h g (subst (λ (w : ℕ). e < w) size f))) n (omega arith)) refl
