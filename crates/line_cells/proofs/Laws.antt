-- Laws of cells and slopes, one for each branch of the code: words too few or too many, a slope by its slashes, divisors.
use Rattle.std.specs.Prelude.{Ok, Err, Result}
use Rattle.std.specs.Fn.{Shared}
use denote.Ref.{Bor}
use Prim.Native.Nat.{ℕ, ◌+◌, ◌≤◌, ◌<◌}
use Prim.Native.Char.{code}
use mathlib.Core.Path.{◌≡◌, refl, sym, ap, ◌∙◌}
use mathlib.Core.List.{List, [], ◌∷◌}
use mathlib.Core.Bool.{Bool, true, false, cond, ◌&&◌}
use native.Mathlib.Omega.{arith}
use lib.ListN.{length, take, drop, get_or, drop_of_length-le, length-drop}
use lib.Dec.{eqb}
use borrow.Author.Tests.{eq-eqb, ne_eqb, lt-ltb, le-ltb}
use Rattle.laws.specs.Bytes.{is_blank}
use Rattle.laws.specs.Lists.{front, after, other, part}
use Rattle.laws.specs.Said.{Said, read_on}
use Rattle.laws.proofs.Tests.{cond_yes, cond_no, cond_map}
use Rattle.laws.proofs.Lists.{from_cons, part-rest}
use Rattle.laws.proofs.Fronts.{front-take, after-drop, among-found}
use Rattle.decimal.specs.Decimal.{number_of, cell_of}
use Rattle.decimal.specs.declared.Cell.{Cell}
use Rattle.decimal.specs.declared.Decimal.{Decimal}
use Rattle.records.specs.Flaws.{Reads, flaw, column_in, told_in, at_place, said_at, said_there}
use Rattle.records.proofs.Columns.{Columns, told-word}
use Rattle.records.specs.Stored.{no_cells}
use Rattle.records.specs.declared.LineFault.{LineFault}
use Rattle.records.specs.declared.Triple.{Triple}
use Rattle.records.specs.declared.RampCell.{RampCell}
use Rattle.records.specs.declared.RampTriple.{RampTriple}
use Rattle.words.specs.Words.{word, words, rest_from}
use Rattle.words.specs.Places.{WordAt}
use Rattle.words.specs.declared.Word.{Word}
use Rattle.words.proofs.Laws.{words-none, words-some}
use Rattle.words.proofs.Chains.{link, done, words-just}
use Rattle.line_rules.specs.Fields.{word_by, exactly, typ_min_max, cells_by, slope_of, slope_from, slope_or_missing, ratio_of, is_upward, upward, three_slopes}
use Rattle.line_rules.proofs.Columns.{cell-columns}
use Rattle.line_rules.proofs.Told.{ten-at, exactly-yes, exactly-no}
use Rattle.rules.specs.Component.{pin_cells}
use Rattle.line_cells.specs.Threes.{bytes_of, Within, ThreeAre, NotThree, three_by, ReadsWords}
use Rattle.line_cells.specs.Divisors.{divided}

-- ---- words that are too few or too many

-- where there is no word, nothing follows
pub rest-gone : {s : List ℕ} {at : ℕ} {r : Word} → WordAt s at r → length s ≤ r.start → rest_from 1 (drop at s) ≡ drop r.start s
unfolding rest_from after
rest-gone {s} {at} {r} e h =
    let k : length s ≤ r.end = omega (arith, e.starts) in
    e.next 0 ∙ ap (rest_from 0) (drop_of_length-le s k) ∙ sym (drop_of_length-le s h)

-- just three
pub three-from : {s : List ℕ} {at : ℕ} {a b c z : Word} → WordAt s at a → WordAt s a.end b → WordAt s b.end c → c.start < length s
    → WordAt s c.end z → length s ≤ z.start → ThreeAre s at a b c
three-from e f g h last none =
    record {
      are = words-just (link e (link f done)) g h last none;
      begin = e.here;
      middle = e.next 0 ∙ f.here;
      last = e.next 1 ∙ f.next 0 ∙ g.here;
      first = record { starts = e.starts; ends = e.ends };
      second = record { starts = f.starts; ends = f.ends };
      third = record { starts = g.starts; ends = g.ends };
    }

module _ {s : List ℕ} {at p : ℕ} (h : NotThree s at p) where
  many : {A : Type 0} (said : Reads A) → told_in s (exactly 3 said (drop at s)) ≡ Err (at_place 10 p)
  many said = ap (told_in s) (exactly-no 3 said (drop at s) h.count ∙ ap (λ (v : List ℕ). Err (flaw 10 v)) h.rest) ∙ ap Err (ten-at s p h.within)

  pub three-other : {A : Type 0} (x y : List ℕ → Said A) → told_in s (three_by x y (drop at s)) ≡ Err (at_place 10 p)
  unfolding three_by
  three-other x y = many _

-- ---- a pin row's cells, by the place where the blanks from `at` on end

module _ (s : List ℕ) (at start : ℕ) (e : start ≡ at + length (front is_blank (drop at s))) where
  pub pin-cells-none : length s ≤ start → Ok no_cells ≡ told_in s (pin_cells (drop at s))
  unfolding pin_cells
  pin-cells-none h = sym (ap (λ (x : Reads Triple). told_in s x) (cond_yes _ _ (eq-eqb (length (words (drop at s))) 0 (ap length (words-none s at start e h)))))

  pub pin-cells-some : start < length s → told_in s (cells_by cell_of (drop at s)) ≡ told_in s (pin_cells (drop at s))
  unfolding pin_cells
  pin-cells-some h =
      let n : 0 < length (words (drop at s)) = omega (arith, ap length (words-some s at start e h _ refl)) in
      ap (λ (x : Reads Triple). told_in s x) (sym (cond_no _ _ (ne_eqb (length (words (drop at s))) 0 (λ z. omega arith))))

-- ---- just as many as there must be

abbrev pub kept : Cell → Cell → Cell → Triple
kept typ min max = record { typ = typ; min = min; max = max }

-- what is told of three answers
told-three : {A B : Type 0} (keep : A → A → A → B) (s : List ℕ) (p q r : Reads A)
    → told_in s (typ_min_max keep p q r) ≡ typ_min_max keep (told_in s p) (told_in s q) (told_in s r)
told-three keep s (Ok a) (Ok b) (Ok c) = refl
told-three keep s (Ok a) (Ok b) (Err f) = refl
told-three keep s (Ok a) (Err f) r = refl
told-three keep s (Err f) q r = refl

told-divided : (s : List ℕ) (t : RampTriple) → told_in s (upward t) ≡ divided t
unfolding upward divided column_in
told-divided s t = cond_map (told_in s) (is_upward t.typ && (is_upward t.min && is_upward t.max)) (Ok t) (Err (flaw 13 []))

-- a word at a place
word-there : {A : Type 0} (read : List ℕ → Said A) → ((w : List ℕ) → Columns (read w)) → (s v : List ℕ) (n : ℕ) (x : Word)
    → word n (words v) ≡ bytes_of s x → rest_from n v ≡ drop x.start s → Within s x → told_in s (word_by read n v) ≡ said_there x.start (read (bytes_of s x))
unfolding word_by
word-there read k s v n x e f h =
    ap (λ (y : List ℕ). told_in s (said_at (rest_from n v) (read y))) e
    ∙ ap (λ (y : List ℕ). told_in s (said_at y (read (bytes_of s x)))) f
    ∙ told-word s x.start (read (bytes_of s x)) (k (bytes_of s x)) (omega (arith, h.starts, h.ends))

-- three words, read so
module _ {A : Type 0} (typ other : List ℕ → Said A) (k : (w : List ℕ) → Columns (typ w)) (l : (w : List ℕ) → Columns (other w))
    {s : List ℕ} {at : ℕ} {a b c : Word} (t : ThreeAre s at a b c) where
  begins : told_in s (word_by typ 0 (drop at s)) ≡ said_there a.start (typ (bytes_of s a))
  unfolding word
  begins = word-there typ k s (drop at s) 0 a (ap (word 0) t.are) t.begin t.first

  goes : told_in s (word_by other 1 (drop at s)) ≡ said_there b.start (other (bytes_of s b))
  unfolding word
  goes = word-there other l s (drop at s) 1 b (ap (word 1) t.are) t.middle t.second

  ends : told_in s (word_by other 2 (drop at s)) ≡ said_there c.start (other (bytes_of s c))
  unfolding word
  ends = word-there other l s (drop at s) 2 c (ap (word 2) t.are) t.last t.third

three-are : {s : List ℕ} {at : ℕ} {a b c : Word} → ThreeAre s at a b c → length (words (drop at s)) ≡ 3
three-are t = ap length t.are

-- a function that says what p does of each text
pub reads-by : {F A : Type 0} {g : Shared F (Bor (List ℕ) × Unit {0}) (Said A)} {f : F} {s : List ℕ} (p : List ℕ → Said A) → ((w : List ℕ) → Columns (p w))
    → ((x : Bor (List ℕ)) (a : Said A) → g.post f (x, tt) a → a ≡ p x.now) → ReadsWords g f s p
reads-by p k h = record { reads = λ r a w e. h _ a e.says.met ∙ ap p e.shows; columns = k }

-- what a call said of a word
pub read-so : {F A : Type 0} {g : Shared F (Bor (List ℕ) × Unit {0}) (Said A)} {f : F} {s : List ℕ} {p : List ℕ → Said A} {r : Word} {x : Bor (List ℕ)} {a : Said A}
    → ReadsWords g f s p → Within s r → x.now ≡ bytes_of s r → g.post f (x, tt) a → a ≡ p (bytes_of s r)
read-so {x = x} h w e m = h.reads _ _ w (record { shown = x; shows = e; says = record { met = m } })

-- what is told of three words, read so, and kept so
module _ {A B : Type 0} (keep : A → A → A → B) (p q : List ℕ → Said A) (k : (w : List ℕ) → Columns (p w)) (l : (w : List ℕ) → Columns (q w))
    {s : List ℕ} {at : ℕ} {a b c : Word} (t : ThreeAre s at a b c) where
  kept-told : told_in s (exactly 3 (typ_min_max keep (word_by p 0 (drop at s)) (word_by q 1 (drop at s)) (word_by q 2 (drop at s))) (drop at s))
      ≡ typ_min_max keep (said_there a.start (p (bytes_of s a))) (said_there b.start (q (bytes_of s b))) (said_there c.start (q (bytes_of s c)))
  kept-told =
      ap (told_in s) (exactly-yes 3 _ (drop at s) (three-are t))
      ∙ told-three keep s (word_by p 0 (drop at s)) (word_by q 1 (drop at s)) (word_by q 2 (drop at s))
      ∙ rw (begins p q k l t, goes p q k l t, ends p q k l t) refl

module _ (typ : List ℕ → Said Cell) (k : (w : List ℕ) → Columns (typ w)) {s : List ℕ} {at : ℕ} {a b c : Word} (t : ThreeAre s at a b c) where
  pub cells_told : told_in s (cells_by typ (drop at s))
      ≡ typ_min_max kept (said_there a.start (typ (bytes_of s a))) (said_there b.start (cell_of (bytes_of s b))) (said_there c.start (cell_of (bytes_of s c)))
  unfolding cells_by
  cells_told = kept-told kept typ cell_of k cell-columns t

module _ {A : Type 0} (p q : List ℕ → Said A) (k : (w : List ℕ) → Columns (p w)) (l : (w : List ℕ) → Columns (q w))
    {s : List ℕ} {at : ℕ} {a b c : Word} (t : ThreeAre s at a b c) where
  three-told : {x y z : Said A} → x ≡ p (bytes_of s a) → y ≡ q (bytes_of s b) → z ≡ q (bytes_of s c)
      → told_in s (three_by p q (drop at s)) ≡ typ_min_max (λ x y z. (x, y, z)) (said_there a.start x) (said_there b.start y) (said_there c.start z)
  unfolding three_by
  three-told e f g = rw (e, f, g) (kept-told (λ x y z. (x, y, z)) p q k l t)

  -- the leftmost fault counts
  module _ {x : Said A} (e : x ≡ p (bytes_of s a)) where
    pub first-stops : {f : LineFault} → Err f ≡ said_there a.start x → told_in s (three_by p q (drop at s)) ≡ Err f
    first-stops h = three-told e refl refl ∙ rw (sym h) refl

    module _ {i : A} (h : Ok i ≡ said_there a.start x) {y : Said A} (d : y ≡ q (bytes_of s b)) where
      pub second-stops : {f : LineFault} → Err f ≡ said_there b.start y → told_in s (three_by p q (drop at s)) ≡ Err f
      second-stops m = three-told e d refl ∙ rw (sym h, sym m) refl

      module _ {j : A} (m : Ok j ≡ said_there b.start y) {z : Said A} (g : z ≡ q (bytes_of s c)) where
        pub third-stops : {f : LineFault} → Err f ≡ said_there c.start z → told_in s (three_by p q (drop at s)) ≡ Err f
        third-stops n = three-told e d g ∙ rw (sym h, sym m, sym n) refl

        pub none-stops : {o : A} → Ok o ≡ said_there c.start z → Ok (i, j, o) ≡ told_in s (three_by p q (drop at s))
        none-stops n = sym (three-told e d g ∙ rw (sym h, sym m, sym n) refl)

-- what is made of three answers
module _ (s : List ℕ) where
  made : {A B : Type 0} (go : A × A × A → Result B LineFault) (b : Bool) (v : List ℕ) (x : Reads (A × A × A)) (y : Reads B) → read_on (told_in s x) go ≡ told_in s y
      → read_on (told_in s (cond b x (Err (flaw 10 v)))) go ≡ told_in s (cond b y (Err (flaw 10 v)))
  made go true v x y h = h
  made go false v x y h = refl

  of-cells : (p q r : Reads Cell) → read_on {A = Cell × Cell × Cell} (told_in s (typ_min_max (λ a b c. (a, b, c)) p q r)) (λ t. Ok (kept t.0 t.1 t.2)) ≡ told_in s (typ_min_max kept p q r)
  of-cells (Ok a) (Ok b) (Ok c) = refl
  of-cells (Ok a) (Ok b) (Err f) = refl
  of-cells (Ok a) (Err f) r = refl
  of-cells (Err f) q r = refl

  -- faults of the words before 13
  of-slopes : (p q r : Reads RampCell) → read_on {A = RampCell × RampCell × RampCell} (told_in s (typ_min_max (λ a b c. (a, b, c)) p q r)) (λ t. divided (record { typ = t.0; min = t.1; max = t.2 }))
      ≡ told_in s (read_on (typ_min_max (λ typ min max. record { typ = typ; min = min; max = max }) p q r) upward)
  of-slopes (Ok a) (Ok b) (Ok c) = sym (told-divided s _)
  of-slopes (Ok a) (Ok b) (Err f) = refl
  of-slopes (Ok a) (Err f) r = refl
  of-slopes (Err f) q r = refl

  cells-on : (v : List ℕ) (typ : List ℕ → Said Cell) → read_on (told_in s (three_by typ cell_of v)) (λ t. Ok (kept t.0 t.1 t.2)) ≡ told_in s (cells_by typ v)
  unfolding three_by cells_by exactly
  cells-on v typ = made _ (eqb (length (words v)) 3) _ _ _ (of-cells (word_by typ 0 v) (word_by cell_of 1 v) (word_by cell_of 2 v))

  slopes-on : (v : List ℕ) → read_on (told_in s (three_by slope_of slope_or_missing v)) (λ t. divided (record { typ = t.0; min = t.1; max = t.2 })) ≡ told_in s (three_slopes v)
  unfolding three_by three_slopes exactly
  slopes-on v = made _ (eqb (length (words v)) 3) _ _ _ (of-slopes (word_by slope_of 0 v) (word_by slope_or_missing 1 v) (word_by slope_or_missing 2 v))

module _ (s v : List ℕ) where
  pub no-cells : (typ : List ℕ → Said Cell) {f : LineFault} → Err f ≡ told_in s (three_by typ cell_of v) → told_in s (cells_by typ v) ≡ Err f
  no-cells typ h = sym (cells-on s v typ) ∙ rw (sym h) refl

  pub the-cells : (typ : List ℕ → Said Cell) {a b c : Cell} → Ok (a, b, c) ≡ told_in s (three_by typ cell_of v) → Ok (kept a b c) ≡ told_in s (cells_by typ v)
  the-cells typ h = sym (sym (cells-on s v typ) ∙ rw (sym h) refl)

  pub no-slopes : {f : LineFault} → Err f ≡ told_in s (three_by slope_of slope_or_missing v) → told_in s (three_slopes v) ≡ Err f
  no-slopes h = sym (slopes-on s v) ∙ rw (sym h) refl

  pub the-slopes : {a b c : RampCell} → Ok (a, b, c) ≡ told_in s (three_by slope_of slope_or_missing v) → divided (record { typ = a; min = b; max = c }) ≡ told_in s (three_slopes v)
  the-slopes h = sym (sym (slopes-on s v) ∙ rw (sym h) refl)

-- ---- a slope

abbrev slash : ℕ
slash = code "/"

module _ (w : List ℕ) (i : ℕ) (e : i ≡ 0 + length (front (other slash) w)) where
  size : length (front (other slash) w) ≡ i
  size = omega arith

  from : after (other slash) w ≡ drop i w
  from = sym (after-drop (other slash) w) ∙ ap (λ (n : ℕ). drop n w) size

  before : front (other slash) w ≡ take i w
  before = sym (front-take (other slash) w) ∙ ap (λ (n : ℕ). take n w) size

  pub slope-none : length w ≤ i → Err 11 ≡ slope_of w
  unfolding slope_of slope_from
  slope-none h = (sym (ap (slope_from (front (other slash) w)) (from ∙ drop_of_length-le w h)))

  module _ (h : i < length w) (j : ℕ) (q : j ≡ i + 1 + length (front (other slash) (drop (i + 1) w))) where
    opened : slope_of w ≡ slope_from (take i w) (get_or w i 0 ∷ drop (i + 1) w)
    unfolding slope_of
    opened =
        ap (slope_from (front (other slash) w)) (from ∙ from_cons w i 0 h)
        ∙ ap (λ (f : List ℕ). slope_from f (get_or w i 0 ∷ drop (i + 1) w)) before

    pub slope-two : j < length w → Err 11 ≡ slope_of w
    unfolding slope_from
    slope-two k =
        let l : length (front (other slash) (drop (i + 1) w)) < length (drop (i + 1) w) = omega (arith, length-drop (i + 1) w) in
        (sym (opened ∙ cond_yes _ _ (among-found slash (drop (i + 1) w) ∙ lt-ltb _ _ l)))

    pub slope-one : length w ≤ j → {x y : Result Decimal ℕ} → x ≡ number_of (take i w) → y ≡ number_of (part (i + 1) (length w) w)
        → ratio_of x y ≡ slope_of w
    unfolding slope_from
    slope-one k {x} {y} f g =
        let l : length (drop (i + 1) w) ≤ length (front (other slash) (drop (i + 1) w)) = omega (arith, length-drop (i + 1) w) in
        rw (f, g)
        (ap (λ (l : List ℕ). ratio_of (number_of (take i w)) (number_of l)) (part-rest w (i + 1))
        ∙ (sym (opened ∙ cond_no _ _ (among-found slash (drop (i + 1) w) ∙ le-ltb _ _ l))))
