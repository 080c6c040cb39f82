-- What is looked up among the noted names, by the words of the store: which two meet, and which one is named.
use Rattle.std.specs.Prelude.{ℕ, zero, suc, ◌+◌, ◌*◌, ◌/◌, ◌%◌, ◌≤◌, ◌<◌, ◌≡◌, List, [], ◌∷◌, map, reverse, Bool, true, false, cond, not, ◌&&◌, ◌||◌, length, get_or, set, eqb, ltb, leb, Option, None, Some, Result, Ok, Err}
use Rattle.laws.specs.Lists.{part, eqs}
use Rattle.words.specs.declared.Word.{Word}
use Rattle.line_rules.specs.Fields.{needs_no_model}
use Rattle.given.specs.Given.{has, with}
use Rattle.given.specs.declared.Given.{Given}
use Rattle.rules.specs.Outline.{Entry, place, is, lists, first_failing}
use Rattle.rules.specs.Whole.{Outcome, refused, last_checks}
use Rattle.rules.specs.Last.{found}
use Rattle.records.specs.declared.Kind.{Kind}
use Rattle.records.specs.declared.Kind.TheVariants.{OfComponent, OfPin, OfSelector, OfChoice, OfModel}
use Rattle.records.specs.declared.Fault.{Fault}
use Rattle.notes.specs.Noted.{entry_of}
use Rattle.note_words.specs.Store.{noted_at, kind_at, noted_line, part_start, part_end, name_at, row_at, note_at, notes_to}
use Rattle.name_checks.specs.declared.Meeting.{Meeting}
use Rattle.name_checks.specs.declared.Meeting.TheVariants.{Equal, Differing, Beyond}

-- ---- a note's words

-- the number of its kind
unfoldable pub place_at : List ℕ → ℕ → ℕ
place_at xs i = place (kind_at xs i)

-- of a pin or a selector row, the model it names
abbrev pub model_at : List ℕ → List ℕ → ℕ → List ℕ
model_at s xs i = part (row_at xs (noted_at xs i)).model (row_at xs (noted_at xs i)).model_end s

abbrev pub entry_at : List ℕ → List ℕ → ℕ → Entry
entry_at s xs i = entry_of (note_at s xs i)

-- the first n, the latest first
abbrev pub entries_to : List ℕ → List ℕ → ℕ → List Entry
entries_to s xs n = map entry_of (notes_to s xs n)

-- n of them from place i on, in file order
unfoldable pub entries_from : List ℕ → List ℕ → ℕ → ℕ → List Entry
entries_from s xs i zero = []
entries_from s xs i (suc n) = entry_at s xs i ∷ entries_from s xs (i + 1) n

-- the part of the file that word j of a note says
abbrev pub part_said : List ℕ → ℕ → ℕ → Word
part_said xs i j = record { start = part_start xs (noted_at xs i) j; end = part_end xs (noted_at xs i) j }

-- a part from a to e, in a file of n bytes: cut at its end, and empty where it begins past it or ends before it begins
unfoldable pub moved_in : ℕ → ℕ → ℕ → Word
moved_in n a e =
    cond (ltb e a) (record { start = 0; end = 0 })
    (cond (leb e n) (record { start = a; end = e })
    (cond (leb a n) (record { start = a; end = n }) (record { start = 0; end = 0 })))

-- a part of the file that may lie outside of it, moved into it
pub record Within (s : List ℕ) (a e : ℕ) (w : Word) : Type 0 where
  pub is : w ≡ moved_in (length s) a e
  pub order : w.start ≤ w.end
  pub inside : w.end ≤ length s
  pub same : part w.start w.end s ≡ part a e s

-- ---- names used twice, by the numbers of their kinds

unfoldable pub model_or_selector : ℕ → Bool
model_or_selector k = eqb k (place OfModel) || eqb k (place OfSelector)

-- names of these kinds must differ
unfoldable pub rivals : ℕ → ℕ → Bool
rivals k l = cond (model_or_selector k) (model_or_selector l) (eqb k l)

-- pins and selector rows are compared within their section: up to the next name of another kind
unfoldable pub enclosed : ℕ → Bool
enclosed k = eqb k (place OfPin) || eqb k (place OfChoice)

-- a name of kind k and an earlier one of kind l
unfoldable pub meeting : ℕ → ℕ → Bool → Meeting
meeting k l same = cond (rivals k l) (cond same Equal Differing) (cond (enclosed k) Beyond Differing)

unfoldable pub meeting_at : List ℕ → List ℕ → ℕ → ℕ → Meeting
meeting_at s xs i j = meeting (place_at xs i) (place_at xs j) (eqs (name_at s xs i) (name_at s xs j))

-- what a meeting says, u being what the names before say
abbrev pub met : Meeting → Bool → Bool
met Equal u = true
met Differing u = u
met Beyond u = false

-- a name of kind k equals one of the first n that it is to be compared with, the nearest taken first
unfoldable pub meets_to : List ℕ → List ℕ → ℕ → List ℕ → ℕ → Bool
meets_to s xs k name zero = false
meets_to s xs k name (suc n) = met (meeting k (place_at xs n) (eqs name (name_at s xs n))) (meets_to s xs k name n)

-- the place of the section that a pin or a selector row right behind place i lies in, k being the kind at place i and section the one for place i itself
unfoldable pub section_behind : ℕ → ℕ → ℕ → ℕ
section_behind k i section = cond (enclosed k) section i

-- the one for place i: that of the last name before it that is neither a pin nor a selector row
unfoldable pub section_to : List ℕ → ℕ → ℕ
section_to xs zero = 0
section_to xs (suc i) = section_behind (place_at xs i) i (section_to xs i)

-- where a name's key starts: names that are compared share it, and those of two sections seldom do
unfoldable pub start_of : ℕ → ℕ → ℕ
start_of k section = cond (model_or_selector k) (place OfModel) (cond (enclosed k) (section % 65536 * 3317) k)

-- a number that equal names share: where two differ, the names do
unfoldable pub key_from : ℕ → List ℕ → ℕ
key_from k [] = k
key_from k (b ∷ bs) = key_from (k % 67108864 * 33 + b) bs

abbrev pub key_at : List ℕ → List ℕ → ℕ → ℕ
key_at s xs i = key_from (start_of (place_at xs i) (section_to xs i)) (name_at s xs i)

-- where a key's bit lies, in words of 64 bits: keys that differ may share a bit
abbrev pub seen_words : ℕ
seen_words = 128

abbrev pub seen_word : ℕ → ℕ
seen_word key = key / 64 % seen_words

abbrev pub seen_bits : List ℕ → ℕ → Given
seen_bits seen key = record { bits = get_or seen (seen_word key) 0 }

-- the key's bit is set
unfoldable pub is_seen : List ℕ → ℕ → Bool
is_seen seen key = has (seen_bits seen key) (key % 64)

-- and from here on
unfoldable pub with_seen : List ℕ → ℕ → List ℕ
with_seen seen key = set seen (seen_word key) (with (seen_bits seen key) (key % 64)).bits

-- ---- models and selectors by their keys

-- the key of such a name, and of a word that names it
abbrev pub target_key : List ℕ → ℕ
target_key name = key_from (start_of (place OfModel) 0) name

-- the keys seen, with that of the name at place i where it is a model's or a selector's
unfoldable pub with_key : List ℕ → List ℕ → List ℕ → ℕ → List ℕ
with_key s xs seen i = cond (model_or_selector (place_at xs i)) (with_seen seen (target_key (name_at s xs i))) seen

-- a slot for each remainder of a key, with the place of a name that has such a key
abbrev pub slot_count : ℕ
slot_count = 512

unfoldable pub with_slot : List ℕ → List ℕ → List ℕ → ℕ → List ℕ
with_slot s xs slots i = cond (model_or_selector (place_at xs i)) (set slots (target_key (name_at s xs i) % slot_count) i) slots

-- a table after a step for each of the first n places
unfoldable pub after : (List ℕ → ℕ → List ℕ) → List ℕ → ℕ → List ℕ
after step t zero = t
after step t (suc n) = step (after step t n) n

abbrev pub keys_to : List ℕ → List ℕ → List ℕ → ℕ → List ℕ
keys_to s xs = after (with_key s xs)

abbrev pub slots_to : List ℕ → List ℕ → List ℕ → ℕ → List ℕ
slots_to s xs = after (with_slot s xs)

-- the keys of the models and selectors among the first n names were seen
abbrev pub Listed : List ℕ → List ℕ → ℕ → List ℕ → Type 0
Listed s xs n seen = (j : ℕ) → j < n → model_or_selector (place_at xs j) ≡ true → is_seen seen (target_key (name_at s xs j)) ≡ true

-- ---- what a pin or a selector row names

-- a pin names a model or a selector, a selector row a model
unfoldable pub reaches : ℕ → ℕ → Bool
reaches k l = cond (eqb l (place OfModel)) (enclosed k) (cond (eqb l (place OfSelector)) (eqb k (place OfPin)) false)

unfoldable pub reaches_at : List ℕ → List ℕ → ℕ → ℕ → Bool
reaches_at s xs i j = reaches (place_at xs i) (place_at xs j) && eqs (model_at s xs i) (name_at s xs j)

-- the last of the first n names that the one at place i names: where no name is used twice there is one at most
unfoldable pub target_to : List ℕ → List ℕ → ℕ → ℕ → Option ℕ
target_to s xs i zero = None
target_to s xs i (suc n) = cond (reaches_at s xs i n) (Some n) (target_to s xs i n)

-- nothing need be found: of a section, and of a pin that needs no model
unfoldable pub excused : ℕ → List ℕ → Bool
excused k w = cond (eqb k (place OfPin)) (needs_no_model w) (not (eqb k (place OfChoice)))

-- a fault and the line it is told at, or 0 where there is none
unfoldable pub told_of : ℕ → ℕ → Result (Unit {0}) Fault
told_of number line = cond (eqb line 0) (Ok tt) (Err (record { number = number; line = line; column = 0 }))

-- the fault of the name at place i, of n names; there is none where it is not one of them
abbrev pub told_at : List ℕ → List ℕ → ℕ → ℕ → ℕ → Result (Unit {0}) Fault
told_at s xs number n i = cond (ltb i n) (told_of number (noted_line s xs i)) (Ok tt)

-- place i where the name there names nothing, else that of the later ones
abbrev pub missing : List ℕ → List ℕ → ℕ → ℕ → Option ℕ → ℕ
missing s xs i later (Some j) = later
missing s xs i later None = cond (excused (place_at xs i) (model_at s xs i)) later i

-- ---- marks of what is listed: a number a name

abbrev pub is_marked : List ℕ → ℕ → Bool
is_marked marks j = eqb (get_or marks j 0) 1

-- there is a number for each of n names, and none is marked
abbrev pub Clear : List ℕ → ℕ → Type 0
Clear marks n = (n ≤ length marks) × ((j : ℕ) → j < n → get_or marks j 0 ≡ 0)

abbrev pub with_mark : List ℕ → Option ℕ → List ℕ
with_mark marks (Some j) = set marks j 1
with_mark marks None = marks

-- the name is marked if some of these entries names it
abbrev pub marked : List Entry → Entry → Kind → Bool
marked es f OfComponent = false
marked es f OfPin = false
marked es f OfSelector = lists (is OfPin) f.name es
marked es f OfChoice = false
marked es f OfModel = lists (is OfPin) f.name es || lists (is OfChoice) f.name es

-- the marks say which of the first n names these entries name
abbrev pub Marks : List ℕ → List ℕ → List Entry → ℕ → List ℕ → Type 0
Marks s xs es n marks = (j : ℕ) → j < n → is_marked marks j ≡ marked es (entry_at s xs j) (note_at s xs j).kind

-- all pins and selector rows have marked what they name, and r is the place of the first that names nothing
pub record Marked (s xs marks : List ℕ) (n r : ℕ) : Type 0 where
  pub first : told_at s xs 15 n r ≡ told_of 15 (first_failing (found (entries_from s xs 0 n)) (entries_from s xs 0 n))
  pub says : Marks s xs (entries_from s xs 0 n) n marks

-- place j where the name there is a model's or a selector's and not marked, else that of the later ones
unfoldable pub unmarked : List ℕ → List ℕ → ℕ → ℕ → ℕ
unmarked xs marks j later = cond (model_or_selector (place_at xs j)) (cond (is_marked marks j) later j) later

-- the first such place of n names from place j on; the place behind them if there is none
unfoldable pub unmarked_from : List ℕ → List ℕ → ℕ → ℕ → ℕ
unmarked_from xs marks j zero = j
unmarked_from xs marks j (suc n) = unmarked xs marks j (unmarked_from xs marks (j + 1) n)

abbrev pub last_is : Outcome → Result (Unit {0}) Fault → Outcome
last_is done (Ok tt) = done
last_is done (Err f) = refused f.number f.line f.column

-- the last checks of entries that are given the latest first
abbrev pub Concludes : List Entry → Result (Unit {0}) Fault → Type 0
Concludes es r = (d : Outcome) → last_checks (reverse es) d ≡ last_is d r
