-- The store: an area of notes for each kind, then the names in file order, a word each that says where its note lies. A word is of two bytes.
use Rattle.std.specs.Prelude.{ℕ, zero, suc, ◌+◌, ◌-◌, ◌*◌, ◌/◌, ◌%◌, ◌≤◌, ◌<◌, ◌≡◌, List, [], ◌∷◌, Bool, true, false, cond, drop, get_or, set, eqb, ltb}
use Rattle.std.proofs.lemmas.List.Edits.{sets}
use Rattle.laws.specs.Lists.{part}
use Rattle.lines.specs.Places.{line_at}
use Rattle.cut_lines.specs.Cursors.{rest}
use Rattle.cut_lines.specs.declared.Cursor.{Cursor}
use Rattle.records.specs.Bounds.{most}
use Rattle.records.specs.declared.Kind.{Kind}
use Rattle.records.specs.declared.Kind.TheVariants.{OfComponent, OfPin, OfSelector, OfChoice, OfModel}
use Rattle.records.specs.declared.Counts.{Counts}
use Rattle.rules.specs.Outline.{place}
use Rattle.notes.specs.Noted.{used, Note, Log}
use Rattle.note_words.specs.declared.SectionNote.{SectionNote}
use Rattle.note_words.specs.declared.RowNote.{RowNote}

-- ---- where things lie

-- as many names as the tables hold
abbrev pub names_held : ℕ
names_held = most OfComponent + most OfPin + most OfSelector + most OfChoice + most OfModel

-- and one more: a name is noted before its table is found full
abbrev pub most_names : ℕ
most_names = names_held + 1

abbrev pub words_per_section : ℕ
words_per_section = 5

abbrev pub words_per_row : ℕ
words_per_row = 4

-- the other kinds are those of rows
abbrev pub is_section : Kind → Bool
is_section OfComponent = true
is_section OfPin = false
is_section OfSelector = true
is_section OfChoice = false
is_section OfModel = true

abbrev pub words_per : Kind → ℕ
words_per k = cond (is_section k) words_per_section words_per_row

-- the words of a kind's area: one note more than its table holds
abbrev pub area_of : Kind → ℕ
area_of k = words_per k * (most k + 1)

abbrev pub area_from : Kind → ℕ
area_from OfComponent = 0
area_from OfPin = area_of OfComponent
area_from OfSelector = area_of OfComponent + area_of OfPin
area_from OfChoice = area_of OfComponent + area_of OfPin + area_of OfSelector
area_from OfModel = area_of OfComponent + area_of OfPin + area_of OfSelector + area_of OfChoice

-- where note j of a kind lies
abbrev pub lies_at : Kind → ℕ → ℕ
lies_at k j = area_from k + words_per k * j

-- the kind in whose area a note lies
unfoldable pub kind_by : ℕ → Kind
kind_by a =
    cond (ltb a (area_from OfPin)) OfComponent
    (cond (ltb a (area_from OfSelector)) OfPin
    (cond (ltb a (area_from OfChoice)) OfSelector
    (cond (ltb a (area_from OfModel)) OfChoice OfModel)))

-- the names in file order
abbrev pub order_from : ℕ
order_from = area_from OfModel + area_of OfModel

abbrev pub store_length : ℕ
store_length = order_from + most_names

-- ---- two numbers in a word

-- above and below; each is less than 256
abbrev pub paired : ℕ → ℕ → ℕ
paired high low = high * 256 + low

-- ---- a section's words, and its note: its line is the one that begins at its place, and behind that stand its lines

abbrev pub words_of_section : SectionNote → List ℕ
words_of_section x =
    x.at ∷ paired (x.name - x.at) (x.name_end - x.name) ∷ paired x.comment x.section ∷ x.start ∷ x.row ∷ []

-- it can be noted
pub record SectionFits (x : SectionNote) : Type 0 where
  pub at : x.at < 65536
  pub comment : x.comment < 256
  pub from : x.at ≤ x.name
  pub order : x.name ≤ x.name_end
  pub short : x.name_end < x.at + 256
  pub start : x.start < 65536
  pub row : x.row < 65536
  pub section : x.section < 256

-- at the line that begins at a place, under a comment character
abbrev pub cursor_at : List ℕ → ℕ → ℕ → Cursor
cursor_at s at char = record { at = at; line = line_at s at; comment = char }

abbrev pub section_from : List ℕ → Kind → SectionNote → Note
section_from s k x =
    record { kind = k; line = line_at s x.at; name = part x.name x.name_end s; names = []; text = []; behind = drop 1 (rest s (cursor_at s x.at x.comment)); section = x.section; start = x.start; row = x.row }

-- ---- a row's words, and its note: its text begins at its place

abbrev pub words_of_row : RowNote → List ℕ
words_of_row x =
    x.at ∷ paired (x.name - x.at) (x.name_end - x.name) ∷ paired (x.model - x.at) (x.model_end - x.model) ∷ (x.text_end - x.at) ∷ []

pub record RowFits (x : RowNote) : Type 0 where
  pub at : x.at < 65536
  pub text : x.at ≤ x.text_end
  pub short : x.text_end < x.at + 256
  pub from : x.at ≤ x.name
  pub order : x.name ≤ x.name_end
  pub ends : x.name_end ≤ x.text_end
  pub model-from : x.at ≤ x.model
  pub model-order : x.model ≤ x.model_end
  pub model-ends : x.model_end ≤ x.text_end

abbrev pub row_from : List ℕ → Kind → RowNote → Note
row_from s k x =
    record { kind = k; line = line_at s x.at; name = part x.name x.name_end s; names = part x.model x.model_end s; text = part x.at x.text_end s; behind = []; section = 0; start = 0; row = 0 }

-- ---- read back: the note that lies at a

-- word j of it
abbrev pub word_of : List ℕ → ℕ → ℕ → ℕ
word_of xs a j = get_or xs (a + j) 0

-- where the part lies that word j says
abbrev pub part_start : List ℕ → ℕ → ℕ → ℕ
part_start xs a j = word_of xs a 0 + word_of xs a j / 256

abbrev pub part_end : List ℕ → ℕ → ℕ → ℕ
part_end xs a j = word_of xs a 0 + word_of xs a j / 256 + word_of xs a j % 256

abbrev pub name_of : List ℕ → List ℕ → ℕ → List ℕ
name_of s xs a = part (part_start xs a 1) (part_end xs a 1) s

abbrev pub section_at : List ℕ → ℕ → SectionNote
section_at xs a =
    record { at = word_of xs a 0; name = part_start xs a 1; name_end = part_end xs a 1; start = word_of xs a 3; row = word_of xs a 4; comment = word_of xs a 2 / 256; section = word_of xs a 2 % 256 }

abbrev pub row_at : List ℕ → ℕ → RowNote
row_at xs a =
    record { at = word_of xs a 0; name = part_start xs a 1; name_end = part_end xs a 1; model = part_start xs a 2; model_end = part_end xs a 2; text_end = word_of xs a 0 + word_of xs a 3 }

-- as one of this kind
abbrev pub note_of : List ℕ → List ℕ → ℕ → Kind → Note
note_of s xs a k = cond (is_section k) (section_from s k (section_at xs a)) (row_from s k (row_at xs a))

-- ---- name i in file order

-- where its note lies
abbrev pub noted_at : List ℕ → ℕ → ℕ
noted_at xs i = get_or xs (order_from + i) 0

abbrev pub kind_at : List ℕ → ℕ → Kind
kind_at xs i = kind_by (noted_at xs i)

abbrev pub noted_line : List ℕ → List ℕ → ℕ → ℕ
noted_line s xs i = line_at s (word_of xs (noted_at xs i) 0)

abbrev pub name_at : List ℕ → List ℕ → ℕ → List ℕ
name_at s xs i = name_of s xs (noted_at xs i)

unfoldable pub note_at : List ℕ → List ℕ → ℕ → Note
note_at s xs i = note_of s xs (noted_at xs i) (kind_at xs i)

-- the store with these words at a as the note of name i
abbrev pub with_name : List ℕ → ℕ → ℕ → List ℕ → List ℕ
with_name xs i a ws = set (sets xs a ws) (order_from + i) a

-- how many of the first n names are of a kind
unfoldable pub how_many : List ℕ → Kind → ℕ → ℕ
how_many xs k zero = 0
how_many xs k (suc n) = cond (eqb (place k) (place (kind_at xs n))) (how_many xs k n + 1) (how_many xs k n)

-- the notes of a kind lie one behind the other in its area, in file order, and are as many as are counted
pub record Filed (xs : List ℕ) (n : ℕ) (c : Counts) : Type 0 where
  pub lies : (i : ℕ) → i < n → noted_at xs i ≡ lies_at (kind_at xs i) (how_many xs (kind_at xs i) i)
  pub counted : (k : Kind) → how_many xs k n ≡ used c k

-- ---- all of them, the latest first

unfoldable pub notes_to : List ℕ → List ℕ → ℕ → List Note
notes_to s xs zero = []
notes_to s xs (suc n) = note_at s xs n ∷ notes_to s xs n

unfoldable pub log_in : List ℕ → List ℕ → ℕ → Counts → Log
log_in s xs n c = record { notes = notes_to s xs n; counts = c }
