-- What is noted of a line, as the code answers it.
use Rattle.std.specs.Prelude.{ℕ, ◌+◌, ◌≤◌, ◌≡◌, List, cond, length, leb, Ok, Err, Result}
use Rattle.laws.specs.Lists.{part}
use Rattle.words.specs.declared.Word.{Word}
use Rattle.cut_lines.specs.Texts.{plain}
use Rattle.cut_lines.specs.Cursors.{first_cursor, rest, past, CleanFrom, TextIs}
use Rattle.cut_lines.specs.declared.Cursor.{Cursor}
use Rattle.rules.specs.declared.Event.{Event}
use Rattle.rules.specs.Whole.{bound}
use Rattle.records.specs.Flaws.{bare}
use Rattle.records.specs.Bounds.{most, most_waveforms}
use Rattle.records.specs.declared.Kind.{Kind}
use Rattle.records.specs.declared.Kind.TheVariants.{OfComponent, OfPin, OfSelector, OfChoice, OfModel}
use Rattle.records.specs.declared.Counts.{Counts}
use Rattle.records.specs.declared.Lengths.{Lengths}
use Rattle.records.specs.declared.LineFault.{LineFault}
use Rattle.notes.specs.Noted.{Log, Logged, going, full, used, one_more, logged}
use Rattle.note_words.specs.Store.{most_names, Filed, log_in, store_length}
use Rattle.note_words.specs.declared.SectionNote.{SectionNote}
use Rattle.note_words.specs.declared.RowNote.{RowNote}
use Rattle.noted_events.specs.declared.Spot.{Spot}
use Rattle.noted_events.specs.declared.Tally.{Tally}

-- what a line adds is noted, or there is no room for it: the line's fault, and what is noted and counted all the same
abbrev pub Told : Type 0
Told = Result Tally (LineFault × Tally)

abbrev pub log_of : List ℕ → List ℕ → Tally → Log
log_of s xs t = log_in s xs t.names t.counts

-- k is the line
abbrev pub told_is : List ℕ → List ℕ → ℕ → Told → Logged
told_is s xs k (Ok t) = going (log_of s xs t)
told_is s xs k (Err (f, t)) = full f k (log_of s xs t)

abbrev pub logged_at : Lengths → List ℕ → List ℕ → Tally → Spot → Event → Logged
logged_at l s xs t p e = logged l (log_of s xs t) (plain p.line (part p.start p.end s)) (rest s p.next) e

-- the note of a section whose name lies from a to e, and that of a row
abbrev pub section_in : Spot → ℕ → ℕ → Counts → ℕ → ℕ → SectionNote
section_in p a e c start row =
    record { at = p.start; name = a; name_end = e; start = start; row = row; comment = p.next.comment; section = c.components + c.selectors + c.models }

abbrev pub row_in : Spot → Word → Word → RowNote
row_in p name model =
    record { at = p.start; name = name.start; name_end = name.end; model = model.start; model_end = model.end; text_end = p.end }

-- a name that is noted is counted, or its table is full
unfoldable pub counted : Lengths → Tally → Kind → Told
counted l t k =
    cond (leb (bound l k) (used t.counts k)) (Err (bare 17, record { names = t.names + 1; counts = t.counts }))
    (Ok (record { names = t.names + 1; counts = one_more t.counts k }))

-- a tally that stays within document 01's bounds
pub record Within (t : Tally) : Type 0 where
  pub names : t.names ≡ t.counts.components + t.counts.pins + t.counts.selectors + t.counts.choices + t.counts.models
  pub components : t.counts.components ≤ most OfComponent
  pub pins : t.counts.pins ≤ most OfPin
  pub selectors : t.counts.selectors ≤ most OfSelector
  pub choices : t.counts.choices ≤ most OfChoice
  pub models : t.counts.models ≤ most OfModel
  pub waveforms : t.counts.waveforms ≤ most_waveforms

-- the notes in the store lie by kind, as they are counted
abbrev pub FiledBy : List ℕ → Tally → Type 0
FiledBy xs t = Filed xs t.names t.counts

-- what is noted lies by kind, and there is at most one row more
pub record KeptCounts (xs : List ℕ) (t u : Tally) : Type 0 where
  pub within : Within u
  pub filed : FiledBy xs u
  pub rows : u.counts.rows ≤ t.counts.rows + 1

abbrev pub KeptBy : List ℕ → Tally → Told → Type 0
KeptBy xs t (Ok u) = KeptCounts xs t u
KeptBy xs t (Err (f, u)) = u.names ≤ most_names

-- a text of a file without faulty bytes, its lines counted from the first, with room in the store for what it adds
pub record Ready (s xs : List ℕ) (t : Tally) (p : Spot) : Type 0 where
  pub cursor : Cursor
  pub text : TextIs s cursor p.line p.start p.end p.next
  pub counted : past s cursor ≡ past s first_cursor
  pub clean : CleanFrom s cursor
  pub small : length s ≤ 65536
  pub store : store_length ≤ length xs
  pub within : Within t
  pub filed : FiledBy xs t
  pub rows : t.counts.rows ≤ p.start
