-- Which numbers faults have: those of a line's step and of what it adds, those of a file that is checked, and those of a file that is loaded.
use Rattle.std.specs.Prelude.{ℕ, ◌+◌, ◌<◌, ◌≡◌, List, [], ◌∷◌, Bool, true, length, Result, Ok, Err}
use Rattle.laws.specs.Lists.{all, among}
use Rattle.records.specs.Bounds.{most_rows}
use Rattle.records.specs.declared.LineFault.{LineFault}
use Rattle.records.specs.declared.Lengths.{Lengths}
use Rattle.records.specs.declared.Lending.{Lending}
use Rattle.lines.specs.Lines.{Physical, lines_of}
use Rattle.cut_lines.specs.Texts.{Text, texts_from}
use Rattle.rules.specs.Steps.{on_text}
use Rattle.rules.specs.Whole.{Held, refused, admit, outcome, loading}
use Rattle.rules.specs.declared.Stage.{Stage}
use Rattle.rules.specs.declared.Event.{Event}
use Rattle.rules.specs.declared.Event.TheVariants.{Quiet, Opened, PinRow, ChoiceRow, WaveformOpened, TableRow, Ended}
use Rattle.rules.specs.Going.{Went}

-- ---- a line

-- by its step: a line's own faults and those of what it closes; 17 is a model's seventeenth waveform
abbrev pub of_steps : List ℕ
of_steps = 5 ∷ 6 ∷ 7 ∷ 8 ∷ 9 ∷ 10 ∷ 11 ∷ 12 ∷ 13 ∷ 17 ∷ 20 ∷ 21 ∷ []

-- by what it adds to the file: a name used twice, a bound, and at [End] that there is no component, or its own 10
abbrev pub of_added : List ℕ
of_added = 9 ∷ 10 ∷ 14 ∷ 17 ∷ []

-- the fault of its own that a line leaves to whoever counts; 0 for none
abbrev pub leaves : Event → ℕ
leaves Quiet = 0
leaves (Opened s) = 0
leaves PinRow = 0
leaves ChoiceRow = 0
leaves WaveformOpened = 0
leaves TableRow = 0
leaves (Ended f) = f.number

-- a step stops with one of its numbers, or goes on and leaves 10 or nothing
abbrev pub is_step : Went → Bool
is_step (Err f) = among f.number of_steps
is_step (Ok (s, e)) = among (leaves e) (0 ∷ 10 ∷ [])

-- what it adds is held, or denied with one of these numbers
abbrev pub is_added : Result Held LineFault → Bool
is_added (Ok h) = true
is_added (Err f) = among f.number of_added

-- any text of any lines, numbered from k on, whatever the comment character c in force at the first, at whatever stage it is met
abbrev pub StepNumbers : Type 0
StepNumbers = (c k : ℕ) (ls : List Physical) (s : Stage) → all (λ (t : Text). is_step (on_text s t)) (texts_from c k ls) ≡ true

abbrev pub AddedNumbers : Type 0
AddedNumbers =
    (l : Lengths) (h : Held) (k : ℕ) (w : List ℕ) (e : Event) → among (leaves e) (0 ∷ 10 ∷ []) ≡ true → is_added (admit l h k w e) ≡ true

-- ---- a file that is checked

-- of its bytes, of its lines from the top, and of its names; 19 is told behind its lines alone
abbrev pub of_files : List ℕ
of_files = 1 ∷ 2 ∷ 3 ∷ 4 ∷ 5 ∷ 6 ∷ 7 ∷ 8 ∷ 9 ∷ 10 ∷ 11 ∷ 12 ∷ 13 ∷ 14 ∷ 15 ∷ 16 ∷ 17 ∷ 20 ∷ 21 ∷ []

-- no 0, no 18, nothing above 21
abbrev pub Numbers : Type 0
Numbers = (l : Lengths) (s : List ℕ) (n k c : ℕ) → outcome l s ≡ refused n k c → among n (19 ∷ of_files) ≡ true

-- line k is the one after the last of file s, and c is no column
abbrev pub BehindLines : List ℕ → ℕ → ℕ → Type 0
BehindLines s k c = (k ≡ length (lines_of s) + 1) × (c ≡ 0)

-- a file that runs out is told of none of its lines
abbrev pub RunsOut : Type 0
RunsOut = (l : Lengths) (s : List ℕ) (k c : ℕ) → outcome l s ≡ refused 19 k c → BehindLines s k c

-- ---- a file that is loaded

abbrev pub LoadingNumbers : Type 0
LoadingNumbers = (l : Lending) (s : List ℕ) (n k c : ℕ) → loading l s ≡ refused n k c → among n (25 ∷ 19 ∷ of_files) ≡ true

abbrev pub LoadingRunsOut : Type 0
LoadingRunsOut = (l : Lending) (s : List ℕ) (k c : ℕ) → loading l s ≡ refused 19 k c → BehindLines s k c

-- 25 is told of what is lent, whatever the file
abbrev pub TooFewRows : Type 0
TooFewRows = (l : Lending) (s : List ℕ) (k c : ℕ) → loading l s ≡ refused 25 k c → l.rows < most_rows
