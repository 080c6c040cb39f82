-- Demand 3: "Take an accepted file and one model section in it. Change all the rest at will, keeping that section's lines and the comment
-- character in force where it begins, with another section or [End] straight after it."
use Rattle.std.specs.Prelude.{ℕ, ◌+◌, ◌≤◌, ◌<◌, ◌≡◌, List, [], ◌∷◌, ◌++◌, true, length, drop}
use Prim.Native.Char.{code}
use Rattle.lines.specs.Lines.{Physical, lines_of}
use Rattle.cut_lines.specs.Texts.{Text, texts_from}
use Rattle.rules.specs.Whole.{Held, passed, refused, texts_of, loading}
use Rattle.rules.specs.Reading.{SectionIs, model, sections_in, file_in}
use Rattle.rules.specs.Same.{SameModel}
use Rattle.layout.specs.Laid.{Laid, with_section, laid}
use Rattle.records.specs.declared.Lending.{Lending}
use Rattle.cut_lines.specs.InForce.{char_after_lines}
use Rattle.demand_three.specs.Lines.{sections_on, begins_another, is_model_section}

-- ---- the premises

-- in file s these lines stand in a row, c being the comment character in force where they begin, "with another section or [End] straight after";
-- lines are without their ends, so that LF or CR LF does not count
pub record Stands (c : ℕ) (section : List Physical) (s : List ℕ) : Type 0 where
  pub before : List Physical
  pub after : List Physical
  pub lines : lines_of s ≡ before ++ section ++ after
  pub char : char_after_lines (code "|") before ≡ c
  pub ends : begins_another (char_after_lines c section) after ≡ true

-- the file is accepted if this is lent
pub record AcceptedFile (l : Lending) (s : List ℕ) : Type 0 where
  pub held : Held
  pub passes : loading l s ≡ passed held

-- ---- the conclusion, if the changed file is accepted

-- in the tables lies, behind what came sooner, the model of section n, called w, with its texts ts: its record, its waveforms and its rows
pub record LiesIn (t : Laid) (n : ℕ) (w : List ℕ) (ts : List Text) : Type 0 where
  pub sooner : Laid
  pub later : Laid
  pub models : t.models ≡ (with_section sooner n (model w ts)).models ++ later.models
  pub waveforms : t.waveforms ≡ (with_section sooner n (model w ts)).waveforms ++ later.waveforms
  pub rows : t.rows ≡ (with_section sooner n (model w ts)).rows ++ later.rows

-- the section's place: as many sections come before it as are read from the lines before it
abbrev pub place_of : {c : ℕ} {section : List Physical} {s : List ℕ} → Stands c section s → ℕ
place_of stands = sections_on (code "|") stands.before

-- what demand 2 reads from file s at the section's place says the same as the model called w with the texts ts, and that model lies in its tables
pub record Says {c : ℕ} {section : List Physical} (s : List ℕ) (stands : Stands c section s) (w : List ℕ) (ts : List Text) : Type 0 where
  pub texts : List Text
  pub others : List SectionIs
  pub at : drop (place_of stands) (file_in (texts_of s)).sections ≡ model w texts ∷ others
  pub same : SameModel w texts w ts
  pub lies : LiesIn (laid (file_in (texts_of s))) (place_of stands) w ts

-- "that model's record, thresholds and rows say what demand 2 reads from that section, as before": one model, read from the section's lines alone,
-- is said by both files
pub record SameIn {c : ℕ} {section : List Physical} (s t : List ℕ) (first : Stands c section s) (second : Stands c section t) : Type 0 where
  pub name : List ℕ
  pub texts : List Text
  pub alone : sections_in (texts_from c 1 section) ≡ model name texts ∷ []
  pub says : Says s first name texts
  pub says_too : Says t second name texts

-- ---- the conclusion, if it is refused

-- "unless it is one of these": fault n told at line k, the section's keyword being at line keyword. "Too few rows" is none (document 02, §8): that
-- is told at line 0, before the file is looked at
pub data Excepted (keyword n k : ℕ) : Type 0 where
  out_of_place : n ≡ 7 → k ≡ keyword → Excepted keyword n k
  used_twice : n ≡ 14 → Excepted keyword n k
  not_listed : n ≡ 16 → Excepted keyword n k
  full_table : n ≡ 17 → Excepted keyword n k

-- "the fault names no line of the section": its lines are those after `before`, as many as it has
abbrev pub Spares : {c : ℕ} {section : List Physical} {s : List ℕ} → Stands c section s → ℕ → ℕ → Type 0
Spares {section = section} stands n k =
    length stands.before < k → k ≤ length stands.before + length section → Excepted (length stands.before + 1) n k

-- ---- demand 3: s is the accepted file, loaded into what l lends, t the changed one, loaded into what m lends

pub record Keeps {c : ℕ} {section : List Physical} (s t : List ℕ) (first : Stands c section s) (second : Stands c section t) (m : Lending) : Type 0 where
  pub accepted : AcceptedFile m t → SameIn s t first second
  pub refusal : (n k column : ℕ) → loading m t ≡ refused n k column → Spares second n k

abbrev pub Demand3 : Type 0
Demand3 =
    (c : ℕ) (section : List Physical) → is_model_section c section ≡ true
    → (l : Lending) (s : List ℕ) (first : Stands c section s) → AcceptedFile l s
    → (m : Lending) (t : List ℕ) (second : Stands c section t) → Keeps s t first second m
