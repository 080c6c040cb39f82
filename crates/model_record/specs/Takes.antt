-- Keywords taken with what stands under them: the rows are written into the row store, and a waveform is handed out.
use Rattle.std.specs.Prelude.{ℕ, ◌≡◌, List, [], ◌∷◌, ◌++◌, cond, Some, None, is_some}
use Rattle.std.specs.Option.{option_to_list}
use Rattle.laws.specs.Lists.{front}
use Rattle.keywords.specs.declared.Keyword.{Keyword}
use Rattle.keywords.specs.declared.ModelPart.{ModelPart}
use Rattle.keywords.specs.declared.ModelPart.TheVariants.{VoltageRange, TemperatureRange, Current, Ramp, Waveform}
use Rattle.cut_lines.specs.Texts.{Text}
use Rattle.cut_lines.specs.Cursors.{rest, Placed}
use Rattle.cut_lines.specs.declared.Cursor.{Cursor}
use Rattle.rules.specs.Reading.{under, is_within, tables_in, waveform_in}
use Rattle.rules.specs.Keys.{by_keyword}
use Rattle.layout.specs.Laid.{waveforms_laid}
use Rattle.records.specs.Stored.{stored}
use Rattle.records.specs.declared.Waveform as laid_waveform
use Rattle.table_rows.specs.Rows.{Lies}
use Rattle.table_rows.specs.Parts.{model_words, key_rows}
use Rattle.model_record.specs.Bodies.{body_on, BodyFits, KeyTaken}
use Rattle.model_record.specs.declared.Body.{Body}
use Rattle.model_record.specs.declared.Taken.{Taken}

-- ---- what a keyword adds to the table of waveforms, as g says of a record: ls are the lines under it, and row is the place of the next row

abbrev pub part_waveform : {A : Type 0} → (laid_waveform.Waveform → List A) → ModelPart → ℕ → List (List ℕ) → List A
part_waveform g VoltageRange row ls = []
part_waveform g TemperatureRange row ls = []
part_waveform g (Current t) row ls = []
part_waveform g Ramp row ls = []
part_waveform g (Waveform e) row ls = g (waveform_in row e ls)

abbrev pub key_waveform : {A : Type 0} → (laid_waveform.Waveform → List A) → Keyword → ℕ → List (List ℕ) → List A
key_waveform g k row ls = by_keyword [] (λ p. []) (λ o. []) (λ p. []) (λ p. part_waveform g p row ls) [] (Some k)

-- the record alone
abbrev pub alone : laid_waveform.Waveform → List laid_waveform.Waveform
alone x = x ∷ []

-- ---- what was taken

abbrev pub without_waveform : Body → Cursor → ℕ → Taken
without_waveform b n words = record { body = b; next = n; words = words; waveform = None }

-- the waveform that was read last, if it was one
abbrev pub waveform_of : Taken → List laid_waveform.Waveform
waveform_of r = option_to_list r.waveform

-- a keyword, w being its argument, with its rows and its waveform
pub record TakesKey (s : List ℕ) (b : Body) (k : Keyword) (w : List ℕ) (c : Cursor) (before behind : List ℕ) (r : Taken) : Type 0 where
  pub taken : KeyTaken s b k w c r.body r.next
  pub rows : Lies before behind r.words (stored (key_rows k (under (rest s c))))
  pub waveform : waveform_of r ≡ key_waveform alone k b.row (under (rest s c))

-- the texts that are left of the section: none, if no waveform was read last
abbrev pub left_of : List ℕ → Taken → List Text
left_of s r = cond (is_some r.waveform) (front is_within (rest s r.next)) []

-- the keywords from c on: with what is left of the section they say what all say
pub record TakesKeys (s : List ℕ) (b : Body) (c : Cursor) (before behind : List ℕ) (r : Taken) : Type 0 where
  pub placed : Placed s r.next
  pub fits : BodyFits r.body r.next
  pub written : List ℕ
  pub lies : Lies before behind r.words written
  pub body : body_on b (front is_within (rest s c)) ≡ body_on r.body (left_of s r)
  pub waveforms : waveforms_laid (tables_in (front is_within (rest s c))) b.row ≡ waveform_of r ++ waveforms_laid (tables_in (left_of s r)) r.body.row
  pub rows : model_words (front is_within (rest s c)) ≡ written ++ model_words (left_of s r)
