-- The record at a place is the one that was written there, and its words read back as itself.
use Prim.Native.Nat.{ℕ, zero, suc, ◌<◌}
use mathlib.Core.Path.{◌≡◌, refl, ap, ◌∙◌}
use mathlib.Core.List.{List, [], ◌∷◌, ◌++◌, flat_map}
use native.Mathlib.Nat.{not-suc-le-zero, le_of_suc-le-suc}
use native.Mathlib.Omega.{arith}
use lib.ListN.{length, get_or}
use Rattle.laws.specs.Lists.{Every}
use Rattle.rules.specs.Whole.{passed, texts_of}
use Rattle.rules.specs.Reading.{file_in}
use Rattle.layout.specs.Laid.{Laid, laid}
use Rattle.records.specs.Stored.{row_words, stored, over}
use Rattle.records.specs.declared.Row.{Row}
use Rattle.record_words.specs.Records.{component_words, pin_words, selector_words, choice_words, model_words, waveform_words}
use Rattle.table_records.specs.Values.{record_at}
use Rattle.table_records.specs.Records.{component_from, pin_from, selector_from, choice_from, model_from, waveform_from, row_from}
use Rattle.table_records.proofs.RecordsBack.{component-back, pin-back, selector-back, choice-back, model-back, waveform-back, row_back}
use Rattle.table_records.proofs.Laid.{record-back}
use Rattle.table_words.specs.Packed.{WordTables}
use Rattle.table_reader.specs.ReadInWords.{words_left}
use Rattle.handed_out.specs.FineTables.{FineTables}
use Rattle.handed_out.specs.HandedOut.{HandedOut, ReadIsHandedOut}
use Rattle.handed_out.proofs.Fine.{fine}

every-there : {A : Type 0} (P : A → Type 0) (l : List A) (k : ℕ) (d : A) → k < length l → Every P l → P (get_or l k d)
every-there P [] k d h e = absurd (not-suc-le-zero h)
every-there P (a ∷ l) zero d h e = e.0
every-there P (a ∷ l) (suc k) d h e = every-there P l k d (le_of_suc-le-suc h) e.1

-- any table: records of so many words, each of which reads back as what it shows
handed : {A B : Type 0} (P : A → Type 0) (words : A → List ℕ) (from : List ℕ → B) (shown : A → B) (size : ℕ) → 0 < size → ((x : A) → length (words x) ≡ size) → ((x : A) → P x → from (words x) ≡ shown x)
    → (xs : List A) (table : List ℕ) → Every P xs → (k : ℕ) (d : A) → k < length xs → from (record_at size (over table (flat_map words xs)) k) ≡ shown (get_or xs k d)
handed P words from shown size some sized back xs table e k d h =
    ap from (record-back words size some sized xs table k d h) ∙ back (get_or xs k d) (every-there P xs k d h e)

stored-flat : (rs : List Row) → stored rs ≡ flat_map row_words rs
unfolding stored flat_map
stored-flat [] = refl
stored-flat (r ∷ rs) = ap (λ (l : List ℕ). row_words r ++ l) (stored-flat rs)

laid_out : (a : Laid) (t : WordTables) (h : _) → FineTables a → HandedOut a (words_left (passed h) a t)
laid_out a t h f =
    record {
      components = handed _ component_words component_from (λ x. x) 26 (omega arith) (λ x. refl) component-back a.components t.components f.components;
      pins = handed _ pin_words pin_from (λ x. x) 21 (omega arith) (λ x. refl) pin-back a.pins t.pins f.pins;
      selectors = handed _ selector_words selector_from (λ x. x) 9 (omega arith) (λ x. refl) selector-back a.selectors t.selectors f.selectors;
      choices = handed _ choice_words choice_from (λ x. x) 22 (omega arith) (λ x. refl) choice-back a.choices t.choices f.choices;
      models = handed _ model_words model_from (λ x. x) 70 (omega arith) (λ x. refl) model-back a.models t.models f.models;
      waveforms = handed _ waveform_words waveform_from (λ x. x) 12 (omega arith) (λ x. refl) waveform-back a.waveforms t.waveforms f.waveforms;
      rows = rw (stored-flat a.rows) (handed _ row_words row_from _ 4 (omega arith) (λ x. refl) row_back a.rows t.rows f.rows);
    }

pub handed_out : ReadIsHandedOut
handed_out s t u r bytes read h is = rw (read.tables, is) (laid_out (laid (file_in (texts_of s))) t h (fine s bytes))
