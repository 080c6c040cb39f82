-- What the notes of a check give a listing: the words fit into its tables, and the fills leave what is promised. By whether the file is accepted.
use Prim.Native.Nat.{ℕ, zero-le}
use mathlib.Core.Path.{◌≡◌, refl, sym, ◌∙◌, subst}
use mathlib.Core.List.{List}
use native.Mathlib.Omega.{arith}
use Rattle.rules.specs.Reading.{file_in}
use Rattle.records.specs.Stored.{over}
use Rattle.rules.specs.Whole.{Outcome, passed, refused, outcome, texts_of}
use Rattle.records.specs.declared.Answer.{Answer}
use Rattle.records.specs.declared.Lengths.{Lengths}
use Rattle.from_notes.specs.Made.{joined_to, pin_at, selector_at, choice_at, model_at}
use Rattle.file_answer.specs.Answered.{answer_for, answer_of}
use Rattle.file_answer.specs.Sorted.{Sorted, SortedFor, Outlines}
use Rattle.file_answer.proofs.Made.{fit, pins-made, selectors-made, choices-made, models-made}
use Rattle.record_words.specs.Records.{pin_words, selector_words, choice_words}
use Rattle.section_words.specs.Listed.{listed_words}
use Rattle.section_words.proofs.Listed.{listed-flat}
use Rattle.table_words.specs.Packed.{ListTables, ListRoom, listed}
use Rattle.table_reader.specs.Listed.{lengths_listed, Lists}
use Rattle.table_reader.proofs.Fills.{made-words}

module _ (s : List ℕ) (t : ListTables) (ns : List ℕ) where
  abbrev l : Lengths
  l = lengths_listed t

  room_for : (o : Outcome) → SortedFor l s ns o → ListRoom (answer_for (file_in (texts_of s)) o).counts t
  room_for (passed h) sorted =
      let f = fit l s ns sorted in
      record { pins = omega (arith, f.pins); selectors = omega (arith, f.selectors); choices = omega (arith, f.choices); models = omega (arith, f.models) }
  room_for (refused n k c) u = record { pins = zero-le; selectors = zero-le; choices = zero-le; models = zero-le }

  abbrev ListedBy : Answer → Type 0
  ListedBy a = Lists s t a (listed s ns a.counts t)

  listed-whole : (h : _) → outcome l s ≡ passed h → Sorted l s ns → ListedBy (answer_of l s)
  unfolding answer_of
  listed-whole h is sorted =
      record {
        answer = refl;
        tables =
            rw is
            rw (made-words pin_words (pin_at s ns) _ (pins-made l s ns sorted))
            rw (made-words selector_words (selector_at s ns) _ (selectors-made l s ns sorted))
            rw (made-words choice_words (choice_at s ns) _ (choices-made l s ns sorted))
            rw (listed-flat _ ∙ made-words listed_words (model_at s ns) _ (models-made l s ns sorted)) refl;
      }

  listed-none : (n k c : ℕ) → outcome l s ≡ refused n k c → ListedBy (answer_of l s)
  unfolding answer_of joined_to over
  listed-none n k c is = record { answer = refl; tables = rw is refl }

  listed-for : (o : Outcome) → outcome l s ≡ o → SortedFor l s ns o → ListedBy (answer_of l s)
  listed-for (passed h) is sorted = listed-whole h is sorted
  listed-for (refused n k c) is u = listed-none n k c is

  module _ (r : Answer) (said : Outlines l s r ns) where
    pub has_room : ListRoom r.counts t
    unfolding answer_of
    has_room = subst (λ (z : Answer). ListRoom z.counts t) (sym said.answer) (room_for (outcome l s) said.sorted)

    pub lists : ListedBy r
    lists = subst ListedBy (sym said.answer) (listed-for (outcome l s) refl said.sorted)
