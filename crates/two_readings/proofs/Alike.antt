-- Both outcomes agree, by the theorem of `remarks`; an answer and what is left hang on the outcome and on what is laid. By cases of the outcomes.
use Prim.Native.Nat.{ℕ}
use mathlib.Core.Path.{◌≡◌, refl, sym, ap, ap₂, subst, subst₂, ◌∙◌}
use mathlib.Core.List.{List}
use Rattle.laws.proofs.Tests.{impossible}
use Rattle.rules.specs.Whole.{Held, nothing_held, Outcome, passed, refused, outcome, loading, texts_of}
use Rattle.rules.specs.Reading.{FileIs, file_in}
use Rattle.layout.specs.Laid.{Laid, laid, counts_of}
use Rattle.records.specs.declared.Answer.{Answer}
use Rattle.records.specs.declared.Lending.{Lending}
use Rattle.records.specs.declared.Header.{Header}
use Rattle.records.specs.Texts.{Words}
use Rattle.file_answer.specs.Answered.{answer_for, answer_of, answer_in}
use Rattle.remarks.specs.Alike.{Alike, Agree}
use Rattle.remarks.proofs.Alike.{checked-alike, loaded-alike}
use Rattle.reader.specs.Promise.{lending_in, left}
use Rattle.table_reader.specs.ReadInWords.{room_in, words_left}
use Rattle.two_readings.specs.Alike.{SameAnswer, CheckAlike, SameLeft, ReadAlike, ReadInWordsAlike}

module _ (s t : List ℕ) where
  abbrev first : FileIs
  first = file_in (texts_of s)

  abbrev second : FileIs
  second = file_in (texts_of t)

  abbrev header_of : Words → Words → Header
  header_of name revision = record { name = name; revision = revision }

  same_answer : (o p : Outcome) → Agree s t o p → SameAnswer s t (answer_for first o) (answer_for second p)
  same_answer (passed g) (passed h) same = record { verdict = tt; counts = ap counts_of same.lies; header = ap₂ header_of same.says.name same.says.revision }
  same_answer (passed g) (refused n k c) same = absurd same
  same_answer (refused n k c) (passed h) same = absurd same
  same_answer (refused n j x) (refused o k y) same = record { verdict = same; counts = refl; header = refl }

  module _ {T : Type 0} (leaves : Outcome → Laid → T → T) (lies : (h : Held) (x : Laid) (a : T) → leaves (passed h) x a ≡ leaves (passed nothing_held) x a) (stays : (n k c : ℕ) (x : Laid) (a : T) → leaves (refused n k c) x a ≡ a) where
    same_left : (o p : Outcome) (a b : T) → Agree s t o p → SameLeft (leaves (passed nothing_held)) (answer_for first o) a b (leaves o (laid first) a) (leaves p (laid second) b)
    same_left (passed g) (passed h) a b same =
        let here = lies g (laid first) a in
        let there = lies h (laid second) b ∙ ap (λ (x : Laid). leaves (passed nothing_held) x b) (sym same.lies) in
        record { lies = λ told. (laid first, here, there); equal = λ e. here ∙ ap (leaves (passed nothing_held) (laid first)) e ∙ sym there }
    same_left (passed g) (refused n k c) a b same = absurd same
    same_left (refused n k c) (passed h) a b same = absurd same
    same_left (refused n j x) (refused o k y) a b same =
        record {
          lies = λ told. let z : ◌≡◌ {A = ℕ} 0 1 = cc in impossible z;
          equal = λ e. stays n j x (laid first) a ∙ e ∙ sym (stays o k y (laid second) b);
        }

    -- what is loaded into what l lends is answered, and leaves tables, by the outcome
    loaded : Alike s t → (l m : Lending) (a b u v : T) (q r : Answer) → l ≡ m
        → q ≡ answer_in l s → u ≡ leaves (loading l s) (laid first) a → r ≡ answer_in m t → v ≡ leaves (loading m t) (laid second) b
        → SameAnswer s t q r × SameLeft (leaves (passed nothing_held)) q a b u v
    unfolding answer_in
    loaded alike l m a b u v q r e p i o j =
        let same : Agree s t (loading l s) (loading m t) = subst (λ (n : Lending). Agree s t (loading l s) (loading n t)) e (loaded-alike s t alike l) in (
          subst₂ (SameAnswer s t) (sym p) (sym o) (same_answer (loading l s) (loading m t) same),
          subst₂ (SameLeft (leaves (passed nothing_held)) q a b) (sym i) (sym j)
              (subst (λ (x : Answer). SameLeft (leaves (passed nothing_held)) x a b (leaves (loading l s) (laid first) a) (leaves (loading m t) (laid second) b)) (sym p) (same_left (loading l s) (loading m t) a b same)),
        )

pub check-alike : CheckAlike
unfolding answer_of
check-alike s t alike l = same_answer s t (outcome l s) (outcome l t) (checked-alike s t alike l)

pub read_alike : ReadAlike
read_alike s t alike a b u v q r e p o =
    loaded s t left (λ h x c. refl) (λ n k c x d. refl) alike (lending_in a) (lending_in b) a b u v q r e p.answer p.tables o.answer o.tables

pub read-in-words-alike : ReadInWordsAlike
read-in-words-alike s t alike a b u v q r e p o =
    loaded s t words_left (λ h x c. refl) (λ n k c x d. refl) alike (room_in a) (room_in b) a b u v q r e p.answer p.tables o.answer o.tables
