-- The notes of a kind as a list: each is read where it lies.
use Prim.Native.Nat.{ℕ, zero, suc, ◌+◌, ◌≤◌, ◌<◌}
use mathlib.Core.Path.{◌≡◌, refl, sym, ap, ◌∙◌}
use mathlib.Core.List.{List, [], ◌∷◌, ◌++◌, reverse, reverse-cons}
use mathlib.Core.Bool.{true}
use native.Mathlib.Omega.{arith}
use native.Mathlib.Numerals.{add-one}
use lib.ListN.{length}
use lib.Dec.{eqb}
use borrow.Author.Tests.{eqb-true}
use Rattle.laws.proofs.Tests.{by-test, cond_yes, cond_no}
use Rattle.rules.specs.Outline.{place}
use Rattle.records.specs.declared.Kind.{Kind}
use Rattle.records.specs.declared.Kind.TheVariants.{OfComponent, OfPin, OfSelector, OfChoice, OfModel}
use Rattle.records.specs.declared.Counts.{Counts}
use Rattle.notes.specs.Noted.{Note}
use Rattle.note_words.specs.Store.{lies_at, kind_at, note_of, note_at, how_many, Filed, notes_to}
use Rattle.note_words.proofs.Laws.{note-kind}
use Rattle.layout_by_notes.specs.Lies.{pick, is_of}
use Rattle.from_notes.specs.Made.{note_by}
use Rattle.file_answer.specs.Sorted.{up_to}
use Rattle.file_answer.proofs.UpTo.{up_to-length}

-- ---- a kind by its number

abbrev kind_of : ℕ → Kind
kind_of zero = OfComponent
kind_of (suc zero) = OfPin
kind_of (suc (suc zero)) = OfSelector
kind_of (suc (suc (suc zero))) = OfChoice
kind_of (suc (suc (suc (suc n)))) = OfModel

kind-place : (k : Kind) → kind_of (place k) ≡ k
kind-place OfComponent = refl
kind-place OfPin = refl
kind-place OfSelector = refl
kind-place OfChoice = refl
kind-place OfModel = refl

same_kind : (k m : Kind) → eqb (place k) (place m) ≡ true → k ≡ m
same_kind k m h = sym (kind-place k) ∙ ap kind_of (eqb-true (place k) (place m) h) ∙ kind-place m

-- ---- the notes of a kind lie one behind the other

module _ (s xs : List ℕ) (n : ℕ) (c : Counts) (filed : Filed xs n c) (k : Kind) where
  note-here : (m : ℕ) → m < n → k ≡ kind_at xs m → note_at s xs m ≡ note_by s xs k (how_many xs k m)
  unfolding note_at
  note-here m h e =
      ap (λ (a : ℕ). note_of s xs a (kind_at xs m)) (filed.lies m h)
      ∙ ap (λ (x : Kind). note_of s xs (lies_at x (how_many xs x m)) x) (sym e)

  picked : (m : ℕ) → m ≤ n → reverse (pick (is_of k) (notes_to s xs m)) ≡ up_to (note_by s xs k) (how_many xs k m)
  unfolding pick notes_to how_many up_to
  picked zero h = refl
  picked (suc m) h =
      let a : Note = note_at s xs m in
      let ns : List Note = pick (is_of k) (notes_to s xs m) in
      let many : ℕ = how_many xs k m in
      let test : is_of k a ≡ eqb (place k) (place (kind_at xs m)) = ap (λ (x : Kind). eqb (place k) (place x)) (note-kind s xs m) in
      let more : up_to (note_by s xs k) (many + 1) ≡ up_to (note_by s xs k) many ++ (note_by s xs k many ∷ []) = rw (add-one many) refl in
      by-test (eqb (place k) (place (kind_at xs m)))
      (λ t.
      ap reverse (cond_yes (a ∷ ns) ns (test ∙ t))
      ∙ reverse-cons a ns
      ∙ ap (λ (l : List Note). l ++ (a ∷ [])) (picked m (omega (arith, h)))
      ∙ ap (λ (b : Note). up_to (note_by s xs k) many ++ (b ∷ [])) (note-here m (omega (arith, h)) (same_kind k (kind_at xs m) t))
      ∙ sym more
      ∙ ap (up_to (note_by s xs k)) (sym (cond_yes (many + 1) many t)))
      (λ t.
      ap reverse (cond_no (a ∷ ns) ns (test ∙ t)) ∙ picked m (omega (arith, h)) ∙ ap (up_to (note_by s xs k)) (sym (cond_no (many + 1) many t)))

  pub by_kind : reverse (pick (is_of k) (notes_to s xs n)) ≡ up_to (note_by s xs k) (length (reverse (pick (is_of k) (notes_to s xs n))))
  by_kind =
      let all = picked n (omega arith) in
      all ∙ ap (up_to (note_by s xs k)) (sym (ap length all ∙ up_to-length (note_by s xs k) (how_many xs k n)))
