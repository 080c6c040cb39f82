-- What a file is worth is what its list is worth, told at the lines of the list's entries; so two files with one list agree.
use Rattle.std.specs.Prelude.{Ok}
use Prim.Native.Nat.{ℕ, suc, ◌+◌}
use mathlib.Core.Path.{◌≡◌, refl, sym, ap, ap₂, subst₂, ◌∙◌}
use mathlib.Core.List.{List, map}
use native.Mathlib.Omega.{arith}
use lib.ListN.{length}
use Rattle.laws.proofs.Tests.{by_order}
use Rattle.lines.specs.Lines.{lines_of, bytes_fault}
use Rattle.cut_lines.specs.Texts.{Text}
use Rattle.cut_lines.proofs.Renumbered.{text_at}
use Rattle.records.specs.Bounds.{most_rows}
use Rattle.records.specs.Stored.{words_laid}
use Rattle.records.specs.declared.Header.{Header}
use Rattle.records.specs.declared.Lengths.{Lengths}
use Rattle.rules.specs.Whole.{Outcome, refused, nothing_held, runs, concluded, texts_of, after_bytes, outcome}
use Rattle.rules.specs.Reading.{header_says, file_in}
use Rattle.rules.specs.declared.Stage.TheVariants.{BeforeVersion}
use Rattle.rules.proofs.Numberless.{Numberless, header-numberless}
use Rattle.rules.proofs.Outcomes.{loaded-few, loaded-enough}
use Rattle.layout.specs.Laid.{laid}
use Rattle.tables_say.specs.Kept.{header_answered}
use Rattle.tables_say.proofs.Kept.{kept}
use Rattle.fault_numbers.proofs.Whole.{runs-out}
use Rattle.renumbered.proofs.Outcomes.{whole-at}
use Rattle.renumbered.proofs.Told.{outcome_at}
use Rattle.renumbered.proofs.Tables.{laid-at}
use Rattle.remarks.specs.Counted.{counted, list_of, line_at, skipped_in, skipped_before}
use Rattle.remarks.specs.Alike.{Alike, SameTables, at_none, behind_last, at_entry as told_at, SameFault, Agree, CheckedAlike, LoadedAlike, Unchanged}
use Rattle.remarks.proofs.Texts.{texts_at, counted-texts, placed-texts}
use Rattle.remarks.proofs.Lines.{number_at, line-is, number_is, numbering, line-past, past-apart}
use Rattle.remarks.proofs.Worth.{worth, Told, accepts, runs_out, at_entry, worth-told}

-- ---- a file by its list

module _ (s : List ℕ) where
  pub texts-by-list : texts_of s ≡ map (text_at (number_at s)) (texts_at 1 (list_of s))
  unfolding texts_of list_of number_at counted
  texts-by-list =
      counted-texts _ 1 (lines_of s)
      ∙ sym (placed-texts (number_at s) (length (lines_of s) + 1) 1 (counted s) (λ i q. let e : 1 + i ≡ suc i = omega arith in ap (number_at s) e))

  number_past : number_at s (length (list_of s) + 1) ≡ length (lines_of s) + 1
  number_past =
      let e : length (list_of s) + 1 ≡ suc (length (list_of s)) = omega arith in
      ap (number_at s) e ∙ number_is s (length (list_of s)) ∙ line-past s

  pub worth-by-list : (l : Lengths) → bytes_fault s ≡ Ok tt → outcome l s ≡ outcome_at (number_at s) (worth l (list_of s))
  unfolding outcome worth
  worth-by-list l h =
      ap (after_bytes _) h
      ∙ ap concluded (ap₂ (λ (past : ℕ) (ts : List Text). runs l past BeforeVersion nothing_held ts) (sym number_past) texts-by-list)
      ∙ whole-at (number_at s) (numbering s) l (length (list_of s) + 1) (texts_at 1 (list_of s))

-- ---- two files with one list

abbrev header : List ℕ → List ℕ → Header
header name revision = record { name = words_laid name; revision = words_laid revision }

module _ (s t : List ℕ) (alike : Alike s t) where
  -- what reads no line's number reads the same of both
  same_read : {A : Type 0} (g : List Text → A) → Numberless g → g (texts_of s) ≡ g (texts_of t)
  same_read g n =
      ap g (texts-by-list s) ∙ n (number_at s) (texts_at 1 (list_of s))
      ∙ ap (λ (vs : List (List ℕ)). g (texts_at 1 vs)) alike.list
      ∙ sym (n (number_at t) (texts_at 1 (list_of t))) ∙ ap g (sym (texts-by-list t))

  same-header : header_answered (file_in (texts_of s)) ≡ header_answered (file_in (texts_of t))
  unfolding file_in
  same-header =
      ap₂ header
      (same_read (header_says "file_name") (header-numberless "file_name")) (same_read (header_says "file_rev") (header-numberless "file_rev"))

  same_tables : SameTables s t
  same_tables =
      let lies = same_read (λ (ts : List Text). laid (file_in ts)) laid-at in
      record { says = kept (file_in (texts_of s)) (file_in (texts_of t)) same-header lies; lies = lies }

  -- the lines of one place are apart by the skipped lines before them
  apart-by-skipped : (i j k : ℕ) → j ≡ line_at s i → k ≡ line_at t i → j + skipped_before t k ≡ k + skipped_before s j
  apart-by-skipped i j k p q =
      let here : line_at s i + skipped_before t (line_at t i) ≡ line_at t i + skipped_before s (line_at s i) = omega (arith, line-is s i, line-is t i, ap length alike.list) in
      subst₂ (λ (x y : ℕ). x + skipped_before t y ≡ y + skipped_before s x) (sym p) (sym q) here

  told-alike : (l : Lengths) (o : Outcome) → Told (length (list_of s)) o → outcome l s ≡ outcome_at (number_at s) o → Agree s t (outcome_at (number_at s) o) (outcome_at (number_at t) o)
  told-alike l o accepts e = same_tables
  told-alike l o runs_out e =
      let there : number_at t (length (list_of s) + 1) ≡ length (lines_of t) + 1 = ap (λ (n : ℕ). number_at t (n + 1)) (ap length alike.list) ∙ number_past t in
      record {
        number = refl;
        column = refl;
        line = behind_last refl (number_past s) there;
        skipped = apart-by-skipped (length (list_of s)) _ _ (number_past s ∙ sym (line-past s)) (there ∙ sym (ap (line_at t) (ap length alike.list) ∙ line-past t));
      }
  told-alike l o (at_entry {o = n} {c = c} i h) e =
      let apart : n ≡ 19 → ⊥ = λ q. past-apart s i h (sym (number_is s i) ∙ (runs-out l s (number_at s (suc i)) c (e ∙ ap (λ (m : ℕ). refused m (number_at s (suc i)) c) q)).0) in
      record {
        number = refl;
        column = refl;
        line = told_at apart i h (number_is s i) (number_is t i);
        skipped = apart-by-skipped i _ _ (number_is s i) (number_is t i);
      }

  both : (l : Lengths) → outcome l t ≡ outcome_at (number_at t) (worth l (list_of s))
  both l = worth-by-list t l alike.passes_too ∙ ap (λ (ws : List (List ℕ)). outcome_at (number_at t) (worth l ws)) (sym alike.list)

  checked : (l : Lengths) → Agree s t (outcome l s) (outcome l t)
  checked l =
      let here = worth-by-list s l alike.passes in
      subst₂ (Agree s t) (sym here) (sym (both l)) (told-alike l (worth l (list_of s)) (worth-told l (list_of s)) here)

-- ---- the theorem

pub checked-alike : CheckedAlike
checked-alike s t alike l = checked s t alike l

-- too few rows are told at no line
few : (s t : List ℕ) → SameFault s t 25 0 0 25 0 0
unfolding skipped_before skipped_in
few s t =
    record { number = refl; column = refl; line = at_none refl refl refl; skipped = refl }

pub loaded-alike : LoadedAlike
loaded-alike s t alike l =
    by_order most_rows l.rows
    (λ enough. subst₂ (Agree s t) (sym (loaded-enough l s enough)) (sym (loaded-enough l t enough)) (checked s t alike l.tables))
    (λ less. subst₂ (Agree s t) (sym (loaded-few l s less)) (sym (loaded-few l t less)) (few s t))

pub unchanged : (s t : List ℕ) → Alike s t → Unchanged s t
unchanged s t alike = record { alike = alike; checked = checked-alike s t alike; loaded = loaded-alike s t alike }
