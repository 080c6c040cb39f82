-- A fault told at a line of a model section depends on that section's lines alone: its number, its place among them and its column.
use Rattle.std.specs.Prelude.{ℕ, ◌+◌, ◌≤◌, ◌<◌, ◌≡◌, ◌⊎◌, List, [], ◌∷◌, true, length, Option, None, Some, Result, Ok, Err}
use Rattle.lines.specs.Lines.{Physical, fault_from, cut}
use Rattle.keywords.specs.declared.Section.TheVariants.{Model}
use Rattle.cut_lines.specs.Texts.{Text, texts_from}
use Rattle.records.specs.declared.Fault.{Fault}
use Rattle.records.specs.declared.Lending.{Lending}
use Rattle.rules.specs.Going.{and_then, Went}
use Rattle.rules.specs.Steps.{shut, done, opened, on_text}
use Rattle.rules.specs.Whole.{refused, loading}
use Rattle.rules.specs.declared.Stage.{Stage}
use Rattle.cut_lines.specs.InForce.{char_after_line}
use Rattle.demand_three.specs.Lines.{is_model_section}
use Rattle.demand_three.specs.Demand.{Stands, Excepted}

-- ---- what a section's lines tell by themselves: a fault of their bytes, or else of its keyword, of a text under it, or at its close

abbrev pub or_sooner : Result (Unit {0}) Fault → Option Fault → Option Fault
or_sooner (Err f) later = Some f
or_sooner (Ok tt) later = later

abbrev pub stopping : Went → (Stage → Option Fault) → Option Fault
stopping (Ok (s, e)) go = go s
stopping (Err f) go = Some f

-- k is the line of the section's keyword, s the stage before these texts
unfoldable pub texts_tell : ℕ → Stage → List Text → Option Fault
texts_tell k s [] = stopping (and_then (shut k s) (done k)) (λ (t : Stage). None)
texts_tell k s (t ∷ ts) = stopping (on_text s t) (λ (u : Stage). texts_tell k u ts)

-- c is the comment character in force where they begin
unfoldable pub own_fault : ℕ → ℕ → List Physical → Option Fault
own_fault c k [] = None
own_fault c k (first ∷ others) =
    or_sooner (fault_from k (first ∷ others))
    (stopping (opened k (cut c first.bytes) Model) (λ (s : Stage). texts_tell k s (texts_from (char_after_line c first) (k + 1) others)))

-- ---- a fault told at a line of the section is one of demand 3's exceptions, or its own

abbrev pub ToldByItsLines : Type 0
ToldByItsLines =
    (c : ℕ) (section : List Physical) → is_model_section c section ≡ true
    → (m : Lending) (t : List ℕ) (stands : Stands c section t) (n k column : ℕ) → loading m t ≡ refused n k column
    → length stands.before < k → k ≤ length stands.before + length section
    → Excepted (length stands.before + 1) n k ⊎ (own_fault c (length stands.before + 1) section ≡ Some (record { number = n; line = k; column = column }))

-- ---- two files in which the section stands, each with a fault at a line of it that is none of the exceptions

pub record OwnTold {c : ℕ} {section : List Physical} (m : Lending) (t : List ℕ) (stands : Stands c section t) (n k column : ℕ) : Type 0 where
  pub told : loading m t ≡ refused n k column
  pub from : length stands.before < k
  pub to : k ≤ length stands.before + length section
  pub own : Excepted (length stands.before + 1) n k → ⊥

-- tell the same number and column at the same line of the section
pub record SameFault {c : ℕ} {section : List Physical} {s t : List ℕ} (first : Stands c section s) (second : Stands c section t) (n j x o k y : ℕ) : Type 0 where
  pub number : n ≡ o
  pub line : j + length second.before ≡ k + length first.before
  pub column : x ≡ y

abbrev pub SameFaults : Type 0
SameFaults =
    (c : ℕ) (section : List Physical) → is_model_section c section ≡ true
    → (l : Lending) (s : List ℕ) (first : Stands c section s) (n j x : ℕ) → OwnTold l s first n j x
    → (m : Lending) (t : List ℕ) (second : Stands c section t) (o k y : ℕ) → OwnTold m t second o k y
    → SameFault first second n j x o k y
