-- Demand 3 put to use: an accepted file, and files that have its model section at other places among other sections and lines. Each premise is
-- computed; what is told of each changed file then follows by `demand3`, and of a section with a fault by `same-faults`.
use Prim.Native.Nat.{ℕ, ◌+◌, ◌≤◌, ◌<◌}
use Prim.Native.Char.{code}
use Prim.Native.String.{String, ◌++◌ as ◌++ˢ◌}
use mathlib.Core.Path.{◌≡◌, refl, sym, ◌∙◌}
use mathlib.Core.List.{List, ◌++◌}
use mathlib.Core.Bool.{true}
use lib.ListN.{length}
use lib.Dec.{lit<, lit≤}
use native.Mathlib.Omega.{arith}
use Rattle.laws.specs.Bytes.{bytes}
use Rattle.lines.specs.Lines.{Physical, lines_of}
use Rattle.rules.specs.Whole.{refused, loading}
use Rattle.rules.specs.Reading.{under, no_split, split_says}
use Rattle.rules.proofs.Same.{same-split}
use Rattle.records.specs.Bounds.{most_rows}
use Rattle.records.specs.declared.Lending.{Lending}
use Rattle.examples.specs.Computing.{computing}
use Rattle.cut_lines.specs.InForce.{char_after_line, char_after_lines}
use Rattle.demand_three.specs.Lines.{text_on, begins_another, is_model_section}
use Rattle.demand_three.specs.Demand.{Stands, AcceptedFile, SameIn, Excepted, out_of_place, used_twice, not_listed, full_table, Spares}
use Rattle.demand_three.specs.Own.{OwnTold, SameFault}
use Rattle.demand_three.proofs.Own.{same-faults}
use Rattle.demand_three.proofs.Demand.{demand3}

-- ---- the accepted file: what stands before the section, the section, what stands behind it

-- so many models and rows are lent
abbrev lending : ℕ → ℕ → Lending
lending models rows = record { tables = record { components = 8; pins = 512; selectors = 32; choices = 256; models = models; waveforms = 1024 }; rows = rows }

abbrev enough : Lending
enough = lending 64 most_rows

-- up to the component's first pin, with its model's name
abbrev head : String → String
head model =
    "[IBIS Ver] 5.0\n[File Name] lk.ibs\n[File Rev] 1\n[Component] LK1\n[Manufacturer] House\n[Package]\nR_pkg 1 NA NA\nL_pkg 1 NA NA\nC_pkg 1 NA NA\n[Pin] signal_name model_name\n1 DOOR "
    ++ˢ model ++ˢ "\n"

abbrev before : String
before = head "in1" ++ˢ "[Comment Char] #_char\n"

abbrev shared : String
shared = "[Model] in1 # the door\nModel_type Input\n[Comment Char] !_char\nC_comp 5pF NA NA ! pad\nC_comp_pullup 2pF NA NA\n[Voltage Range] 3.3 NA NA\n[GND Clamp]\n-1 -50mA NA NA\n0 0 NA NA\n"

abbrev behind : String
behind = "[End]\n"

abbrev section : List Physical
section = lines_of (bytes shared)

abbrev file : String → String → List ℕ
file front back = bytes (front ++ˢ shared ++ˢ back)

pub record Taken (c : ℕ) (section : List Physical) (l : Lending) (s : List ℕ) : Type 0 where
  pub is_section : is_model_section c section ≡ true
  pub stands : Stands c section s
  pub accepted : AcceptedFile l s

pub taken : Taken (code "#") section enough (file before behind)
unfolding computing is_model_section char_after_lines begins_another text_on char_after_line
taken =
    record {
      is_section = refl;
      stands = record { before = lines_of (bytes before); after = lines_of (bytes behind); lines = refl; char = refl; ends = refl };
      accepted = record { held = _; passes = refl };
    }

-- ---- a changed file that is accepted: another model stands before the section, and more behind it

abbrev before_too : String
before_too = head "in1" ++ˢ "2 LAMP off\n[Model] off\nModel_type Terminator\n[Comment Char] #_char # from here on\nC_comp 3pF NA NA\n[Voltage Range] 5 NA NA\n\n"

abbrev behind_too : String
behind_too = "[Model Selector] lamps\noff none\n[Component] LK2\n[Manufacturer] House\n[Pin] signal_name model_name\nA lamp lamps\n[Package]\nR_pkg 1 NA NA\nL_pkg 1 NA NA\nC_pkg 1 NA NA\n[End]\n"

pub taken_too : Taken (code "#") section enough (file before_too behind_too)
unfolding computing is_model_section char_after_lines begins_another text_on char_after_line
taken_too =
    record {
      is_section = refl;
      stands = record { before = lines_of (bytes before_too); after = lines_of (bytes behind_too); lines = refl; char = refl; ends = refl };
      accepted = record { held = _; passes = refl };
    }

pub same : SameIn (file before behind) (file before_too behind_too) taken.stands taken_too.stands
same =
    (demand3 _ _ taken.is_section _ _ taken.stands taken.accepted _ _ taken_too.stands).accepted taken_too.accepted

-- its capacitance by structure too
pub same_parts : split_says no_split (under same.says.texts) ≡ split_says no_split (under same.says_too.texts)
same_parts = same-split _ _ _ _ same.says.same ∙ sym (same-split _ _ _ _ same.says_too.same)

-- ---- changed files that are refused: m is lent, and fault n is told at line k, in column c

pub record Refusal (m : Lending) (t : List ℕ) (n k c : ℕ) : Type 0 where
  pub stands : Stands (code "#") section t
  pub told : loading m t ≡ refused n k c

-- where the section stands, and what is told: each is computed of a file
abbrev refusal : {m : Lending} {n k c : ℕ} (front back : String)
    → lines_of (file front back) ≡ lines_of (bytes front) ++ section ++ lines_of (bytes back)
    → char_after_lines (code "|") (lines_of (bytes front)) ≡ code "#"
    → begins_another (char_after_lines (code "#") section) (lines_of (bytes back)) ≡ true
    → loading m (file front back) ≡ refused n k c
    → Refusal m (file front back) n k c
refusal front back lines char ends told =
    record { stands = record { before = lines_of (bytes front); after = lines_of (bytes back); lines = lines; char = char; ends = ends }; told = told }

module _ (m : Lending) (t : List ℕ) (n k c : ℕ) (r : Refusal m t n k c) where
  spares : Spares r.stands n k
  spares = (demand3 _ _ taken.is_section _ _ taken.stands taken.accepted m t r.stands).refusal n k c r.told

-- ---- four faults that stand elsewhere: a pin names no model, the type of another model is none, a keyword there is one that nobody has, and a row
-- too few is lent

abbrev unknown : String
unknown = head "in1" ++ˢ "2 LAMP lamp\n[Comment Char] #_char\n"

pub at_pin : Refusal enough (file unknown behind) 15 12 0
unfolding computing char_after_lines begins_another text_on char_after_line
at_pin = refusal unknown behind refl refl refl refl

abbrev wrong_type : String
wrong_type = "[Model] off\nModel_type Terminal\nC_comp 3pF NA NA\n[Voltage Range] 5 NA NA\n[End]\n"

pub at-type : Refusal enough (file before wrong_type) 10 23 12
unfolding computing char_after_lines begins_another text_on char_after_line
at-type = refusal before wrong_type refl refl refl refl

abbrev misspelled : String
misspelled = "[Model] off\n[Diff Pni]\n[End]\n"

pub at-slip : Refusal enough (file before misspelled) 21 23 0
unfolding computing char_after_lines begins_another text_on char_after_line
at-slip = refusal before misspelled refl refl refl refl

pub at-loading : Refusal (lending 64 8191) (file before behind) 25 0 0
unfolding computing char_after_lines begins_another text_on char_after_line
at-loading = refusal before behind refl refl refl refl

-- a fault that is none of the four
abbrev Other : ℕ → Type 0
Other n = (n ≡ 7 → ⊥) × (n ≡ 14 → ⊥) × (n ≡ 16 → ⊥) × (n ≡ 17 → ⊥)

not-excepted : (keyword n k : ℕ) → Other n → Excepted keyword n k → ⊥
not-excepted keyword n k other (out_of_place e at) = other.0 e
not-excepted keyword n k other (used_twice e) = other.1 e
not-excepted keyword n k other (not_listed e) = other.2 e
not-excepted keyword n k other (full_table e) = other.3 e

-- the line told is none of the section's
abbrev Elsewhere : (m : Lending) (t : List ℕ) (n k c : ℕ) → Refusal m t n k c → Type 0
Elsewhere m t n k c r = length r.stands.before < k → k ≤ length r.stands.before + length section → ⊥

elsewhere : (m : Lending) (t : List ℕ) (n k c : ℕ) → Other n → (r : Refusal m t n k c) → Elsewhere m t n k c r
elsewhere m t n k c other r from to = not-excepted _ n k other (spares m t n k c r from to)

pub pin-elsewhere : Elsewhere _ _ _ _ _ at_pin
pin-elsewhere = elsewhere _ _ _ _ _ (omega arith) at_pin

pub type-elsewhere : Elsewhere _ _ _ _ _ at-type
type-elsewhere = elsewhere _ _ _ _ _ (omega arith) at-type

pub slip-elsewhere : Elsewhere _ _ _ _ _ at-slip
slip-elsewhere = elsewhere _ _ _ _ _ (omega arith) at-slip

pub loading-elsewhere : Elsewhere _ _ _ _ _ at-loading
loading-elsewhere = elsewhere _ _ _ _ _ (omega arith) at-loading

-- ---- the four exceptions happen: each fault is told at a line of the section

pub record Within (m : Lending) (t : List ℕ) (n k : ℕ) : Type 0 where
  pub refused : Refusal m t n k 0
  pub from : length refused.stands.before < k
  pub to : k ≤ length refused.stands.before + length section

-- the section stands after [End]
pub misplaced : Within enough (file (before ++ˢ behind) behind) 7 14
unfolding computing char_after_lines begins_another text_on char_after_line
misplaced = record { refused = refusal (before ++ˢ behind) behind refl refl refl refl; from = lit< tt; to = lit≤ tt }

-- another model of that name stands before it
abbrev namesake : String
namesake = before ++ˢ "[Model] in1\nModel_type Input\nC_comp 3pF NA NA\n[Voltage Range] 5 NA NA\n"

pub named-twice : Within enough (file namesake behind) 14 17
unfolding computing char_after_lines begins_another text_on char_after_line
named-twice = record { refused = refusal namesake behind refl refl refl refl; from = lit< tt; to = lit≤ tt }

-- the pin needs no model
abbrev grounded : String
grounded = head "GND" ++ˢ "[Comment Char] #_char\n"

pub unlisted : Within enough (file grounded behind) 16 13
unfolding computing char_after_lines begins_another text_on char_after_line
unlisted = record { refused = refusal grounded behind refl refl refl refl; from = lit< tt; to = lit≤ tt }

-- no model is lent
pub full : Within (lending 0 most_rows) (file before behind) 17 13
unfolding computing char_after_lines begins_another text_on char_after_line
full = record { refused = refusal before behind refl refl refl refl; from = lit< tt; to = lit≤ tt }

excepted : (m : Lending) (t : List ℕ) (n k : ℕ) (w : Within m t n k) → Excepted (length w.refused.stands.before + 1) n k
excepted m t n k w = spares m t n k 0 w.refused w.from w.to

-- demand 3 says of each that it is one of the four; the first number is the line of the section's keyword
pub all-excepted : Excepted 14 7 14 × Excepted 17 14 17 × Excepted 13 16 13 × Excepted 13 17 13
unfolding computing misplaced named-twice unlisted full
all-excepted = (excepted _ _ _ _ misplaced, excepted _ _ _ _ named-twice, excepted _ _ _ _ unlisted, excepted _ _ _ _ full)

-- ---- a section with a fault of its own: two files tell the same number and column of it, each at its line

abbrev slipped : String
slipped = "[Model] in1 # the door\nModel_type Input\nVinl = O.8\n"

pub record Slipped (t : List ℕ) (k : ℕ) : Type 0 where
  pub stands : Stands (code "#") (lines_of (bytes slipped)) t
  pub tells : OwnTold enough t stands 11 k 8

pub slip : Slipped (bytes (before ++ˢ slipped ++ˢ behind)) 15
unfolding computing char_after_lines begins_another text_on char_after_line
slip =
    record {
      stands = record { before = lines_of (bytes before); after = lines_of (bytes behind); lines = refl; char = refl; ends = refl };
      tells = record { told = refl; from = lit< tt; to = lit≤ tt; own = not-excepted _ 11 15 (omega arith) };
    }

pub slip_too : Slipped (bytes (before_too ++ˢ slipped ++ˢ behind_too)) 21
unfolding computing char_after_lines begins_another text_on char_after_line
slip_too =
    record {
      stands = record { before = lines_of (bytes before_too); after = lines_of (bytes behind_too); lines = refl; char = refl; ends = refl };
      tells = record { told = refl; from = lit< tt; to = lit≤ tt; own = not-excepted _ 11 21 (omega arith) };
    }

slip-section : is_model_section (code "#") (lines_of (bytes slipped)) ≡ true
unfolding computing is_model_section char_after_lines text_on char_after_line
slip-section = refl

pub same-slip : SameFault slip.stands slip_too.stands 11 15 8 11 21 8
same-slip = same-faults _ _ slip-section _ _ slip.stands 11 15 8 slip.tells _ _ slip_too.stands 11 21 8 slip_too.tells
