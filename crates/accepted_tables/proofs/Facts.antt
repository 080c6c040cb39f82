-- What the tables of every accepted file satisfy, part by part.
use Prim.Native.Nat.{ℕ, ◌≤◌}
use mathlib.Core.Path.{◌≡◌, refl, ap, ◌∙◌}
use mathlib.Core.List.{List}
use native.Mathlib.Omega.{arith}
use lib.ListN.{length}
use Rattle.laws.specs.Lists.{Every}
use Rattle.rules.specs.Outline.{is}
use Rattle.rules.specs.Whole.{Held, nothing_held, passed, texts_of, outcome}
use Rattle.rules.specs.Reading.{file_in}
use Rattle.rules.specs.declared.Stage.TheVariants.{BeforeVersion}
use Rattle.layout.specs.Laid.{laid}
use Rattle.records.specs.declared.Kind.TheVariants.{OfComponent}
use Rattle.records.specs.declared.Lengths.{Lengths}
use Rattle.room_for_rows.proofs.Laid.{laid-fit}
use Rattle.layout_by_notes.specs.Lies.{pick, is_of, noted, component_noted}
use Rattle.layout_by_notes.proofs.Lists.{latest-length}
use Rattle.notes.specs.Noted.{held_of}
use Rattle.accepted_tables.specs.Fallbacks.{FileSaid}
use Rattle.accepted_tables.specs.Facts.{AcceptedTables}
use Rattle.accepted_tables.proofs.Checks.{Runs, runs_on, runs-pass}
use Rattle.accepted_tables.proofs.Run.{Passed, passes, laying, counting}
use Rattle.accepted_tables.proofs.Sections.{SectionPasses, sections-pass}
use Rattle.accepted_tables.proofs.Tables.{names-facts}
use Rattle.accepted_tables.proofs.Fallbacks.{sections-said}
use Rattle.accepted_tables.proofs.Laying.{Sound, sound}
use Rattle.accepted_tables.proofs.Ended.{has_one, count-picked}
use Rattle.accepted_tables.proofs.Header.{name-said, revision-said}

module _ (l : Lengths) (s : List ℕ) (p : Passed l s) where
  all-run : Runs l nothing_held BeforeVersion (texts_of s)
  all-run = runs_on l p.past (texts_of s) BeforeVersion nothing_held (held_of p.log) p.read

  all_pass : Every (SectionPasses l) (file_in (texts_of s)).sections
  unfolding file_in
  all_pass = sections-pass l (texts_of s) nothing_held BeforeVersion all-run

  -- a component is noted, and so laid
  one : 1 ≤ length (laid (file_in (texts_of s))).components
  unfolding noted
  one =
      let ns = pick (is_of OfComponent) p.log.notes in
      let some = has_one l p.past (texts_of s) BeforeVersion nothing_held (held_of p.log) refl p.read in
      let same = ap length (laying l s p).components ∙ latest-length component_noted ns in
      omega (arith, some, same, count-picked (is OfComponent) p.log.notes)

pub accepted : (l : Lengths) (s : List ℕ) (h : Held) → outcome l s ≡ passed h → AcceptedTables l (laid (file_in (texts_of s)))
accepted l s h q =
    let p : Passed l s = passes l s h q in
    let so : Sound (laid (file_in (texts_of s))) = sound l (file_in (texts_of s)) (all_pass l s p) in
    record { counts = counting l s p; rows = laid-fit s p.clean; least = one l s p; names = names-facts l s p (laid (file_in (texts_of s))) (laying l s p); components = so.components; selectors = so.selectors; models = so.models; waveforms = so.waveforms }

-- and no fallback of what is read speaks in it
pub nothing-falls-back : (l : Lengths) (s : List ℕ) (h : Held) → outcome l s ≡ passed h → FileSaid (file_in (texts_of s))
unfolding file_in
nothing-falls-back l s h q =
    let p : Passed l s = passes l s h q in
    let on = runs-pass l (texts_of s) nothing_held BeforeVersion (all-run l s p) in
    record { name = name-said (texts_of s) on; revision = revision-said (texts_of s) on; sections = sections-said l (file_in (texts_of s)).sections (all_pass l s p) }
