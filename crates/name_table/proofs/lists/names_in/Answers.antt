-- Each list by computing the words of its text.
use mathlib.Core.Path.{sym, ap}
use Rattle.laws.specs.Bytes.{is_blank}
use Rattle.words.specs.Words.{words, grown, onto_word}
use Rattle.name_table.specs.Listed.{names_in}
use Rattle.name_table.proofs.lists.names_in.Goals as goal

pub returns-in-Keywords : goal.returns-in-Keywords
unfolding words grown onto_word is_blank
returns-in-Keywords c = ap names_in (sym c.in-Keywords.is)

pub returns-in-ComponentLines : goal.returns-in-ComponentLines
unfolding words grown onto_word is_blank
returns-in-ComponentLines c = ap names_in (sym c.in-ComponentLines.is)

pub returns-in-PackageLines : goal.returns-in-PackageLines
unfolding words grown onto_word is_blank
returns-in-PackageLines c = ap names_in (sym c.in-PackageLines.is)

pub returns-in-ModelLines : goal.returns-in-ModelLines
unfolding words grown onto_word is_blank
returns-in-ModelLines c = ap names_in (sym c.in-ModelLines.is)

pub returns-in-RampLines : goal.returns-in-RampLines
unfolding words grown onto_word is_blank
returns-in-RampLines c = ap names_in (sym c.in-RampLines.is)

pub returns-in-Fixtures : goal.returns-in-Fixtures
unfolding words grown onto_word is_blank
returns-in-Fixtures c = ap names_in (sym c.in-Fixtures.is)

pub returns-in-Locations : goal.returns-in-Locations
unfolding words grown onto_word is_blank
returns-in-Locations c = ap names_in (sym c.in-Locations.is)

pub returns-in-ModelTypes : goal.returns-in-ModelTypes
unfolding words grown onto_word is_blank
returns-in-ModelTypes c = ap names_in (sym c.in-ModelTypes.is)

pub returns-in-Polarities : goal.returns-in-Polarities
unfolding words grown onto_word is_blank
returns-in-Polarities c = ap names_in (sym c.in-Polarities.is)

pub returns-in-Enables : goal.returns-in-Enables
unfolding words grown onto_word is_blank
returns-in-Enables c = ap names_in (sym c.in-Enables.is)
