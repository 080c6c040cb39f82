-- Document 01, "Sections": the header.
use Rattle.std.specs.Prelude.{ℕ, List, false, cond, ◌&&◌, length, eqb, leb}
use Rattle.keywords.specs.Form.{argument}
use Rattle.keywords.specs.declared.HeaderPart.{HeaderPart}
use Rattle.keywords.specs.declared.HeaderPart.TheVariants.{FileName, FileRev, FreeText}
use Rattle.keywords.specs.declared.HeaderText.TheVariants.{Date, Source, Notes, Disclaimer, Copyright}
use Rattle.records.specs.Flaws.{Flaw, flaw, sound, flaw_in, told}
use Rattle.line_rules.specs.Fields.{is_file_name, is_version, alone, passing}
use Rattle.given.specs.Given.{none_given, has}
use Rattle.rules.specs.Going.{stop, passes, quietly, once, Went}
use Rattle.rules.specs.declared.HeaderState.{HeaderState}
use Rattle.rules.specs.declared.Stage.TheVariants.{InHeader}

-- [IBIS Ver] on line k, which has the text w
unfoldable pub version : ℕ → List ℕ → Went
version k w =
    passes (told w (flaw_in (alone (passing is_version) (argument w)))) k (quietly (InHeader (record { line = k; text = false; parts = none_given })))

-- "Then, in any order, each at most once, [File Name] .., [File Rev] .., and the five text keywords"
abbrev pub header_place : HeaderPart → ℕ
header_place FileName = 0
header_place FileRev = 1
header_place (FreeText Date) = 2
header_place (FreeText Source) = 3
header_place (FreeText Notes) = 4
header_place (FreeText Disclaimer) = 5
header_place (FreeText Copyright) = 6

-- "(one word ..)", "(not empty)"
abbrev pub header_flaw : List ℕ → HeaderPart → Flaw
header_flaw argument FileName = flaw_in (alone (passing is_file_name) argument)
header_flaw argument FileRev = cond (eqb (length argument) 0) (flaw 10 argument) sound
header_flaw argument (FreeText t) = sound

-- of the five texts, [Date] the first of them, the "text runs to the next keyword"
unfoldable pub header_part : HeaderState → ℕ → List ℕ → HeaderPart → Went
header_part h k w p =
    once h.parts (header_place p) (told w (header_flaw (argument w) p)) k (λ g. InHeader (record { line = h.line; text = leb (header_place (FreeText Date)) (header_place p); parts = g }))

-- a line that is no keyword line: part of a text, or without a place
unfoldable pub header_line : HeaderState → ℕ → Went
header_line h k = cond h.text (quietly (InHeader h)) (stop 7 k)

-- closing a text
abbrev pub header_shut : HeaderState → Went
header_shut h = quietly (InHeader (record { line = h.line; text = false; parts = h.parts }))

-- "both required"; "a missing header keyword is told at [IBIS Ver]"
unfoldable pub header_done : HeaderState → ℕ
header_done h = cond (has h.parts (header_place FileName) && has h.parts (header_place FileRev)) 0 9
