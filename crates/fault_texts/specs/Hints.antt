-- A hint for each fault of document 01, and of document 02: what to look at.
use Rattle.std.specs.Prelude.{ℕ, List, [], ◌∷◌}
use Rattle.laws.specs.Bytes.{bytes}
use Rattle.fault_texts.specs.Texts.{text_for}

abbrev pub no_hint : List ℕ
no_hint = bytes "Look at the line and at the keyword above it."

-- by the fault's number; the first is for every number that no fault has, and stands for those between too
unfoldable pub hints : List (List ℕ)
hints =
    no_hint
    ∷ bytes "Leave out comments, or split the file."
    ∷ bytes "Allowed are tab, the characters from space to ~, and a CR before the line's end only; look for accents and for UTF-16."
    ∷ bytes "A tab counts as one, and a comment counts too: break the line."
    ∷ bytes "Put a line end behind the last line."
    ∷ bytes "Parts of a keyword are joined by one space or underscore; behind ] comes a blank or nothing."
    ∷ bytes "What the keyword gives is not read: comment it out, with the lines that belong to it."
    ∷ bytes "Look at the keyword above: the line has no place in what is open there, or stands before [IBIS Ver] or after [End]."
    ∷ bytes "Look further up in the same section, and leave one of the two."
    ∷ bytes "The line is the keyword of the section or table that lacks something: compare it with a whole one."
    ∷ bytes "Count the words, and look at the spelling, the length and the letter case of each."
    ∷ bytes "A number is perhaps a sign, digits with at most one point, perhaps a power, then letters only."
    ∷ bytes "At most 15 digits, and a power of ten from -40 to 24. M is mega, m is milli."
    ∷ bytes "The first column rises from row to row; 2 to 100 rows, of a waveform 2 to 1,000; the first and last typ are numbers."
    ∷ bytes "Look for the name further up: names of components, of pins in one component, of models and selectors, of rows in one selector."
    ∷ bytes "No model or selector is called so. Letter case counts. A selector's row names a model."
    ∷ bytes "A model is named by a pin or a selector, a selector by a pin: name it there, or take the section out."
    ∷ bytes "At most 8 components, 512 pins, 32 selectors, 256 selector rows, 64 models, 16 waveforms a model, 1,024 in all."
    ∷ no_hint
    ∷ bytes "The file is cut off, or its last keyword is missing."
    ∷ bytes "Look at Vinl and Vinh of this model. Where one is absent, Vinl is 0.8 and Vinh 2.0; in Input_ECL and I/O_ECL, Vinl is -1.475 and Vinh -1.165."
    ∷ bytes "Look at the spelling: the standard has no such keyword."
    ∷ no_hint
    ∷ no_hint
    ∷ no_hint
    ∷ bytes "Lend 32,768 words of rows: no file has more rows than that."
    ∷ []

unfoldable pub hint_of : ℕ → List ℕ
hint_of n = text_for hints n
