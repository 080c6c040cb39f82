-- Document 01's bounds: how many of each a file has at most, if as many are lent.
use Rattle.std.specs.Prelude.{ℕ}
use Rattle.records.specs.declared.Kind.{Kind}
use Rattle.records.specs.declared.Kind.TheVariants.{OfComponent, OfPin, OfSelector, OfChoice, OfModel}

abbrev pub most : Kind → ℕ
most OfComponent = 8
most OfPin = 512
most OfSelector = 32
most OfChoice = 256
most OfModel = 64

-- in all models
abbrev pub most_waveforms : ℕ
most_waveforms = 1024

-- as many rows are to be lent to whoever loads a file (document 02, §8); no file has more
abbrev pub most_rows : ℕ
most_rows = 8192
