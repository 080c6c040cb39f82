-- What the layout must keep, by computing: rows follow each other in file order.
use Prim.Native.Nat.{ℕ, ◌+◌}
use mathlib.Core.Path.{◌≡◌, refl}
use mathlib.Core.List.{List, [], ◌∷◌}
use lib.ListN.{length}
use Rattle.laws.specs.Bytes.{bytes, is_blank}
use Rattle.laws.specs.Lists.{eqs, one_of}
use Rattle.words.specs.Words.{words, grown, onto_word}
use Rattle.records.specs.declared.Edge.TheVariants.{Rising}
use Rattle.rules.specs.Reading.{rows_in, edge_of, waveform_in}
use Rattle.layout.specs.Laid.{waveforms_laid}

-- a waveform behind a current table has its rows behind that table's
pub rows_behind : (n : ℕ) (ls ks : List (List ℕ))
    → waveforms_laid (record { key = bytes "pulldown"; lines = ls } ∷ record { key = bytes "rising_waveform"; lines = ks } ∷ []) n
    ≡ waveform_in (n + length (rows_in ls)) Rising ks ∷ []
unfolding waveforms_laid one_of eqs words grown onto_word is_blank edge_of
rows_behind n ls ks = refl
