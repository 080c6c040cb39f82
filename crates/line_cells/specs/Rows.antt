-- A row as the words of its cells, or its fault, as the code answers it.
use Rattle.std.specs.Prelude.{ℕ, ◌+◌, cond, eqb, Result, Ok, Err}
use Rattle.decimal.specs.Decimal.{word_of}
use Rattle.decimal.specs.Answers.{fault_at}
use Rattle.decimal.specs.declared.Cell.TheVariants.{Number}
use Rattle.records.specs.declared.LineFault.{LineFault}
use Rattle.records.specs.declared.Row.{Row}
use Rattle.line_cells.specs.declared.RowWords.{RowWords}

abbrev pub amiss_words : ℕ → ℕ → RowWords
amiss_words n column = record { number = 0; typ = 0; min = 0; max = 0; fault = n; column = column }

-- no row's fault is 0
abbrev pub row_worded : Result Row LineFault → RowWords
row_worded (Ok r) =
    record { number = word_of (Number r.number); typ = word_of r.cells.typ; min = word_of r.cells.min; max = word_of r.cells.max; fault = 0; column = 0 }
row_worded (Err f) = amiss_words f.number f.column

-- what four answers give, each as one word with the place where it begins: the leftmost fault counts
abbrev pub amiss_or : ℕ → ℕ → RowWords → RowWords
amiss_or n p r = cond (eqb n 0) r (amiss_words n (p + 1))

unfoldable pub words_from : ℕ → ℕ → ℕ → ℕ → ℕ → ℕ → ℕ → ℕ → RowWords
words_from number first typ second min third max fourth =
    amiss_or (fault_at number) first (amiss_or (fault_at typ) second (amiss_or (fault_at min) third (amiss_or (fault_at max) fourth
    (record { number = number; typ = typ; min = min; max = max; fault = 0; column = 0 }))))
