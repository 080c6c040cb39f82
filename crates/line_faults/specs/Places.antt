-- The flaw of a named line by its place in its table, as the code takes it.
use Rattle.std.specs.Prelude.{ℕ, List, cond, eqb, ltb}
use Rattle.records.specs.Flaws.{Flaw, flaw_in}
use Rattle.line_rules.specs.Fields.{word_line, cells_line, slopes_line, number_line}
use Rattle.line_rules.specs.Tables.{model_types, polarities, enables}

-- those of a model's first lines that take no word: C_comp and its four parts three cells, the others a number
unfoldable pub value_at : ℕ → List ℕ → Flaw
value_at n w = cond (ltb n 8) (flaw_in (cells_line w)) (flaw_in (number_line w))

-- a model's first lines
unfoldable pub first_at : ℕ → List ℕ → Flaw
first_at n w =
    cond (eqb n 0) (flaw_in (word_line model_types w))
    (cond (eqb n 1) (flaw_in (word_line polarities w))
    (cond (eqb n 2) (flaw_in (word_line enables w))
    (value_at n w)))

-- a ramp's lines
unfoldable pub ramp_at : ℕ → List ℕ → Flaw
ramp_at n w = cond (eqb n 2) (flaw_in (number_line w)) (flaw_in (slopes_line w))
