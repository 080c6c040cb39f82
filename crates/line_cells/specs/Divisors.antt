-- The divisors of a ramp's three slopes, as the code answers them.
use Rattle.std.specs.Prelude.{cond, ◌&&◌, Result, Ok, Err}
use Rattle.records.specs.Flaws.{bare}
use Rattle.records.specs.declared.LineFault.{LineFault}
use Rattle.records.specs.declared.RampTriple.{RampTriple}
use Rattle.line_rules.specs.Fields.{is_upward}

-- 13, with no column, if one is not above zero
unfoldable pub divided : RampTriple → Result RampTriple LineFault
divided t = cond (is_upward t.typ && (is_upward t.min && is_upward t.max)) (Ok t) (Err (bare 13))
