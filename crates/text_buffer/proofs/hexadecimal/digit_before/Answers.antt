-- Of the sixteen digits the shifted one; before them zeros.
use mathlib.Core.Path.{sym, ap}
use native.Mathlib.Omega.{arith}
use Rattle.text_buffer.specs.Numerals.{hex_digit}
use Rattle.text_buffer.proofs.HexadecimalLaws.{shifted-digit, past-highest}
use Rattle.text_buffer.proofs.hexadecimal.digit_before.Goals as goal

pub returns-then-behind-lt16 : goal.returns-then-behind-lt16
returns-then-behind-lt16 c = let a = c.args in ap hex_digit (shifted-digit a.number a.behind)

pub returns : goal.returns
returns c = let a = c.args in sym (ap hex_digit (past-highest a.number a.behind (omega arith) c.if-behind-lt16.false))
