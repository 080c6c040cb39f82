-- The digits of what is left go before those that were found.
use mathlib.Core.Path.{◌≡◌}
use lib.ListN.{length, drop}
use Rattle.text_buffer.specs.Numerals.{digits_from, numeral_of}
use Rattle.text_buffer.proofs.numbers.digits_of.Given as goal

abbrev pub invariant-loop-first : goal.invariant-loop-first
invariant-loop-first l = (length l.bytes ≡ 20) × (digits_from l.first l.rest (drop l.first l.bytes) ≡ numeral_of l.number)
