-- The model that goes on is as it was left; the next is opened behind its keyword line (`opens`). A row's place is a word.
use mathlib.Core.Path.{sym, ap, ◌∙◌}
use native.Mathlib.Omega.{arith}
use Rattle.model_record.specs.Bodies.{bare_body}
use Rattle.from_notes.proofs.Steps.{opens}
use Rattle.from_notes.proofs.models.opening.Goals as goal

pub returns-then-is_some : goal.returns-then-is_some
returns-then-is_some c =
    let s = c.requires (sym c.is_some.ensures ∙ c.if-is_some.true) in
    record { placed = s.0; fits = s.1; partly = λ waves rowed r. r.0 (sym c.is_some.ensures ∙ c.if-is_some.true) }

pub first_lines-first-requires : goal.first_lines-first-requires
first_lines-first-requires c = c.section_noted.ensures.placed

pub returns : goal.returns
returns c =
    let a = c.args in
    let f = c.first_lines-first.ensures in
    let row = c.section_word-row.ensures in
    record {
      placed = f.stops.placed;
      fits = rw c.bare_body.ensures (record { row = omega (arith, row.upper_bound); waveforms = omega arith });
      partly = λ waves rowed r. opens a.src.now a.notes.now a.k c.section_noted.ensures f.stops c.first_lines-first.result.lines f.lines c.bare_body.result (c.bare_body.ensures ∙ ap bare_body row.value) (r.1 (sym c.is_some.ensures ∙ c.if-is_some.false));
    }
