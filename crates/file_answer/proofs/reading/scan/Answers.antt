-- The lines from here on, with what is noted so far, give what all lines give.
use mathlib.Core.Path.{refl, sym, ap, ◌∙◌, subst}
use native.Mathlib.Omega.{arith}
use Rattle.cut_lines.specs.Cursors.{NextIs}
use Rattle.noted_events.proofs.EventLaws.{names-small}
use Rattle.file_answer.specs.Scans.{standing, run_from}
use Rattle.file_answer.specs.declared.Standing.{Standing}
use Rattle.file_answer.proofs.ScanLaws.{noted-going, noted-full, noted-sound, noted-names, text-stop, line_on, line-stop, line-sound, run_out, ready, first-sound, first_run}
use Rattle.file_answer.proofs.reading.scan.Goals as goal

pub loop-line-init : goal.loop-line-init
loop-line-init c = (rw c.first-cursor.ensures rw c.nothing-tally.ensures (first-sound c.args.src.now c.args.notes.now c.requires.src_len_bound.0 c.requires.src_len_bound.1 c.requires.clean_from), refl, refl)

pub next_text-requires : goal.next_text-requires
next_text-requires c = c.loop-line.invariant.0.placed

pub slice_bounds-on_plain-count : goal.slice_bounds-on_plain-count
slice_bounds-on_plain-count c =
    let h = subst (NextIs c.args.src.now c.loop-line.cursor) c.in-Text.is c.next_text.ensures in
    omega (arith, h.starts)

pub slice_bounds-on_plain-start : goal.slice_bounds-on_plain-start
slice_bounds-on_plain-start c =
    let h = subst (NextIs c.args.src.now c.loop-line.cursor) c.in-Text.is c.next_text.ensures in
    omega (arith, h.starts)

pub slice_bounds-on_plain-end : goal.slice_bounds-on_plain-end
slice_bounds-on_plain-end c =
    let h = subst (NextIs c.args.src.now c.loop-line.cursor) c.in-Text.is c.next_text.ensures in
    h.fits

pub note_line-requires : goal.note_line-requires
note_line-requires c =
    let a = c.args in
    let i = c.loop-line in
    let h = subst (NextIs a.src.now i.cursor) c.in-Text.is c.next_text.ensures in
    rw c.spot_at-p.ensures (ready a.l a.src.now i.notes (standing i.stage i.cursor i.tally) _ i.invariant.0 h)

pub shape_of-notes-in-Err-note_line : goal.shape_of-notes-in-Err-note_line
shape_of-notes-in-Err-note_line c = c.notes-1.given ∙ c.loop-line.invariant.1

pub returns-in-Err-note_line : goal.returns-in-Err-note_line
returns-in-Err-note_line c =
    let a = c.args in
    let s = a.src.now in
    let i = c.loop-line in
    let n = c.note_line in
    let h = subst (NextIs s i.cursor) c.in-Text.is c.next_text.ensures in
    record {
      first_cursor_value = first_run a.l s a.notes.now _ _ c.first-cursor.ensures c.nothing-tally.ensures ∙ i.invariant.2 ∙ (rw c.broken_at.ensures (noted-full a.l s i.notes n.new.notes i.stage i.cursor i.tally _ c.spot_at-p.result c.spot_at-p.ensures h n.result _ n.ensures.e_value _ _ _ (sym c.on_plain.ensures ∙ c.in-Ok.is) c.in-Err-note_line.is));
      names_le_most_names = (rw c.broken_at.ensures (noted-names n.new.notes i.tally n.result _ _ n.ensures.kept_by c.in-Err-note_line.is), rw c.broken_at.ensures tt);
    }

pub behind_list-y-requires : goal.behind_list-y-requires
behind_list-y-requires c =
    let a = c.args in
    let s = a.src.now in
    let i = c.loop-line in
    let n = c.note_line in
    let h = subst (NextIs s i.cursor) c.in-Text.is c.next_text.ensures in
    rw c.stands-x.ensures (noted-sound a.l s i.notes n.new.notes i.stage i.cursor i.tally _ h n.result _ i.invariant.0 c.notes-1.given n.ensures.kept_by c.in-Ok-note_line.is)

pub loop-line-smaller-then-comes_in_numbers : goal.loop-line-smaller-then-comes_in_numbers
loop-line-smaller-then-comes_in_numbers c =
    let h = subst (NextIs c.args.src.now c.loop-line.cursor) c.in-Text.is c.next_text.ensures in
    let q = c.behind_list-y.ensures in
    omega (arith, h.goes.rises, q.from, ap (λ (x : Standing). x.cursor.at) c.stands-x.ensures, q.sound.placed.within)

pub loop-line-preserved-then-comes_in_numbers : goal.loop-line-preserved-then-comes_in_numbers
loop-line-preserved-then-comes_in_numbers c =
    let a = c.args in
    let s = a.src.now in
    let i = c.loop-line in
    let n = c.note_line in
    let h = subst (NextIs s i.cursor) c.in-Text.is c.next_text.ensures in
    let q = c.behind_list-y.ensures in
    (q.sound, c.notes-then-comes_in_numbers-1.given ∙ c.notes-1.given ∙ i.invariant.1, i.invariant.2 ∙ noted-going a.l s i.notes n.new.notes i.stage i.cursor i.tally _ c.spot_at-p.result c.spot_at-p.ensures h n.result _ n.ensures.e_value _ _ (sym c.on_plain.ensures ∙ c.in-Ok.is) c.in-Ok-note_line.is ∙ ap (run_from a.l s n.new.notes) (sym c.stands-x.ensures) ∙ q.says)

pub loop-line-smaller-else-comes_in_numbers : goal.loop-line-smaller-else-comes_in_numbers
loop-line-smaller-else-comes_in_numbers c =
    let h = subst (NextIs c.args.src.now c.loop-line.cursor) c.in-Text.is c.next_text.ensures in
    omega (arith, h.goes.rises, h.goes.placed.within)

pub loop-line-preserved-else-comes_in_numbers : goal.loop-line-preserved-else-comes_in_numbers
loop-line-preserved-else-comes_in_numbers c =
    let a = c.args in
    let s = a.src.now in
    let i = c.loop-line in
    let n = c.note_line in
    let h = subst (NextIs s i.cursor) c.in-Text.is c.next_text.ensures in
    (noted-sound a.l s i.notes n.new.notes i.stage i.cursor i.tally _ h n.result _ i.invariant.0 c.notes-1.given n.ensures.kept_by c.in-Ok-note_line.is, c.notes-1.given ∙ i.invariant.1, i.invariant.2 ∙ noted-going a.l s i.notes n.new.notes i.stage i.cursor i.tally _ c.spot_at-p.result c.spot_at-p.ensures h n.result _ n.ensures.e_value _ _ (sym c.on_plain.ensures ∙ c.in-Ok.is) c.in-Ok-note_line.is)

pub shape_of-notes-in-Err : goal.shape_of-notes-in-Err
shape_of-notes-in-Err c = c.loop-line.invariant.1

pub returns-in-Err : goal.returns-in-Err
returns-in-Err c =
    let a = c.args in
    let s = a.src.now in
    let i = c.loop-line in
    let h = subst (NextIs s i.cursor) c.in-Text.is c.next_text.ensures in
    record {
      first_cursor_value = first_run a.l s a.notes.now _ _ c.first-cursor.ensures c.nothing-tally.ensures ∙ i.invariant.2 ∙ (rw c.broken.ensures (text-stop a.l s i.notes i.notes i.stage i.cursor i.tally _ h _ (sym c.on_plain.ensures ∙ c.in-Err.is)));
      names_le_most_names = (rw c.broken.ensures (omega (arith, names-small i.tally i.invariant.0.within)), rw c.broken.ensures tt);
    }

pub loop-line-smaller : goal.loop-line-smaller
loop-line-smaller c =
    let h = subst (NextIs c.args.src.now c.loop-line.cursor) c.in-Change.is c.next_text.ensures in
    omega (arith, h.goes.rises, h.goes.placed.within)

pub loop-line-preserved : goal.loop-line-preserved
loop-line-preserved c =
    let a = c.args in
    let s = a.src.now in
    let i = c.loop-line in
    let h = subst (NextIs s i.cursor) c.in-Change.is c.next_text.ensures in
    (line-sound a.l s i.notes i.stage i.cursor i.tally _ _ _ h i.invariant.0, i.invariant.1, i.invariant.2 ∙ line_on a.l s i.notes i.stage i.cursor i.tally _ _ _ h _ _ (sym c.on_change.ensures ∙ c.in-Ok-on_change.is))

pub shape_of-notes-in-Err-on_change : goal.shape_of-notes-in-Err-on_change
shape_of-notes-in-Err-on_change c = c.loop-line.invariant.1

pub returns-in-Err-on_change : goal.returns-in-Err-on_change
returns-in-Err-on_change c =
    let a = c.args in
    let s = a.src.now in
    let i = c.loop-line in
    let h = subst (NextIs s i.cursor) c.in-Change.is c.next_text.ensures in
    record {
      first_cursor_value = first_run a.l s a.notes.now _ _ c.first-cursor.ensures c.nothing-tally.ensures ∙ i.invariant.2 ∙ (rw c.broken-in-Err-on_change.ensures (line-stop a.l s i.notes i.stage i.cursor i.tally _ _ _ h _ (sym c.on_change.ensures ∙ c.in-Err-on_change.is)));
      names_le_most_names = (rw c.broken-in-Err-on_change.ensures (omega (arith, names-small i.tally i.invariant.0.within)), rw c.broken-in-Err-on_change.ensures tt);
    }

pub shape_of-notes-in-Out : goal.shape_of-notes-in-Out
shape_of-notes-in-Out c = c.loop-line.invariant.1

pub returns-in-Out : goal.returns-in-Out
returns-in-Out c =
    let a = c.args in
    let s = a.src.now in
    let i = c.loop-line in
    let h = subst (NextIs s i.cursor) c.in-Out.is c.next_text.ensures in
    record {
      first_cursor_value = first_run a.l s a.notes.now _ _ c.first-cursor.ensures c.nothing-tally.ensures ∙ i.invariant.2 ∙ run_out a.l s i.notes (standing i.stage i.cursor i.tally) _ h ∙ c.out_of_lines.ensures.by_index s i.notes;
      names_le_most_names = (rw c.out_of_lines.ensures.tally_value (omega (arith, names-small i.tally i.invariant.0.within)), c.out_of_lines.ensures.by_index_2 i.notes (i.invariant.0.within, i.invariant.0.filed));
    }
