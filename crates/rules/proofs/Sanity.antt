-- What the definitions must keep, by computing: the empty file is 19 at line 1 whatever is lent.
use mathlib.Core.Path.{◌≡◌, refl}
use mathlib.Core.List.{[]}
use Rattle.lines.specs.Lines.{lines_of, fault_from, bytes_fault}
use Rattle.cut_lines.specs.Texts.{texts_from}
use Rattle.rules.specs.Whole.{refused, runs, texts_of, outcome}
use Rattle.records.specs.declared.Lengths.{Lengths}

pub empty-file : (l : Lengths) → outcome l [] ≡ refused 19 1 0
unfolding outcome runs texts_of texts_from lines_of fault_from bytes_fault
empty-file l = refl
