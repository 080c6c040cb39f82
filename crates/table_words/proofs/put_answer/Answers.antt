-- The three parts fill all 41 words.
use Prim.Native.Nat.{ℕ}
use mathlib.Core.Path.{◌≡◌, refl, ap, ◌∙◌}
use lib.ListN.{length}
use borrow.Author.Rules.{rules}
use Rattle.table_words.specs.Packed.{count_words, fault_line, fault_column}
use Rattle.record_words.specs.Records.{text_words}
use Rattle.section_words.proofs.Laws.{sets-three, sets-all}
use Rattle.table_words.proofs.put_answer.Goals as goal

pub returns : goal.returns
returns c =
    let a = c.args.a in
    let e : c.count_words-head.result ≡ count_words (fault_line a.verdict) (fault_column a.verdict) a.counts = c.count_words-head.ensures ∙ ap (λ (k : ℕ). count_words k c.fault_column.result a.counts) c.fault_line.ensures ∙ ap (λ (k : ℕ). count_words (fault_line a.verdict) k a.counts) c.fault_column.ensures in
    let n : 41 ≡ length c.args.answer.now = search rules in
    sets-three c.args.answer.now c.put.new.out c.put-2.new.out c.put-3.new.out c.count_words-head.result c.text_words-name.result c.text_words-revision.result (count_words (fault_line a.verdict) (fault_column a.verdict) a.counts) (text_words a.header.name) (text_words a.header.revision) 0 9 25 c.put.ensures c.put-2.ensures c.put-3.ensures e c.text_words-name.ensures c.text_words-revision.ensures refl refl
    ∙ sets-all c.args.answer.now _ n
