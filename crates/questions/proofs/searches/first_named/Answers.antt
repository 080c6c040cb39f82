-- From place i on the search finds what it finds from the start.
use Prim.Native.Nat.{ℕ}
use mathlib.Core.Path.{◌≡◌, sym, ap, ◌∙◌}
use mathlib.Core.Bool.{Bool, true, false}
use mathlib.Core.List.{List}
use lib.ListN.{length, drop}
use native.Mathlib.Omega.{arith}
use native.Mathlib.Nat.{div-le_self}
use Rattle.table_records.specs.Values.{record_at}
use Rattle.table_records.specs.Records.{name_from}
use Rattle.questions.specs.Named.{is_named}
use Rattle.questions.proofs.Laws.{seeks-first, seeks-found, seeks-next, seeks-none}
use Rattle.questions.proofs.searches.first_named.Goals as goal

-- the record's name is the one sought
named : (table name words part : List ℕ) (size word k : ℕ) (r t : Bool) → words ≡ record_at size table k → part ≡ drop word words → r ≡ is_named (name_from part) name → r ≡ t → is_named (name_from (drop word (record_at size table k))) name ≡ t
named table name words part size word k r t a b d e = ap (λ (l : List ℕ). is_named (name_from (drop word l)) name) (sym a) ∙ ap (λ (l : List ℕ). is_named (name_from l) name) (sym b) ∙ sym d ∙ e

pub loop-i-init : goal.loop-i-init
loop-i-init c = seeks-first _ _ _

pub overflow_add-from : goal.overflow_add-from
overflow_add-from c = omega (arith, div-le_self (length c.args.table.now) c.args.size)

pub overflow_add-result : goal.overflow_add-result
overflow_add-result c = omega (arith, div-le_self (length c.args.table.now) c.args.size)

pub returns-then-has_name : goal.returns-then-has_name
returns-then-has_name c = seeks-found _ _ _ c.loop-i.i c.loop-i-test.true c.loop-i.invariant (named c.args.table.now c.args.name.now _ _ c.args.size c.args.word _ _ true c.record_at-words.ensures c.words_from.ensures c.has_name.ensures c.if-has_name.true)

pub loop-i-preserved : goal.loop-i-preserved
loop-i-preserved c = seeks-next _ _ _ c.loop-i.i c.loop-i-test.true c.loop-i.invariant (named c.args.table.now c.args.name.now _ _ c.args.size c.args.word _ _ false c.record_at-words.ensures c.words_from.ensures c.has_name.ensures c.if-has_name.false)

pub returns : goal.returns
returns c = seeks-none _ _ _ c.loop-i.i c.loop-i-test.false c.loop-i.invariant
