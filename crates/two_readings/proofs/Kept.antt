-- An accepted file's answer has its header and its counts, and its tables lie over what was lent; the rest is `kept-in-tables`.
use Rattle.std.specs.Prelude.{Ok, Err, Result}
use Prim.Native.Nat.{ℕ}
use mathlib.Core.Path.{◌≡◌, sym, ap, ◌∙◌, refl, subst}
use mathlib.Core.List.{List}
use Rattle.laws.proofs.Tests.{impossible}
use Rattle.records.specs.declared.Fault.{Fault}
use Rattle.rules.specs.Whole.{Outcome, passed, refused, loading, texts_of}
use Rattle.rules.specs.Reading.{FileIs, file_in}
use Rattle.layout.specs.Laid.{laid, counts_of}
use Rattle.records.specs.declared.Answer.{Answer}
use Rattle.file_answer.specs.Answered.{answer_for, answer_in}
use Rattle.tables_say.specs.Kept.{header_answered, Holds}
use Rattle.tables_say.proofs.Kept.{kept-in-tables, over-holds}
use Rattle.reader.specs.Promise.{Lent, lending_in, left, Reads}
use Rattle.two_readings.specs.Kept.{KeptByRead}

abbrev read : List ℕ → FileIs
read s = file_in (texts_of s)

record Left (s : List ℕ) (r : Answer) (u : Lent) : Type 0 where
  header : r.header ≡ header_answered (read s)
  counts : r.counts ≡ counts_of (laid (read s))
  holds : Holds u (laid (read s))

left_by : (s : List ℕ) (a u : Lent) (r : Answer) (o : Outcome) → loading (lending_in a) s ≡ o → Reads s a r u → r.verdict ≡ Ok tt → Left s r u
unfolding answer_in
left_by s a u r (passed h) e q v =
    let answer = q.answer ∙ ap (answer_for (read s)) e in
    record {
      header = ap (λ (x : Answer). x.header) answer;
      counts = ap (λ (x : Answer). x.counts) answer;
      holds = subst (λ (x : Lent). Holds x (laid (read s))) (sym (q.tables ∙ ap (λ (y : Outcome). left y (laid (read s)) a) e)) (over-holds a (laid (read s)));
    }
left_by s a u r (refused n k c) e q v =
    let told : ◌≡◌ {A = Result (Unit {0}) Fault} (Err (record { number = n; line = k; column = c })) (Ok tt) = sym (ap (λ (x : Answer). x.verdict) (q.answer ∙ ap (answer_for (read s)) e)) ∙ v in
    let z : ◌≡◌ {A = ℕ} 0 1 = cc in
    impossible z

pub kept-by-read : KeptByRead
kept-by-read s t a b u r p q v =
    let f = left_by s a u r (loading (lending_in a) s) refl p v in
    let g = left_by t b u r (loading (lending_in b) t) refl q v in
    kept-in-tables u (read s) (read t) (sym f.header ∙ g.header) (sym f.counts ∙ g.counts) f.holds g.holds
