-- The promise leaves one answer and one content of the lent tables, since both are given by an equation.
use Rattle.std.specs.Prelude.{Ok, Err}
use Prim.Native.Nat.{ℕ, ◌<◌}
use mathlib.Core.Path.{◌≡◌, sym, ap, ◌∙◌}
use mathlib.Core.List.{List, ◌++◌}
use lib.ListN.{length, drop}
use Rattle.rules.proofs.Outcomes.{loaded-few}
use Rattle.rules.specs.Reading.{file_in}
use Rattle.layout.specs.Laid.{Laid, laid, counts_of}
use Rattle.records.specs.Bounds.{most_rows}
use Rattle.records.specs.Stored.{over}
use Rattle.rules.specs.Whole.{Held, passed, refused, loading, texts_of}
use Rattle.file_answer.specs.Answered.{answer_for, answer_in}
use Rattle.records.specs.declared.Answer.{Answer}
use Rattle.reader.specs.Promise.{Lent, lending_in, left, Reads}

pub one_answer : (s : List ℕ) (t : Lent) (r p : Answer) (u v : Lent) → Reads s t r u → Reads s t p v → r ≡ p
one_answer s t r p u v a b = a.answer ∙ sym b.answer

pub one-content : (s : List ℕ) (t : Lent) (r p : Answer) (u v : Lent) → Reads s t r u → Reads s t p v → u ≡ v
one-content s t r p u v a b = a.tables ∙ sym b.tables

-- what it fixes of a file, once its outcome is known; crate `cheats` computes some, and so refutes the five cheating readers
module _ (s : List ℕ) (t : Lent) (r : Answer) (u : Lent) (reads : Reads s t r u) where
  abbrev file : Laid
  file = laid (file_in (texts_of s))

  -- a file with a fault is refused, with that fault, and nothing is written
  module _ (n k c : ℕ) (is : loading (lending_in t) s ≡ refused n k c) where
    pub refuses-it : r.verdict ≡ Err (record { number = n; line = k; column = c })
    unfolding answer_in
    refuses-it = ap (λ (a : Answer). a.verdict) (reads.answer ∙ ap (answer_for (file_in (texts_of s))) is)

    pub leaves-it : u ≡ t
    leaves-it = reads.tables ∙ ap (λ o. left o file t) is

  -- where fewer rows are lent than a file can have, 25 is told whatever the file is, and nothing is written
  module _ (few : (lending_in t).rows < most_rows) where
    pub refuses-any : r.verdict ≡ Err (record { number = 25; line = 0; column = 0 })
    refuses-any = refuses-it 25 0 0 (loaded-few (lending_in t) s few)

    pub leaves-any : u ≡ t
    leaves-any = leaves-it 25 0 0 (loaded-few (lending_in t) s few)

  -- a file without a fault is accepted, as many of each are counted as the file has, and every model of the file lies in its table
  module _ (h : Held) (is : loading (lending_in t) s ≡ passed h) where
    pub accepts-it : r.verdict ≡ Ok tt
    unfolding answer_in
    accepts-it = ap (λ (a : Answer). a.verdict) (reads.answer ∙ ap (answer_for (file_in (texts_of s))) is)

    pub counts_all : r.counts ≡ counts_of file
    unfolding answer_in
    counts_all = ap (λ (a : Answer). a.counts) (reads.answer ∙ ap (answer_for (file_in (texts_of s))) is)

    pub writes-all : u.models ≡ file.models ++ drop (length file.models) t.models
    unfolding over
    writes-all = ap (λ (x : Lent). x.models) (reads.tables ∙ ap (λ o. left o file t) is)
