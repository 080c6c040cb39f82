-- One text behind another; the constant's lines are the keywords as they are written, by computing both.
use Prim.Native.Nat.{ℕ}
use Rattle.laws.specs.Bytes.{bytes}
use Rattle.laws.specs.Lists.{other}
use Rattle.suggested_keyword.specs.Suggestion.{written_names, question}
use Rattle.text_buffer.specs.Parts.{parts}
use Rattle.text_buffer.specs.Put.{put}
use Rattle.words.specs.Words.{word, onto_word}
use mathlib.Core.List.{List}
use mathlib.Core.Path.{sym, ap, ◌∙◌}
use Rattle.text_buffer.proofs.Laws.{put_append}
use Rattle.suggested_keyword.proofs.put_question.Goals as goal

pub returns : goal.returns
unfolding parts onto_word other word written_names question
returns c =
    let name : List ℕ = word c.args.k written_names in
    let end : List ℕ = bytes "]?" in
    c.put_bytes-2.ensures ∙ ap (put end) (c.put_part.ensures ∙ ap (put name) c.put_bytes.ensures) ∙ sym (put_append name end _)
