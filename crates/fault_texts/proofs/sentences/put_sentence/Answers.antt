-- The table's lines are the list, by computing both: where `returns` is refused, they differ.
use Rattle.laws.specs.Lists.{other}
use Rattle.words.specs.Words.{onto_word}
use Rattle.text_buffer.specs.Parts.{parts}
use Rattle.fault_texts.specs.Sentences.{sentences, sentence_of}
use Rattle.fault_texts.proofs.sentences.put_sentence.Goals as goal

pub returns : goal.returns
unfolding parts onto_word other sentences sentence_of
returns c = c.put_text.ensures
