-- A name's and a longer text's types: texts of at most 40 and of at most 120 bytes.
use Rattle.records.specs.declared.Text.{Text}

abbrev pub Name : Type 0
Name = Text 40

abbrev pub Words : Type 0
Words = Text 120
