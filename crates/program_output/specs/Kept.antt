-- Where the programs keep a file, where their next text goes, and the parts of their tables.
use Rattle.std.specs.Prelude.{ℕ, ◌*◌, ◌/◌, cond, ltb, leb, List, length, replicate}
use Rattle.text_buffer.specs.Put.{Sheet}

-- "at most 65,536 bytes", and one more: a longer file is too long anyhow
unfoldable pub file_buffer : List ℕ
file_buffer = replicate 65537 0

-- behind n bytes of text in a buffer of so many: at its front, once more than half of it is written out
abbrev pub next_place : ℕ → ℕ → ℕ
next_place size n = cond (leb n (size / 2)) n 0

-- a page that is to be written on
abbrev pub after_flush : Sheet → Sheet
after_flush s = record s { at = next_place (length s.bytes) s.at }

-- how many words so many records have, in a table of so many words: all of them where it has no more records
abbrev pub words_in : ℕ → ℕ → ℕ → ℕ
words_in words size count = cond (ltb count (words / size)) (count * size) words
