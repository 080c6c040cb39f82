-- How the bytes of a text are spelled when it is compared with a name.
use Rattle.std.specs.Prelude.{ℕ}
use Rattle.laws.specs.Bytes.{capital, spelled_byte}
use Rattle.words.specs.declared.Spelling.{Spelling}
use Rattle.words.specs.declared.Spelling.TheVariants.{AsItStands, InCapitals, AsKeyword}

abbrev pub byte_as : Spelling → ℕ → ℕ
byte_as AsItStands b = b
byte_as InCapitals b = capital b
byte_as AsKeyword b = spelled_byte b
