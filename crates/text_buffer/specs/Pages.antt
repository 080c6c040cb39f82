-- What a page is, and what it is told to write.
use Rattle.std.specs.Prelude.{ℕ, ◌≡◌, List}
use Rattle.text_buffer.specs.Put.{Sheet, put}
use Rattle.text_buffer.specs.declared.page.Page.{Page}

abbrev pub sheet : Page → Sheet
sheet p = record { bytes = p.bytes.now; at = p.at; lent = p.bytes.ghost_name }

-- the page before and after, and the text that was put behind what it held
abbrev pub Writes : Page → Page → List ℕ → Type 0
Writes before after text = sheet after ≡ put text (sheet before)
