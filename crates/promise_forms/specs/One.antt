-- A promise leaves one result if any two that it allows are equal.
use Rattle.std.specs.Prelude.{◌≡◌}
use Rattle.text_buffer.specs.declared.page.Page.{Page}

-- of a result alone
abbrev pub One : {A : Type 0} → (A → Type 0) → Type 0
One {A} allowed = (r s : A) → allowed r → allowed s → r ≡ s

-- of a result and the content of lent memory
abbrev pub OneOfBoth : {A B : Type 0} → (A → B → Type 0) → Type 0
OneOfBoth {A} {B} allowed = (r s : A) (x y : B) → allowed r x → allowed s y → (r ≡ s) × (x ≡ y)

-- two pages are one: over one lent buffer, with the same bytes, written up to the same place
pub record SamePage (r s : Page) : Type 0 where
  pub lent : r.bytes.ghost_name ≡ s.bytes.ghost_name
  pub bytes : r.bytes.now ≡ s.bytes.now
  pub place : r.at ≡ s.at

-- of a page that is left
abbrev pub OnePage : (Page → Type 0) → Type 0
OnePage allowed = (r s : Page) → allowed r → allowed s → SamePage r s
