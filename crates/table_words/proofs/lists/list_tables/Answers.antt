-- Each table by its fill.
use Rattle.table_words.proofs.lists.list_tables.Goals as goal

pub returns : goal.returns
returns c = rw (c.fill_pins.ensures, c.fill_selectors.ensures, c.fill_choices.ensures, c.list_models.ensures)
