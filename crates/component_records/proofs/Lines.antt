-- Lists of named lines as folds over the lines; and a line more, by its place and by what it says.
use Rattle.std.specs.Prelude.{Ok, Err, Some, None}
use Prim.Native.Nat.{ℕ}
use mathlib.Core.Path.{◌≡◌, refl, sym}
use mathlib.Core.List.{List}
use Rattle.laws.specs.Bytes.{is_blank}
use Rattle.laws.specs.Lists.{eqs}
use Rattle.words.specs.Words.{words, grown, onto_word}
use Rattle.name_table.specs.Names.{place_from}
use Rattle.records.specs.Flaws.{told_in}
use Rattle.records.specs.declared.LineFault.{LineFault}
use Rattle.records.specs.declared.Triple.{Triple}
use Rattle.records.specs.declared.Location.{Location}
use Rattle.line_rules.specs.Fields.{line_at, word_line, cells_line, line_says}
use Rattle.line_rules.specs.Tables.{component_lines, locations, package_lines}
use Rattle.line_rules.proofs.Places.{takes_at, takes-nothing}
use Rattle.lines_under.proofs.Folds.{Folds}
use Rattle.lines_under.proofs.Told.{told-says, takes-flawed}
use Rattle.component_records.specs.Views.{boxes_in, box_line, box_at, sites_in, site_line, site_at}
use Rattle.component_records.specs.declared.lists.Boxes.{Boxes}
use Rattle.component_records.specs.declared.lists.Sites.{Sites}

pub box-fold : Folds boxes_in box_line
unfolding boxes_in line_says
box-fold = record { none = λ x. refl; more = λ x w ws. refl }

pub site-fold : Folds sites_in site_line
unfolding sites_in line_says
site-fold = record { none = λ x. refl; more = λ x w ws. refl }

module _ (b : Boxes) (w : List ℕ) where
  pub box-named : (n : ℕ) (t : Triple) → line_at package_lines w ≡ Some n → cells_line w ≡ Ok t → box_at b n t ≡ box_line b w
  unfolding place_from words grown onto_word is_blank eqs
  box-named n t e q =
      rw (takes_at "R_pkg" cells_line b.resistance w package_lines n 0 e refl q, takes_at "L_pkg" cells_line b.inductance w package_lines n 1 e refl q, takes_at "C_pkg" cells_line b.capacitance w package_lines n 2 e refl q)

  pub box-flawed : {f : LineFault} → told_in w (cells_line w) ≡ Err f → b ≡ box_line b w
  box-flawed q =
      rw (takes-flawed "R_pkg" cells_line b.resistance w q, takes-flawed "L_pkg" cells_line b.inductance w q, takes-flawed "C_pkg" cells_line b.capacitance w q)

  pub box-nothing : line_at package_lines w ≡ None → b ≡ box_line b w
  unfolding place_from words grown onto_word is_blank eqs
  box-nothing e =
      rw (takes-nothing "R_pkg" cells_line b.resistance w package_lines 0 e refl, takes-nothing "L_pkg" cells_line b.inductance w package_lines 1 e refl, takes-nothing "C_pkg" cells_line b.capacitance w package_lines 2 e refl)

module _ (x : Sites) (w : List ℕ) where
  pub site-named : (n : ℕ) (l : Location) → line_at component_lines w ≡ Some n → Ok l ≡ told_in w (word_line locations w) → site_at x n l ≡ site_line x w
  unfolding place_from words grown onto_word is_blank eqs
  site-named n l e h =
      let q = told-says w (word_line locations w) (sym h) in
      rw (takes_at "Si_location" (word_line locations) x.si w component_lines n 0 e refl q, takes_at "Timing_location" (word_line locations) x.timing w component_lines n 1 e refl q)

  pub site-unread : {f : LineFault} → Err f ≡ told_in w (word_line locations w) → x ≡ site_line x w
  site-unread h =
      rw (takes-flawed "Si_location" (word_line locations) x.si w (sym h), takes-flawed "Timing_location" (word_line locations) x.timing w (sym h))

  pub site-nothing : line_at component_lines w ≡ None → x ≡ site_line x w
  unfolding place_from words grown onto_word is_blank eqs
  site-nothing e =
      rw (takes-nothing "Si_location" (word_line locations) x.si w component_lines 0 e refl, takes-nothing "Timing_location" (word_line locations) x.timing w component_lines 1 e refl)
