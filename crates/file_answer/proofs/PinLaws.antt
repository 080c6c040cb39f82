-- A pin row behind the first one is noted and counted, and leaves the stage as it is.
use Prim.Native.Nat.{ℕ, ◌+◌, ◌-◌, ◌≤◌, ◌<◌}
use mathlib.Core.Path.{◌≡◌, refl, sym, ap, ◌∙◌, subst}
use mathlib.Core.List.{List, [], ◌∷◌}
use mathlib.Core.Bool.{Bool, true}
use native.Mathlib.Omega.{arith}
use lib.ListN.{length, drop}
use Rattle.laws.specs.Lists.{part}
use Rattle.laws.proofs.Lists.{part_length, part-part}
use Rattle.laws.proofs.Tests.{by-test, by_order, cond_no}
use Rattle.words.specs.Words.{word, words}
use Rattle.words.specs.declared.Word.{Word}
use Rattle.words.proofs.Chains.{link, done, words-under, words-from}
use Rattle.cut_lines.specs.Cursors.{TextIs}
use Rattle.cut_lines.specs.declared.Cursor.{Cursor}
use Rattle.records.specs.Bounds.{most}
use Rattle.records.specs.declared.Kind.TheVariants.{OfPin}
use Rattle.records.specs.declared.Lengths.{Lengths}
use Rattle.line_rules.specs.Fields.{is_pin_name, is_pin_model, is_sized}
use Rattle.rules.specs.Going.{passes}
use Rattle.rules.specs.Whole.{bound}
use Rattle.rules.specs.Component.{with_list, pin_flaw}
use Rattle.rules.specs.Steps.{on_plain}
use Rattle.rules.specs.declared.ComponentList.TheVariants.{PinRows}
use Rattle.rules.specs.declared.ComponentState.{ComponentState}
use Rattle.rules.specs.declared.Stage.{Stage}
use Rattle.rules.specs.declared.Stage.TheVariants.{InComponent, AfterEnd}
use Rattle.rules.specs.declared.Event.TheVariants.{PinRow}
use Rattle.notes.specs.Noted.{going}
use Rattle.note_words.specs.Store.{names_held, store_length}
use Rattle.noted_events.specs.Events.{log_of, logged_at, KeptCounts, Ready}
use Rattle.noted_events.specs.declared.Spot.{Spot}
use Rattle.noted_events.specs.declared.Tally.{Tally}
use Rattle.noted_events.proofs.EventLaws.{names-small, row_fits, told-row, counted-going}
use Rattle.file_answer.specs.Scans.{standing, run_from, Ground, Sound, ListPassed}
use Rattle.file_answer.specs.Pins.{PinPut, one_pin, KeepsPins, PinNext, PinsAre}
use Rattle.file_answer.specs.declared.PinsPassed.{PinsPassed}
use Rattle.file_answer.specs.declared.Standing.{Standing}
use Rattle.file_answer.proofs.ScanLaws.{ready, text-going, reached-on}

-- ---- the stage

pub pins-kept : (c : ComponentState) (o : ℕ) (long : Bool) → KeepsPins (InComponent (with_list c (PinRows o long true))) long
unfolding on_plain passes
pins-kept c o long k w plain fine = cond_no _ _ plain ∙ (rw fine refl)

-- ---- one pin

few_words : (ws : List (List ℕ)) → length ws ≤ 2 → word 2 ws ≡ []
unfolding word
few_words [] h = refl
few_words (a ∷ []) h = refl
few_words (a ∷ b ∷ []) h = refl
few_words (a ∷ b ∷ c ∷ ws) h = absurd (omega arith)

-- a row of two words or fewer lacks its model, if none of its names is at fault before
row-few : (long : Bool) (w : List ℕ) → length (words w) ≤ 2 → (pin_flaw long w).number ≡ 10
unfolding pin_flaw is_pin_model is_sized
row-few long w h =
    by-test (is_pin_name (word 0 (words w)))
    (λ a. by-test (is_sized 40 (word 1 (words w))) (λ b. rw (a, b, few_words (words w) h) refl) (λ b. rw (a, b) refl))
    (λ a. rw a refl)

module _ (l : Lengths) (s xs : List ℕ) (t : Tally) (p : Spot) (long : Bool) (ys : List ℕ) (ready : Ready s xs t p) (room : t.counts.pins < bound l OfPin)
    (pin : PinPut s xs t.names t.counts.pins p.start p.end long ys) where
  abbrev w : List ℕ
  w = part p.start p.end s

  -- it has a third word
  model-there : pin.names.model.start < length w
  model-there =
      by_order (length w) pin.names.model.start
      (λ h. absurd (omega (arith, pin.pin, row-few long w (words-under (link pin.lie.pin (link pin.lie.signal done)) pin.lie.model h))))
      (λ h. h)

  names-said : words w ≡ part pin.names.pin.start pin.names.pin.end w ∷ part pin.names.signal.start pin.names.signal.end w ∷ part pin.names.model.start pin.names.model.end w ∷ words (drop pin.names.model.end w)
  names-said = words-from (link pin.lie.pin (link pin.lie.signal done)) pin.lie.model model-there

  long_as : length w ≡ p.end - p.start
  long_as = part_length s p.start p.end ready.text.fits

  pub pin-told : (logged_at l s xs t p PinRow ≡ going (log_of s ys (one_pin t))) × KeptCounts ys t (one_pin t)
  unfolding word
  pin-told =
      let lie = pin.lie in
      let name : Word = record { start = p.start + pin.names.pin.start; end = p.start + pin.names.pin.end } in
      let model : Word = record { start = p.start + pin.names.model.start; end = p.start + pin.names.model.end } in
      let fits = row_fits s xs l t p ready name model (omega arith) (omega (arith, lie.pin.starts)) (omega (arith, lie.pin.ends, long_as, ready.text.starts)) (omega arith) (omega (arith, lie.model.starts)) (omega (arith, lie.model.ends, long_as, ready.text.starts)) in
      let told = told-row s xs l t p ready OfPin name model 2 refl refl fits refl
      (sym (part-part s p.start p.end _ _ (omega (arith, lie.pin.ends, long_as))) ∙ sym (ap (word 0) names-said))
      (sym (part-part s p.start p.end _ _ (omega (arith, lie.model.ends, long_as))) ∙ sym (ap (word 2) names-said))
      pin.written (counted-going l t OfPin room) in
      told

module _ (s xs : List ℕ) (c : Cursor) (t : Tally) {line a e : ℕ} {next : Cursor} (ground : Ground s xs c t) (text : TextIs s c line a e next) where
  -- the text fits where it is to be noted, and there is a place for it
  pub pin-fits : ((a < e) × (e ≤ a + 120) × (e ≤ length s) × (length s ≤ 65536)) × ((t.names ≤ names_held) × (t.counts.pins ≤ most OfPin) × (store_length ≤ length xs))
  pin-fits = ((text.starts, text.short ground.reached.clean, text.fits, ground.small), (names-small t ground.within, ground.within.pins, ground.store))

  pub pin-next : (l : Lengths) (long : Bool) (ys : List ℕ) → t.counts.pins < bound l OfPin → PinPut s xs t.names t.counts.pins a e long ys → PinNext l s xs c t long ys next
  pin-next l long ys room pin =
      let p : Spot = record { line = line; start = a; end = e; next = next } in
      let told = pin-told l s xs t p long ys (ready l s xs (standing AfterEnd c t) p ground text) room pin in
      record {
        says = λ g keeps. text-going l s xs ys g c t p text g PinRow (one_pin t) (keeps _ _ pin.unbracketed pin.pin) told.0;
        goes = text.goes;
        kept = told.1;
      }

-- ---- pins, one after another

module _ (l : Lengths) (s xs : List ℕ) (c : Cursor) (t : Tally) (long : Bool) where
  pub pins-none : Ground s xs c t → PinsAre l s xs c t long xs (record { cursor = c; tally = t })
  pins-none h = record { says = λ g keeps. refl; ground = h; from = omega arith }

  pub pins-more : (ys : List ℕ) (d : Cursor) (u : Tally) (zs : List ℕ) (next : Cursor) → length zs ≡ length ys → PinNext l s ys d u long zs next
      → PinsAre l s xs c t long ys (record { cursor = d; tally = u }) → PinsAre l s xs c t long zs (record { cursor = next; tally = one_pin u })
  pins-more ys d u zs next e n p =
      record {
        says = λ g keeps. p.says g keeps ∙ n.says g keeps;
        ground =
            record {
              placed = n.goes.placed;
              reached = reached-on s d next n.goes p.ground.reached;
              small = p.ground.small;
              store = omega (arith, e, p.ground.store);
              within = n.kept.within;
              filed = n.kept.filed;
              rows = omega (arith, n.kept.rows, p.ground.rows, n.goes.rises);
            };
        from = omega (arith, p.from, n.goes.rises);
      }

-- ---- where the reading stands

pub pins-stay : (l : Lengths) (s xs : List ℕ) (x : Standing) → Sound s xs x → ListPassed l s xs x xs x
pins-stay l s xs x h = record { says = refl; sound = h; from = omega arith }

pub pins-on : (l : Lengths) (s xs : List ℕ) (x : Standing) (c : ComponentState) (o : ℕ) (long any : Bool) (ys : List ℕ) (p : PinsPassed) → x.stage ≡ InComponent c → c.list ≡ PinRows o long any → any ≡ true
    → PinsAre l s xs x.cursor x.tally long ys p → ListPassed l s xs x ys (standing (InComponent c) p.cursor p.tally)
pins-on l s xs x c o long any ys p stage list seen are =
    let is : InComponent (with_list c (PinRows o long true)) ≡ InComponent c = (rw (sym seen) rw (sym list) refl) in
    let keeps : KeepsPins (InComponent c) long = subst (λ (g : Stage). KeepsPins g long) is (pins-kept c o long) in
    record { says = ap (λ (g : Stage). run_from l s xs (standing g x.cursor x.tally)) stage ∙ are.says (InComponent c) keeps; sound = are.ground; from = are.from }
