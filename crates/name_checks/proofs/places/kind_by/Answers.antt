-- By the area in which the place lies.
use mathlib.Core.Path.{refl}
use borrow.Author.Tests.{lt-ltb, le-ltb}
use Rattle.records.specs.declared.Kind.TheVariants.{OfPin, OfSelector, OfChoice, OfModel}
use Rattle.note_words.specs.Store.{area_from, kind_by}
use Rattle.name_checks.proofs.places.kind_by.Goals as goal

pub returns-then-a-lt-PINS_FROM : goal.returns-then-a-lt-PINS_FROM
unfolding kind_by
returns-then-a-lt-PINS_FROM c = rw (lt-ltb c.args.a (area_from OfPin) c.if-a-lt-PINS_FROM.true) refl

pub returns-then-a-lt-SELECTORS_FROM : goal.returns-then-a-lt-SELECTORS_FROM
unfolding kind_by
returns-then-a-lt-SELECTORS_FROM c =
    let a = c.args.a in
    rw (le-ltb a (area_from OfPin) c.if-a-lt-PINS_FROM.false) rw (lt-ltb a (area_from OfSelector) c.if-a-lt-SELECTORS_FROM.true) refl

pub returns-then-a-lt-CHOICES_FROM : goal.returns-then-a-lt-CHOICES_FROM
unfolding kind_by
returns-then-a-lt-CHOICES_FROM c =
    let a = c.args.a in
    rw (le-ltb a (area_from OfPin) c.if-a-lt-PINS_FROM.false) rw (le-ltb a (area_from OfSelector) c.if-a-lt-SELECTORS_FROM.false) rw (lt-ltb a (area_from OfChoice) c.if-a-lt-CHOICES_FROM.true) refl

pub returns-then-a-lt-MODELS_FROM : goal.returns-then-a-lt-MODELS_FROM
unfolding kind_by
returns-then-a-lt-MODELS_FROM c =
    let a = c.args.a in
    rw (le-ltb a (area_from OfPin) c.if-a-lt-PINS_FROM.false) rw (le-ltb a (area_from OfSelector) c.if-a-lt-SELECTORS_FROM.false) rw (le-ltb a (area_from OfChoice) c.if-a-lt-CHOICES_FROM.false) rw (lt-ltb a (area_from OfModel) c.if-a-lt-MODELS_FROM.true) refl

pub returns : goal.returns
unfolding kind_by
returns c =
    let a = c.args.a in
    rw (le-ltb a (area_from OfPin) c.if-a-lt-PINS_FROM.false) rw (le-ltb a (area_from OfSelector) c.if-a-lt-SELECTORS_FROM.false) rw (le-ltb a (area_from OfChoice) c.if-a-lt-CHOICES_FROM.false) rw (le-ltb a (area_from OfModel) c.if-a-lt-MODELS_FROM.false) refl
