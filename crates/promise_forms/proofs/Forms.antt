-- An equation with a definition has one left side; the other forms are records of such equations, or fix the lengths of what they say.
use Prim.Native.Nat.{ℕ, ◌≤◌}
use mathlib.Core.Path.{◌≡◌, sym, ap, ◌∙◌}
use mathlib.Core.List.{List}
use native.Mathlib.Omega.{arith}
use lib.ListN.{length, length-drop}
use Rattle.laws.proofs.Lists.{part_length}
use Rattle.words.specs.Places.{WordAt}
use Rattle.named_lines.specs.Places.{NameIs}
use Rattle.component_steps.specs.Steps.{NamesLie}
use Rattle.noted_events.specs.Places.{FirstIn, ArgumentIn}
use Rattle.name_checks.specs.Lookup.{Within}
use Rattle.text_buffer.specs.Put.{Put, Sheet}
use Rattle.text_buffer.specs.Pages.{Writes, sheet}
use Rattle.text_buffer.specs.declared.page.Page.{Page}
use Rattle.text_buffer.proofs.Laws.{written_put}
use Rattle.text_buffer.specs.Parts.{PartAt}
use Rattle.promise_forms.specs.One.{One, OneOfBoth, OnePage}

-- "the result is what the definition says"; and so the content of lent memory
pub equation : {A : Type 0} (definition : A) → One (λ (r : A). r ≡ definition)
equation definition r s a b = a ∙ sym b

-- a text put into a buffer
pub put : (before text : List ℕ) (at : ℕ) → OneOfBoth (λ (r : ℕ) (after : List ℕ). Put before after at text r)
put before text at r s x y a b = (a.stop ∙ sym b.stop, a.written ∙ sym b.written)

-- a text put onto a page
pub page : (before : Page) (text : List ℕ) → OnePage (λ (after : Page). Writes before after text)
page before text r s a b =
    let e = a ∙ sym b in
    record { lent = ap (λ (x : Sheet). x.lent) e; bytes = ap (λ (x : Sheet). x.bytes) e; place = ap (λ (x : Sheet). x.at) e }

-- which is the text put into the page's buffer at its place
pub page-put : (before after : Page) (text : List ℕ) → before.at ≤ length before.bytes.now → Writes before after text → Put before.bytes.now after.bytes.now before.at text after.at
page-put before after text h w = written_put text (sheet before) (sheet after) h w

-- ---- places found: what stands there, and an equation for the place

pub word : (s : List ℕ) (at : ℕ) → One (WordAt s at)
word s at r x a b = a.is ∙ sym b.is

-- three words, each behind the one before
pub names : (w : List ℕ) → One (NamesLie w)
names w r x a b =
    let pin = word w 0 r.pin x.pin a.pin b.pin in
    let signal = word w r.pin.end r.signal x.signal a.signal (rw pin b.signal) in
    let model = word w r.signal.end r.model x.model a.model (rw signal b.model) in
    λ i. record { pin = pin i; signal = signal i; model = model i }

pub text : (table : List ℕ) (separator place : ℕ) → One (PartAt table separator place)
text table separator place r x a b = a.is ∙ sym b.is

pub first : (s : List ℕ) (a e : ℕ) → One (FirstIn s a e)
first s a e r x h g = h.is ∙ sym g.is

pub argument : (s : List ℕ) (a e : ℕ) → One (ArgumentIn s a e)
argument s a e r x h g = h.is ∙ sym g.is

pub moved : (s : List ℕ) (a e : ℕ) → One (Within s a e)
moved s a e r x h g = h.is ∙ sym g.is

-- a line's name: as much is behind it, and it is as long
pub name : (w : List ℕ) → One (NameIs w)
name w r x a b =
    let e : r.end ≡ x.end = omega (arith, ap length a.behind, ap length b.behind, length-drop r.end w, length-drop x.end w, a.ends, b.ends) in
    let f : r.start ≡ x.start =
    omega (arith, e, ap length a.text, ap length b.text, part_length w r.start r.end a.ends, part_length w x.start x.end b.ends, a.starts, b.starts) in
    λ i. record { start = f i; end = e i }
