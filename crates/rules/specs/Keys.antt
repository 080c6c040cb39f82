-- A text by its keyword, as the code takes it: by cases, not by name.
use Rattle.std.specs.Prelude.{ℕ, List, ◌∷◌, Bool, true, false, cond, Ok, Err, Option, None, Some}
use Rattle.laws.specs.Said.{Said}
use Rattle.words.specs.Words.{word, words}
use Rattle.keywords.specs.Carried.{key_of}
use Rattle.keywords.specs.declared.Keyword.{Keyword}
use Rattle.keywords.specs.declared.Keyword.TheVariants as key
use Rattle.keywords.specs.declared.HeaderPart.{HeaderPart}
use Rattle.keywords.specs.declared.Section.{Section}
use Rattle.keywords.specs.declared.Section.TheVariants.{Component, Selector, Model}
use Rattle.keywords.specs.declared.ComponentPart.{ComponentPart}
use Rattle.keywords.specs.declared.ModelPart.{ModelPart}
use Rattle.cut_lines.specs.Texts.{Text, plain, change}
use Rattle.line_rules.specs.Fields.{is_bracketed}
use Rattle.rules.specs.Reading.{SectionIs, component, selector, model}

abbrev pub key_in : Said Keyword → Option Keyword
key_in (Ok k) = Some k
key_in (Err n) = None

abbrev pub key_at : Text → Option Keyword
key_at (plain k w) = cond (is_bracketed w) (key_in (key_of w)) None
key_at (change k f) = None

-- by what a keyword is: none or [IBIS Ver], one of the header's, a section's, one of a component's, of a model's, [End]
abbrev pub by_keyword : {A : Type 0} → A → (HeaderPart → A) → (Section → A) → (ComponentPart → A) → (ModelPart → A) → A → Option Keyword → A
by_keyword o h s c m e None = o
by_keyword o h s c m e (Some key.IbisVer) = o
by_keyword o h s c m e (Some (key.InHeader p)) = h p
by_keyword o h s c m e (Some (key.Opens x)) = s x
by_keyword o h s c m e (Some (key.InComponent p)) = c p
by_keyword o h s c m e (Some (key.InModel p)) = m p
by_keyword o h s c m e (Some key.End) = e

abbrev pub opens : Option Keyword → Option Section
opens k = by_keyword None (λ p. None) (λ o. Some o) (λ p. None) (λ p. None) None k

-- it ends the section above it
abbrev pub is_end : Option Keyword → Bool
is_end k = by_keyword false (λ p. false) (λ o. true) (λ p. false) (λ p. false) true k

-- the section that a keyword opens, w being its argument and ts its texts
abbrev pub section_in : List ℕ → List Text → Section → SectionIs
section_in w ts Component = component w ts
section_in w ts Selector = selector (word 0 (words w)) ts
section_in w ts Model = model (word 0 (words w)) ts

abbrev pub onto_sections : List ℕ → List Text → List SectionIs → Option Section → List SectionIs
onto_sections w ts more None = more
onto_sections w ts more (Some o) = section_in w ts o ∷ more
