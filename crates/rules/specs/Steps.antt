-- Document 01, "Faults", the order at a line: first what it closes, inner table before section, then the line itself.
use Rattle.std.specs.Prelude.{ℕ, List, Bool, true, false, cond, eqb, Ok, Err, Option, None, Some}
use Rattle.keywords.specs.Form.{argument}
use Rattle.keywords.specs.Carried.{key_of}
use Rattle.keywords.specs.declared.Keyword.{Keyword}
use Rattle.keywords.specs.declared.Keyword.TheVariants as key
use Rattle.keywords.specs.declared.Section.{Section}
use Rattle.keywords.specs.declared.Section.TheVariants.{Component, Selector, Model}
use Rattle.laws.specs.Said.{Said}
use Rattle.records.specs.Flaws.{Flaw, flaw, sound, flaw_in, told}
use Rattle.records.specs.declared.LineFault.{LineFault}
use Rattle.cut_lines.specs.Texts.{Text, plain, change}
use Rattle.line_rules.specs.Fields.{is_sized, is_model_name, is_bracketed, alone, passing, no_argument}
use Rattle.rules.specs.Going.{stop, unless, passes, refuse, and_then, quietly, Went}
use Rattle.rules.specs.Header.{version, header_part, header_line, header_shut, header_done}
use Rattle.rules.specs.Component.{component_part, component_line, component_shut, component_done}
use Rattle.rules.specs.Selector.{selector_line, selector_shut}
use Rattle.rules.specs.Model.{new_model, model_part, model_line, model_shut, model_done}
use Rattle.given.specs.Given.{none_given}
use Rattle.rules.specs.declared.ComponentList.TheVariants.{ComponentFirst}
use Rattle.rules.specs.declared.HeaderState.{HeaderState}
use Rattle.rules.specs.declared.ComponentState.{ComponentState}
use Rattle.rules.specs.declared.SelectorState.{SelectorState}
use Rattle.rules.specs.declared.ModelState.{ModelState}
use Rattle.rules.specs.declared.Stage.{Stage}
use Rattle.rules.specs.declared.Stage.TheVariants.{BeforeVersion, InHeader, InComponent, InSelector, InModel, AfterEnd}
use Rattle.rules.specs.declared.Event.TheVariants.{Opened, Ended}

-- by what is open: nothing before [IBIS Ver], the header, a component, a selector, a model, nothing after [End]
abbrev pub by_stage : {A : Type 0} → A → (HeaderState → A) → (ComponentState → A) → (SelectorState → A) → (ModelState → A) → A → Stage → A
by_stage before header component selector model after BeforeVersion = before
by_stage before header component selector model after (InHeader h) = header h
by_stage before header component selector model after (InComponent c) = component c
by_stage before header component selector model after (InSelector s) = selector s
by_stage before header component selector model after (InModel m) = model m
by_stage before header component selector model after AfterEnd = after

-- the header, the component or the model that is open
abbrev pub header_of : Stage → Option HeaderState
header_of s = by_stage None Some (λ c. None) (λ l. None) (λ m. None) None s

abbrev pub component_of : Stage → Option ComponentState
component_of s = by_stage None (λ h. None) Some (λ l. None) (λ m. None) None s

abbrev pub model_of : Stage → Option ModelState
model_of s = by_stage None (λ h. None) (λ c. None) (λ l. None) Some None s

-- before [IBIS Ver]; after [End]
abbrev pub is_before : Stage → Bool
is_before s = by_stage true (λ h. false) (λ c. false) (λ l. false) (λ m. false) false s

abbrev pub is_ended : Stage → Bool
is_ended s = by_stage false (λ h. false) (λ c. false) (λ l. false) (λ m. false) true s

-- ---- what line k closes

-- "Every keyword line but [Comment Char], even a faulty one, closes the table or list above it"; "After [End], any line left after cutting
-- is 7, before its other checks"
abbrev pub shut : ℕ → Stage → Went
shut k BeforeVersion = quietly BeforeVersion
shut k (InHeader h) = header_shut h
shut k (InComponent c) = component_shut c c.list
shut k (InSelector s) = selector_shut s
shut k (InModel m) = model_shut m m.list
shut k AfterEnd = stop 7 k

-- "only well formed section keywords and [End] close a section or the header"; "Before [IBIS Ver] nothing is open": any line "is 7, [End] too"
abbrev pub done : ℕ → Stage → Went
done k BeforeVersion = stop 7 k
done k (InHeader h) = unless (header_done h) h.line (quietly (InHeader h))
done k (InComponent c) = unless (component_done c) c.line (quietly (InComponent c))
done k (InSelector s) = quietly (InSelector s)
done k (InModel m) = unless (model_done m) m.line (quietly (InModel m))
done k AfterEnd = stop 7 k

-- ---- the keywords

-- a section opens: "[Component] name, 1 to 40 characters, inner blanks allowed"; the others "(one word, 1 to 40)"
abbrev pub opened_flaw : List ℕ → Section → Flaw
opened_flaw argument Component = cond (is_sized 40 argument) sound (flaw 10 argument)
opened_flaw argument Selector = flaw_in (alone (passing is_model_name) argument)
opened_flaw argument Model = flaw_in (alone (passing is_model_name) argument)

abbrev pub section_stage : ℕ → Section → Stage
section_stage k Component = InComponent (record { line = k; first = none_given; parts = none_given; list = ComponentFirst })
section_stage k Selector = InSelector (record { line = k; any = false })
section_stage k Model = InModel (new_model k)

unfoldable pub opened : ℕ → List ℕ → Section → Went
opened k w o = passes (told w (opened_flaw (argument w) o)) k (Ok (section_stage k o, Opened o))

-- has its place there alone: else 7
abbrev pub within : {A : Type 0} → ℕ → Option A → (A → Went) → Went
within k None go = stop 7 k
within k (Some a) go = go a

-- "[IBIS Ver] is the first keyword"; "A second [IBIS Ver] is 8 in the header, 7 later"
unfoldable pub on_version : Stage → ℕ → List ℕ → Went
on_version s k w = cond (is_before s) (version k w) (within k (header_of s) (λ h. stop 8 k))

-- [End] takes no argument; that there is no component comes before that, so the fault is left to whoever counts
abbrev pub on_keyword : Stage → ℕ → List ℕ → Keyword → Went
on_keyword s k w key.IbisVer = on_version s k w
on_keyword s k w (key.InHeader p) = within k (header_of s) (λ h. header_part h k w p)
on_keyword s k w (key.Opens o) = and_then (done k s) (λ (t : Stage). opened k w o)
on_keyword s k w (key.InComponent p) = within k (component_of s) (λ c. component_part c k w p)
on_keyword s k w (key.InModel p) = within k (model_of s) (λ m. model_part m k w p)
on_keyword s k w key.End = and_then (done k s) (λ (t : Stage). Ok (AfterEnd, Ended (told w (no_argument (argument w)))))

-- 5, 6 and 21, then the keyword
abbrev pub keyed : Stage → ℕ → List ℕ → Said Keyword → Went
keyed s k w (Err n) = stop n k
keyed s k w (Ok key) = on_keyword s k w key

-- ---- a line that is no keyword line

abbrev pub on_line : Stage → ℕ → List ℕ → Went
on_line BeforeVersion k w = stop 7 k
on_line (InHeader h) k w = header_line h k
on_line (InComponent c) k w = component_line c k w c.list
on_line (InSelector s) k w = selector_line s k w
on_line (InModel m) k w = model_line m k w m.list
on_line AfterEnd k w = stop 7 k

-- ---- a line that cutting leaves: "A line whose first character is `[`, with no blank before it, is a keyword line"

unfoldable pub on_plain : Stage → ℕ → List ℕ → Went
on_plain s k w = cond (is_bracketed w) (and_then (shut k s) (λ (t : Stage). keyed t k w (key_of w))) (on_line s k w)

-- ---- a [Comment Char] line: it "may stand anywhere between [IBIS Ver] and [End], and closes nothing"; f is its fault, 5 or 10, or none

unfoldable pub on_change : Stage → ℕ → LineFault → Went
on_change s k f =
    refuse (is_ended s) 7 k
    (refuse (eqb f.number 5) 5 k
    (refuse (is_before s) 7 k
    (passes f k (quietly s))))

abbrev pub on_text : Stage → Text → Went
on_text s (plain k w) = on_plain s k w
on_text s (change k f) = on_change s k f
