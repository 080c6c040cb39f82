-- A whole file: its texts one by one, each text's step and what it adds, then its names and its bytes.
use Rattle.std.specs.Prelude.{Result, Ok, Err}
use Prim.Native.Nat.{ℕ, ◌+◌, min}
use Prim.Native.Char.{code}
use mathlib.Core.Path.{◌≡◌, refl, subst}
use mathlib.Core.List.{List, [], ◌∷◌, reverse}
use mathlib.Core.Bool.{Bool, true, false, cond}
use lib.ListN.{length}
use lib.Dec.{eqb, leb}
use Rattle.laws.specs.Lists.{all, among}
use Rattle.laws.proofs.Tests.{cond-all, impossible}
use Rattle.lines.specs.Lines.{Physical, lines_of, is_allowed, line_fault, fault_from, bytes_fault}
use Rattle.records.specs.declared.Kind.TheVariants.{OfComponent}
use Rattle.records.specs.Bounds.{most_waveforms}
use Rattle.records.specs.declared.LineFault.{LineFault}
use Rattle.records.specs.declared.Lengths.{Lengths}
use Rattle.records.specs.declared.Fault.{Fault}
use Rattle.cut_lines.specs.Texts.{Text}
use Rattle.rules.specs.Steps.{is_ended, on_text}
use Rattle.rules.specs.Outline.{Entry, is, count, is_used, is_found, is_listed, first_failing}
use Rattle.rules.specs.Whole.{Held, nothing_held, Outcome, passed, refused, bound, admit_entry, admit, after_admission, after_step, line_of, text_of, runs, last_checks, concluded, texts_of, after_bytes, outcome}
use Rattle.rules.specs.declared.Stage.{Stage}
use Rattle.rules.specs.declared.Stage.TheVariants.{BeforeVersion}
use Rattle.rules.specs.declared.Event.{Event}
use Rattle.rules.specs.declared.Event.TheVariants.{Quiet, Opened, PinRow, ChoiceRow, WaveformOpened, TableRow, Ended}
use Rattle.rules.specs.Going.{Went}
use Rattle.fault_numbers.specs.Numbers.{of_added, leaves, is_added, AddedNumbers, of_files, Numbers, RunsOut}
use Rattle.laws.proofs.Known.{Known, listed, is_among, either-known, other-known, more-known}
use Rattle.fault_numbers.proofs.Going.{Tells, stops, goes}
use Rattle.fault_numbers.proofs.Texts.{by-texts}

-- ---- what a line adds

data Adds : Result Held LineFault → Type 0 where
  held : {h : Held} → Adds (Ok h)
  denied : {f : LineFault} → Known of_added f.number → Adds (Err f)

either-adds : (t : Bool) {x y : Result Held LineFault} → Adds x → Adds y → Adds (cond t x y)
either-adds t {x} {y} p q = cond-all Adds t x y (λ h. p) (λ h. q)

entry-adds : (l : Lengths) (h : Held) (e : Entry) → Adds (admit_entry l h e)
unfolding among admit_entry
entry-adds l h e =
    either-adds (is_used e.kind e.name h.entries) (denied (listed refl))
    (either-adds (leb (bound l e.kind) (count (is e.kind) h.entries)) (denied (listed refl)) held)

admit-adds : (l : Lengths) (h : Held) (k : ℕ) (w : List ℕ) (e : Event) → Known (0 ∷ 10 ∷ []) (leaves e) → Adds (admit l h k w e)
unfolding all among
admit-adds l h k w Quiet p = held
admit-adds l h k w (Opened s) p = entry-adds l h _
admit-adds l h k w PinRow p = entry-adds l h _
admit-adds l h k w ChoiceRow p = entry-adds l h _
admit-adds l h k w WaveformOpened p = either-adds (leb (min most_waveforms l.waveforms) h.waveforms) (denied (listed refl)) held
admit-adds l h k w TableRow p = held
admit-adds l h k w (Ended f) p =
    either-adds (eqb (count (is OfComponent) h.entries) 0) (denied (listed refl))
    (cond-all Adds (eqb f.number 0) (Ok h) (Err f) (λ t. held) (λ t. denied (more-known refl (other-known f.number 0 t p))))

adds-is : {x : Result Held LineFault} → Adds x → is_added x ≡ true
adds-is held = refl
adds-is (denied (listed h)) = h

pub added-numbers : AddedNumbers
added-numbers l h k w e p = adds-is (admit-adds l h k w e (listed p))

-- ---- lines from the top; past is the line after the last

data Ends (past : ℕ) : Outcome → Type 0 where
  accepts : {h : Held} → Ends past (passed h)
  tells : {n k c : ℕ} → Known of_files n → Ends past (refused n k c)
  runs_out : Ends past (refused 19 past 0)

module _ (l : Lengths) (past : ℕ) where
  admission-ends : (k : ℕ) {go : Held → Outcome} {x : Result Held LineFault} → Adds x → ((h : Held) → Ends past (go h)) → Ends past (after_admission k go x)
  unfolding all among
  admission-ends k (held {h = h}) q = q h
  admission-ends k (denied p) q = tells (more-known refl p)

  step-ends : (h : Held) (t : Text) {go : Stage → Held → Outcome} {x : Went} → Tells x → ((s : Stage) (g : Held) → Ends past (go s g)) → Ends past (after_step l h t go x)
  unfolding all among
  step-ends h t (goes {s = s} {e = e} p) q = admission-ends (line_of t) (admit-adds l h (line_of t) (text_of t) e p) (q s)
  step-ends h t (stops p) q = tells (more-known refl p)

  abbrev RunsEnd : List Text → Type 0
  RunsEnd ts = (s : Stage) (h : Held) → Ends past (runs l past s h ts)

  none-ends : RunsEnd []
  unfolding runs
  none-ends s h = cond-all (Ends past) (is_ended s) (passed h) (refused 19 past 0) (λ t. accepts) (λ t. runs_out)

  text-ends : (t : Text) → ((s : Stage) → Tells (on_text s t)) → (ts : List Text) → RunsEnd ts → RunsEnd (t ∷ ts)
  unfolding runs
  text-ends t p ts q s h = step-ends h t (p s) q

-- ---- its names and its bytes

module _ (past : ℕ) where
  last-ends : (es : List Entry) (h : Held) → Ends past (last_checks es (passed h))
  unfolding among last_checks
  last-ends es h =
      let missing : ℕ = first_failing (λ e. is_found es e e.kind) es in
      let unlisted : ℕ = first_failing (λ e. is_listed es e e.kind) es in
      cond-all (Ends past) (eqb missing 0) (cond (eqb unlisted 0) (passed h) (refused 16 unlisted 0)) (refused 15 missing 0)
      (λ t. cond-all (Ends past) (eqb unlisted 0) (passed h) (refused 16 unlisted 0) (λ u. accepts) (λ u. tells (listed refl)))
      (λ t. tells (listed refl))

  concluded-ends : {o : Outcome} → Ends past o → Ends past (concluded o)
  concluded-ends (accepts {h = h}) = last-ends (reverse h.entries) h
  concluded-ends (tells p) = tells p
  concluded-ends runs_out = runs_out

  line_known : (l : Physical) → Known (0 ∷ of_files) (line_fault l)
  unfolding among line_fault
  line_known l =
      either-known (all is_allowed l.bytes)
      (either-known (leb (length l.bytes) 120) (either-known l.ended (listed refl) (listed refl)) (listed refl))
      (listed refl)

  module _ (go : Outcome) (p : Ends past go) where
    abbrev BytesEnd : Result (Unit {0}) Fault → Type 0
    BytesEnd b = Ends past (after_bytes go b)

    lines_end : (k : ℕ) (ls : List Physical) → BytesEnd (fault_from k ls)
    unfolding fault_from
    lines_end k [] = p
    lines_end k (l ∷ ls) =
        cond-all BytesEnd (eqb (line_fault l) 0) _ _ (λ t. lines_end (k + 1) ls) (λ t. tells (other-known (line_fault l) 0 t (line_known l)))

    bytes-end : (s : List ℕ) → BytesEnd (bytes_fault s)
    unfolding among bytes_fault
    bytes-end s = cond-all BytesEnd (leb (length s) 65536) _ _ (λ t. lines_end 1 (lines_of s)) (λ t. tells (listed refl))

outcome-ends : (l : Lengths) (s : List ℕ) → Ends (length (lines_of s) + 1) (outcome l s)
unfolding outcome texts_of
outcome-ends l s =
    let past : ℕ = length (lines_of s) + 1 in
    let ran = by-texts (RunsEnd l past) (none-ends l past) (text-ends l past) (code "|") 1 (lines_of s) BeforeVersion nothing_held in
    bytes-end past _ (concluded-ends past ran) s

-- ---- what is told

ends-known : {past : ℕ} {o : Outcome} (n k c : ℕ) → Ends past o → o ≡ refused n k c → Known (19 ∷ of_files) n
unfolding all among
ends-known n k c accepts q = impossible (cc)
ends-known n k c (tells {n = m} p) q = let e : m ≡ n = cc in subst (Known (19 ∷ of_files)) e (more-known refl p)
ends-known n k c runs_out q = let e : 19 ≡ n = cc in subst (Known (19 ∷ of_files)) e (listed refl)

ends-past : {past : ℕ} {o : Outcome} (k c : ℕ) → Ends past o → o ≡ refused 19 k c → (k ≡ past) × (c ≡ 0)
unfolding among
ends-past k c accepts q = impossible (cc)
ends-past k c (tells {n = m} p) q =
    let e : m ≡ 19 = cc in
    let no : false ≡ true = is_among (subst (Known of_files) e p) in
    impossible (cc)
ends-past k c runs_out q = (cc, cc)

pub numbers : Numbers
numbers l s n k c q = is_among (ends-known n k c (outcome-ends l s) q)

pub runs-out : RunsOut
runs-out l s k c q = ends-past k c (outcome-ends l s) q
