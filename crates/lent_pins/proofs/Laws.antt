-- A search from the top of a table of records: what is found from place i on is what the whole search finds.
use Rattle.std.specs.Prelude.{Option, Some, None}
use Prim.Native.Nat.{ℕ, suc, ◌+◌, ◌<◌, ◌≤◌}
use mathlib.Core.Path.{◌≡◌, sym, ap, ◌∙◌}
use mathlib.Core.Bool.{Bool, true, false, not, ◌&&◌}
use mathlib.Core.List.{List, [], ◌∷◌}
use native.Mathlib.Numerals.{add-one}
use native.Mathlib.Omega.{arith}
use lib.Dec.{T, ltb, ltb→lt, nltb→le}
use lib.ListN.{length, take, drop, get_or, drop_of_length-le, length-take}
use lib.Seq.{drop-cons, get_or-take}
use Rattle.laws.proofs.Tests.{cond_yes, cond_no, and_both, and_left, and_right}
use Rattle.records.specs.declared.Pin.{Pin}
use Rattle.questions.specs.Named.{same_name}
use Rattle.questions.specs.Searched.{in_span}
use Rattle.lent_pins.specs.Search.{or_else, first_of, try_pin}
use Rattle.lent_pins.specs.declared.Sought.{Sought}

module _ {A : Type 0} (try : ℕ → A → Option ℕ) (xs : List A) where
  abbrev pub Goes : ℕ → Type 0
  Goes i = first_of try i (drop i xs) ≡ first_of try 0 xs

  here : (i : ℕ) (d : A) → i < length xs → first_of try i (drop i xs) ≡ or_else (try i (get_or xs i d)) (first_of try (i + 1) (drop (i + 1) xs))
  unfolding first_of
  here i d h = ap (first_of try i) (drop-cons xs i d h ∙ ap (λ (k : ℕ). get_or xs i d ∷ drop k xs) (sym (add-one i)))

  pub goes-found : (i : ℕ) (d : A) → i < length xs → Goes i → try i (get_or xs i d) ≡ Some i → Some i ≡ first_of try 0 xs
  goes-found i d h inv t = sym (here i d h ∙ rw t) ∙ inv

  pub goes-next : (i : ℕ) (d : A) → i < length xs → Goes i → try i (get_or xs i d) ≡ None → Goes (i + 1)
  goes-next i d h inv t = sym (here i d h ∙ rw t) ∙ inv

  pub goes-end : (i : ℕ) → length xs ≤ i → Goes i → None ≡ first_of try 0 xs
  unfolding first_of
  goes-end i h inv = sym (ap (first_of try i) (drop_of_length-le xs h)) ∙ inv

-- a pin that is looked at: sought, of another name, or of another component
module _ (sought : Sought) (pins : List Pin) (i : ℕ) (there : i < length pins) (inv : Goes (try_pin sought) pins i) where
  pub pin-found : (d : Pin) → in_span sought.pins i ≡ true → same_name (get_or pins i d).name sought.name ≡ true → Some i ≡ first_of (try_pin sought) 0 pins
  unfolding try_pin
  pin-found d a b = goes-found (try_pin sought) pins i d there inv (cond_yes _ _ (and_both _ _ a b))

  pub pin-other : (d : Pin) → same_name (get_or pins i d).name sought.name ≡ false → Goes (try_pin sought) pins (i + 1)
  unfolding try_pin
  pin-other d b = goes-next (try_pin sought) pins i d there inv (cond_no _ _ (and_right (in_span sought.pins i) _ b))

pub pin-elsewhere : (sought : Sought) (pins : List Pin) (i : ℕ) → i < length pins → Goes (try_pin sought) pins i → in_span sought.pins i ≡ false → Goes (try_pin sought) pins (i + 1)
unfolding try_pin
pin-elsewhere sought [] i there inv a = absurd (omega arith)
pin-elsewhere sought (p ∷ pins) i there inv a = goes-next (try_pin sought) (p ∷ pins) i p there inv (cond_no _ _ (and_left _ _ a))

-- ---- a search that looks at the places below n: f is what is found by place i

-- place i is to be looked at: nothing is found yet, and i is below both ends
abbrev pub is_seeking : Option ℕ → ℕ → ℕ → ℕ → Bool
is_seeking (Some k) i used len = false
is_seeking None i used len = ltb i used && ltb i len

both : (s t : Bool) → T (s && t) → T s × T t
both true true h = (h, h)
both true false h = absurd h
both false t h = absurd h

-- past the end of what is used or of what is there
past : {A : Type 0} (xs : List A) (n i : ℕ) → T (not (ltb i n && ltb i (length xs))) → length (take n xs) ≤ i
past xs n i h = split (ltb i n) (ltb i (length xs)) h (nltb→le i n) (nltb→le i (length xs))
  where
    split : (s t : Bool) → T (not (s && t)) → (T (not s) → n ≤ i) → (T (not t) → length xs ≤ i) → length (take n xs) ≤ i
    split true true h a b = absurd h
    split true false h a b = omega (arith, length-take n xs, b h)
    split false t h a b = omega (arith, length-take n xs, a h)

abbrev pub Seeks : {A : Type 0} → (ℕ → A → Option ℕ) → List A → ℕ → ℕ → Option ℕ → Type 0
Seeks try xs n i f = or_else f (first_of try i (drop i (take n xs))) ≡ first_of try 0 (take n xs)

pub seeking-below : (f : Option ℕ) (i n m : ℕ) → T (is_seeking f i n m) → i < m
seeking-below (Some k) i n m h = absurd h
seeking-below None i n m h = ltb→lt i m (both (ltb i n) (ltb i m) h).1

module _ {A : Type 0} (try : ℕ → A → Option ℕ) (xs : List A) (n : ℕ) where
  pub seeking-goes : (i : ℕ) (f : Option ℕ) (d : A) → Seeks try xs n i f → T (is_seeking f i n (length xs)) → Seeks try xs n (suc i) (try i (get_or xs i d))
  seeking-goes i (Some k) d inv h = absurd h
  seeking-goes i None d inv h =
      let used : i < n = ltb→lt i n (both (ltb i n) (ltb i (length xs)) h).0 in
      let there : i < length xs = ltb→lt i (length xs) (both (ltb i n) (ltb i (length xs)) h).1 in
      let look : first_of try i (drop i (take n xs)) ≡ or_else (try i (get_or (take n xs) i d)) (first_of try (i + 1) (drop (i + 1) (take n xs))) = here try (take n xs) i d (omega (arith, length-take n xs)) in
      sym (look ∙ (λ j. or_else (try i (get_or-take n xs i d used j)) (first_of try (add-one i j) (drop (add-one i j) (take n xs))))) ∙ inv

  pub seeking-ends : (i : ℕ) (f : Option ℕ) → Seeks try xs n i f → T (not (is_seeking f i n (length xs))) → f ≡ first_of try 0 (take n xs)
  seeking-ends i (Some k) inv h = inv
  seeking-ends i None inv h = goes-end try (take n xs) i (past xs n i h) inv
