-- Fronts, parts and equality of lists.
use Rattle.std.specs.Prelude.{ℕ, ◌-◌, List, [], ◌∷◌, Bool, true, false, cond, not, ◌&&◌, ◌||◌, take, drop, eqb}

-- the longest front of elements that pass the test
unfoldable pub front : {A : Type 0} → (A → Bool) → List A → List A
front p [] = []
front p (b ∷ bs) = cond (p b) (b ∷ front p bs) []

-- what follows that front
unfoldable pub after : {A : Type 0} → (A → Bool) → List A → List A
after p [] = []
after p (b ∷ bs) = cond (p b) (after p bs) (b ∷ bs)

-- a list without the elements at its end that pass the test
unfoldable pub keep : {A : Type 0} → (A → Bool) → A → List A → List A
keep p b [] = cond (p b) [] (b ∷ [])
keep p b (x ∷ xs) = b ∷ x ∷ xs

unfoldable pub trim : {A : Type 0} → (A → Bool) → List A → List A
trim p [] = []
trim p (b ∷ bs) = keep p b (trim p bs)

-- the list begins with this byte
abbrev pub begins : ℕ → List ℕ → Bool
begins c [] = false
begins c (b ∷ bs) = eqb b c

-- every element has it
abbrev pub Every : {A : Type 0} → (A → Type 0) → List A → Type 0
Every P [] = Unit {0}
Every P (a ∷ l) = P a × Every P l

-- every element passes
unfoldable pub all : {A : Type 0} → (A → Bool) → List A → Bool
all p [] = true
all p (b ∷ bs) = p b && all p bs

-- the byte is one of these
unfoldable pub among : ℕ → List ℕ → Bool
among b [] = false
among b (x ∷ xs) = eqb b x || among b xs

-- bytes other than c
unfoldable pub other : ℕ → ℕ → Bool
other c b = not (eqb b c)

-- the elements from place a up to place e
abbrev pub part : {A : Type 0} → ℕ → ℕ → List A → List A
part a e s = take (e - a) (drop a s)

-- the same bytes
unfoldable pub eqs : List ℕ → List ℕ → Bool
eqs [] [] = true
eqs [] (b ∷ bs) = false
eqs (a ∷ xs) [] = false
eqs (a ∷ xs) (b ∷ bs) = eqb a b && eqs xs bs

-- the text is one of these
unfoldable pub one_of : List ℕ → List (List ℕ) → Bool
one_of w [] = false
one_of w (n ∷ ns) = eqs w n || one_of w ns
