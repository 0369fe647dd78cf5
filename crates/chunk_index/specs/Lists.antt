-- Lists that are searched by a number of their elements.
use Rattle.std.specs.Prelude.{◌≡◌, ◌<◌, ◌≤◌, ℕ, List, [], ◌∷◌, length, get_or, if◌then◌else◌, ◌==◌, Bool, true, false, Option, Some, None}

-- the first element with the number n
abbrev pub find_by : {X : Type 0} → (X → ℕ) → List X → ℕ → Option X
find_by f [] n = None
find_by f (x ∷ xs) n = if f x == n then Some x else find_by f xs n

-- the numbers rise, so that none comes twice
abbrev pub Rises : {X : Type 0} → (X → ℕ) → List X → Type 0
Rises {X} f xs = (i j : ℕ) (d : X) → i < j → j < length xs → f (get_or xs i d) < f (get_or xs j d)

-- the element at place i has the number n
pub record IsAt {X : Type 0} (f : X → ℕ) (xs : List X) (n i : ℕ) : Type 0 where
  pub within : i < length xs
  pub number : (d : X) → f (get_or xs i d) ≡ n

-- an element with the number n would be at place i: lesser numbers before it, greater ones from it on
pub record IsGapFor {X : Type 0} (f : X → ℕ) (xs : List X) (n i : ℕ) : Type 0 where
  pub within : i ≤ length xs
  pub lesser : (j : ℕ) (d : X) → j < i → f (get_or xs j d) < n
  pub greater : (j : ℕ) (d : X) → i ≤ j → j < length xs → n < f (get_or xs j d)

-- the elements before place i are those whose numbers lie before n
pub record IsEndFor {X : Type 0} (f : X → ℕ) (xs : List X) (n i : ℕ) : Type 0 where
  pub within : i ≤ length xs
  pub lesser : (j : ℕ) (d : X) → j < i → f (get_or xs j d) < n
  pub greater : (j : ℕ) (d : X) → i ≤ j → j < length xs → n ≤ f (get_or xs j d)

-- there is no element
abbrev pub is_nil : {X : Type 0} → List X → Bool
is_nil [] = true
is_nil (x ∷ xs) = false
