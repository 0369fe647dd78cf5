-- Places of a list of which one is filled with the last element.
use Rattle.std.proofs.Common.{◌≡◌, ◌≢◌, ◌<◌, ℕ, zero, suc, List, [], ◌∷◌, length, Some, slice_get, set, refl, inl, inr, ◌⊎◌, arith}

-- an element of a list with another at place b
pub get_set : {A : Type 0} (xs : List A) (b k : ℕ) (x e : A) → slice_get (set xs b x) k ≡ Some e → ((k ≢ b) × (slice_get xs k ≡ Some e)) ⊎ ((k ≡ b) × (e ≡ x))
get_set [] b k x e is = absurd cc
get_set (y ∷ ys) zero zero x e is = inr (refl, cc)
get_set (y ∷ ys) zero (suc k) x e is = inl (omega arith, is)
get_set (y ∷ ys) (suc b) zero x e is = inl (omega arith, is)
get_set (y ∷ ys) (suc b) (suc k) x e is = elim (get_set ys b k x e is) [
  | inl other ↦ inl (omega (arith, other.0), other.1)
  | inr here ↦ inr (omega (arith, here.0), here.1)
]

-- the others stay
pub set_other : {A : Type 0} (xs : List A) (b k : ℕ) (x e : A) → k ≢ b → slice_get xs k ≡ Some e → slice_get (set xs b x) k ≡ Some e
set_other [] b k x e ne is = absurd cc
set_other (y ∷ ys) zero zero x e ne is = absurd (ne refl)
set_other (y ∷ ys) zero (suc k) x e ne is = is
set_other (y ∷ ys) (suc b) zero x e ne is = is
set_other (y ∷ ys) (suc b) (suc k) x e ne is = set_other ys b k x e (λ same. ne (omega (arith, same))) is

-- the new one is there
pub set_here : {A : Type 0} (xs : List A) (b : ℕ) (x : A) → b < length xs → slice_get (set xs b x) b ≡ Some x
set_here [] b x lt = absurd (omega (arith, lt))
set_here (y ∷ ys) zero x lt = refl
set_here (y ∷ ys) (suc b) x lt = set_here ys b x (omega (arith, lt))
