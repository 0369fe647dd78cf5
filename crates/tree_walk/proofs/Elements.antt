-- Elements of lists by their places, and what an option holds.
use Rattle.std.specs.Prelude.{◌≡◌, ◌⊎◌, ◌+◌, ℕ, zero, suc, List, [], ◌∷◌, ◌++◌, length, slice_get, Option, Some, None}
use Rattle.std.proofs.Common.{refl, subst, inl, inr, arith}

-- what cannot hold a value is nothing
pub none_of : {A : Type 0} (x : Option A) → ((v : A) → x ≡ Some v → ⊥) → x ≡ None
none_of None no' = refl
none_of (Some v) no' = absurd (no' v refl)

-- an element of a list is one of its first part or of its rest
pub at_append : {A : Type 0} (xs ys : List A) (i : ℕ) (x : A) → slice_get (xs ++ ys) i ≡ Some x
    → (slice_get xs i ≡ Some x) ⊎ ((k : ℕ) × (i ≡ length xs + k) × (slice_get ys k ≡ Some x))
at_append [] ys i x is = inr (i, omega arith, is)
at_append (y ∷ xs) ys zero x is = inl is
at_append (y ∷ xs) ys (suc i) x is = elim (at_append xs ys i x is) [
  | inl first ↦ inl first
  | inr rest ↦ inr (rest.0, omega (arith, rest.1), rest.2)
]

pub append_first : {A : Type 0} (xs ys : List A) (i : ℕ) (x : A) → slice_get xs i ≡ Some x → slice_get (xs ++ ys) i ≡ Some x
append_first [] ys i x is = absurd cc
append_first (y ∷ xs) ys zero x is = is
append_first (y ∷ xs) ys (suc i) x is = append_first xs ys i x is

pub append_rest : {A : Type 0} (xs ys : List A) (k : ℕ) (x : A) → slice_get ys k ≡ Some x → slice_get (xs ++ ys) (length xs + k) ≡ Some x
append_rest [] ys k x is = subst (λ n. slice_get ys n ≡ Some x) (let same : k ≡ 0 + k = omega arith in same) is
append_rest (y ∷ xs) ys k x is = subst (λ n. slice_get (y ∷ (xs ++ ys)) n ≡ Some x) (let same : suc (length xs + k) ≡ suc (length xs) + k = omega arith in same) (append_rest xs ys k x is)
