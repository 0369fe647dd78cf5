-- Two lists with the same elements.
use Rattle.std.specs.Prelude.{◌≡◌, ℕ, suc, List, [], ◌∷◌, length, slice_get, Some}
use Rattle.std.proofs.Common.{refl, ◌∙◌, ap, arith}

-- lists of one length with the same elements are one
pub same_lists : {A : Type 0} (xs ys : List A) → length xs ≡ length ys → ((i : ℕ) (x y : A) → slice_get xs i ≡ Some x → slice_get ys i ≡ Some y → x ≡ y) → xs ≡ ys
same_lists [] [] len each = refl
same_lists [] (y ∷ ys) len each = absurd (omega arith)
same_lists (x ∷ xs) [] len each = absurd (omega arith)
same_lists (x ∷ xs) (y ∷ ys) len each = ap (λ v. v ∷ xs) (each 0 x y refl refl) ∙ ap (λ vs. y ∷ vs) (same_lists xs ys (omega arith) (λ i a b. each (suc i) a b))
