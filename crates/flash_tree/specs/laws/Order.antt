-- The order of places.
use Rattle.std.proofs.Common.{◌∙◌, inl, inr, arith}
use Rattle.flash_tree.specs.Newest.{Spot, IsAfter}

-- no place comes after itself
pub not_after_itself : (s : Spot) → IsAfter s s → ⊥
not_after_itself s after = elim after [
  | inl lt ↦ absurd (omega (arith, lt))
  | inr version ↦ elim version.1 [
    | inl lt ↦ absurd (omega (arith, lt))
    | inr seq ↦ elim seq.1 [ inl lt ↦ absurd (omega (arith, lt)) | inr page ↦ absurd (omega (arith, page.1)) ]
  ]
]

-- what comes after what comes after comes after
pub after_on : (a b c : Spot) → IsAfter a b → IsAfter b c → IsAfter a c
after_on a b c (inl x) (inl y) = inl (omega arith)
after_on a b c (inl x) (inr (v, y)) = inl (omega arith)
after_on a b c (inr (v, x)) (inl y) = inl (omega arith)
after_on a b c (inr (v, inl x)) (inr (w, inl y)) = inr (v ∙ w, inl (omega arith))
after_on a b c (inr (v, inl x)) (inr (w, inr (q, y))) = inr (v ∙ w, inl (omega arith))
after_on a b c (inr (v, inr (q, x))) (inr (w, inl y)) = inr (v ∙ w, inl (omega arith))
after_on a b c (inr (v, inr (q, inl x))) (inr (w, inr (r, inl y))) = inr (v ∙ w, inr (q ∙ r, inl (omega arith)))
after_on a b c (inr (v, inr (q, inl x))) (inr (w, inr (r, inr (p, y)))) = inr (v ∙ w, inr (q ∙ r, inl (omega arith)))
after_on a b c (inr (v, inr (q, inr (p, x)))) (inr (w, inr (r, inl y))) = inr (v ∙ w, inr (q ∙ r, inl (omega arith)))
after_on a b c (inr (v, inr (q, inr (p, x)))) (inr (w, inr (r, inr (p', y)))) = inr (v ∙ w, inr (q ∙ r, inr (p ∙ p', omega arith)))
