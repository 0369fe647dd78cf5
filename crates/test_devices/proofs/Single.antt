-- One page alone.
use Rattle.std.proofs.Common.{◌≡◌, ℕ, zero, suc, [], ◌∷◌, Some, slice_get, refl, sym, ◌∙◌}
use Rattle.flash_tree.specs.declared.place.FreshPage.{FreshPage}
use Rattle.pages.specs.Changes.{AreApart}

first_only : (p q : FreshPage) (i : ℕ) → slice_get (p ∷ []) i ≡ Some q → i ≡ 0
first_only p q zero is = refl
first_only p q (suc i) is = absurd cc

pub single_apart : (p : FreshPage) → AreApart (p ∷ [])
single_apart p o c i j a b = first_only p a.page i a.there ∙ sym (first_only p b.page j b.there)
