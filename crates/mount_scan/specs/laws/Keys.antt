-- Pairs of pages in a list, and their keys.
use Rattle.std.specs.Prelude.{◌≡◌, ◌<◌, ℕ, List, Some, slice_get}
use Rattle.std.specs.List.{AllPairs}
use Rattle.std.proofs.Common.{subst, inl, inr, arith, get_or}
use Rattle.std.proofs.lemmas.Option.{get_or_from_slice_get, slice_get_within}
use Rattle.mount_scan.specs.declared.page_copy.PageCopy.{PageCopy}
use Rattle.mount_scan.specs.Copies.{IsKeyBefore}

-- of two pages of a list the earlier is related to the later as all such pairs are
pub pair_at : (R : PageCopy → PageCopy → Type 0) (list : List PageCopy) (i j : ℕ) (x y : PageCopy) → AllPairs R list → i < j → slice_get list i ≡ Some x → slice_get list j ≡ Some y → R x y
pair_at R list i j x y pairs lt at_i at_j =
    let related : R (get_or list i x) (get_or list j x) = pairs i j x lt (slice_get_within list j y at_j) in
    subst (λ u. R u y) (get_or_from_slice_get list i x x at_i) (subst (R (get_or list i x)) (get_or_from_slice_get list j y x at_j) related)

-- no key comes before itself
pub not_before_itself : (x y : PageCopy) → IsKeyBefore x y → x.object ≡ y.object → x.chunk ≡ y.chunk → ⊥
not_before_itself x y before object chunk = elim before [ inl lt ↦ absurd (omega (arith, lt, object)) | inr rest ↦ absurd (omega (arith, rest.1, chunk)) ]
