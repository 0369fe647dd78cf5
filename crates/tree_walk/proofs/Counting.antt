-- How many pages the objects of a walk take.
use Rattle.std.specs.Prelude.{◌≡◌, ◌<◌, ◌≤◌, ◌+◌, ℕ, zero, suc, List, [], ◌∷◌, length, slice_get, take, sum_by, Option, Some}
use Rattle.std.specs.Option.{option_map_or}
use Rattle.std.proofs.Common.{refl, sym, ◌∙◌, ap, subst, arith}
use Rattle.std.proofs.lemmas.Bool.{ne_eqb}
use Rattle.std.proofs.lemmas.List.Sums.{sum_by-cons}
use Rattle.std.proofs.lemmas.Option.{slice_get_within}
use Rattle.volume_terms.specs.Sizes.{Sizes}
use Rattle.tree_walk.specs.Visits.{head_pages, reported_pages}
use Rattle.tree_walk.specs.Walks.{IsOnce, Visits, pages_before}
use Rattle.tree_walk.specs.declared.head.Head.{Head}
use Rattle.tree_walk.specs.declared.object.Visited.{Visited}
use Rattle.tree_walk.specs.declared.walking.WalkState.{WalkState}
use Rattle.tree_walk.specs.laws.Lists.{IsAdded, added}

-- the next of a list adds its own to the sum
one_more : (f : ℕ → ℕ) (xs : List ℕ) (n x : ℕ) → slice_get xs n ≡ Some x → sum_by f (take (suc n) xs) ≡ sum_by f (take n xs) + f x
one_more f [] n x is = absurd cc
one_more f (y ∷ ys) zero x is =
    let same : y ≡ x = cc in
    omega (arith, sum_by-cons f y [], ap f same)
one_more f (y ∷ ys) (suc n) x is = omega (arith, sum_by-cons f y (take (suc n) ys), sum_by-cons f y (take n ys), one_more f ys n x is)

-- two lists that begin with the same have the same sums so far
same_first : (f g : ℕ → ℕ) (xs ys : List ℕ) (n : ℕ) → n ≤ length xs → ((i x : ℕ) → i < n → slice_get xs i ≡ Some x → (slice_get ys i ≡ Some x) × (g x ≡ f x))
    → sum_by g (take n ys) ≡ sum_by f (take n xs)
same_first f g xs ys zero le same = refl
same_first f g [] ys (suc n) le same = absurd (omega (arith, le))
same_first f g (x ∷ xs) [] (suc n) le same = let at = same 0 x (omega arith) refl in let none = at.0 in absurd cc
same_first f g (x ∷ xs) (y ∷ ys) (suc n) le same =
    let at = same 0 x (omega arith) refl in
    let first = at.0 in
    let one : y ≡ x = cc in
    let rest = same_first f g xs ys n (omega (arith, le)) (λ i k lt is. same (suc i) k (omega (arith, lt)) is) in
    omega (arith, sum_by-cons g y (take n ys), sum_by-cons f x (take n xs), ap g one, at.1, rest)

-- the object that is visited adds the pages of its header and its slots
pub pages_more : (z : Sizes) (n o : ℕ) (old : WalkState) (visited : Visited) (new : WalkState) → IsOnce old.objects.items → slice_get old.objects.items n ≡ Some o → Visits o visited old new
    → pages_before z new (n + 1) ≡ pages_before z old n + head_pages z visited.head
pages_more z n o old visited new once at t =
    let list : List ℕ = old.objects.items in
    let f : ℕ → ℕ = reported_pages z old.heads in
    let g : ℕ → ℕ = reported_pages z new.heads in
    let b : IsAdded list visited.named.items new.objects.items = subst (IsAdded list visited.named.items) (sym t.objects) (added list visited.named.items) in
    let within = slice_get_within list n o at in
    let before = same_first f g list new.objects.items n (omega (arith, within)) (λ i x lt is. (
      b.stays i x is,
      ap (λ (h : Option Head). option_map_or (head_pages z) h 0) (t.others x (ne_eqb x o (λ same. let one : i ≡ n = once i n x is (at ∙ ap Some (sym same)) in omega (arith, one, lt)))),
    )) in
    let here : g o ≡ head_pages z visited.head = ap (λ (h : Option Head). option_map_or (head_pages z) h 0) t.here in
    let more = one_more g new.objects.items n o (b.stays n o at) in
    let next : suc n ≡ n + 1 = omega arith in
    ap (λ k. sum_by g (take k new.objects.items)) (sym next) ∙ omega (arith, more, before, here)
