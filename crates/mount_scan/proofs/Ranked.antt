-- Pages sorted by their ranks.
use Rattle.std.specs.Prelude.{◌≡◌, ◌<◌, ◌≤◌, ◌↔◌, ℕ, false, List, Contains}
use Rattle.std.specs.List.{AllPairs}
use Rattle.std.specs.List.Sorted.{IsSortedBy, IsPermutation}
use Rattle.std.specs.Cmp.{IsTotalOrder}
use Rattle.std.specs.Ordering.{MatchOrdering, nat_cmp, ordering_then, is_lt}
use Rattle.std.specs.declared.cmp.Ordering.{Ordering}
use Rattle.std.specs.declared.cmp.Ordering.TheVariants.{Less, Equal, Greater}
use Rattle.std.proofs.Common.{refl, sym, ◌∙◌, ap, subst, inl, inr, arith, get_or}
use Rattle.std.proofs.lemmas.Bool.{cases_order}
use Rattle.std.proofs.lemmas.Cmp.{ranked, then_total, on_total, nat_cmp_total, tied_itself}
use Rattle.std.proofs.lemmas.List.MinMax.{ranks_by}
use Rattle.std.proofs.lemmas.List.Sorted.{sorted_far, Contains-permutation, IsPermutation-sym}
use Rattle.flash_tree.specs.Newest.{IsAfter}
use Rattle.mount_scan.specs.declared.page_copy.PageCopy.{PageCopy}
use Rattle.mount_scan.specs.Copies.{spot_of_copy}
use Rattle.mount_scan.specs.Keys.{IsSortedBefore}

-- the same pages, in the order by key, and those of one key from the oldest to the newest
pub record AreSorted (list sorted : List PageCopy) : Type 0 where
  pub each : (f : PageCopy) → Contains sorted f ↔ Contains list f
  pub order : AllPairs IsSortedBefore sorted

-- how two pages compare by their ranks
abbrev pub rank_cmp : PageCopy → PageCopy → Ordering
rank_cmp x y =
    ordering_then (ordering_then (ordering_then (ordering_then (ordering_then (nat_cmp x.object y.object) (nat_cmp x.chunk y.chunk))
    (nat_cmp x.version y.version)) (nat_cmp x.seq y.seq)) (nat_cmp x.page y.page)) (nat_cmp x.block y.block)

rank_total : IsTotalOrder rank_cmp
rank_total = then_total (then_total (then_total (then_total (then_total
    (on_total (λ (x : PageCopy). x.object) nat_cmp_total) (on_total (λ (x : PageCopy). x.chunk) nat_cmp_total)) (on_total (λ (x : PageCopy). x.version) nat_cmp_total))
    (on_total (λ (x : PageCopy). x.seq) nat_cmp_total)) (on_total (λ (x : PageCopy). x.page) nat_cmp_total)) (on_total (λ (x : PageCopy). x.block) nat_cmp_total)

up_to : (x y : ℕ) (s : Ordering) → MatchOrdering s (x < y) (x ≡ y) (y < x) → is_lt s ≡ false → y ≤ x
up_to x y Less is least = absurd cc
up_to x y Equal is least = omega (arith, is)
up_to x y Greater is least = omega (arith, is)

not_less : (x y : ℕ) → is_lt (nat_cmp x y) ≡ false → y ≤ x
not_less x y least = up_to x y (nat_cmp x y) (ranked x y (nat_cmp x y) refl) least

-- what a comparison that goes on says
not_less_on : (r : Ordering) (x y : ℕ) → is_lt (ordering_then r (nat_cmp x y)) ≡ false → (is_lt r ≡ false) × (r ≡ Equal → y ≤ x)
not_less_on Less x y least = absurd cc
not_less_on Equal x y least = (refl, λ tied. not_less x y least)
not_less_on Greater x y least = (refl, λ tied. absurd cc)

tied : (x y : ℕ) → x ≡ y → nat_cmp x y ≡ Equal
tied x y same = subst (λ k. nat_cmp x k ≡ Equal) same (tied_itself nat_cmp_total x)

tied_on : (r : Ordering) (x y : ℕ) → r ≡ Equal → x ≡ y → ordering_then r (nat_cmp x y) ≡ Equal
tied_on r x y first same = ap (λ s. ordering_then s (nat_cmp x y)) first ∙ tied x y same

-- each number is at most its other where all numbers before it are equal
record IsUpTo (y x : PageCopy) : Type 0 where
  object : y.object ≤ x.object
  chunk : x.object ≡ y.object → y.chunk ≤ x.chunk
  version : x.object ≡ y.object → x.chunk ≡ y.chunk → y.version ≤ x.version
  seq : x.object ≡ y.object → x.chunk ≡ y.chunk → x.version ≡ y.version → y.seq ≤ x.seq
  page : x.object ≡ y.object → x.chunk ≡ y.chunk → x.version ≡ y.version → x.seq ≡ y.seq → y.page ≤ x.page
  block : x.object ≡ y.object → x.chunk ≡ y.chunk → x.version ≡ y.version → x.seq ≡ y.seq → x.page ≡ y.page → y.block ≤ x.block

is_up_to : (x y : PageCopy) → is_lt (rank_cmp x y) ≡ false → IsUpTo y x
is_up_to x y least =
    let one : Ordering = nat_cmp x.object y.object in
    let two : Ordering = ordering_then one (nat_cmp x.chunk y.chunk) in
    let three : Ordering = ordering_then two (nat_cmp x.version y.version) in
    let four : Ordering = ordering_then three (nat_cmp x.seq y.seq) in
    let five : Ordering = ordering_then four (nat_cmp x.page y.page) in
    let at_five = not_less_on five x.block y.block least in
    let at_four = not_less_on four x.page y.page at_five.0 in
    let at_three = not_less_on three x.seq y.seq at_four.0 in
    let at_two = not_less_on two x.version y.version at_three.0 in
    let at_one = not_less_on one x.chunk y.chunk at_two.0 in
    let tied_one : x.object ≡ y.object → one ≡ Equal = tied x.object y.object in
    let tied_two : x.object ≡ y.object → x.chunk ≡ y.chunk → two ≡ Equal = λ o c. tied_on one x.chunk y.chunk (tied_one o) c in
    let tied_three : x.object ≡ y.object → x.chunk ≡ y.chunk → x.version ≡ y.version → three ≡ Equal =
    λ o c v. tied_on two x.version y.version (tied_two o c) v in
    let tied_four : x.object ≡ y.object → x.chunk ≡ y.chunk → x.version ≡ y.version → x.seq ≡ y.seq → four ≡ Equal =
    λ o c v s. tied_on three x.seq y.seq (tied_three o c v) s in
    record {
      object = not_less x.object y.object at_one.0;
      chunk = λ o. at_one.1 (tied_one o);
      version = λ o c. at_two.1 (tied_two o c);
      seq = λ o c v. at_three.1 (tied_three o c v);
      page = λ o c v s. at_four.1 (tied_four o c v s);
      block = λ o c v s p. at_five.1 (tied_on four x.page y.page (tied_four o c v s) p);
    }

-- within one key the later of two pages has the later place
not_after : (x y : PageCopy) → IsUpTo y x → x.object ≡ y.object → x.chunk ≡ y.chunk → IsAfter (spot_of_copy y) (spot_of_copy x) → ⊥
not_after x y up o c after = elim after [
  | inl lt ↦ absurd (omega (arith, lt, up.version o c))
  | inr (v, rest) ↦ elim rest [
    | inl lt ↦ absurd (omega (arith, lt, up.seq o c (sym v)))
    | inr (s, more) ↦ elim more [
      | inl lt ↦ absurd (omega (arith, lt, up.page o c (sym v) (sym s)))
      | inr (p, lt) ↦ absurd (omega (arith, lt, up.block o c (sym v) (sym s) (sym p)))
    ]
  ]
]

sorted_before : (x y : PageCopy) → is_lt (rank_cmp x y) ≡ false → IsSortedBefore y x
sorted_before x y least =
    let up : IsUpTo y x = is_up_to x y least in
    elim (cases_order y.object x.object) [
      | inr (inl lt) ↦ inl (inl lt)
      | inr (inr gt) ↦ absurd (omega (arith, gt, up.object))
      | inl o ↦ elim (cases_order y.chunk x.chunk) [
        | inr (inl lt) ↦ inl (inr (o, lt))
        | inr (inr gt) ↦ absurd (omega (arith, gt, up.chunk (sym o)))
        | inl c ↦ inr ((o, c), not_after x y up (sym o) (sym c))
      ]
    ]

-- what a sort by the ranks leaves
pub sorted_by_rank : (list new : List PageCopy) → IsPermutation list new → IsSortedBy (λ x y. is_lt (rank_cmp x y)) new → AreSorted list new
sorted_by_rank list new moved up = record {
  each = λ f. (Contains-permutation new list f (IsPermutation-sym list new moved), Contains-permutation list new f moved);
  order = λ i j d lt within. sorted_before (get_or new j d) (get_or new i d)
      (sorted_far (λ x y. is_lt (rank_cmp x y)) (ranks_by rank_total (λ f. f)) new up i j d (omega (arith, lt)) within);
}
