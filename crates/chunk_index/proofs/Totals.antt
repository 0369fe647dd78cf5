-- The committed counts of all blocks add up to the number of committed keys.
use Rattle.std.proofs.Common.{◌≡◌, ℕ, zero, suc, ◌+◌, ◌-◌, ◌≤◌, List, [], ◌∷◌, Option, Some, None, if◌then◌else◌, ltb, refl, sym, ap, arith, inl, inr}
use Rattle.std.specs.List.{sum_by}
use Rattle.std.specs.Option.{option_map_or}
use Rattle.std.specs.BTreeMap.{values}
use Rattle.std.proofs.lemmas.Bool.{cases_eq, cases_lt}
use Rattle.std.proofs.lemmas.Bool.Decides.{nat_tests}
use Rattle.std.proofs.lemmas.List.Sums.{sum_by-cons}
use Rattle.block_state.specs.Table.{Table}
use Rattle.block_state.specs.Counting.{sum_below}
use Rattle.block_state.specs.Committed.{committed_count}
use Rattle.block_state.specs.laws.Counting.{sum_below-suc, sum_below-same}
use Rattle.chunk_index.specs.declared.form.CommittedPage.{CommittedPage}
use Rattle.chunk_index.specs.declared.entry.KeyEntry.{KeyEntry}
use Rattle.chunk_index.specs.declared.object.ObjectEntries.{ObjectEntries}
use Rattle.chunk_index.specs.declared.index.Index.{Index}
use Rattle.chunk_index.specs.Entries.{weigh, one_at, counted_at}
use Rattle.chunk_index.specs.Shelves.{ObjectMap, total}
use Rattle.chunk_index.specs.Maps.{CountsAgree}
use Rattle.chunk_index.proofs.Counting.{two_sums}

-- 1 for an entry whose key is committed
abbrev pub committed_one : KeyEntry → ℕ
committed_one e = option_map_or (λ (p : CommittedPage). 1) e.committed 0

-- 1 for a page in one of the first n blocks
abbrev one_below : ℕ → Option CommittedPage → ℕ
one_below n p = option_map_or (λ (q : CommittedPage). if ltb q.block n then 1 else 0) p 0

abbrev below : ℕ → KeyEntry → ℕ
below n e = one_below n e.committed

below_none : (p : Option CommittedPage) → one_below 0 p ≡ 0
below_none None = refl
below_none (Some p) = grind (arith, nat_tests)

below_more : (n : ℕ) (p : Option CommittedPage) → one_below n p + one_at p n ≡ one_below (n + 1) p
below_more n None = refl
below_more n (Some p) = elim (cases_lt p.block n) [
  | inl lt ↦ grind (arith, nat_tests, lt)
  | inr ge ↦ elim (cases_eq p.block n) [
    | inl is ↦ grind (arith, nat_tests, ge, is)
    | inr ne ↦ grind (arith, nat_tests, ge, ne)
  ]
]

-- two totals add up to a third, where they do at each entry
two_totals : (f g h : KeyEntry → ℕ) (m : ObjectMap) → ((e : KeyEntry) → f e + g e ≡ h e) → total f m + total g m ≡ total h m
two_totals f g h m each = two_sums (λ (x : ObjectEntries). weigh f x.entries.items) (λ (x : ObjectEntries). weigh g x.entries.items) (λ (x : ObjectEntries). weigh h x.entries.items) (λ x. two_sums f g h each x.entries.items) (values m)

none_below : (m : ObjectMap) → total (below 0) m ≡ 0
none_below m =
    let twice : total (below 0) m + total (below 0) m ≡ total (below 0) m = two_totals (below 0) (below 0) (below 0) m (λ e. let none = below_none e.committed in omega (arith, none)) in
    omega (arith, twice)

-- the keys that are committed in the first n blocks
blocks_below : (m : ObjectMap) (n : ℕ) → sum_below (λ b. total (counted_at b) m) n ≡ total (below n) m
blocks_below m zero = sym (none_below m)
blocks_below m (suc n) =
    let before = blocks_below m n in
    let more : total (below n) m + total (counted_at n) m ≡ total (below (n + 1)) m = two_totals (below n) (counted_at n) (below (n + 1)) m (λ e. below_more n e.committed) in
    let sum = sum_below-suc (λ b. total (counted_at b) m) n in
    let next : total (below (n + 1)) m ≡ total (below (suc n)) m = ap (λ k. total (below k) m) (omega arith) in
    omega (arith, before, more, sum, next)

-- ---- none lies past the last block

abbrev above : ℕ → KeyEntry → ℕ
above n e = committed_one e - below n e

above_one : (n : ℕ) (e : KeyEntry) → ((b : ℕ) → n ≤ b → counted_at b e ≡ 0) → above n e ≡ 0
above_one n e none = go e.committed (λ b le. none b le) where
  go : (p : Option CommittedPage) → ((b : ℕ) → n ≤ b → one_at p b ≡ 0) → option_map_or (λ (q : CommittedPage). 1) p 0 - one_below n p ≡ 0
  go None nil = refl
  go (Some p) nil = elim (cases_lt p.block n) [
    | inl lt ↦ grind (arith, nat_tests, lt)
    | inr ge ↦
        let here : one_at (Some p) p.block ≡ 1 = grind (arith, nat_tests) in
        let zero_there : one_at (Some p) p.block ≡ 0 = nil p.block ge in
        absurd (omega (arith, here, zero_there))
  ]

above_object : (n : ℕ) (es : List KeyEntry) → ((b : ℕ) → n ≤ b → weigh (counted_at b) es ≡ 0) → weigh (above n) es ≡ 0
above_object n [] none = refl
above_object n (e ∷ es) none =
    let parts : (b : ℕ) → n ≤ b → (counted_at b e ≡ 0) × (weigh (counted_at b) es ≡ 0) = λ b le.
    let all : weigh (counted_at b) (e ∷ es) ≡ counted_at b e + weigh (counted_at b) es = sum_by-cons (counted_at b) e es in
    let nil : weigh (counted_at b) (e ∷ es) ≡ 0 = none b le in
    (omega (arith, all, nil), omega (arith, all, nil)) in
    let here = above_one n e (λ b le. (parts b le).0) in
    let rest = above_object n es (λ b le. (parts b le).1) in
    let sum : weigh (above n) (e ∷ es) ≡ above n e + weigh (above n) es = sum_by-cons (above n) e es in
    omega (arith, here, rest, sum)

above_all : (n : ℕ) (xs : List ObjectEntries) → ((b : ℕ) → n ≤ b → sum_by (λ (x : ObjectEntries). weigh (counted_at b) x.entries.items) xs ≡ 0)
    → sum_by (λ (x : ObjectEntries). weigh (above n) x.entries.items) xs ≡ 0
above_all n [] none = refl
above_all n (x ∷ xs) none =
    let parts : (b : ℕ) → n ≤ b → (weigh (counted_at b) x.entries.items ≡ 0) × (sum_by (λ (z : ObjectEntries). weigh (counted_at b) z.entries.items) xs ≡ 0) = λ b le.
    let g = λ (z : ObjectEntries). weigh (counted_at b) z.entries.items in
    let all : sum_by g (x ∷ xs) ≡ g x + sum_by g xs = sum_by-cons g x xs in
    let nil : sum_by g (x ∷ xs) ≡ 0 = none b le in
    (omega (arith, all, nil), omega (arith, all, nil)) in
    let here = above_object n x.entries.items (λ b le. (parts b le).0) in
    let rest = above_all n xs (λ b le. (parts b le).1) in
    let h = λ (z : ObjectEntries). weigh (above n) z.entries.items in
    let sum : sum_by h (x ∷ xs) ≡ h x + sum_by h xs = sum_by-cons h x xs in
    omega (arith, here, rest, sum)

below_most : (n : ℕ) (p : Option CommittedPage) → one_below n p ≤ option_map_or (λ (q : CommittedPage). 1) p 0
below_most n None = omega arith
below_most n (Some p) = elim (cases_lt p.block n) [ inl lt ↦ grind (arith, nat_tests, lt) | inr ge ↦ grind (arith, nat_tests, ge) ]

-- so the counts of all blocks add up to the committed keys
pub all_counted : (t : Table) (x : Index) → CountsAgree t x → committed_count t ≡ total committed_one x.shelf.objects
all_counted t x agree =
    let m = x.shelf.objects in
    let n = t.geometry.blocks in
    let counts : committed_count t ≡ sum_below (λ b. total (counted_at b) m) n = sum_below-same (λ b. (t.entry b).committed) (λ b. total (counted_at b) m) n (λ b lt. agree.counts b) in
    let some : sum_below (λ b. total (counted_at b) m) n ≡ total (below n) m = blocks_below m n in
    let none : total (above n) m ≡ 0 = above_all n (values m) (λ b le. agree.within b le) in
    let both : total (below n) m + total (above n) m ≡ total committed_one m = two_totals (below n) (above n) committed_one m (λ e. let most = below_most n e.committed in omega (arith, most)) in
    omega (arith, counts, some, none, both)
