-- Where the pages of a bucket stand among all pages.
use Rattle.std.specs.Prelude.{◌≡◌, ◌<◌, ◌≤◌, ◌+◌, ◌-◌, ℕ, zero, suc, List, [], ◌∷◌, ◌++◌, Some, length, take, slice_get}
use Rattle.std.specs.Option.{option_map_or}
use Rattle.std.proofs.Common.{refl, sym, ◌∙◌, ap, subst, arith, get_or}
use Rattle.std.proofs.lemmas.List.{take_more, take_all, length-append}
use Rattle.std.proofs.lemmas.List.Concat.{flat_map-append, get_or-flat_map}
use Rattle.std.proofs.lemmas.Option.{slice_get-get_or}
use Rattle.mount_scan.specs.declared.page_copy.PageCopy.{PageCopy}
use Rattle.mount_scan.specs.declared.bucket.Bucket.{Bucket}
use Rattle.mount_scan.specs.declared.found_pages.FoundPages.{FoundPages}
use Rattle.mount_scan.specs.Buckets.{pages_of, pages_in}
use Rattle.mount_scan.specs.Listed.{listed, bucket_at, IsPartAt}

-- how many pages the first k buckets have
abbrev pub before : FoundPages → ℕ → ℕ
before x k = length (pages_in (take k x.buckets.items))

append_nil : (xs : List PageCopy) → xs ++ [] ≡ xs
append_nil [] = refl
append_nil (x ∷ xs) = ap (λ ys. x ∷ ys) (append_nil xs)

a_bucket : (bs : List Bucket) (k : ℕ) (b : Bucket) → slice_get bs k ≡ Some b → option_map_or pages_of (slice_get bs k) [] ≡ pages_of b
a_bucket bs k b at = ap (λ v. option_map_or pages_of v []) at

-- there is a bucket at each place
some_bucket : (x : FoundPages) (k : ℕ) (d : Bucket) → k < 64 → bucket_at x k ≡ pages_of (get_or x.buckets.items k d)
some_bucket x k d lt = a_bucket x.buckets.items k (get_or x.buckets.items k d) (slice_get-get_or x.buckets.items k d (omega (arith, lt, x.count)))

-- one bucket more
pub before_more : (x : FoundPages) (k : ℕ) (d : Bucket) → k < 64 → before x (k + 1) ≡ before x k + length (bucket_at x k)
before_more x k d lt =
    let bs = x.buckets.items in
    let more : take (k + 1) bs ≡ take k bs ++ get_or bs k d ∷ [] = take_more bs k d (omega (arith, lt, x.count)) in
    let split : pages_in (take (k + 1) bs) ≡ pages_in (take k bs) ++ (pages_of (get_or bs k d) ++ []) = ap pages_in more ∙ flat_map-append pages_of (take k bs) (get_or bs k d ∷ []) in
    let end : pages_of (get_or bs k d) ++ [] ≡ bucket_at x k = append_nil (pages_of (get_or bs k d)) ∙ sym (some_bucket x k d lt) in
    ap length (split ∙ ap (λ ys. pages_in (take k bs) ++ ys) end) ∙ length-append (pages_in (take k bs)) (bucket_at x k)

-- all buckets
pub before_all : (x : FoundPages) → before x 64 ≡ length (listed x)
before_all x = ap (λ bs. length (pages_in bs)) (take_all 64 x.buckets.items (omega (arith, x.count)))

-- the pages of a bucket stand behind those of the buckets before it
pub page_at : (x : FoundPages) (k i : ℕ) (b : Bucket) (d : PageCopy) → k < 64 → i < length (bucket_at x k) → get_or (listed x) (before x k + i) d ≡ get_or (bucket_at x k) i d
page_at x k i b d lt within =
    let bs = x.buckets.items in
    let same : bucket_at x k ≡ pages_of (get_or bs k b) = some_bucket x k b lt in
    get_or-flat_map pages_of bs k i b d (omega (arith, lt, x.count)) (subst (λ ys. i < length ys) same within) ∙ ap (λ ys. get_or ys i d) (sym same)

more_before : (x : FoundPages) (k n : ℕ) (b : Bucket) → k + n ≤ 64 → before x k ≤ before x (k + n)
more_before x k zero b le =
    let same : k + 0 ≡ k = omega arith in
    let equal : before x (k + 0) ≡ before x k = ap (before x) same in
    omega (arith, equal)
more_before x k (suc n) b le =
    let rest : before x k ≤ before x (k + n) = more_before x k n b (omega (arith, le)) in
    let more : before x (k + n + 1) ≡ before x (k + n) + length (bucket_at x (k + n)) = before_more x (k + n) b (omega (arith, le)) in
    let same : k + suc n ≡ k + n + 1 = omega arith in
    let equal : before x (k + suc n) ≡ before x (k + n + 1) = ap (before x) same in
    omega (arith, rest, more, equal)

-- and all within the list
pub bucket_within : (x : FoundPages) (k : ℕ) (b : Bucket) → k < 64 → before x k + length (bucket_at x k) ≤ length (listed x)
bucket_within x k b lt =
    let rest : before x (k + 1) ≤ before x (k + 1 + (64 - (k + 1))) = more_before x (k + 1) (64 - (k + 1)) b (omega (arith, lt)) in
    let same : k + 1 + (64 - (k + 1)) ≡ 64 = omega (arith, lt) in
    let end : before x (k + 1 + (64 - (k + 1))) ≡ before x 64 = ap (before x) same in
    let more = before_more x k b lt in
    let all = before_all x in
    omega (arith, rest, end, more, all)

first : (bs : List Bucket) → 0 < length bs → Bucket
first [] lt = absurd (omega (arith, lt))
first (b ∷ bs) lt = b

a_bucket_of : FoundPages → Bucket
a_bucket_of x = first x.buckets.items (omega (arith, x.count))

-- a bucket's pages are a part of all
pub bucket_part : (x : FoundPages) (k : ℕ) (part : List PageCopy) → k < 64 → part ≡ bucket_at x k → IsPartAt (listed x) (before x k) part
bucket_part x k part lt same = subst (IsPartAt (listed x) (before x k)) (sym same) (record {
  within = bucket_within x k (a_bucket_of x) lt;
  each = λ i d less. page_at x k i (a_bucket_of x) d lt less;
})

-- and the next bucket begins behind them
pub part_end : (x : FoundPages) (k : ℕ) (part : List PageCopy) → k < 64 → part ≡ bucket_at x k → before x k + length part ≡ before x (k + 1)
part_end x k part lt same = ap (λ xs. before x k + length xs) same ∙ sym (before_more x k (a_bucket_of x) lt)
