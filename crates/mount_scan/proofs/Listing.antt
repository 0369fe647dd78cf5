-- The pages of all buckets.
use Rattle.std.specs.Prelude.{◌≡◌, ◌≢◌, ◌⊎◌, ◌<◌, ◌≤◌, ◌+◌, ◌-◌, ℕ, zero, suc, List, [], ◌∷◌, ◌++◌, Some, Result, Ok, Err, OnOk, length, slice_get, slice_set, Contains}
use Rattle.std.specs.List.{AllPairs}
use Rattle.std.proofs.Common.{refl, sym, ◌∙◌, ap, subst, inl, inr, arith, get_or}
use Rattle.std.proofs.lemmas.Bool.{cases_eq, cases_lt}
use Rattle.std.proofs.lemmas.List.Elements.{Contains-append_left, Contains-append_right, Contains-append_cases, Contains-get_or}
use Rattle.std.proofs.lemmas.List.{length-set, get_or_append_left, get_or-append_right, length-append}
use Rattle.std.proofs.lemmas.Option.{slice_get-get_or, slice_get_within}
use Rattle.flash_tree.specs.Newest.{IsAfter}
use Rattle.flash_tree.specs.laws.Order.{not_after_itself}
use Rattle.mount_scan.specs.declared.page_copy.PageCopy.{PageCopy}
use Rattle.mount_scan.specs.Copies.{spot_of_copy}
use Rattle.mount_scan.specs.declared.bucket.Bucket.{Bucket}
use Rattle.mount_scan.specs.Keys.{HaveOneKey, HaveOtherKeys, Thins, AreLatest}
use Rattle.mount_scan.specs.Buckets.{bucket_of, pages_of, pages_in, AreApart}

-- the page is in the bucket at this place
pub record IsInBucket (bs : List Bucket) (k : ℕ) (f : PageCopy) : Type 0 where
  pub bucket : Bucket
  pub there : slice_get bs k ≡ Some bucket
  pub has : Contains (pages_of bucket) f

pub in_pages : (bs : List Bucket) (k : ℕ) (b : Bucket) (f : PageCopy) → slice_get bs k ≡ Some b → Contains (pages_of b) f → Contains (pages_in bs) f
in_pages [] k b f at has = absurd cc
in_pages (x ∷ bs) zero b f at has =
    let same : x ≡ b = cc in
    Contains-append_left (pages_of x) (pages_in bs) f (subst (λ (y : Bucket). Contains (pages_of y) f) (sym same) has)
in_pages (x ∷ bs) (suc k) b f at has = Contains-append_right (pages_of x) (pages_in bs) f (in_pages bs k b f at has)

pub of_pages : (bs : List Bucket) (f : PageCopy) → Contains (pages_in bs) f → (k : ℕ) × IsInBucket bs k f
of_pages [] f has = absurd (omega (arith, has.1))
of_pages (x ∷ bs) f has = elim (Contains-append_cases (pages_of x) (pages_in bs) f has) [
  | inl here ↦ (0, record { bucket = x; there = refl; has = here })
  | inr rest ↦ let at = of_pages bs f rest in (suc at.0, record { bucket = at.1.bucket; there = at.1.there; has = at.1.has })
]

-- a page of a bucket is one of all
all_of : (bs : List Bucket) (k : ℕ) (f : PageCopy) → IsInBucket bs k f → Contains (pages_in bs) f
all_of bs k f is = in_pages bs k is.bucket f is.there is.has

set_here : (bs : List Bucket) (k : ℕ) (old new : Bucket) → slice_get bs k ≡ Some old → slice_get (slice_set bs k new) k ≡ Some new
set_here [] k old new at = absurd cc
set_here (x ∷ bs) zero old new at = refl
set_here (x ∷ bs) (suc k) old new at = set_here bs k old new at

set_there : (bs : List Bucket) (i k : ℕ) (new : Bucket) → k ≢ i → slice_get (slice_set bs i new) k ≡ slice_get bs k
set_there [] i k new ne = refl
set_there (x ∷ bs) zero zero new ne = absurd (ne refl)
set_there (x ∷ bs) zero (suc k) new ne = refl
set_there (x ∷ bs) (suc i) zero new ne = refl
set_there (x ∷ bs) (suc i) (suc k) new ne = set_there bs i k new (λ same. ne (ap suc same))

-- one bucket is another
module _ (bs : List Bucket) (i : ℕ) (old new : Bucket) (at : slice_get bs i ≡ Some old) where
  abbrev others : List Bucket
  others = slice_set bs i new

  -- a page of the new buckets is one of the new bucket, or of one of the others
  now_in : (k : ℕ) (f : PageCopy) → IsInBucket others k f → ((k ≡ i) × Contains (pages_of new) f) ⊎ ((k ≢ i) × IsInBucket bs k f)
  now_in k f is = elim (cases_eq k i) [
    | inr ne ↦ inr (ne, record { bucket = is.bucket; there = sym (set_there bs i k new ne) ∙ is.there; has = is.has })
    | inl same ↦
        let here : slice_get others i ≡ Some is.bucket = subst (λ j. slice_get others j ≡ Some is.bucket) same is.there in
        let two : Some new ≡ Some is.bucket = sym (set_here bs i old new at) ∙ here in
        let equal : is.bucket ≡ new = cc in
        inl (same, subst (λ (b : Bucket). Contains (pages_of b) f) equal is.has)
  ]

  was_in : (k : ℕ) (f : PageCopy) → IsInBucket bs k f → ((k ≡ i) × Contains (pages_of old) f) ⊎ ((k ≢ i) × IsInBucket others k f)
  was_in k f is = elim (cases_eq k i) [
    | inr ne ↦ inr (ne, record { bucket = is.bucket; there = set_there bs i k new ne ∙ is.there; has = is.has })
    | inl same ↦
        let here : slice_get bs i ≡ Some is.bucket = subst (λ j. slice_get bs j ≡ Some is.bucket) same is.there in
        let two : Some old ≡ Some is.bucket = sym at ∙ here in
        let equal : is.bucket ≡ old = cc in
        inl (same, subst (λ (b : Bucket). Contains (pages_of b) f) equal is.has)
  ]

  in_new : (f : PageCopy) → Contains (pages_of new) f → Contains (pages_in others) f
  in_new f has = in_pages others i new f (set_here bs i old new at) has

  in_old : (f : PageCopy) → Contains (pages_of old) f → Contains (pages_in bs) f
  in_old f has = in_pages bs i old f at has

  -- pages are added to all, as they are to a bucket
  pub set_thins : (added : List PageCopy) → Thins added (pages_of old) (pages_of new) → Thins added (pages_in bs) (pages_in others)
  set_thins added thins = record {
    among = λ f has.
        let is = of_pages others f has in
        elim (now_in is.0 f is.1) [
          | inr there ↦ inl (all_of bs is.0 f there.1)
          | inl here ↦ elim (thins.among f here.1) [ inl was ↦ inl (in_old f was) | inr new ↦ inr new ]
        ];
    some = λ g has. elim has [
      | inr new ↦ moved g (thins.some g (inr new))
      | inl was ↦
          let is = of_pages bs g was in
          elim (was_in is.0 g is.1) [
            | inr there ↦ (g, all_of others is.0 g there.1, (refl, refl), not_after_itself (spot_of_copy g))
            | inl here ↦ moved g (thins.some g (inl here.1))
          ]
    ];
  } where
    moved : (g : PageCopy) → (f : PageCopy) × Contains (pages_of new) f × HaveOneKey f g × (IsAfter (spot_of_copy g) (spot_of_copy f) → ⊥)
        → (f : PageCopy) × Contains (pages_in others) f × HaveOneKey f g × (IsAfter (spot_of_copy g) (spot_of_copy f) → ⊥)
    moved g was = (was.0, in_new was.0 was.1, was.2, was.3)

  -- each page is still in the bucket of its key
  pub set_apart : AreApart bs → ((f : PageCopy) → Contains (pages_of new) f → bucket_of f.object f.chunk ≡ i) → AreApart others
  set_apart apart here k b f there has = elim (now_in k f (record { bucket = b; there = there; has = has })) [
    | inl is ↦ here f is.1 ∙ sym is.0
    | inr is ↦ apart k is.1.bucket f is.1.there is.1.has
  ]

-- the pages of the bucket of a page that is added, and of the same keys
pub added_apart : (bs : List Bucket) (i : ℕ) (old new : Bucket) (x : PageCopy) → slice_get bs i ≡ Some old → i ≡ bucket_of x.object x.chunk
    → ((f : PageCopy) → Contains (pages_of new) f → Contains (pages_of old) f ⊎ (f ≡ x)) → AreApart bs → (f : PageCopy) → Contains (pages_of new) f → bucket_of f.object f.chunk ≡ i
added_apart bs i old new x at place among apart f has = elim (among f has) [
  | inl was ↦ apart i old f at was
  | inr same ↦ ap (λ (g : PageCopy). bucket_of g.object g.chunk) same ∙ sym place
]

-- ---- each bucket

-- the first n buckets have the newest of their pages, and the others are as they were
pub record AreThinned (old new : List Bucket) (n : ℕ) : Type 0 where
  pub len : length new ≡ length old
  pub done : (k : ℕ) (a b : Bucket) → k < n → slice_get old k ≡ Some a → slice_get new k ≡ Some b → AreLatest (pages_of a) (pages_of b)
  pub rest : (k : ℕ) → n ≤ k → slice_get new k ≡ slice_get old k

pub thinned_more : (old new : List Bucket) (n : ℕ) (a b : Bucket) → slice_get new n ≡ Some a → AreLatest (pages_of a) (pages_of b) → AreThinned old new n → AreThinned old (slice_set new n b) (n + 1)
thinned_more old new n a b at latest thinned = record {
  len = length-set new n b ∙ thinned.len;
  done = λ k x y lt at_x at_y. elim (cases_eq k n) [
    | inr ne ↦ thinned.done k x y (omega (arith, lt, ne)) at_x (sym (set_there new n k b ne) ∙ at_y)
    | inl same ↦
        let here : slice_get (slice_set new n b) n ≡ Some y = subst (λ j. slice_get (slice_set new n b) j ≡ Some y) same at_y in
        let two : Some b ≡ Some y = sym (set_here new n a b at) ∙ here in
        let was : Some a ≡ Some x = sym at ∙ thinned.rest n (omega arith) ∙ subst (λ j. slice_get old j ≡ Some x) same at_x in
        let one : a ≡ x = cc in
        let other : b ≡ y = cc in
        subst (λ (z : Bucket). AreLatest (pages_of x) (pages_of z)) other (subst (λ (z : Bucket). AreLatest (pages_of z) (pages_of b)) one latest)
  ];
  rest = λ k le. set_there new n k b (λ same. absurd (omega (arith, le, same))) ∙ thinned.rest k (omega (arith, le));
}

-- the pages of two lists are related as all pairs of both are, where those of each are and those across
pairs_append : (R : PageCopy → PageCopy → Type 0) (xs ys : List PageCopy) → AllPairs R xs → AllPairs R ys → ((x y : PageCopy) → Contains xs x → Contains ys y → R x y) → AllPairs R (xs ++ ys)
pairs_append R xs ys first next across i j d lt within = elim (cases_lt j (length xs)) [
  | inl low ↦
      let at_i : get_or (xs ++ ys) i d ≡ get_or xs i d = get_or_append_left xs ys d i (omega (arith, lt, low)) in
      let at_j : get_or (xs ++ ys) j d ≡ get_or xs j d = get_or_append_left xs ys d j low in
      rw (at_i, at_j) (first i j d lt low)
  | inr high ↦
      let end : length (xs ++ ys) ≡ length xs + length ys = length-append xs ys in
      let in_ys : j - length xs < length ys = omega (arith, within, end, high) in
      let at_j : get_or (xs ++ ys) j d ≡ get_or ys (j - length xs) d = get_or-append_right xs ys (length xs) j d refl high in
      elim (cases_lt i (length xs)) [
        | inl low ↦
            let at_i : get_or (xs ++ ys) i d ≡ get_or xs i d = get_or_append_left xs ys d i low in
            rw (at_i, at_j) (across (get_or xs i d) (get_or ys (j - length xs) d) (Contains-get_or xs i d low) (Contains-get_or ys (j - length xs) d in_ys))
        | inr up ↦
            let at_i : get_or (xs ++ ys) i d ≡ get_or ys (i - length xs) d = get_or-append_right xs ys (length xs) i d refl up in
            rw (at_i, at_j) (next (i - length xs) (j - length xs) d (omega (arith, lt, up)) in_ys)
      ]
]

-- each key stands once in each bucket, and in one bucket
once : (bs : List Bucket) (n : ℕ) → ((k : ℕ) (b : Bucket) (f : PageCopy) → slice_get bs k ≡ Some b → Contains (pages_of b) f → bucket_of f.object f.chunk ≡ n + k)
    → ((k : ℕ) (b : Bucket) → slice_get bs k ≡ Some b → AllPairs HaveOtherKeys (pages_of b)) → AllPairs HaveOtherKeys (pages_in bs)
once [] n apart each = λ i j d lt within. absurd (omega (arith, within))
once (b ∷ bs) n apart each = pairs_append HaveOtherKeys (pages_of b) (pages_in bs) (each 0 b refl)
    (once bs (n + 1) (λ k x f at has. apart (suc k) x f at has ∙ omega arith) (λ k x at. each (suc k) x at))
    (λ f g has_f has_g one.
    let is = of_pages bs g has_g in
    let here : bucket_of f.object f.chunk ≡ n + 0 = apart 0 b f refl has_f in
    let there : bucket_of g.object g.chunk ≡ n + suc is.0 = apart (suc is.0) is.1.bucket g is.1.there is.1.has in
    let same : bucket_of f.object f.chunk ≡ bucket_of g.object g.chunk = ap (λ o. bucket_of o f.chunk) one.0 ∙ ap (bucket_of g.object) one.1 in
    absurd (omega (arith, here, there, same)))

module _ (old new : List Bucket) (n : ℕ) (end : length old ≤ n) (apart : AreApart old) (thinned : AreThinned old new n) where
  -- the bucket that was there
  before : (k : ℕ) (b : Bucket) → slice_get new k ≡ Some b → (a : Bucket) × (slice_get old k ≡ Some a) × AreLatest (pages_of a) (pages_of b)
  before k b at =
      let within : k < length old = omega (arith, slice_get_within new k b at, thinned.len) in
      let a : Bucket = get_or old k b in
      let at_a : slice_get old k ≡ Some a = slice_get-get_or old k b within in
      (a, at_a, thinned.done k a b (omega (arith, within, end)) at_a at)

  after : (k : ℕ) (a : Bucket) → slice_get old k ≡ Some a → (b : Bucket) × (slice_get new k ≡ Some b) × AreLatest (pages_of a) (pages_of b)
  after k a at =
      let within : k < length old = slice_get_within old k a at in
      let b : Bucket = get_or new k a in
      let at_b : slice_get new k ≡ Some b = slice_get-get_or new k a (omega (arith, within, thinned.len)) in
      (b, at_b, thinned.done k a b (omega (arith, within, end)) at at_b)

  was_there : (k : ℕ) (f : PageCopy) → IsInBucket new k f → IsInBucket old k f
  was_there k f is = let was = before k is.bucket is.there in record { bucket = was.0; there = was.1; has = was.2.among f is.has }

  -- the buckets are still apart
  pub thinned_apart : AreApart new
  thinned_apart k b f at has = let was = was_there k f (record { bucket = b; there = at; has = has }) in apart k was.bucket f was.there was.has

  one_bucket : (j k : ℕ) (f g : PageCopy) → IsInBucket old j f → IsInBucket old k g → HaveOneKey f g → k ≡ j
  one_bucket j k f g in_f in_g one =
      sym (apart k in_g.bucket g in_g.there in_g.has) ∙ sym (ap (λ o. bucket_of o f.chunk) one.0 ∙ ap (bucket_of g.object) one.1) ∙ apart j in_f.bucket f in_f.there in_f.has

  last_of : (j : ℕ) (f g : PageCopy) → IsInBucket new j f → IsInBucket old j g → HaveOneKey g f → IsAfter (spot_of_copy g) (spot_of_copy f) → ⊥
  last_of j f g is was one later =
      let there = before j is.bucket is.there in
      let two : Some there.0 ≡ Some was.bucket = sym there.1 ∙ was.there in
      let same : was.bucket ≡ there.0 = cc in
      there.2.last f g is.has (subst (λ (b : Bucket). Contains (pages_of b) g) same was.has) one later

  -- the newest of each bucket are the newest of all
  pub thinned_latest : AreLatest (pages_in old) (pages_in new)
  thinned_latest = record {
    among = λ f has. let is = of_pages new f has in all_of old is.0 f (was_there is.0 f is.1);
    last = λ f g has_f has_g one later.
        let is = of_pages new f has_f in
        let was = of_pages old g has_g in
        let same : was.0 ≡ is.0 = one_bucket is.0 was.0 f g (was_there is.0 f is.1) was.1 (sym one.0, sym one.1) in
        last_of is.0 f g is.1 (subst (λ k. IsInBucket old k g) same was.1) one later;
    some = λ g has.
        let was = of_pages old g has in
        let there = after was.0 was.1.bucket was.1.there in
        let some = there.2.some g was.1.has in
        (some.0, in_pages new was.0 there.0 some.0 there.1 some.1, some.2);
    order = once new 0 (λ k b f at has. thinned_apart k b f at has ∙ omega arith) (λ k b at. (before k b at).2.order);
  }

-- buckets without pages have none
pub none_listed : (bs : List Bucket) → ((k : ℕ) (b : Bucket) → slice_get bs k ≡ Some b → pages_of b ≡ []) → (f : PageCopy) → Contains (pages_in bs) f → ⊥
none_listed bs none f has =
    let is = of_pages bs f has in
    let empty : Contains [] f = subst (λ xs. Contains xs f) (none is.0 is.1.bucket is.1.there) is.1.has in
    absurd (omega (arith, empty.1))

pub none_apart : (bs : List Bucket) → ((k : ℕ) (b : Bucket) → slice_get bs k ≡ Some b → pages_of b ≡ []) → AreApart bs
none_apart bs none k b f at has =
    let empty : Contains [] f = subst (λ xs. Contains xs f) (none k b at) has in
    absurd (omega (arith, empty.1))

pub none_more : (bs : List Bucket) (x : Bucket) → pages_of x ≡ [] → ((k : ℕ) (b : Bucket) → slice_get bs k ≡ Some b → pages_of b ≡ []) → (k : ℕ) (b : Bucket) → slice_get (bs ++ x ∷ []) k ≡ Some b → pages_of b ≡ []
none_more [] x empty none zero b at = let same : x ≡ b = cc in ap pages_of (sym same) ∙ empty
none_more [] x empty none (suc k) b at = absurd cc
none_more (y ∷ bs) x empty none zero b at = none 0 b at
none_more (y ∷ bs) x empty none (suc k) b at = none_more bs x empty (λ j c there. none (suc j) c there) k b at

-- the bucket that was read
pub bucket_there : (bs : List Bucket) (i : ℕ) (b : Bucket) → i < length bs → b ≡ get_or bs i b → slice_get bs i ≡ Some b
bucket_there bs i b lt is = slice_get-get_or bs i b lt ∙ ap Some (sym is)

pub ok_thins : {T E : Type 0} (result : Result T E) (bs : List Bucket) (i : ℕ) (old new : Bucket) (x : PageCopy) → slice_get bs i ≡ Some old
    → OnOk result (Thins (x ∷ []) (pages_of old) (pages_of new)) → OnOk result (Thins (x ∷ []) (pages_in bs) (pages_in (slice_set bs i new)))
ok_thins (Ok done) bs i old new x at thins = set_thins bs i old new at (x ∷ []) thins
ok_thins (Err error) bs i old new x at thins = tt
