-- The last page of each key is its newest.
use Rattle.std.specs.Prelude.{◌≡◌, ◌<◌, ◌≤◌, ℕ, zero, suc, ◌+◌, List, [], ◌∷◌, ◌++◌, Some, length, take, slice_get, slice_set, Contains}
use Rattle.std.specs.List.{AllPairs}
use Rattle.std.proofs.Common.{refl, sym, ◌∙◌, ap, subst, inl, inr, arith, get_or}
use Rattle.std.proofs.lemmas.Bool.{cases_eq, cases_lt, cases_order}
use Rattle.std.proofs.lemmas.Option.{get_or_from_slice_get, slice_get_within, slice_get-get_or}
use Rattle.std.proofs.lemmas.List.{take_more_set, length-set, get_or-set_other}
use Rattle.std.proofs.lemmas.List.Elements.{Contains-append_left, Contains-push, Contains-push_cases, Contains-get_or}
use Rattle.std.proofs.lemmas.List.Quantifiers.{all_pairs_push}
use Rattle.flash_tree.specs.Newest.{IsAfter}
use Rattle.flash_tree.specs.laws.Order.{not_after_itself}
use Rattle.mount_scan.specs.declared.page_copy.PageCopy.{PageCopy}
use Rattle.mount_scan.specs.Copies.{spot_of_copy, IsKeyBefore}
use Rattle.mount_scan.specs.laws.Keys.{pair_at, not_before_itself}
use Rattle.mount_scan.proofs.Ranked.{AreSorted}
use Rattle.mount_scan.specs.Keys.{HaveOneKey, IsSortedBefore, IsLastAt, IsLastOfKey, AreLastOfKeys, Gathers, AreLatest}

-- one index of a list has one page
one_page : (list : List PageCopy) (k : ℕ) (x y : PageCopy) → slice_get list k ≡ Some x → slice_get list k ≡ Some y → x ≡ y
one_page list k x y at_x at_y = let two : Some x ≡ Some y = sym at_x ∙ at_y in cc

at_index : (list : List PageCopy) (k l : ℕ) (x : PageCopy) → k ≡ l → slice_get list k ≡ Some x → slice_get list l ≡ Some x
at_index list k l x same at = subst (λ m. slice_get list m ≡ Some x) same at

-- a page has an index
index_of : (list : List PageCopy) (x : PageCopy) → Contains list x → (k : ℕ) × (slice_get list k ≡ Some x)
index_of list x has = (has.0, subst (λ y. slice_get list has.0 ≡ Some y) has.2 (slice_get-get_or list has.0 x has.1))

has_index : (list : List PageCopy) (k : ℕ) (x : PageCopy) → slice_get list k ≡ Some x → Contains list x
has_index list k x at = (k, slice_get_within list k x at, get_or_from_slice_get list k x x at)

key_before_on : (x y z : PageCopy) → IsKeyBefore x y → IsSortedBefore y z → IsKeyBefore x z
key_before_on x y z before then = elim then [
  | inr same ↦ elim before [ inl lt ↦ inl (omega (arith, lt, same.0.0)) | inr rest ↦ inr (rest.0 ∙ same.0.0, omega (arith, rest.1, same.0.1)) ]
  | inl after ↦ elim before [
    | inl lt ↦ elim after [ inl more ↦ inl (omega (arith, lt, more)) | inr rest ↦ inl (omega (arith, lt, rest.0)) ]
    | inr rest ↦ elim after [ inl more ↦ inl (omega (arith, more, rest.0)) | inr more ↦ inr (rest.0 ∙ more.0, omega (arith, rest.1, more.1)) ]
  ]
]

-- behind the last page of a key are later keys
later_key : (list : List PageCopy) (k l : ℕ) (x y : PageCopy) → AllPairs IsSortedBefore list → IsLastAt list k → k < l → slice_get list k ≡ Some x → slice_get list l ≡ Some y → IsKeyBefore x y
later_key list k l x y sorted ends lt at_k at_l =
    let within : l < length list = slice_get_within list l y at_l in
    let next : PageCopy = get_or list (k + 1) x in
    let at_next : slice_get list (k + 1) ≡ Some next = slice_get-get_or list (k + 1) x (omega (arith, lt, within)) in
    let first : IsKeyBefore x next = elim (pair_at IsSortedBefore list k (k + 1) x next sorted (omega arith) at_k at_next) [
      | inl before ↦ before
      | inr same ↦ absurd (ends x next at_k at_next same.0)
    ] in
    elim (cases_eq (k + 1) l) [
      | inl here ↦ subst (IsKeyBefore x) (one_page list l next y (at_index list (k + 1) l next here at_next) at_l) first
      | inr ne ↦ key_before_on x next y first (pair_at IsSortedBefore list (k + 1) l next y sorted (omega (arith, lt, ne)) at_next at_l)
    ]

-- the last page of its key is committed
pub last_committed : (list : List PageCopy) (i : ℕ) (x : PageCopy) (committed : List PageCopy) → AllPairs IsSortedBefore list → slice_get list i ≡ Some x → IsLastAt list i
    → AreLastOfKeys list i committed → AreLastOfKeys list (i + 1) (committed ++ x ∷ [])
last_committed list i x committed sorted at ends are = record {
  each = λ f. (
    λ has. elim (Contains-push_cases committed x f has) [
      | inl was ↦ let is = (are.each f).0 was in record { index = is.index; before = omega (arith, is.before); here = is.here; last = is.last }
      | inr same ↦ record { index = i; before = omega arith; here = subst (λ y. slice_get list i ≡ Some y) same at; last = ends }
    ],
    λ is. elim (cases_eq is.index i) [
      | inr ne ↦ Contains-append_left committed (x ∷ []) f ((are.each f).1 (record { index = is.index; before = omega (arith, is.before, ne); here = is.here; last = is.last }))
      | inl here ↦ subst (Contains (committed ++ x ∷ [])) (one_page list i x f at (at_index list is.index i f here is.here)) (Contains-push committed x)
    ],
  );
  order = all_pairs_push IsKeyBefore committed x are.order (λ k d lt.
      let is = (are.each (get_or committed k d)).0 (Contains-get_or committed k d lt) in
      later_key list is.index i (get_or committed k d) x sorted is.last is.before is.here at);
}

-- a page whose next has the same key is not
pub last_passed : (list : List PageCopy) (i : ℕ) (committed : List PageCopy) → (IsLastAt list i → ⊥) → AreLastOfKeys list i committed → AreLastOfKeys list (i + 1) committed
last_passed list i committed goes_on are = record {
  each = λ f. (
    λ has. let is = (are.each f).0 has in record { index = is.index; before = omega (arith, is.before); here = is.here; last = is.last },
    λ is. elim (cases_eq is.index i) [
      | inr ne ↦ (are.each f).1 (record { index = is.index; before = omega (arith, is.before, ne); here = is.here; last = is.last })
      | inl here ↦ absurd (goes_on (subst (IsLastAt list) here is.last))
    ],
  );
  order = are.order;
}

-- a list that has a page where another has it
same_there : (xs ys : List PageCopy) (k : ℕ) (x : PageCopy) → length ys ≡ length xs → ((d : PageCopy) → get_or ys k d ≡ get_or xs k d) → slice_get xs k ≡ Some x → slice_get ys k ≡ Some x
same_there xs ys k x len same at =
    let within : k < length xs = slice_get_within xs k x at in
    slice_get-get_or ys k x (omega (arith, within, len)) ∙ ap Some (same x ∙ get_or_from_slice_get xs k x x at)

-- the last page of its key is gathered
pub gather_committed : (first list : List PageCopy) (i committed : ℕ) (x : PageCopy) → i < length list → slice_get list i ≡ Some x → IsLastAt list i → AllPairs IsSortedBefore first → Gathers first i list committed
    → Gathers first (i + 1) (slice_set list committed x) (committed + 1)
gather_committed first list i committed x lt at ends sorted are = record {
  len = length-set list committed x ∙ are.len;
  front = omega (arith, are.front);
  last = subst (AreLastOfKeys first (i + 1)) (sym (take_more_set list committed x (omega (arith, are.front, lt)))) (last_committed first i x (take committed list) sorted
      (same_there list first i x (sym are.len) (λ d. sym (are.rest i d (omega arith))) at)
      (λ f g at_f at_g. ends f g
      (same_there first list i f are.len (λ d. are.rest i d (omega arith)) at_f)
      (same_there first list (i + 1) g are.len (λ d. are.rest (i + 1) d (omega arith)) at_g))
      are.last);
  rest = λ k d le. get_or-set_other list committed k x d (λ same. absurd (omega (arith, are.front, le, same))) ∙ are.rest k d (omega (arith, le));
}

-- another stays
pub gather_passed : (first list : List PageCopy) (i committed : ℕ) → (IsLastAt list i → ⊥) → Gathers first i list committed → Gathers first (i + 1) list committed
gather_passed first list i committed goes_on are = record {
  len = are.len;
  front = omega (arith, are.front);
  last = last_passed first i (take committed list) (λ ends. goes_on (λ f g at_f at_g. ends f g
      (same_there list first i f (sym are.len) (λ d. sym (are.rest i d (omega arith))) at_f)
      (same_there list first (i + 1) g (sym are.len) (λ d. sym (are.rest (i + 1) d (omega arith))) at_g))) are.last;
  rest = λ k d le. are.rest k d (omega (arith, le));
}

-- a page is the last of its key, or the last is found from the next one on
last_or_next : (list : List PageCopy) (k : ℕ) (x next : PageCopy) → slice_get list k ≡ Some x → slice_get list (k + 1) ≡ Some next
    → (y : PageCopy) × IsLastOfKey list (length list) y × HaveOneKey y next → (y : PageCopy) × IsLastOfKey list (length list) y × HaveOneKey y x
last_or_next list k x next at at_next rest = elim (cases_eq x.object next.object) [
  | inr ne ↦ here (λ one. ne one.0)
  | inl object ↦ elim (cases_eq x.chunk next.chunk) [
    | inr ne ↦ here (λ one. ne one.1)
    | inl chunk ↦ (rest.0, rest.1, (rest.2.0 ∙ sym object, rest.2.1 ∙ sym chunk))
  ]
] where
  here : (HaveOneKey x next → ⊥) → (y : PageCopy) × IsLastOfKey list (length list) y × HaveOneKey y x
  here other = (
    x,
    record {
      index = k;
      before = slice_get_within list k x at;
      here = at;
      last = λ f g at_f at_g one. other (subst (λ u. HaveOneKey u next) (one_page list k f x at_f at) (subst (HaveOneKey f) (one_page list (k + 1) g next at_g at_next) one));
    },
    (refl, refl),
  )

-- the page at the end of the list is the last of its key
last_at_end : (list : List PageCopy) (k : ℕ) (x : PageCopy) → slice_get list k ≡ Some x → length list ≤ k + 1 → (y : PageCopy) × IsLastOfKey list (length list) y × HaveOneKey y x
last_at_end list k x at past = (
  x,
  record {
    index = k;
    before = slice_get_within list k x at;
    here = at;
    last = λ f g at_f at_g one. let within : k + 1 < length list = slice_get_within list (k + 1) g at_g in absurd (omega (arith, within, past));
  },
  (refl, refl),
)

-- from each page on there is the last of its key
last_from : (list : List PageCopy) (left k : ℕ) (x : PageCopy) → slice_get list k ≡ Some x → length list ≤ k + 1 + left
    → (y : PageCopy) × IsLastOfKey list (length list) y × HaveOneKey y x
last_from list zero k x at near = last_at_end list k x at (omega (arith, near))
last_from list (suc left) k x at near = elim (cases_lt (k + 1) (length list)) [
  | inr past ↦ last_at_end list k x at past
  | inl lt ↦
      let next : PageCopy = get_or list (k + 1) x in
      let at_next : slice_get list (k + 1) ≡ Some next = slice_get-get_or list (k + 1) x lt in
      last_or_next list k x next at at_next (last_from list left (k + 1) next at_next (omega (arith, near)))
]

-- the last pages of the keys of a sorted list are the newest
pub latest_of : (list sorted committed : List PageCopy) → AreSorted list sorted → AreLastOfKeys sorted (length sorted) committed → AreLatest list committed
latest_of list sorted committed order are = record {
  among = λ f has. let is = (are.each f).0 has in (order.each f).0 (has_index sorted is.index f is.here);
  last = λ f g has_f has_g one after.
      let is = (are.each f).0 has_f in
      let at = index_of sorted g ((order.each g).1 has_g) in
      elim (cases_order at.0 is.index) [
        | inl same ↦ not_after_itself (spot_of_copy f) (subst (λ x. IsAfter (spot_of_copy x) (spot_of_copy f)) (one_page sorted is.index g f (at_index sorted at.0 is.index g same at.1) is.here) after)
        | inr (inl lt) ↦ elim (pair_at IsSortedBefore sorted at.0 is.index g f order.order lt at.1 is.here) [
          | inl before ↦ not_before_itself g f before one.0 one.1
          | inr same ↦ same.1 after
        ]
        | inr (inr gt) ↦ not_before_itself f g (later_key sorted is.index at.0 f g order.order is.last gt is.here at.1) (sym one.0) (sym one.1)
      ];
  some = λ g has.
      let at = index_of sorted g ((order.each g).1 has) in
      let last = last_from sorted (length sorted) at.0 g at.1 (omega arith) in
      (last.0, (are.each last.0).1 last.1, last.2);
  order = λ i j d lt within one. not_before_itself (get_or committed i d) (get_or committed j d) (are.order i j d lt within) one.0 one.1;
}
