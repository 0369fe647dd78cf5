-- What a search finds in a list whose numbers rise, and what an edit at that place does.
use Rattle.std.proofs.Common.{◌≡◌, ℕ, zero, suc, ◌+◌, ◌-◌, ◌<◌, ◌≤◌, eqb, ◌≢◌, List, [], ◌∷◌, length, get_or, set, if◌then◌else◌, Some, None, Result, Ok, Err, IfOk, IfErr, refl, sym, ap, ◌∙◌, subst, inl, inr, arith}
use Rattle.std.specs.List.{insert, remove}
use Rattle.std.specs.List.Sorted.{IsSearchInRange, IsBinarySearchResult, IsNonDecreasingBy}
use Rattle.std.specs.Ordering.{nat_cmp, ordering_index}
use Rattle.std.proofs.lemmas.Cmp.{ranked}
use Rattle.std.proofs.lemmas.Bool.{cases_lt, cases_eq}
use Rattle.std.proofs.lemmas.Bool.Decides.{nat_tests}
use Rattle.std.proofs.lemmas.List.{get_or-set_same, get_or-set_other, length-set}
use Rattle.std.proofs.lemmas.List.Edits.{length-insert, length-remove, get_or-insert_below, get_or-insert_at, get_or-insert_above, get_or-remove_below, get_or-remove_above}
use Rattle.chunk_index.specs.Lists.{find_by, Rises, IsAt, IsGapFor, IsEndFor}

-- what is read at a place is the element there
pub same_element : {X : Type 0} (xs : List X) (i : ℕ) (x y : X) → y ≡ x → x ≡ get_or xs i x → y ≡ get_or xs i y
same_element xs i x y same here = subst (λ z. z ≡ get_or xs i z) (sym same) here

-- one equation for every number
abbrev pub FindsAfterSet : {X : Type 0} → (X → ℕ) → List X → List X → ℕ → X → Type 0
FindsAfterSet f old new n y = (q : ℕ) → find_by f new q ≡ (if eqb n q then Some y else find_by f old q)

module _ {X : Type 0} (f : X → ℕ) where
  -- no element before place i has the number
  abbrev pub NoneBefore : List X → ℕ → ℕ → Type 0
  NoneBefore xs n i = (j : ℕ) (d : X) → j < i → f (get_or xs j d) ≢ n

  none_before_tail : (x : X) (xs : List X) (n i : ℕ) → NoneBefore (x ∷ xs) n (suc i) → NoneBefore xs n i
  none_before_tail x xs n i none j d lt = none (suc j) d (omega (arith, lt))

  is_at_tail : (x : X) (xs : List X) (n i : ℕ) → IsAt f (x ∷ xs) n (suc i) → IsAt f xs n i
  is_at_tail x xs n i at = let within : suc i < length (x ∷ xs) = at.within in record { within = omega (arith, within); number = λ d. at.number d }

  -- a number that no element has is not found
  pub find_absent : (xs : List X) (n : ℕ) → NoneBefore xs n (length xs) → find_by f xs n ≡ None
  find_absent [] n none = refl
  find_absent (x ∷ xs) n none = let first : f x ≢ n = none 0 x (omega arith) in grind (arith, nat_tests, first, find_absent xs n (none_before_tail x xs n _ none))

  -- the first element with the number is found
  pub find_present : (xs : List X) (n i : ℕ) (d : X) → IsAt f xs n i → NoneBefore xs n i → find_by f xs n ≡ Some (get_or xs i d)
  find_present [] n i d at none = absurd (omega (arith, at.within))
  find_present (x ∷ xs) n zero d at none = let first : f x ≡ n = at.number d in grind (arith, nat_tests, first)
  find_present (x ∷ xs) n (suc i) d at none = let first : f x ≢ n = none 0 x (omega arith) in grind (arith, nat_tests, first, find_present xs n i d (is_at_tail x xs n i at) (none_before_tail x xs n i none))

  -- writing over it changes what is found at its number alone
  pub find_set : (xs : List X) (n i : ℕ) (y : X) → f y ≡ n → IsAt f xs n i → NoneBefore xs n i → FindsAfterSet f xs (set xs i y) n y
  find_set [] n i y is at none q = absurd (omega (arith, at.within))
  find_set (x ∷ xs) n zero y is at none q = let first : f x ≡ n = at.number x in grind (arith, nat_tests, first, is)
  find_set (x ∷ xs) n (suc i) y is at none q = let first : f x ≢ n = none 0 x (omega arith) in grind (arith, nat_tests, first, find_set xs n i y is (is_at_tail x xs n i at) (none_before_tail x xs n i none) q)

  -- so does a new element before any with its number
  pub find_insert : (xs : List X) (n i : ℕ) (y : X) → f y ≡ n → NoneBefore xs n i → FindsAfterSet f xs (insert xs i y) n y
  find_insert xs n zero y is none q = grind (arith, nat_tests, is)
  find_insert [] n (suc i) y is none q = grind (arith, nat_tests, is)
  find_insert (x ∷ xs) n (suc i) y is none q = let first : f x ≢ n = none 0 x (omega arith) in grind (arith, nat_tests, first, find_insert xs n i y is (none_before_tail x xs n i none) q)

  -- without it nothing is found at its number, where it comes once
  pub find_remove : (xs : List X) (n i : ℕ) → IsAt f xs n i → NoneBefore xs n i → ((j : ℕ) (d : X) → i < j → j < length xs → f (get_or xs j d) ≢ n)
      → (q : ℕ) → find_by f (remove xs i) q ≡ (if eqb n q then None else find_by f xs q)
  find_remove [] n i at none after q = absurd (omega (arith, at.within))
  find_remove (x ∷ xs) n zero at none after q =
      let first : f x ≡ n = at.number x in
      elim (cases_eq n q) [
        | inl e ↦
            let gone : find_by f xs n ≡ None = find_absent xs n (λ j d lt. after (suc j) d (omega arith) (omega (arith, lt))) in
            grind (arith, nat_tests, first, gone, e)
        | inr ne ↦ grind (arith, nat_tests, first, ne)
      ]
  find_remove (x ∷ xs) n (suc i) at none after q =
      let first : f x ≢ n = none 0 x (omega arith) in
      let rest = find_remove xs n i (is_at_tail x xs n i at) (none_before_tail x xs n i none) (λ j d lt within. after (suc j) d (omega (arith, lt)) (omega (arith, within))) q in
      grind (arith, nat_tests, first, rest)

  module _ (xs : List X) (rises : Rises f xs) (n : ℕ) where
    comparisons_rise : IsNonDecreasingBy (λ x. ordering_index (nat_cmp (f x) n)) xs
    comparisons_rise i j d le within =
        let numbers_rise : f (get_or xs i d) ≤ f (get_or xs j d) = elim (cases_lt i j) [
          | inl lt ↦ let r : f (get_or xs i d) < f (get_or xs j d) = rises i j d lt within in omega (arith, r)
          | inr ge ↦ let e : i ≡ j = omega (arith, le, ge) in let r : f (get_or xs i d) ≡ f (get_or xs j d) = ap (λ k. f (get_or xs k d)) e in omega (arith, r)
        ] in
        grind (arith, nat_tests, numbers_rise)

    -- a search by halves ends at the element, or at the gap for it
    pub searched : (r : Result ℕ ℕ) → IsSearchInRange r (length xs) → IsBinarySearchResult (λ x. nat_cmp (f x) n) xs r → record { found : IfOk r (IsAt f xs n); absent : IfErr r (IsGapFor f xs n) }
    searched (Ok at) within equal = record { found = record { within = within; number = λ d. ranked _ n _ (sym (equal d)) }; absent = tt }
    searched (Err at) within parted = record {
      found = tt;
      absent = record {
        within = within;
        lesser = λ j d lt. ranked _ n _ (sym ((parted comparisons_rise).0 j d (omega arith) lt));
        greater = λ j d le lt. ranked _ n _ (sym ((parted comparisons_rise).1 j d le lt));
      };
    }

  module _ (xs : List X) (rises : Rises f xs) (n i : ℕ) (at : IsAt f xs n i) where
    none_before_at : NoneBefore xs n i
    none_before_at j d lt same = let r : f (get_or xs j d) < f (get_or xs i d) = rises j i d lt at.within in let e : f (get_or xs i d) ≡ n = at.number d in omega (arith, r, e, same)

    -- the element is found at its place
    pub find_at : (d : X) → find_by f xs n ≡ Some (get_or xs i d)
    find_at d = find_present xs n i d at none_before_at

    -- another element with its number is found there, and nothing else changes
    pub find_at_set : (y : X) → f y ≡ n → FindsAfterSet f xs (set xs i y) n y
    find_at_set y is = find_set xs n i y is at none_before_at

    -- without it nothing is found at its number, and nothing else changes
    pub find_at_remove : (q : ℕ) → find_by f (remove xs i) q ≡ (if eqb n q then None else find_by f xs q)
    find_at_remove = find_remove xs n i at none_before_at (λ j d lt within same. let r : f (get_or xs i d) < f (get_or xs j d) = rises i j d lt within in let e : f (get_or xs i d) ≡ n = at.number d in omega (arith, r, e, same))

    pub rises_remove : Rises f (remove xs i)
    rises_remove a b d lt within =
        let shorter : length (remove xs i) + 1 ≡ length xs = length-remove xs i at.within in
        let below : (k : ℕ) → k < i → f (get_or (remove xs i) k d) ≡ f (get_or xs k d) = λ k less. ap f (get_or-remove_below xs i d k less at.within) in
        let above : (k : ℕ) → i ≤ k → f (get_or (remove xs i) k d) ≡ f (get_or xs (k + 1) d) = λ k le. ap f (get_or-remove_above xs i d k le at.within) in
        elim (cases_lt b i) [
          | inl b_below ↦
              let r : f (get_or xs a d) < f (get_or xs b d) = rises a b d lt (omega (arith, within, shorter)) in
              omega (arith, r, below a (omega (arith, lt, b_below)), below b b_below)
          | inr b_above ↦ elim (cases_lt a i) [
            | inl a_below ↦
                let r : f (get_or xs a d) < f (get_or xs (b + 1) d) = rises a (b + 1) d (omega (arith, lt)) (omega (arith, within, shorter)) in
                omega (arith, r, below a a_below, above b b_above)
            | inr a_above ↦
                let r : f (get_or xs (a + 1) d) < f (get_or xs (b + 1) d) = rises (a + 1) (b + 1) d (omega (arith, lt)) (omega (arith, within, shorter)) in
                omega (arith, r, above a a_above, above b b_above)
          ]
        ]

    -- the elements before it are those with lesser numbers
    pub ends_at : IsEndFor f xs n i
    ends_at = record {
      within = let lt : i < length xs = at.within in omega (arith, lt);
      lesser = λ j d lt. let r : f (get_or xs j d) < f (get_or xs i d) = rises j i d lt at.within in let e : f (get_or xs i d) ≡ n = at.number d in omega (arith, r, e);
      greater = λ j d le lt. elim (cases_eq i j) [
        | inl e ↦ let here : f (get_or xs j d) ≡ n = ap (λ k. f (get_or xs k d)) (sym e) ∙ at.number d in omega (arith, here)
        | inr ne ↦
            let r : f (get_or xs i d) < f (get_or xs j d) = rises i j d (omega (arith, le, ne)) lt in
            let e : f (get_or xs i d) ≡ n = at.number d in
            omega (arith, r, e)
      ];
    }

    -- and the numbers still rise
    pub rises_set : (y : X) → f y ≡ n → Rises f (set xs i y)
    rises_set y is a b d lt within =
        let short : b < length xs = omega (arith, within, length-set xs i y) in
        let old : f (get_or xs a d) < f (get_or xs b d) = rises a b d lt short in
        let same : (k : ℕ) → f (get_or (set xs i y) k d) ≡ f (get_or xs k d) = λ k. elim (cases_eq k i) [
          | inl e ↦ rw e (ap f (get_or-set_same xs i y d at.within) ∙ is ∙ sym (at.number d))
          | inr ne ↦ ap f (get_or-set_other xs i k y d ne)
        ] in
        let one : f (get_or (set xs i y) a d) ≡ f (get_or xs a d) = same a in
        let two : f (get_or (set xs i y) b d) ≡ f (get_or xs b d) = same b in
        omega (arith, old, one, two)

  module _ (xs : List X) (n i : ℕ) (gap : IsGapFor f xs n i) where
    -- a number with a gap is not found
    pub find_in_gap : find_by f xs n ≡ None
    find_in_gap = find_absent xs n (λ j d lt same. elim (cases_lt j i) [
      | inl below ↦ let r : f (get_or xs j d) < n = gap.lesser j d below in omega (arith, r, same)
      | inr above ↦ let r : n < f (get_or xs j d) = gap.greater j d above lt in omega (arith, r, same)
    ])

    -- a new element in the gap is found at its number alone
    pub find_gap_insert : (y : X) → f y ≡ n → FindsAfterSet f xs (insert xs i y) n y
    find_gap_insert y is = find_insert xs n i y is (λ j d lt same. let r : f (get_or xs j d) < n = gap.lesser j d lt in omega (arith, r, same))

    -- and the numbers still rise
    pub rises_insert : (y : X) → f y ≡ n → Rises f xs → Rises f (insert xs i y)
    rises_insert y is rises a b d lt within =
        let new = insert xs i y in
        let longer : length new ≡ length xs + 1 = length-insert xs i y gap.within in
        let below : (k : ℕ) → k < i → f (get_or new k d) ≡ f (get_or xs k d) = λ k lt. ap f (get_or-insert_below xs i y d k lt gap.within) in
        let here : (k : ℕ) → k ≡ i → f (get_or new k d) ≡ n = λ k e. rw e (ap f (get_or-insert_at xs i y d gap.within) ∙ is) in
        let above : (k : ℕ) → i < k → f (get_or new k d) ≡ f (get_or xs (k - 1) d) = λ k gt. subst (λ q. f (get_or new q d) ≡ f (get_or xs (k - 1) d)) {x = k - 1 + 1} (omega (arith, gt)) (ap f (get_or-insert_above xs i y d (k - 1) (omega (arith, gt)) gap.within)) in
        let lesser : (k : ℕ) → k < i → f (get_or xs k d) < n = λ k. gap.lesser k d in
        let greater : (k : ℕ) → i ≤ k → k < length xs → n < f (get_or xs k d) = λ k. gap.greater k d in
        let up : (k l : ℕ) → k < l → l < length xs → f (get_or xs k d) < f (get_or xs l d) = λ k l. rises k l d in
        grind (arith, longer, below a, here a, above a, below b, here b, above b, up a b, up a (b - 1), up (a - 1) (b - 1), lesser a, greater (b - 1))

-- a number greater than that of the last element goes behind it
pub gap_after : {X : Type 0} (f : X → ℕ) (xs : List X) (n i : ℕ) → Rises f xs → i ≡ length xs → ((j : ℕ) (d : X) → j + 1 ≡ length xs → f (get_or xs j d) < n) → IsGapFor f xs n i
gap_after f xs n i rises is last = record {
  within = omega (arith, is);
  lesser = λ j d lt. elim (cases_eq (j + 1) (length xs)) [
    | inl e ↦ last j d e
    | inr ne ↦
        let r : f (get_or xs j d) < f (get_or xs (length xs - 1) d) = rises j (length xs - 1) d (omega (arith, ne, lt, is)) (omega (arith, lt, is)) in
        let l : f (get_or xs (length xs - 1) d) < n = last (length xs - 1) d (omega (arith, lt, is)) in
        omega (arith, r, l)
  ];
  greater = λ j d le lt. absurd (omega (arith, is, le, lt));
}
