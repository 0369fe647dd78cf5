-- A number that is put into numbers that rise, or taken out.
use Rattle.std.proofs.Common.{◌≡◌, ◌≢◌, ℕ, Bool, true, false, if◌then◌else◌, ◌+◌, ◌-◌, ◌<◌, ◌≤◌, List, length, get_or, sym, ap, subst, ◌∙◌, arith, inl, inr}
use Rattle.std.specs.List.{insert, remove}
use Rattle.std.proofs.lemmas.Bool.{cases_lt, cases_eq}
use Rattle.std.proofs.lemmas.List.Edits.{length-insert, get_or-insert_below, get_or-insert_at, get_or-insert_above, length-remove, get_or-remove_below, get_or-remove_above}
use Rattle.name_index.specs.Lists.{Rises, IsIn, Adds, Drops}
use Rattle.name_index.proofs.Searching.{IsAt, IsGap}

module _ (xs : List ℕ) (x at : ℕ) (gap : IsGap xs x at) where
  longer : length (insert xs at x) ≡ length xs + 1
  longer = length-insert xs at x gap.within

  below : (k : ℕ) → k < at → get_or (insert xs at x) k 0 ≡ get_or xs k 0
  below k lt = get_or-insert_below xs at x 0 k lt gap.within

  here : get_or (insert xs at x) at 0 ≡ x
  here = get_or-insert_at xs at x 0 gap.within

  above : (k : ℕ) → at ≤ k → get_or (insert xs at x) (k + 1) 0 ≡ get_or xs k 0
  above k le = get_or-insert_above xs at x 0 k le gap.within

  before : (k : ℕ) → at < k → get_or (insert xs at x) k 0 ≡ get_or xs (k - 1) 0
  before k gt = subst (λ q. get_or (insert xs at x) q 0 ≡ get_or xs (k - 1) 0) {x = k - 1 + 1} (omega (arith, gt)) (above (k - 1) (omega (arith, gt)))

  pub adds_insert : Adds x (IsIn xs) (IsIn (insert xs at x))
  adds_insert =
      let within : at ≤ length xs = gap.within in
      record {
        there = (at, omega (arith, longer, within), here);
        stays = λ y is.
            let lt : is.0 < length xs = is.1 in
            elim (cases_lt is.0 at) [
              | inl less ↦ (is.0, omega (arith, longer, lt), below is.0 less ∙ is.2)
              | inr more ↦ (is.0 + 1, omega (arith, longer, lt), above is.0 more ∙ is.2)
            ];
        only = λ y is.
            let lt : is.0 < length (insert xs at x) = is.1 in
            elim (cases_lt is.0 at) [
              | inl less ↦ inr (is.0, omega (arith, less, within), sym (below is.0 less) ∙ is.2)
              | inr more ↦ elim (cases_eq is.0 at) [
                | inl same ↦ inl (sym is.2 ∙ ap (λ k. get_or (insert xs at x) k 0) same ∙ here)
                | inr ne ↦ inr (is.0 - 1, omega (arith, longer, lt, more, ne), sym (before is.0 (omega (arith, more, ne))) ∙ is.2)
              ]
            ];
      }

  pub filled_insert : 0 < length (insert xs at x)
  filled_insert = omega (arith, longer)

  pub rises_insert : Rises xs → Rises (insert xs at x)
  rises_insert rises a b lt within =
      let new = insert xs at x in
      let is_here : (k : ℕ) → k ≡ at → get_or new k 0 ≡ x = λ k e. rw e here in
      let lesser : (k : ℕ) → k < at → get_or xs k 0 < x = gap.lesser in
      let greater : (k : ℕ) → at ≤ k → k < length xs → x < get_or xs k 0 = gap.greater in
      let up : (k l : ℕ) → k < l → l < length xs → get_or xs k 0 < get_or xs l 0 = rises in
      grind (arith, longer, below a, is_here a, before a, below b, is_here b, before b, up a b, up a (b - 1), up (a - 1) (b - 1), lesser a, greater (b - 1))

-- a number that is not there goes without a change
pub drops_none : (xs : List ℕ) (x at : ℕ) → IsGap xs x at → Drops x (IsIn xs) (IsIn xs)
drops_none xs x at gap = record {
  gone = λ is.
      let there : get_or xs is.0 0 ≡ x = is.2 in
      elim (cases_lt is.0 at) [
        | inl less ↦ let r : get_or xs is.0 0 < x = gap.lesser is.0 less in omega (arith, r, there)
        | inr more ↦ let r : x < get_or xs is.0 0 = gap.greater is.0 more is.1 in omega (arith, r, there)
      ];
  stays = λ y ne is. is;
  only = λ y is. is;
}

module _ (xs : List ℕ) (rises : Rises xs) (x at : ℕ) (is_at : IsAt xs x at) where
  shorter : length (remove xs at) + 1 ≡ length xs
  shorter = length-remove xs at is_at.within

  left : (k : ℕ) → k < at → get_or (remove xs at) k 0 ≡ get_or xs k 0
  left k lt = get_or-remove_below xs at 0 k lt is_at.within

  right : (k : ℕ) → at ≤ k → get_or (remove xs at) k 0 ≡ get_or xs (k + 1) 0
  right k le = get_or-remove_above xs at 0 k le is_at.within

  pub drops_remove : Drops x (IsIn xs) (IsIn (remove xs at))
  drops_remove =
      let within : at < length xs = is_at.within in
      let equal : get_or xs at 0 ≡ x = is_at.is in
      record {
        gone = λ is.
            let lt : is.0 < length (remove xs at) = is.1 in
            let there : get_or (remove xs at) is.0 0 ≡ x = is.2 in
            elim (cases_lt is.0 at) [
              | inl less ↦ let r : get_or xs is.0 0 < get_or xs at 0 = rises is.0 at less within in omega (arith, r, equal, there, left is.0 less)
              | inr more ↦ let r : get_or xs at 0 < get_or xs (is.0 + 1) 0 = rises at (is.0 + 1) (omega (arith, more)) (omega (arith, lt, shorter)) in omega (arith, r, equal, there, right is.0 more)
            ];
        stays = λ y ne is.
            let lt : is.0 < length xs = is.1 in
            elim (cases_lt is.0 at) [
              | inl less ↦ (is.0, omega (arith, less, within, shorter), left is.0 less ∙ is.2)
              | inr more ↦ elim (cases_eq is.0 at) [
                | inl same ↦ absurd (ne (sym is.2 ∙ ap (λ k. get_or xs k 0) same ∙ equal))
                | inr apart ↦
                    let back : is.0 - 1 + 1 ≡ is.0 = omega (arith, more, apart) in
                    (is.0 - 1, omega (arith, lt, shorter, back), right (is.0 - 1) (omega (arith, more, apart)) ∙ ap (λ k. get_or xs k 0) back ∙ is.2)
              ]
            ];
        only = λ y is.
            let lt : is.0 < length (remove xs at) = is.1 in
            elim (cases_lt is.0 at) [
              | inl less ↦ (is.0, omega (arith, lt, shorter), sym (left is.0 less) ∙ is.2)
              | inr more ↦ (is.0 + 1, omega (arith, lt, shorter), sym (right is.0 more) ∙ is.2)
            ];
      }

  pub rises_remove : Rises (remove xs at)
  rises_remove a b lt within = elim (cases_lt b at) [
    | inl b_below ↦
        let r : get_or xs a 0 < get_or xs b 0 = rises a b lt (omega (arith, within, shorter)) in
        omega (arith, r, left a (omega (arith, lt, b_below)), left b b_below)
    | inr b_above ↦ elim (cases_lt a at) [
      | inl a_below ↦
          let r : get_or xs a 0 < get_or xs (b + 1) 0 = rises a (b + 1) (omega (arith, lt)) (omega (arith, within, shorter)) in
          omega (arith, r, left a a_below, right b b_above)
      | inr a_above ↦
          let r : get_or xs (a + 1) 0 < get_or xs (b + 1) 0 = rises (a + 1) (b + 1) (omega (arith, lt)) (omega (arith, within, shorter)) in
          omega (arith, r, right a a_above, right b b_above)
    ]
  ]

  -- something is left of more than one
  pub filled_remove : (length xs ≡ 1 → get_or xs 0 0 ≢ x) → 0 < length (remove xs at)
  filled_remove more = elim (cases_eq (length xs) 1) [
    | inl one ↦
        let within : at < length xs = is_at.within in
        let zero_at : at ≡ 0 = omega (arith, one, within) in
        absurd (more one (ap (λ k. get_or xs k 0) (sym zero_at) ∙ is_at.is))
    | inr ne ↦ let within : at < length xs = is_at.within in omega (arith, ne, within, shorter)
  ]

-- whichever of two it is
pub either : (P : List ℕ → Type 0) (b : Bool) (x y : List ℕ) → P x → P y → P (if b then x else y)
either P true x y p q = p
either P false x y p q = q
