-- Numbers: one of four, numbers that are apart, and that no more things stand than there are places.
use Rattle.std.proofs.Common.{◌≡◌, ◌≢◌, ◌⊎◌, ◌<◌, ◌≤◌, ℕ, zero, suc, false, if◌then◌else◌, ◌==◌, sym, ◌∙◌, arith, inl, inr}
use Rattle.std.proofs.lemmas.Bool.{cases_eq}
use Rattle.std.proofs.lemmas.Bool.Decides.{nat_tests}
use Rattle.std.specs.BTreeMap.{is_at}
use Rattle.std.specs.Ordering.{nat_cmp}

-- one of four numbers is found by trying them
pub one_of_four : (n a b c d : ℕ) → (((n ≡ a) ⊎ (n ≡ b) ⊎ (n ≡ c) ⊎ (n ≡ d) → ⊥) → ⊥) → (n ≡ a) ⊎ (n ≡ b) ⊎ (n ≡ c) ⊎ (n ≡ d)
one_of_four n a b c d sure = elim (cases_eq n a) [
  | inl is ↦ inl is
  | inr not_a ↦ elim (cases_eq n b) [
    | inl is ↦ inr (inl is)
    | inr not_b ↦ elim (cases_eq n c) [
      | inl is ↦ inr (inr (inl is))
      | inr not_c ↦ elim (cases_eq n d) [
        | inl is ↦ inr (inr (inr is))
        | inr not_d ↦ absurd (sure (λ any. elim any [
          | inl is ↦ not_a is
          | inr (inl is) ↦ not_b is
          | inr (inr (inl is)) ↦ not_c is
          | inr (inr (inr is)) ↦ not_d is
        ]))
      ]
    ]
  ]
]

-- a number is at its own place alone
pub not_at : (o k : ℕ) → k ≢ o → is_at (nat_cmp o) k ≡ false
not_at o k ne = grind (arith, nat_tests, ne)

-- place m called v
abbrev renamed : ℕ → ℕ → ℕ → ℕ
renamed m v k = if k == m then v else k

renamed_is : (m v k : ℕ) → ((k ≡ m) × (renamed m v k ≡ v)) ⊎ ((k ≢ m) × (renamed m v k ≡ k))
renamed_is m v k = elim (cases_eq k m) [
  | inl e ↦ inl (e, yes_is e)
  | inr ne ↦ inr (ne, no_is ne)
] where
  yes_is : k ≡ m → (if k == m then v else k) ≡ v
  yes_is e = grind (arith, nat_tests, e)

  no_is : k ≢ m → (if k == m then v else k) ≡ k
  no_is ne = grind (arith, nat_tests, ne)

-- there are no more things than places, where no two things have one place
pub no_more_than_places : (n m : ℕ) (place : (i : ℕ) → i < n → ℕ) → ((i : ℕ) (l : i < n) → place i l < m)
    → ((i j : ℕ) (k : i < n) (l : j < n) → place i k ≡ place j l → i ≡ j) → n ≤ m
no_more_than_places zero m place below once = omega arith
no_more_than_places (suc n) zero place below once = let l : n < suc n = omega arith in let none = below n l in absurd (omega (arith, none))
no_more_than_places (suc n) (suc m) place below once = let less : n ≤ m = no_more_than_places n m (λ i l. renamed m v (place i (up i l))) below_less once_less in omega (arith, less) where
  up : (i : ℕ) → i < n → i < suc n
  up i l = omega (arith, l)

  last : n < suc n
  last = omega arith

  v : ℕ
  v = place n last

  below_less : (i : ℕ) (l : i < n) → renamed m v (place i (up i l)) < m
  below_less i l =
      let low = below i (up i l) in
      let low_last = below n last in
      elim (renamed_is m v (place i (up i l))) [
        | inl (at, is) ↦ elim (cases_eq v m) [
          | inl e ↦ let same : i ≡ n = once i n (up i l) last (at ∙ sym e) in absurd (omega (arith, same, l))
          | inr ne ↦ omega (arith, is, ne, low_last)
        ]
        | inr (ne, is) ↦ omega (arith, is, ne, low)
      ]

  once_less : (i j : ℕ) (k : i < n) (l : j < n) → renamed m v (place i (up i k)) ≡ renamed m v (place j (up j l)) → i ≡ j
  once_less i j k l same = elim (renamed_is m v (place i (up i k))) [
    | inl (at, is) ↦ elim (renamed_is m v (place j (up j l))) [
      | inl (there, _) ↦ once i j (up i k) (up j l) (at ∙ sym there)
      | inr (_, there) ↦ let e : n ≡ j = once n j last (up j l) (sym is ∙ same ∙ there) in absurd (omega (arith, e, l))
    ]
    | inr (ne, is) ↦ elim (renamed_is m v (place j (up j l))) [
      | inl (_, there) ↦ let e : n ≡ i = once n i last (up i k) (sym there ∙ sym same ∙ is) in absurd (omega (arith, e, k))
      | inr (_, there) ↦ once i j (up i k) (up j l) (sym is ∙ same ∙ there)
    ]
  ]
