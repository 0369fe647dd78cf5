-- The least number that is free, the greatest that passes, and how large a volume's numbers are.
use Rattle.std.specs.Prelude.{◌≡◌, ◌⊎◌, ◌<◌, ◌≤◌, ◌^◌, ℕ, zero, suc, ◌+◌, ◌-◌, ◌*◌, Bool, true, false, not, Option, Some, None, unwrap_or, cond, is_some}
use Rattle.std.proofs.Common.{refl, sym, ◌∙◌, ap, subst, inl, inr, arith}
use Rattle.std.proofs.lemmas.Bool.{cases_lt, true≢false, false≢true, leb-true}
use Rattle.std.specs.List.{find as first_of, range_with_len}
use Rattle.std.specs.Cmp.{nat_cmp_total}
use Rattle.std.specs.FinMap as map
use Rattle.std.proofs.lemmas.Nat.{mul-le}
use Rattle.volume_terms.specs.Sizes.{Sizes, IsSizes, capacity, greatest_length, descriptors, offset_limit}
use Rattle.posix_profile.specs.State.{Object, Objects, Handles}
use Rattle.posix_profile.specs.Charge.{charge, fits}
use Rattle.posix_profile.specs.Changes.{greatest, new_number, free_descriptor}
use Rattle.posix_profile.specs.laws.Map.{keys_fit}
use Rattle.posix_profile.specs.laws.Charge.{objects_le}

-- the first number of a range that passes is the least there that does
first_least : (p : ℕ → Bool) (a n x : ℕ) → first_of p (range_with_len a n) ≡ Some x → (a ≤ x) × (x < a + n) × (p x ≡ true) × ((k : ℕ) → a ≤ k → k < x → p k ≡ false)
first_least p a zero x is = absurd cc
first_least p a (suc n) x is = go (p a) refl is (first_least p (a + 1) n x)
  where
    go : (b : Bool) → p a ≡ b → cond b (Some a) (first_of p (range_with_len (a + 1) n)) ≡ Some x
        → (first_of p (range_with_len (a + 1) n) ≡ Some x → (a + 1 ≤ x) × (x < a + 1 + n) × (p x ≡ true) × ((k : ℕ) → a + 1 ≤ k → k < x → p k ≡ false))
        → (a ≤ x) × (x < a + suc n) × (p x ≡ true) × ((k : ℕ) → a ≤ k → k < x → p k ≡ false)
    go true e f rest =
        let same : a ≡ x = cc in
        (omega arith, omega arith, sym (ap p same) ∙ e, λ k low high. absurd (omega arith))
    go false e f rest =
        let r = rest f in (
          omega (arith, r.0),
          omega (arith, r.1),
          r.2,
          λ k low high. elim (cases_lt a k) [
            | inl lt ↦ r.3 k (omega arith) high
            | inr le ↦ let same : a ≡ k = omega arith in sym (ap p same) ∙ e
          ],
        )

-- where none is the first, none passes
first_none : (p : ℕ → Bool) (a n : ℕ) → first_of p (range_with_len a n) ≡ None → (k : ℕ) → a ≤ k → k < a + n → p k ≡ false
first_none p a zero is k low high = absurd (omega arith)
first_none p a (suc n) is k low high = go (p a) refl is (first_none p (a + 1) n)
  where
    go : (b : Bool) → p a ≡ b → cond b (Some a) (first_of p (range_with_len (a + 1) n)) ≡ None
        → (first_of p (range_with_len (a + 1) n) ≡ None → (k : ℕ) → a + 1 ≤ k → k < a + 1 + n → p k ≡ false) → p k ≡ false
    go true e f rest = absurd cc
    go false e f rest = elim (cases_lt a k) [
      | inl lt ↦ rest f k (omega arith) (omega arith)
      | inr le ↦ let same : a ≡ k = omega arith in sym (ap p same) ∙ e
    ]

not_there : {X : Type 0} (x : Option X) → not (is_some x) ≡ true → x ≡ None
not_there None e = refl
not_there (Some x) e = absurd (false≢true e)

is_there : {X : Type 0} (x : Option X) → not (is_some x) ≡ false → (v : X) × (x ≡ Some v)
is_there None e = absurd (true≢false e)
is_there (Some x) e = (x, refl)

-- The number n is free of objects, from 2 up the least such, and at most 2 above the number of objects.
pub record IsNewNumber (objects : Objects) (n : ℕ) : Type 0 where
  pub free : map.get objects n ≡ None
  pub low : 2 ≤ n
  pub high : n ≤ map.len objects + 2
  pub least : (k : ℕ) → 2 ≤ k → k < n → (object : Object) × (map.get objects k ≡ Some object)

-- there is always a free number
pub new_number_is : (objects : Objects) → IsNewNumber objects (new_number objects)
new_number_is objects = go (first_of (λ n. not (map.contains_key objects n)) (range_with_len 2 (map.len objects + 1))) refl
  where
    go : (f : Option ℕ) → first_of (λ n. not (map.contains_key objects n)) (range_with_len 2 (map.len objects + 1)) ≡ f → IsNewNumber objects (unwrap_or f 0)
    go None is =
        let all = first_none (λ n. not (map.contains_key objects n)) 2 (map.len objects + 1) is in
        let many : map.len objects + 1 ≤ map.len objects =
        keys_fit nat_cmp_total map.nat_cmp-IsAntisymmetric (map.len objects + 1) (λ i. 2 + i) objects
        (λ i lt. is_there (map.get objects (2 + i)) (all (2 + i) (omega arith) (omega arith)))
        (λ i j lt le is. omega arith) in
        absurd (omega arith)
    go (Some n) is =
        let r = first_least (λ n. not (map.contains_key objects n)) 2 (map.len objects + 1) n is in
        record { free = not_there (map.get objects n) r.2; low = r.0; high = omega (arith, r.1); least = λ k low high. is_there (map.get objects k) (r.3 k low high) }

-- The descriptor fd is not open, the least such.
pub record IsFreeDescriptor (handles : Handles) (fd : ℕ) : Type 0 where
  pub free : map.get handles fd ≡ None
  pub low : fd < descriptors
  pub least : (k : ℕ) → k < fd → map.contains_key handles k ≡ true

pub free_descriptor_is : (handles : Handles) (fd : ℕ) → free_descriptor handles ≡ Some fd → IsFreeDescriptor handles fd
free_descriptor_is handles fd is =
    let r = first_least (λ n. not (map.contains_key handles n)) 0 descriptors fd is in
    record { free = not_there (map.get handles fd) r.2; low = r.1; least = λ k high. let t = is_there (map.get handles k) (r.3 k (omega arith) high) in ap is_some t.1 }

-- where no descriptor is free all are open
pub no_descriptor_is : (handles : Handles) → free_descriptor handles ≡ None → (fd : ℕ) → fd < descriptors → map.contains_key handles fd ≡ true
no_descriptor_is handles is fd lt =
    let t = is_there (map.get handles fd) (first_none (λ n. not (map.contains_key handles n)) 0 descriptors is fd (omega arith) lt) in ap is_some t.1

-- the greatest number up to n that passes, or 0
pub greatest_cases : (p : ℕ → Bool) (n : ℕ) → (greatest p n ≤ n) × ((greatest p n ≡ 0) ⊎ (p (greatest p n) ≡ true)) × ((k : ℕ) → greatest p n < k → k ≤ n → p k ≡ false)
greatest_cases p zero = (omega arith, inl refl, λ k low high. absurd (omega arith))
greatest_cases p (suc n) = go (p (suc n)) refl (greatest_cases p n)
  where
    go : (b : Bool) → p (suc n) ≡ b → (greatest p n ≤ n) × ((greatest p n ≡ 0) ⊎ (p (greatest p n) ≡ true)) × ((k : ℕ) → greatest p n < k → k ≤ n → p k ≡ false)
        → (cond b (suc n) (greatest p n) ≤ suc n) × ((cond b (suc n) (greatest p n) ≡ 0) ⊎ (p (cond b (suc n) (greatest p n)) ≡ true))
        × ((k : ℕ) → cond b (suc n) (greatest p n) < k → k ≤ suc n → p k ≡ false)
    go true e rest = (omega arith, inr e, λ k low high. absurd (omega arith))
    go false e rest = (
      omega (arith, rest.0),
      rest.1,
      λ k low high. elim (cases_lt k (suc n)) [
        | inl lt ↦ rest.2 k low (omega arith)
        | inr le ↦ let same : suc n ≡ k = omega arith in sym (ap p same) ∙ e
      ],
    )

module _ (z : Sizes) (sizes : IsSizes z) where
  pub pages_few : z.block_pages ≤ 256
  pages_few = elim sizes.block_pages [ inl a ↦ omega arith | inr b ↦ elim b [ inl c ↦ omega arith | inr d ↦ elim d [ inl e ↦ omega arith | inr f ↦ omega arith ] ] ]

  pub capacity_few : capacity z ≤ 4096 * 256
  capacity_few = mul-le _ _ 4096 256 (omega (arith, sizes.few_blocks)) (omega (arith, pages_few))

  -- a new number is a number that an object may have
  pub new_number_few : (objects : Objects) → fits z objects ≡ true → new_number objects < 2 ^ 64 - 1
  new_number_few objects fit = omega (arith, (new_number_is objects).high, objects_le z objects, leb-true (charge z objects) (capacity z) fit, capacity_few)

  -- a file's length is an offset
  pub greatest_length_few : greatest_length z ≤ offset_limit
  greatest_length_few = elim sizes.page_bytes [
    | inl a ↦ subst (λ d. 8 * (d - 32) * d ≤ offset_limit) (sym a) (omega arith)
    | inr b ↦ elim b [
      | inl a ↦ subst (λ d. 8 * (d - 32) * d ≤ offset_limit) (sym a) (omega arith)
      | inr c ↦ elim c [
        | inl a ↦ subst (λ d. 8 * (d - 32) * d ≤ offset_limit) (sym a) (omega arith)
        | inr a ↦ subst (λ d. 8 * (d - 32) * d ≤ offset_limit) (sym a) (omega arith)
      ]
    ]
  ]
