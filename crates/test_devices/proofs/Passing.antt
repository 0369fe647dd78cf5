-- Which places a search has passed.
use Rattle.std.specs.Prelude.{◌≡◌, ◌⊎◌, ℕ, ◌+◌}
use Rattle.std.proofs.Common.{inl, inr, arith}
use Rattle.std.proofs.lemmas.Bool.{cases_eq}
use Rattle.test_devices.specs.Searching.{IsBefore}

-- behind one more page: before it, or that page
pub one_more_page : (b p k l : ℕ) → IsBefore b (p + 1) k l → IsBefore b p k l ⊎ ((k ≡ b) × (l ≡ p))
one_more_page b p k l before = elim before [
  | inl lt ↦ inl (inl lt)
  | inr here ↦ elim (cases_eq l p) [ inl at ↦ inr (here.0, at) | inr ne ↦ inl (inr (here.0, omega (arith, here.1, ne))) ]
]

-- behind one more block: before it, or in that block
pub one_more_block : (b k l : ℕ) → IsBefore (b + 1) 0 k l → IsBefore b 0 k l ⊎ (k ≡ b)
one_more_block b k l before = elim before [
  | inl lt ↦ elim (cases_eq k b) [ inl at ↦ inr at | inr ne ↦ inl (inl (omega (arith, lt, ne))) ]
  | inr here ↦ absurd (omega (arith, here.1))
]

-- what is before a page is before the next one
pub before_next_page : (b p k l : ℕ) → IsBefore b p k l → IsBefore b (p + 1) k l
before_next_page b p k l before = elim before [ inl lt ↦ inl lt | inr here ↦ inr (here.0, omega (arith, here.1)) ]

-- and before the next block
pub before_next_block : (b p k l : ℕ) → IsBefore b p k l → IsBefore (b + 1) 0 k l
before_next_block b p k l before = elim before [ inl lt ↦ inl (omega (arith, lt)) | inr here ↦ inl (omega (arith, here.0)) ]

-- before all pages of a block is before the first
pub before_block : (b p k l : ℕ) → IsBefore b 0 k l → IsBefore b p k l
before_block b p k l before = elim before [ inl lt ↦ inl lt | inr here ↦ absurd (omega (arith, here.1)) ]
