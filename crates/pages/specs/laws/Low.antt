-- Which chunks a tree may look up: none from 2^32 on.
use Rattle.std.specs.Prelude.{◌≡◌, ◌<◌, ◌≤◌, ℕ, ◌+◌, ◌-◌, ◌*◌, ◌/◌, ◌^◌, true}
use Rattle.std.proofs.Common.{sym, subst, inl, inr, arith}
use Rattle.std.proofs.Math.Nat.{div-le_self, div-mul-le_self, mul-le-mul_right}
use Rattle.std.proofs.lemmas.Bool.{cases_lt}
use Rattle.page_tags.specs.Headers.{Fields, IsHeader, MayBeSet, greatest_recorded, is_present}
use Rattle.page_tags.specs.declared.header.ObjectKind.{ObjectKind}
use Rattle.page_tags.specs.declared.header.ObjectKind.TheVariants as kinds
use Rattle.volume_terms.specs.Sizes.{Sizes, page_slots}
use Rattle.flash_tree.specs.Tree.{IsPageSize, LooksUp}

-- the chunk of a header
pub first_low : 0 < 2 ^ 32
first_low = omega arith

-- no more chunks than there are whole pages
few_chunks : (a d len c : ℕ) → 1 ≤ d → len ≤ a * d → c ≤ (len + d - 1) / d → c ≤ a
few_chunks a d len c some most le = elim (cases_lt a c) [
  | inr under ↦ under
  | inl over ↦
      let high : (a + 1) * d ≤ c * d = mul-le-mul_right d (omega (arith, over)) in
      let reported : c * d ≤ (len + d - 1) / d * d = mul-le-mul_right d le in
      let within = div-mul-le_self (len + d - 1) d in
      absurd (omega (arith, high, reported, within, most, some))
]

-- a chunk that a header says is present
pub present_low : (d : ℕ) → IsPageSize d → (f : Fields) (c : ℕ) → IsHeader d f → 1 ≤ c → is_present f.bits c ≡ true → c < 2 ^ 32
present_low d size f c valid some present = go f.kind valid.length_fits (valid.within c some present) where
  go : (kind : ObjectKind) → f.length ≤ greatest_recorded d kind → MayBeSet d kind f.length c → c < 2 ^ 32
  go kinds.File most may =
      let within_limit : c ≤ 8 * (d - 32) = few_chunks (8 * (d - 32)) d f.length c (omega (arith, size.least)) most may in
      omega (arith, within_limit, size.most)
  go kinds.Directory most may = absurd may

-- a directory has no more slots than these
pub slots_few : (d : ℕ) (f : Fields) → IsHeader d f → f.kind ≡ kinds.Directory → f.length ≤ 2 ^ 32 - 1
slots_few d f valid directory = subst (λ kind. f.length ≤ greatest_recorded d kind) directory valid.length_fits

-- the chunk of a slot
pub place_low : (i n : ℕ) → i < 2 ^ 32 - 1 → 1 + i / n < 2 ^ 32
place_low i n lt = let most = div-le_self i n in omega (arith, lt, most)

-- so each chunk that is looked up
pub looked_low : (z : Sizes) → IsPageSize z.page_bytes → (f : Fields) (c : ℕ) → IsHeader z.page_bytes f → LooksUp z f c → c < 2 ^ 32
looked_low z size f c valid (inl first) = subst (λ k. k < 2 ^ 32) (sym first) first_low
looked_low z size f c valid (inr (inl (file, some, present))) = present_low z.page_bytes size f c valid some present
looked_low z size f c valid (inr (inr (directory, (i, lt, is)))) =
    let within_limit = slots_few z.page_bytes f valid directory in
    let low = place_low i (page_slots z) (omega (arith, lt, within_limit)) in
    omega (arith, low, is)
