-- What follows of the bytes of packed tags.
use Rattle.std.proofs.Common.{◌≡◌, ◌<◌, ◌≤◌, ℕ, ◌+◌, ◌-◌, ◌%◌, ◌^◌, List, [], ◌∷◌, length, drop, take, slice_index, nat_le, if◌then◌else◌, refl, sym, ap, ap₂, subst, ◌∙◌, inl, inr, take_all, arith}
use Rattle.std.proofs.lemmas.Bool.{cases_eq, lt-leb}
use Rattle.std.proofs.lemmas.List.{get_or-drop}
use Rattle.byteorder.specs.Endian.{little_bytes, little_number}
use Rattle.byteorder.specs.Numbers.{little_from-lt}
use Rattle.nand_model.specs.Flash.{AreBytes}
use Rattle.page_tags.specs.Tags.{tag_bytes}
use Rattle.page_tags.specs.laws.Byte.{IsBytes-drop, joined, little_bytes_at}
use Rattle.port_nand.specs.Packed.{object_of, unpacked, low_bytes}

-- the lowest bytes of an object are those of the number that represents it
object_low : (n : ℕ) → n < 2 ^ 32 → little_bytes 4 (object_of n) ≡ little_bytes 4 n
unfolding object_of
object_low n small = elim (cases_eq n (2 ^ 32 - 1)) [
  | inl last ↦ subst (λ k. little_bytes 4 (if nat_le (2 ^ 32 - 2) k then k + (2 ^ 64 - 2 ^ 32) else k) ≡ little_bytes 4 k) (sym last) refl
  | inr ne ↦ elim (cases_eq n (2 ^ 32 - 2)) [
    | inl one_less ↦ subst (λ k. little_bytes 4 (if nat_le (2 ^ 32 - 2) k then k + (2 ^ 64 - 2 ^ 32) else k) ≡ little_bytes 4 k) (sym one_less) refl
    | inr not ↦ ap (λ b. little_bytes 4 (if b then n + (2 ^ 64 - 2 ^ 32) else n)) (lt-leb (2 ^ 32 - 2) n (omega (arith, small, ne, not)))
  ]
]

first_two : (packed : List ℕ) → length packed ≡ 24 → {a b : ℕ} → a ≡ slice_index packed 0 → b ≡ slice_index packed 1 → (a ∷ b ∷ []) ≡ take 2 packed
first_two [] len index count = absurd (omega (arith, len))
first_two (x ∷ []) len index count = absurd (omega (arith, len))
first_two (x ∷ y ∷ rest) len index count = ap₂ (λ a b. a ∷ b ∷ []) index count

module _ (packed : List ℕ) (are : AreBytes 24 packed) where
  index_low : slice_index (unpacked packed) 0 ≡ slice_index packed 0
  unfolding unpacked tag_bytes
  index_low = let small = are.each 0 in omega (arith, small)

  count_low : (slice_index (unpacked packed) 4 + 255) % 256 ≡ slice_index packed 1
  unfolding unpacked tag_bytes
  count_low =
      let small : slice_index (drop 1 packed) 0 < 256 = IsBytes-drop 1 packed are.each 0 in
      let is : slice_index (drop 1 packed) 0 ≡ slice_index packed 1 = get_or-drop 1 packed 0 0 in
      let low : slice_index (unpacked packed) 4 ≡ (slice_index (drop 1 packed) 0 + 1) % 256 = omega arith in
      omega (arith, small, is, low)

  part : (n i : ℕ) → i + n ≤ 24 → little_bytes n (little_number n (drop i packed)) ≡ take n (drop i packed)
  part n i fits = little_bytes_at n i packed (let len = are.len in omega (arith, fits, len)) are.each

  -- the low bytes of a tag are those that say it
  pub low_bytes-unpacked : low_bytes (unpacked packed) ≡ packed
  unfolding low_bytes unpacked tag_bytes
  low_bytes-unpacked =
      let to_2 = first_two packed are.len index_low count_low in
      let object = object_low (little_number 4 (drop 2 packed)) (little_from-lt 0 4 (drop 2 packed) (IsBytes-drop 2 packed are.each)) in
      let to_6 = joined 2 4 packed to_2 (object ∙ part 4 2 (omega arith)) in
      let to_10 = joined 6 4 packed to_6 (part 4 6 (omega arith)) in
      let to_15 = joined 10 5 packed to_10 (part 5 10 (omega arith)) in
      let to_20 = joined 15 5 packed to_15 (part 5 15 (omega arith)) in
      joined 20 4 packed to_20 (part 4 20 (omega arith)) ∙ take_all 24 packed (let len = are.len in omega (arith, len))

-- no two 24 bytes say the same tag
pub same_packed : (a b : List ℕ) → AreBytes 24 a → AreBytes 24 b → unpacked a ≡ unpacked b → a ≡ b
same_packed a b are_a are_b same = sym (low_bytes-unpacked a are_a) ∙ ap low_bytes same ∙ low_bytes-unpacked b are_b

-- where the low bytes say another tag, no bytes say this one
pub none_packed : (tag : List ℕ) → (unpacked (low_bytes tag) ≡ tag → ⊥) → (packed : List ℕ) → AreBytes 24 packed → unpacked packed ≡ tag → ⊥
none_packed tag other packed are is = other (ap unpacked (sym (ap low_bytes is) ∙ low_bytes-unpacked packed are) ∙ is)
