-- Bytes are one slot or none.
use Rattle.std.proofs.Common.{◌≡◌, ◌≢◌, ◌<◌, ◌≤◌, ℕ, ◌+◌, ◌-◌, ◌^◌, List, ◌++◌, length, take, drop, replicate, refl, sym, ap, ap₂, ◌∙◌, inl, inr, ◌⊎◌, subst, take_at, drop_at, take-append-drop, length-take, length-drop, EachIndex, get_or, arith}
use Rattle.std.proofs.Math.Seq.{drop-drop}
use Rattle.std.proofs.lemmas.Bool.{cases_lt}
use Rattle.volume_terms.specs.Sizes.{slot_length}
use Rattle.byteorder.specs.Endian.{little_bytes, little_number}
use Rattle.byteorder.specs.Numbers.{little_number-reads_back, little_from-lt}
use Rattle.page_tags.specs.Headers.{IsBytes}
use Rattle.volume_terms.specs.Names.{IsName}
use Rattle.page_tags.specs.Slots.{Entry, IsSlot, slot_bytes}
use Rattle.page_tags.specs.laws.Byte.{joined, little_bytes_at, little_bytes-little_number, bytes_or_not, zeros_from_each, each_from_zeros}
use Rattle.volume_terms.specs.laws.List.{same_or_not}
use Rattle.volume_terms.specs.laws.Name.{are_bytes, each_byte, name_or_not}

-- the length of the name that is in the bytes
abbrev pub name_length_in : List ℕ → ℕ
name_length_in bytes = little_number 2 (drop 8 bytes)

-- what the bytes say, if they are a slot
abbrev pub slot_in : List ℕ → Entry
slot_in bytes = record { object = little_number 8 bytes; name = take (name_length_in bytes) (drop 10 bytes) }

module _ (s : Entry) (h : IsSlot s) where
  pub object_at : little_number 8 (slot_bytes s) ≡ s.object
  unfolding slot_bytes
  object_at = little_number-reads_back 8 s.object (little_bytes 2 (length s.name) ++ (s.name ++ replicate (262 - length s.name) 0)) (omega (arith, h.object))

  pub name_length_at : name_length_in (slot_bytes s) ≡ length s.name
  unfolding slot_bytes
  name_length_at = little_number-reads_back 2 (length s.name) (s.name ++ replicate (262 - length s.name) 0) (omega (arith, h.name.within_limit))

  after_numbers : drop 10 (slot_bytes s) ≡ s.name ++ replicate (262 - length s.name) 0
  unfolding slot_bytes
  after_numbers = refl

  pub name_at : take (length s.name) (drop 10 (slot_bytes s)) ≡ s.name
  name_at = ap (take (length s.name)) after_numbers ∙ take_at s.name (replicate (262 - length s.name) 0) (length s.name) refl

  pub zeros_at : drop (length s.name) (drop 10 (slot_bytes s)) ≡ replicate (262 - length s.name) 0
  zeros_at = ap (drop (length s.name)) after_numbers ∙ drop_at s.name (replicate (262 - length s.name) 0) (length s.name) refl

  -- a slot is what its bytes say
  pub slot_in-slot_bytes : slot_in (slot_bytes s) ≡ s
  slot_in-slot_bytes =
      let name : (slot_in (slot_bytes s)).name ≡ s.name = ap (λ n. take n (drop 10 (slot_bytes s))) name_length_at ∙ name_at in
      λ i. record { object = object_at i; name = name i }

-- no two slots have the same bytes
pub same_slot : (s t : Entry) → IsSlot s → IsSlot t → slot_bytes s ≡ slot_bytes t → s ≡ t
same_slot s t h k e = sym (slot_in-slot_bytes s h) ∙ ap slot_in e ∙ slot_in-slot_bytes t k

-- the zeros after a name of n bytes are what is there
zeros_behind : (bytes name : List ℕ) (n : ℕ) → length name ≡ n → drop n (drop 10 bytes) ≡ replicate (262 - n) 0 → replicate (262 - length name) 0 ≡ drop (10 + n) bytes
zeros_behind bytes name n len zeros = ap (λ k. replicate (262 - k) 0) len ∙ sym zeros ∙ drop-drop n 10 bytes

-- bytes of the right length with zeros after the name are those of what they say
pub slot_bytes-slot_in :
    (bytes : List ℕ) → length bytes ≡ slot_length → IsBytes bytes → name_length_in bytes ≤ 255
    → drop (name_length_in bytes) (drop 10 bytes) ≡ replicate (262 - name_length_in bytes) 0 → slot_bytes (slot_in bytes) ≡ bytes
unfolding slot_bytes
slot_bytes-slot_in bytes size each within_limit zeros =
    let n : ℕ = name_length_in bytes in
    let len : length (take n (drop 10 bytes)) ≡ n = omega (arith, length-take n (drop 10 bytes), length-drop 10 bytes) in
    let object : little_bytes 8 (little_number 8 bytes) ≡ take 8 bytes = little_bytes-little_number 8 bytes (omega arith) each in
    let name_length : little_bytes 2 (length (take n (drop 10 bytes))) ≡ take 2 (drop 8 bytes) = ap (little_bytes 2) len ∙ little_bytes_at 2 8 bytes (omega arith) each in
    let to_10 = joined 8 2 bytes object name_length in
    let to_name = joined 10 n bytes {back = take n (drop 10 bytes)} to_10 refl in
    let rest = zeros_behind bytes (take n (drop 10 bytes)) n len zeros in
    ap₂ ◌++◌ to_name rest ∙ take-append-drop (10 + n) bytes

slot_or_not : (s : Entry) → IsSlot s ⊎ (IsSlot s → ⊥)
slot_or_not s = elim (cases_lt s.object 2) [
  | inl reserved ↦ inr (λ h. omega (arith, h.object))
  | inr named ↦ elim (cases_lt s.object (2 ^ 64)) [
    | inr large ↦ inr (λ h. omega (arith, h.object))
    | inl small ↦ elim (bytes_or_not s.name) [
      | inr no_bytes ↦ inr (λ h. no_bytes (each_byte s.name h.name.bytes))
      | inl bytes ↦ elim (name_or_not s.name (are_bytes s.name bytes)) [
        | inr no_name ↦ inr (λ h. no_name h.name)
        | inl name ↦ inl (record { object = (named, small); name = name })
      ]
    ]
  ]
]

-- bytes that say no slot are none
pub not_a_slot : (bytes : List ℕ) → (IsSlot (slot_in bytes) → bytes ≡ slot_bytes (slot_in bytes) → ⊥) → (s : Entry) → IsSlot s → bytes ≢ slot_bytes s
not_a_slot bytes none s h e =
    let said : slot_in bytes ≡ s = ap slot_in e ∙ slot_in-slot_bytes s h in
    none (subst IsSlot (sym said) h) (e ∙ ap slot_bytes (sym said))

pub slot_or_none : (bytes : List ℕ) → ((s : Entry) × IsSlot s × (bytes ≡ slot_bytes s)) ⊎ ((s : Entry) → IsSlot s → bytes ≢ slot_bytes s)
slot_or_none bytes = elim (slot_or_not (slot_in bytes)) [
  | inr none ↦ inr (not_a_slot bytes (λ h _. none h))
  | inl valid ↦ elim (same_or_not bytes (slot_bytes (slot_in bytes))) [
    | inl same ↦ inl (slot_in bytes, valid, same)
    | inr other ↦ inr (not_a_slot bytes (λ _ e. other e))
  ]
]

-- ---- why bytes are no slot, and when they are one

module _ (bytes : List ℕ) where
  slot_said : (s : Entry) → IsSlot s → bytes ≡ slot_bytes s → slot_in bytes ≡ s
  slot_said s h e = ap slot_in e ∙ slot_in-slot_bytes s h

  pub no_slot_by_object : little_number 8 bytes < 2 → (s : Entry) → IsSlot s → bytes ≢ slot_bytes s
  no_slot_by_object reserved s h e = let object : little_number 8 bytes ≡ s.object = ap (λ (t : Entry). t.object) (slot_said s h e) in omega (arith, h.object)

  pub no_slot_by_length : 255 < name_length_in bytes → (s : Entry) → IsSlot s → bytes ≢ slot_bytes s
  no_slot_by_length many s h e = let len : name_length_in bytes ≡ length s.name = ap name_length_in e ∙ name_length_at s h in omega (arith, h.name.within_limit)

  pub no_slot_by_name : (name : List ℕ) → name ≡ take (name_length_in bytes) (drop 10 bytes) → ¬ IsName name → (s : Entry) → IsSlot s → bytes ≢ slot_bytes s
  no_slot_by_name name is none s h e = none (subst IsName (sym (is ∙ ap (λ (t : Entry). t.name) (slot_said s h e))) h.name)

  pub no_slot_by_rest : (rest : List ℕ) → rest ≡ drop (name_length_in bytes) (drop 10 bytes) → ¬ EachIndex rest (λ i. get_or rest i 0 ≡ 0) → (s : Entry) → IsSlot s → bytes ≢ slot_bytes s
  no_slot_by_rest rest is some s h e =
      let len : name_length_in bytes ≡ length s.name = ap name_length_in e ∙ name_length_at s h in
      let zeros : rest ≡ replicate (262 - length s.name) 0 = is ∙ ap₂ (λ n bs. drop n (drop 10 bs)) len e ∙ zeros_at s h in
      some (each_from_zeros rest (262 - length s.name) zeros)

  pub slot_from_parts :
      length bytes ≡ slot_length → IsBytes bytes → 2 ≤ little_number 8 bytes → name_length_in bytes ≤ 255
      → (name rest : List ℕ) → name ≡ take (name_length_in bytes) (drop 10 bytes) → rest ≡ drop (name_length_in bytes) (drop 10 bytes)
      → IsName name → EachIndex rest (λ i. get_or rest i 0 ≡ 0)
      → (s : Entry) → s.object ≡ little_number 8 bytes → s.name ≡ name → IsSlot s × (bytes ≡ slot_bytes s)
  slot_from_parts size each named within_limit name rest name_is rest_is is_name zeros s object_is said =
      let n : ℕ = name_length_in bytes in
      let rest_len : length rest ≡ 262 - n = ap length rest_is ∙ omega (arith, length-drop n (drop 10 bytes), length-drop 10 bytes) in
      let rest_zeros : drop n (drop 10 bytes) ≡ replicate (262 - n) 0 = sym rest_is ∙ zeros_from_each rest (262 - n) rest_len zeros in
      let name_here : s.name ≡ take n (drop 10 bytes) = said ∙ name_is in
      let same : slot_in bytes ≡ s = λ i. record { object = sym object_is i; name = sym name_here i } in
      let valid : IsSlot (slot_in bytes) = record {
        object = (named, little_from-lt 0 8 bytes each);
        name = subst IsName name_is is_name;
      } in
      (subst IsSlot same valid, sym (slot_bytes-slot_in bytes size each within_limit rest_zeros) ∙ ap slot_bytes same)
