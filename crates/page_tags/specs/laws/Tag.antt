-- The numbers that are in the bytes of a tag.
use Rattle.std.proofs.Common.{◌≡◌, ◌≢◌, ◌<◌, ◌≤◌, ◌⊎◌, inl, inr, ℕ, ◌+◌, ◌^◌, List, [], ◌++◌, length, drop, sym, ap, ◌∙◌, subst, take_all, arith}
use Rattle.std.proofs.lemmas.Bool.{cases_lt}
use Rattle.byteorder.specs.Endian.{little_bytes, little_number}
use Rattle.byteorder.specs.Numbers.{little_number-reads_back}
use Rattle.page_tags.specs.declared.tag.Tag.{Tag}
use Rattle.page_tags.specs.Headers.{IsBytes}
use Rattle.page_tags.specs.Tags.{tag_bytes, tag_in, IsTag}
use Rattle.page_tags.specs.laws.Byte.{joined, little_bytes-little_number, little_bytes_at}
use Rattle.volume_terms.specs.laws.List.{same_or_not}

module _ (t : Tag) (h : IsTag t) where
  -- the bytes from the seq on, from the group on, and so up to those from the object on
  abbrev s5 : List ℕ
  s5 = little_bytes 8 t.seq

  abbrev s4 : List ℕ
  s4 = little_bytes 8 t.group ++ s5

  abbrev s3 : List ℕ
  s3 = little_bytes 8 t.version ++ s4

  abbrev s2 : List ℕ
  s2 = little_bytes 8 t.chunk ++ s3

  abbrev s1 : List ℕ
  s1 = little_bytes 8 t.object ++ s2

  pub index_at : little_number 4 (tag_bytes t) ≡ t.index
  unfolding tag_bytes
  index_at = little_number-reads_back 4 t.index (little_bytes 4 t.count ++ s1) (omega (arith, h.count, h.index))

  pub count_at : little_number 4 (drop 4 (tag_bytes t)) ≡ t.count
  unfolding tag_bytes
  count_at = little_number-reads_back 4 t.count s1 (omega (arith, h.count))

  pub object_at : little_number 8 (drop 8 (tag_bytes t)) ≡ t.object
  unfolding tag_bytes
  object_at = little_number-reads_back 8 t.object s2 (omega (arith, h.object))

  pub chunk_at : little_number 8 (drop 16 (tag_bytes t)) ≡ t.chunk
  unfolding tag_bytes
  chunk_at = little_number-reads_back 8 t.chunk s3 (omega (arith, h.chunk))

  pub version_at : little_number 8 (drop 24 (tag_bytes t)) ≡ t.version
  unfolding tag_bytes
  version_at = little_number-reads_back 8 t.version s4 (omega (arith, h.version, h.group))

  pub group_at : little_number 8 (drop 32 (tag_bytes t)) ≡ t.group
  unfolding tag_bytes
  group_at = little_number-reads_back 8 t.group s5 (omega (arith, h.group))

  pub seq_at : little_number 8 (drop 40 (tag_bytes t)) ≡ t.seq
  unfolding tag_bytes
  seq_at = little_number-reads_back 8 t.seq [] (omega (arith, h.seq))

-- a tag is what its bytes say
pub tag_in-tag_bytes : (t : Tag) → IsTag t → tag_in (tag_bytes t) ≡ t
tag_in-tag_bytes t h =
    λ i. record {
      index = index_at t h i;
      count = count_at t h i;
      object = object_at t h i;
      chunk = chunk_at t h i;
      version = version_at t h i;
      group = group_at t h i;
      seq = seq_at t h i;
    }

-- no two tags have the same bytes
pub same_tag : (t u : Tag) → IsTag t → IsTag u → tag_bytes t ≡ tag_bytes u → t ≡ u
same_tag t u h k e = sym (tag_in-tag_bytes t h) ∙ ap tag_in e ∙ tag_in-tag_bytes u k

-- 48 bytes are those of what they say
pub tag_bytes-tag_in : (bytes : List ℕ) → length bytes ≡ 48 → IsBytes bytes → tag_bytes (tag_in bytes) ≡ bytes
unfolding tag_bytes
tag_bytes-tag_in bytes size each =
    let to_4 = little_bytes-little_number 4 bytes (omega arith) each in
    let to_8 = joined 4 4 bytes to_4 (little_bytes_at 4 4 bytes (omega arith) each) in
    let to_16 = joined 8 8 bytes to_8 (little_bytes_at 8 8 bytes (omega arith) each) in
    let to_24 = joined 16 8 bytes to_16 (little_bytes_at 8 16 bytes (omega arith) each) in
    let to_32 = joined 24 8 bytes to_24 (little_bytes_at 8 24 bytes (omega arith) each) in
    let to_40 = joined 32 8 bytes to_32 (little_bytes_at 8 32 bytes (omega arith) each) in
    joined 40 8 bytes to_40 (little_bytes_at 8 40 bytes (omega arith) each) ∙ take_all 48 bytes (omega arith)

range_or_not : (n low high : ℕ) → ((low ≤ n) × (n < high)) ⊎ ((low ≤ n) × (n < high) → ⊥)
range_or_not n low high = elim (cases_lt n low) [
  | inl below ↦ inr (λ h. omega (arith, h.0))
  | inr from ↦ elim (cases_lt n high) [
    | inl to ↦ inl (from, to)
    | inr above ↦ inr (λ h. omega (arith, h.1))
  ]
]

tag_or_not : (t : Tag) → IsTag t ⊎ (IsTag t → ⊥)
tag_or_not t = elim (range_or_not t.count 1 257) [
  | inr out ↦ inr (λ h. out (h.count.0, omega (arith, h.count)))
  | inl count ↦ elim (cases_lt t.index t.count) [
    | inr out ↦ inr (λ h. omega (arith, h.index))
    | inl index ↦ elim (range_or_not t.object 1 (2 ^ 64)) [
      | inr out ↦ inr (λ h. out h.object)
      | inl object ↦ elim (cases_lt t.chunk (2 ^ 64)) [
        | inr out ↦ inr (λ h. omega (arith, h.chunk))
        | inl chunk ↦ elim (range_or_not t.version 1 (t.group + 1)) [
          | inr out ↦ inr (λ h. out (h.version.0, omega (arith, h.version)))
          | inl version ↦ elim (cases_lt t.group (2 ^ 64)) [
            | inr out ↦ inr (λ h. omega (arith, h.group))
            | inl group ↦ elim (range_or_not t.seq 1 (2 ^ 64)) [
              | inr out ↦ inr (λ h. out h.seq)
              | inl seq ↦ inl (record { count = (count.0, omega (arith, count.1)); index = index; object = object; chunk = chunk; version = (version.0, omega (arith, version.1)); group = group; seq = seq })
            ]
          ]
        ]
      ]
    ]
  ]
]

-- bytes that say no tag are none
pub not_a_tag : (bytes : List ℕ) → (IsTag (tag_in bytes) → bytes ≡ tag_bytes (tag_in bytes) → ⊥) → (t : Tag) → IsTag t → bytes ≢ tag_bytes t
not_a_tag bytes none t h e =
    let said : tag_in bytes ≡ t = ap tag_in e ∙ tag_in-tag_bytes t h in
    none (subst IsTag (sym said) h) (e ∙ ap tag_bytes (sym said))

pub tag_or_none : (bytes : List ℕ) → ((t : Tag) × IsTag t × (bytes ≡ tag_bytes t)) ⊎ ((t : Tag) → IsTag t → bytes ≢ tag_bytes t)
tag_or_none bytes = elim (tag_or_not (tag_in bytes)) [
  | inr none ↦ inr (not_a_tag bytes (λ h _. none h))
  | inl valid ↦ elim (same_or_not bytes (tag_bytes (tag_in bytes))) [
    | inl same ↦ inl (tag_in bytes, valid, same)
    | inr other ↦ inr (not_a_tag bytes (λ _ e. other e))
  ]
]
