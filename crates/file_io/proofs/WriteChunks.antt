-- Each chunk of a file after a write.
use Rattle.std.specs.Prelude.{◌≡◌, ◌⊎◌, ◌<◌, ◌≤◌, ℕ, ◌+◌, ◌-◌, ◌*◌, ◌/◌, ◌%◌, true, false, None, List, length}
use Rattle.std.proofs.Common.{sym, ◌∙◌, ap, subst, inl, inr, arith}
use Rattle.std.proofs.Math.Nat.{div-mul-le_self, mul-le-mul_right}
use Rattle.std.proofs.lemmas.Bool.{cases_lt, cases_eq, cases_Bool}
use Rattle.std.proofs.lemmas.Nat.{div-mul-add, mod-mul-add}
use Rattle.page_tags.specs.Headers.{IsHeader, is_present}
use Rattle.posix_profile.specs.Changes.{written, resized}
use Rattle.volume_terms.specs.Sizes.{Sizes}
use Rattle.pages.specs.Maps.{PageMap, with_pages}
use Rattle.pages.specs.State.{PagesState}
use Rattle.flash_tree.specs.declared.place.FreshPage.{FreshPage}
use Rattle.file_io.specs.Files.{FileIn}
use Rattle.file_io.specs.Chunks.{AreOf, HoldChunks, IsTail, IsAmong, IsWritten}
use Rattle.file_io.proofs.Becoming.{IsFresh, IsCommittedKey, IsGone}
use Rattle.file_io.proofs.ChunkPages.{begins_within}
use Rattle.file_io.proofs.Filling.{chunk_below}
use Rattle.file_io.proofs.PageLists.{page_of, none_of}
use Rattle.file_io.proofs.Ranges.{ends_at}
use Rattle.file_io.proofs.Written.{length-written, written_before, written_after, length-resized, resized_within}

-- a chunk is the tail or not
pub tail_or_not : (d len : ℕ) (bits : List ℕ) (before c : ℕ) → IsTail d len bits before c ⊎ (IsTail d len bits before c → ⊥)
tail_or_not d len bits before c = elim (cases_eq c (1 + len / d)) [
  | inr other ↦ inr (λ is. other is.chunk)
  | inl chunk ↦ elim (cases_eq (len % d) 0) [
    | inl full ↦ inr (λ is. omega (arith, full, is.partly))
    | inr partly ↦ elim (cases_lt (len / d) before) [
      | inr past ↦ inr (λ is. omega (arith, past, is.before))
      | inl less ↦ elim (cases_Bool (is_present bits c)) [
        | inl there ↦ inl (record { chunk = chunk; partly = omega (arith, partly); before = less; there = there })
        | inr absent ↦ inr (λ is. let two : true ≡ false = sym is.there ∙ absent in absurd cc)
      ]
    ]
  ]
]

-- a chunk is written or not
pub written_or_not : (d len : ℕ) (bits : List ℕ) (first n c : ℕ) → IsWritten d len bits first n c ⊎ (IsWritten d len bits first n c → ⊥)
written_or_not d len bits first n c = elim (tail_or_not d len bits first c) [
  | inl tail ↦ inl (inl tail)
  | inr no_tail ↦ elim (cases_lt first c) [
    | inr before ↦ inr (neither d len bits first n c no_tail (λ among. omega (arith, before, among.from)))
    | inl from ↦ elim (cases_lt n c) [
      | inl past ↦ inr (neither d len bits first n c no_tail (λ among. omega (arith, past, among.to)))
      | inr to ↦ inl (inr (record { from = from; to = to }))
    ]
  ]
]
  where
    neither : (d len : ℕ) (bits : List ℕ) (first n c : ℕ) → (IsTail d len bits first c → ⊥) → (IsAmong first n c → ⊥) → IsWritten d len bits first n c → ⊥
    neither d len bits first n c a b (inl tail) = a tail
    neither d len bits first n c a b (inr among) = b among

module _ (p : PagesState) (z : Sizes) (o before : ℕ) (all : List ℕ) (f : FileIn p z o before all) (d : ℕ) (size : d ≡ z.page_bytes) (some : 1 ≤ d)
    (len : ℕ) (len_is : len ≡ length all) (was : List ℕ) (was_is : was ≡ f.reads.fields.bits) where
  -- a chunk past the old end, before a place that the file grows to, is present only as the tail
  hole_at : (limit k j : ℕ) → j < d → length all ≤ k * d + j → k < limit → (IsTail d len was limit (1 + k) → ⊥) → is_present f.reads.fields.bits (1 + k) ≡ false
  hole_at limit k j less past low no_tail = elim (cases_Bool (is_present f.reads.fields.bits (1 + k))) [
    | inr absent ↦ absent
    | inl set ↦
        let within : k * d < length all = begins_within d f.reads.fields (length all) k some (subst (λ n. IsHeader n f.reads.fields) (sym size) f.reads.has.1) f.reads.kind f.reads.size set in
        let place : k * d + (len - k * d) ≡ len = omega (arith, within, len_is) in
        let short : len - k * d < d = omega (arith, past, less, len_is) in
        let at : len / d ≡ k = ap (λ n. n / d) (sym place) ∙ div-mul-add k d (len - k * d) short in
        let rest : len % d ≡ len - k * d = ap (λ n. n % d) (sym place) ∙ mod-mul-add k d (len - k * d) short in
        absurd (no_tail (record {
          chunk = omega (arith, at);
          partly = omega (arith, rest, within, len_is);
          before = omega (arith, at, low);
          there = ap (λ (xs : List ℕ). is_present xs (1 + k)) was_is ∙ set;
        }))
  ]

  module _ (off : ℕ) (bytes : List ℕ) (any : 1 ≤ length bytes) (IsOne : ℕ → Type 0) (pages : List FreshPage) (of : AreOf o IsOne pages)
      (into : (c : ℕ) → 1 ≤ c → IsOne c → IsWritten d len was (off / d) ((off + length bytes - 1) / d + 1) c)
      (onto : (c : ℕ) → IsWritten d len was (off / d) ((off + length bytes - 1) / d + 1) c → IsOne c)
      (hold : HoldChunks d (written all off bytes) pages) (bits : List ℕ)
      (marked : (k : ℕ) → off / d ≤ k → k < (off + length bytes - 1) / d + 1 → is_present bits (1 + k) ≡ true)
      (others : (k : ℕ) → (k < off / d) ⊎ ((off + length bytes - 1) / d + 1 ≤ k) → is_present bits (1 + k) ≡ is_present was (1 + k))
      (m : PageMap) (same : (c : ℕ) → m o c ≡ p.present o c) where
    set_bit : (k : ℕ) → IsWritten d len was (off / d) ((off + length bytes - 1) / d + 1) (1 + k) → is_present bits (1 + k) ≡ true
    set_bit k (inr among) = marked k (omega (arith, among.from)) (omega (arith, among.to))
    set_bit k (inl tail) = others k (inl (omega (arith, tail.chunk, tail.before))) ∙ tail.there

    outside : (k : ℕ) → (IsWritten d len was (off / d) ((off + length bytes - 1) / d + 1) (1 + k) → ⊥) → (k < off / d) ⊎ ((off + length bytes - 1) / d + 1 ≤ k)
    outside k none = elim (cases_lt k (off / d)) [
      | inl below ↦ inl below
      | inr from ↦ elim (cases_lt k ((off + length bytes - 1) / d + 1)) [
        | inl to ↦ absurd (none (inr (record { from = omega (arith, from); to = omega (arith, to) })))
        | inr past ↦ inr past
      ]
    ]

    committed : (k : ℕ) → (IsWritten d len was (off / d) ((off + length bytes - 1) / d + 1) (1 + k) → ⊥) → IsCommittedKey d o p.present (with_pages pages m) all (written all off bytes) f.reads.fields.bits bits k
    committed k none = record {
      page = none_of o IsOne pages of m (1 + k) (λ is. none (into (1 + k) (omega arith) is)) ∙ same (1 + k);
      set = others k (outside k none) ∙ ap (λ (xs : List ℕ). is_present xs (1 + k)) was_is;
      same = λ j less within. elim (outside k none) [
        | inl below ↦ written_before all off bytes (k * d + j) (omega (arith, chunk_below d k (off / d) below, less, div-mul-le_self off d))
        | inr past ↦ written_after all off bytes (k * d + j) (omega (arith, ends_at d k (off + length bytes) some past))
      ];
      hole = λ j less within past. elim (outside k none) [
        | inl below ↦ hole_at (off / d) k j less past below (λ tail. none (inl tail))
        | inr behind ↦ absurd (omega (arith, ends_at d k (off + length bytes) some behind, within, past, length-written all off bytes))
      ];
    }

    -- a chunk after the write
    pub write_chunks : (k : ℕ) → IsFresh d o (with_pages pages m) (written all off bytes) bits k
        ⊎ IsCommittedKey d o p.present (with_pages pages m) all (written all off bytes) f.reads.fields.bits bits k ⊎ IsGone d o (with_pages pages m) (written all off bytes) bits k
    write_chunks k = elim (written_or_not d len was (off / d) ((off + length bytes - 1) / d + 1) (1 + k)) [
      | inl is ↦
          let at = page_of o IsOne pages of m (1 + k) (onto (1 + k) is) in
          inl (record { set = set_bit k is; page = at.1.0.bytes.items; there = at.1.3; holds = hold at.0 k at.1.0 at.1.1 at.1.2 })
      | inr none ↦ inr (inl (committed k none))
    ]

  module _ (n limit whole : ℕ) (low : whole * d < n + d) (high : n ≤ whole * d) (grows : length all < n → limit ≡ whole) (cuts : n ≤ length all → limit ≡ 0)
      (IsOne : ℕ → Type 0) (pages : List FreshPage) (of : AreOf o IsOne pages)
      (into : (c : ℕ) → 1 ≤ c → IsOne c → IsTail d len was limit c) (onto : (c : ℕ) → IsTail d len was limit c → IsOne c)
      (hold : HoldChunks d (resized all n) pages) (bits : List ℕ) (others : (k : ℕ) → k < whole → is_present bits (1 + k) ≡ is_present was (1 + k))
      (m : PageMap) (same : (k : ℕ) → k < whole → m o (1 + k) ≡ p.present o (1 + k))
      (past : (k : ℕ) → whole ≤ k → ((m o (1 + k) ≡ p.present o (1 + k)) × (is_present bits (1 + k) ≡ is_present was (1 + k))) ⊎ ((IsTail d len was limit (1 + k) → ⊥) × (m o (1 + k) ≡ None) × (is_present bits (1 + k) ≡ false))) where
    tail_within : (k : ℕ) → IsTail d len was limit (1 + k) → k < whole
    tail_within k tail = elim (cases_lt (length all) n) [
      | inl more ↦ omega (arith, grows more, tail.chunk, tail.before)
      | inr less ↦ absurd (omega (arith, cuts less, tail.before))
    ]

    committed_within : (k : ℕ) → k < whole → (IsTail d len was limit (1 + k) → ⊥) → IsCommittedKey d o p.present (with_pages pages m) all (resized all n) f.reads.fields.bits bits k
    committed_within k within none = record {
      page = none_of o IsOne pages of m (1 + k) (λ is. none (into (1 + k) (omega arith) is)) ∙ same k within;
      set = others k within ∙ ap (λ (xs : List ℕ). is_present xs (1 + k)) was_is;
      same = λ j less low_enough. resized_within all n (k * d + j) (omega (arith, low_enough, length-resized all n));
      hole = λ j less low_enough behind.
          let more : length all < n = omega (arith, low_enough, behind, length-resized all n) in
          hole_at limit k j less behind (omega (arith, grows more, within)) none;
    }

    -- a chunk after the change of the length
    pub resize_chunks : (k : ℕ) → IsFresh d o (with_pages pages m) (resized all n) bits k
        ⊎ IsCommittedKey d o p.present (with_pages pages m) all (resized all n) f.reads.fields.bits bits k ⊎ IsGone d o (with_pages pages m) (resized all n) bits k
    resize_chunks k = elim (tail_or_not d len was limit (1 + k)) [
      | inl is ↦
          let at = page_of o IsOne pages of m (1 + k) (onto (1 + k) is) in
          inl (record { set = others k (tail_within k is) ∙ is.there; page = at.1.0.bytes.items; there = at.1.3; holds = hold at.0 k at.1.0 at.1.1 at.1.2 })
      | inr none ↦ elim (cases_lt k whole) [
        | inl within ↦ inr (inl (committed_within k within none))
        | inr behind ↦
            let end : n ≤ k * d = omega (arith, high, below behind) in
            elim (past k behind) [
              | inl stays ↦ inr (inl (record {
                page = none_of o IsOne pages of m (1 + k) (λ is. none (into (1 + k) (omega arith) is)) ∙ stays.0;
                set = stays.1 ∙ ap (λ (xs : List ℕ). is_present xs (1 + k)) was_is;
                same = λ j less low_enough. absurd (omega (arith, end, low_enough, length-resized all n));
                hole = λ j less low_enough behind. absurd (omega (arith, end, low_enough, length-resized all n));
              }))
              | inr goes ↦ inr (inr (record {
                page = none_of o IsOne pages of m (1 + k) (λ is. none (into (1 + k) (omega arith) is)) ∙ goes.1;
                unset = goes.2;
                past = omega (arith, end, length-resized all n);
              }))
            ]
      ]
    ]
      where
        below : whole ≤ k → whole * d ≤ k * d
        below le = mul-le-mul_right d le
