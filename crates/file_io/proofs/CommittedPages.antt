-- The pages that must be there for a part of a chunk to be committed.
use Rattle.std.specs.Prelude.{◌≡◌, ◌⊎◌, ◌<◌, ◌≤◌, ℕ, ◌+◌, ◌-◌, ◌*◌, ◌/◌, true, List, Some}
use Rattle.std.proofs.Common.{sym, subst, inl, inr, arith}
use Rattle.std.proofs.Math.Nat.{div-mul-le_self, lt-div-mul-add}
use Rattle.std.proofs.lemmas.Bool.{cases_lt}
use Rattle.std.proofs.lemmas.Nat.{le-div}
use Rattle.volume_terms.specs.laws.Rounding.{div_le}
use Rattle.page_tags.specs.Headers.{is_present}
use Rattle.pages.specs.Maps.{PageMap}
use Rattle.file_io.specs.Chunks.{IsSplit, IsPartLast, IsPartCommitted}
use Rattle.pages.specs.State.{PagesState, OnlyFinds}
use Rattle.file_io.specs.Files.{HasFileHeader, HasPages}
use Rattle.file_io.specs.Heads.{bits_in, SaysHead}
use Rattle.file_io.specs.declared.file_head.FileHead.{FileHead}

-- the chunk, numbered from 0, has a page where its bit is set
abbrev pub IsThere : PageMap → ℕ → List ℕ → ℕ → Type 0
IsThere m o bits k = is_present bits (1 + k) ≡ true → (page : List ℕ) × (m o (1 + k) ≡ Some page)

-- where the next one is there too
pub there_more : (m : PageMap) (o : ℕ) (bits : List ℕ) (IsOne : ℕ → Type 0) (first n : ℕ) → ((k : ℕ) → first ≤ k → k < n → IsOne k → IsThere m o bits k) → (IsOne n → IsThere m o bits n)
    → (k : ℕ) → first ≤ k → k < n + 1 → IsOne k → IsThere m o bits k
there_more m o bits IsOne first n before this k low less one = elim (cases_lt k n) [
  | inl under ↦ before k low under one
  | inr over ↦
      let same : n ≡ k = omega (arith, over, less) in
      subst (λ i. IsThere m o bits i) same (this (subst IsOne (sym same) one))
]

-- the chunk's page, where the chunk is in the count otherwise
at_chunk : (m : PageMap) (o : ℕ) (bits : List ℕ) (k c : ℕ) → c ≡ 1 + k → IsThere m o bits k → is_present bits c ≡ true → (page : List ℕ) × (m o c ≡ Some page)
at_chunk m o bits k c is there set =
    let p = there (subst (λ i. is_present bits i ≡ true) is set) in
    (p.0, subst (λ i. m o i ≡ Some p.0) (sym is) p.1)

module _ (m : PageMap) (o : ℕ) (bits : List ℕ) (d : ℕ) where
  -- a chunk that is split is written, and not whole
  split_written : (off n c : ℕ) → 1 ≤ d → (s : IsSplit d off (off + n) c) → (off / d ≤ s.inside.place / d) × (s.inside.place / d < (off + n - 1) / d + 1)
      × ((s.inside.place / d * d < off) ⊎ (off + n < s.inside.place / d * d + d))
  split_written off n c some s =
      let k : ℕ = s.inside.place / d in
      let same : s.place / d ≡ k = omega (arith, s.chunk, s.inside.chunk) in
      let low : k * d ≤ s.place = subst (λ i. i * d ≤ s.place) same (div-mul-le_self s.place d) in
      let in_it : s.place < s.place / d * d + d = lt-div-mul-add (omega (arith, some)) in
      let high : s.place < k * d + d = subst (λ i. s.place < i * d + d) same in_it in
      let first : off / d ≤ k = div_le off s.inside.place d s.inside.least in
      let up : k ≤ (off + n - 1) / d = div_le s.inside.place (off + n - 1) d (omega (arith, s.inside.most)) in (
        first,
        omega (arith, up),
        elim s.outside [
          | inl before ↦ inl (omega (arith, low, before))
          | inr behind ↦ inr (omega (arith, high, behind))
        ],
      )

  -- the pages of the chunks of which a write keeps a part
  pub committed_pages : (len off n : ℕ) → 1 ≤ d → ((k : ℕ) → off / d ≤ k → k < (off + n - 1) / d + 1 → (k * d < off) ⊎ (off + n < k * d + d) → IsThere m o bits k)
      → (len / d < off / d → HasPages m o bits (IsPartLast d len)) → HasPages m o bits (IsPartCommitted d len off n)
  committed_pages len off n some there tail c (inl s) set =
      let w = split_written off n c some s in
      at_chunk m o bits (s.inside.place / d) c s.inside.chunk (there (s.inside.place / d) w.0 w.1 w.2) set
  committed_pages len off n some there tail c (inr (any, past, last)) set = elim (cases_lt (len / d) (off / d)) [
    | inl before ↦ tail before c last set
    | inr after ↦
        let le : len / d ≤ off / d = div_le len off d (omega (arith, past)) in
        let up : off / d ≤ (off + n - 1) / d = div_le off (off + n - 1) d (omega (arith, any)) in
        at_chunk m o bits (len / d) c last.chunk (there (len / d) after (omega (arith, le, up)) (inl (omega (arith, div-mul-le_self len d, past)))) set
  ]

  -- a write of no bytes keeps no part
  pub committed_none : (len off n : ℕ) → n ≡ 0 → HasPages m o bits (IsPartCommitted d len off n)
  committed_none len off n none c (inl s) set = absurd (omega (arith, s.inside.least, s.inside.most, none))
  committed_none len off n none c (inr (any, past, last)) set = absurd (omega (arith, any, none))

-- a file that grows has its last byte before the new end's chunk
pub grows_past : (d old len : ℕ) → 1 ≤ d → old < len → old / d < (len + d - 1) / d
grows_past d old len some more =
    let le = le-div (old / d + 1) (len + d - 1) d some (omega (arith, div-mul-le_self old d, more, some)) in
    omega (arith, le)

-- what was found after the header was read was there before, by the header
module _ (p q : PagesState) (lookups : OnlyFinds p q) (o : ℕ) (head : FileHead) (s : SaysHead p o head) where
  abbrev at_entry : (IsOne : ℕ → ℕ → ℕ → Type 0) → HasPages q.present o (bits_in head) (IsOne q.page_bytes head.length) → HasPages p.present o s.0.fields.bits (IsOne p.page_bytes s.0.fields.length)
  at_entry IsOne is =
      subst (λ (m : PageMap). HasPages m o s.0.fields.bits (IsOne p.page_bytes s.0.fields.length)) lookups.present
      (subst (λ d. HasPages q.present o s.0.fields.bits (IsOne d s.0.fields.length)) lookups.page_bytes
      (subst (λ n. HasPages q.present o s.0.fields.bits (IsOne q.page_bytes n)) s.1.length_is
      (subst (λ (xs : List ℕ). HasPages q.present o xs (IsOne q.page_bytes head.length)) s.1.bits is)))

  pub committed_at_entry : (off n : ℕ) → HasPages q.present o (bits_in head) (IsPartCommitted q.page_bytes head.length off n) → (h : HasFileHeader p o) × HasPages p.present o h.fields.bits (IsPartCommitted p.page_bytes h.fields.length off n)
  committed_at_entry off n is = (s.0, at_entry (λ d len. IsPartCommitted d len off n) is)

  pub last_at_entry : HasPages q.present o (bits_in head) (IsPartLast q.page_bytes head.length) → HasPages p.present o s.0.fields.bits (IsPartLast p.page_bytes s.0.fields.length)
  last_at_entry is = at_entry (λ d len. IsPartLast d len) is
