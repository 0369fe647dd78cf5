-- The pages of a write, one after the other.
use Rattle.std.specs.Prelude.{◌≡◌, ◌⊎◌, ◌<◌, ◌≤◌, ℕ, ◌+◌, ◌-◌, ◌*◌, ◌/◌, ◌%◌, min, List}
use Rattle.std.proofs.Common.{sym, ◌∙◌, ap, inl, inr, arith}
use Rattle.std.proofs.Math.Nat.{div-add-mod', lt-div-mul-add, div-mul-le_self, mul-le-mul_right}
use Rattle.std.proofs.lemmas.Bool.{cases_lt}
use Rattle.std.proofs.lemmas.Nat.{div-mul-add, mod-mul-add}
use Rattle.volume_terms.specs.laws.Rounding.{div_le}
use Rattle.posix_profile.specs.Changes.{written}
use Rattle.flash_tree.specs.declared.place.FreshPage.{FreshPage}
use Rattle.file_io.specs.Chunks.{AreOf, HoldChunks, IsTail, IsWritten}
use Rattle.file_io.proofs.Ranges.{begins_before}
use Rattle.file_io.proofs.Written.{written_before}

-- chunks before one begin before it
pub chunk_below : (d k n : ℕ) → k < n → k * d + d ≤ n * d
chunk_below d k n less = let le : (k + 1) * d ≤ n * d = mul-le-mul_right d (omega (arith, less)) in omega (arith, le)

-- what the tail held, it holds of the file with the bytes written behind it
pub tail_before : (o d len : ℕ) (bits : List ℕ) (off : ℕ) (bytes all : List ℕ) (pages : List FreshPage) → AreOf o (IsTail d len bits (off / d)) pages → HoldChunks d all pages → HoldChunks d (written all off bytes) pages
tail_before o d len bits off bytes all pages of hold i k p is chunk =
    let tail = (of.each i p is).1 in
    let was = hold i k p is chunk in
    let at : k ≡ len / d = omega (arith, chunk, tail.chunk) in
    let up : k * d + d ≤ off / d * d = chunk_below d k (off / d) (omega (arith, at, tail.before)) in
    record {
      size = was.size;
      each = λ j less. was.each j less ∙ sym (written_before all off bytes (k * d + j) (omega (arith, up, less, div-mul-le_self off d)));
    }

-- before the first chunk only the tail is written
pub among_none : (d len : ℕ) (bits : List ℕ) (first c : ℕ) → IsWritten d len bits first first c → IsTail d len bits first c
among_none d len bits first c (inl tail) = tail
among_none d len bits first c (inr among) = absurd (omega (arith, among.from, among.to))

-- with one chunk more
pub among_more : (d len : ℕ) (bits : List ℕ) (first n c : ℕ) → IsWritten d len bits first n c → IsWritten d len bits first (n + 1) c
among_more d len bits first n c (inl tail) = inl tail
among_more d len bits first n c (inr among) = inr (record { from = among.from; to = omega (arith, among.to) })

pub among_this : (d len : ℕ) (bits : List ℕ) (first n c : ℕ) → first ≤ n → c ≡ 1 + n → IsWritten d len bits first (n + 1) c
among_this d len bits first n c low is = inr (record { from = omega (arith, low, is); to = omega (arith, is) })

pub among_only : (d len : ℕ) (bits : List ℕ) (first n c q : ℕ) → q ≡ 1 + n → IsWritten d len bits first (n + 1) c → IsWritten d len bits first n c ⊎ (c ≡ q)
among_only d len bits first n c q is (inl tail) = inl (inl tail)
among_only d len bits first n c q is (inr among) = elim (cases_lt n c) [
  | inl past ↦ inr (omega (arith, past, among.to, is))
  | inr within ↦ inl (inr (record { from = among.from; to = within }))
]

-- the next chunk is not among those before
pub among_fresh : (d len : ℕ) (bits : List ℕ) (first n c : ℕ) → first ≤ n → c ≡ 1 + n → IsWritten d len bits first n c → ⊥
among_fresh d len bits first n c low is (inl tail) = omega (arith, low, is, tail.chunk, tail.before)
among_fresh d len bits first n c low is (inr among) = omega (arith, is, among.to)

-- no header is among them
pub among_chunks : (d len : ℕ) (bits : List ℕ) (first n c : ℕ) → c ≡ 0 → IsWritten d len bits first n c → ⊥
among_chunks d len bits first n c is (inl tail) = omega (arith, is, tail.chunk)
among_chunks d len bits first n c is (inr among) = omega (arith, is, among.from)

-- how many pages were looked up before the first chunk
pub asked_tail : (d off len old got : ℕ) → got ≤ old + 1 → (off / d ≤ len / d → got ≡ old) → got ≤ old + min 1 (off - len)
asked_tail d off len old got most none = elim (cases_lt len off) [
  | inl past ↦ omega (arith, most, past)
  | inr within ↦ let same : got ≡ old = none (div_le off len d within) in omega (arith, same)
]

-- a chunk of which a part stays is the first or the last
pub asked_more : (d off n k old was got : ℕ) → 1 ≤ d → 1 ≤ n → off / d ≤ k → k < (off + n - 1) / d + 1 → got ≤ was + 1 → (off ≤ k * d → k * d + d ≤ off + n → got ≡ was)
    → was ≤ old + min (min 1 (off % d)) (k - off / d) + min (min 1 ((off + n) % d)) (k - ((off + n - 1) / d + 1 - 1))
    → got ≤ old + min (min 1 (off % d)) (k + 1 - off / d) + min (min 1 ((off + n) % d)) (k + 1 - ((off + n - 1) / d + 1 - 1))
asked_more d off n k old was got some bytes low high most none before = elim (cases_lt (k * d) off) [
  | inl less ↦
      let first : k ≡ off / d = elim (cases_lt (off / d) k) [
        | inl past ↦ absurd (omega (arith, chunk_below d (off / d) k past, off_less, less))
        | inr not_past ↦ omega (arith, low, not_past)
      ] in
      let partly : 1 ≤ off % d = (let whole : k * d ≡ off / d * d = ap (λ x. x * d) first in omega (arith, div-add-mod' off d, whole, less)) in
      omega (arith, most, before, first, partly)
  | inr at ↦ elim (cases_lt (off + n) (k * d + d)) [
    | inr whole ↦ let same : got ≡ was = none at whole in omega (arith, same, before)
    | inl less ↦
        let begins : k * d < off + n = begins_before d k (off + n) (omega (arith, bytes)) high in
        let place : k * d + (off + n - k * d) ≡ off + n = omega (arith, begins) in
        let partly : (off + n) % d ≡ off + n - k * d = ap (λ x. x % d) (sym place) ∙ mod-mul-add k d (off + n - k * d) (omega (arith, less, begins)) in
        let place' : k * d + (off + n - 1 - k * d) ≡ off + n - 1 = omega (arith, begins) in
        let last : (off + n - 1) / d ≡ k = ap (λ x. x / d) (sym place') ∙ div-mul-add k d (off + n - 1 - k * d) (omega (arith, less, begins)) in
        omega (arith, most, before, partly, last, begins)
  ]
]
  where
    off_less : off < off / d * d + d
    off_less = lt-div-mul-add (omega (arith, some))
