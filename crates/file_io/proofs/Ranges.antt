-- A range of a file, chunk by chunk.
use Rattle.std.specs.Prelude.{◌≡◌, ◌<◌, ◌≤◌, ℕ, suc, ◌+◌, ◌-◌, ◌*◌, ◌/◌, ◌^◌, ◌++◌, List, [], length, take, drop, min}
use Rattle.std.proofs.Common.{refl, sym, ◌∙◌, ap, subst, arith, append_assoc}
use Rattle.std.proofs.Math.Nat.{div-mul-le_self, lt-div-mul-add, mul-le-mul_right}
use Rattle.std.proofs.Math.Seq.{take-add}
use Rattle.std.proofs.lemmas.List.{ext_get_or, length-drop, length-take, length-take-le, drop-drop, take_min}
use Rattle.std.proofs.lemmas.Slice.{drop-put_mid}
use lib.Seq.{take_at, drop_at}
use Rattle.file_io.specs.Chunks.{chunks_over, overwritten}
use Rattle.file_io.specs.Parts.{part_from, part_to, part_of}

-- the chunk of the first byte is not past that of the last
pub chunks_order : (d off end : ℕ) → off < end → off / d ≤ (end - 1) / d + 1
chunks_order d off end some = grind arith

-- the chunks of a range that has bytes
pub chunks_of : (d off end n : ℕ) → off < end → n ≡ end - off → chunks_over d off n ≡ (end - 1) / d + 1 - off / d
chunks_of d off end n some is =
    let one : n ≡ suc (end - off - 1) = omega (arith, some, is) in
    let place : off + (end - off - 1) ≡ end - 1 = omega (arith, some) in
    ap (chunks_over d off) one ∙ ap (λ i. i / d - off / d + 1) place ∙ order
  where
    order : (end - 1) / d - off / d + 1 ≡ (end - 1) / d + 1 - off / d
    order = omega (arith, below)
      where
        below : off / d ≤ (end - 1) / d
        below = grind arith

-- a part, and what follows it
pub take_on : (off at next : ℕ) (all : List ℕ) → off ≤ at → at ≤ next → take (at - off) (drop off all) ++ take (next - at) (drop at all) ≡ take (next - off) (drop off all)
take_on off at next all low high =
    let sum : next - off ≡ at - off + (next - at) = omega (arith, low, high) in
    let place : off + (at - off) ≡ at = omega (arith, low) in
    ap (λ (xs : List ℕ). take (at - off) (drop off all) ++ take (next - at) xs) (sym (drop-drop (at - off) off all ∙ ap (λ n. drop n all) place))
    ∙ sym (take-add (at - off) (next - at) (drop off all)) ∙ ap (λ n. take n (drop off all)) (sym sum)

-- a buffer with bytes at its front, and past them what it had
abbrev pub with_front : List ℕ → List ℕ → List ℕ
with_front buffer bytes = bytes ++ drop (length bytes) buffer

-- a buffer with the bytes before a place at its front, and those up to a next one put behind them
over_next : (off at next : ℕ) (all buffer now new : List ℕ) → off ≤ at → at ≤ next → next ≤ length all → now ≡ with_front buffer (take (at - off) (drop off all))
    → new ≡ overwritten now (at - off) (take (next - at) (drop at all)) → new ≡ with_front buffer (take (next - off) (drop off all))
over_next off at next all buffer now new low high within_limit was adds =
    let i : ℕ = at - off in
    let k : ℕ = next - at in
    let first : List ℕ = take i (drop off all) in
    let more : List ℕ = take k (drop at all) in
    let both : List ℕ = take (next - off) (drop off all) in
    let len_first : length first ≡ i = length-take-le i (drop off all) (omega (arith, length-drop off all, low, high, within_limit)) in
    let len_more : length more ≡ k = length-take-le k (drop at all) (omega (arith, length-drop at all, high, within_limit)) in
    let len_both : length both ≡ next - off = length-take-le (next - off) (drop off all) (omega (arith, length-drop off all, low, high, within_limit)) in
    let front : take i now ≡ first = ap (take i) was ∙ take_at first (drop (length first) buffer) i len_first in
    let sum : length first + k ≡ length both = omega (arith, len_first, len_both, low, high) in
    let back : drop (i + length more) now ≡ drop (length both) buffer =
    ap (λ n. drop (i + n) now) len_more ∙ sym (drop-drop k i now) ∙ ap (λ xs. drop k (drop i xs)) was
    ∙ ap (drop k) (drop_at first (drop (length first) buffer) i len_first) ∙ drop-drop k (length first) buffer ∙ ap (λ n. drop n buffer) sum in
    adds
    ∙ ap (λ xs. xs ++ (more ++ drop (i + length more) now)) front
    ∙ ap (λ xs. first ++ (more ++ xs)) back
    ∙ sym (append_assoc first more (drop (length both) buffer))
    ∙ ap (λ xs. xs ++ drop (length both) buffer) (take_on off at next all low high)

-- past the bytes that were put a buffer stays
pub over_past : (at n : ℕ) (xs bytes : List ℕ) → at + length bytes ≤ n → at ≤ length xs → drop n (overwritten xs at bytes) ≡ drop n xs
over_past at n xs bytes past within =
    ap (λ ys. drop n (take at xs ++ (bytes ++ ys))) (sym (drop-drop (length bytes) at xs)) ∙ drop-put_mid at (length bytes) xs bytes n past within refl

-- the bytes of a page or of a hole were put at the place of their chunk
pub put_part : (d k off end from to at : ℕ) (all buffer new part : List ℕ) → to - from ≡ part_to d k end - part_from d k off → k * d + from ≡ part_from d k off → at ≡ part_from d k off - off
    → new ≡ overwritten buffer at part → part ≡ take (to - from) (drop (k * d + from) all) → new ≡ overwritten buffer (part_from d k off - off) (part_of d k off end all)
put_part d k off end from to at all buffer new part size place here put is =
    put ∙ ap (λ n. overwritten buffer n part) here
    ∙ ap (overwritten buffer (part_from d k off - off)) (is ∙ ap (λ n. take n (drop (k * d + from) all)) size ∙ ap (λ n. take (part_to d k end - part_from d k off) (drop n all)) place)

-- the bytes of the chunks before k, and those of chunk k
pub next_part : (d k next off end : ℕ) (all buffer now new : List ℕ) → next ≡ k + 1 → off < end → k * d < end → off < k * d + d → end ≤ length all
    → now ≡ with_front buffer (take (min end (k * d) - off) (drop off all)) → new ≡ overwritten now (part_from d k off - off) (part_of d k off end all)
    → new ≡ with_front buffer (take (min end (next * d) - off) (drop off all))
next_part d k next off end all buffer now new is some begins ends within was adds =
    let from : min end (k * d) - off ≡ part_from d k off - off = omega (arith, begins) in
    let whole : next * d ≡ k * d + d = ap (λ n. n * d) is ∙ omega arith in
    let to : part_to d k end ≡ min end (next * d) = omega (arith, whole) in
    subst (λ n. new ≡ with_front buffer (take (n - off) (drop off all))) to
    (over_next off (part_from d k off) (part_to d k end) all buffer now new (omega arith) (omega (arith, some, begins, ends)) (omega (arith, within))
    (was ∙ ap (λ n. with_front buffer (take n (drop off all))) from) adds)

-- a chunk up to that of the last byte begins before the end
pub begins_before : (d k end : ℕ) → 1 ≤ end → k < (end - 1) / d + 1 → k * d < end
begins_before d k end some up =
    let le : k * d ≤ (end - 1) / d * d = mul-le-mul_right d (omega (arith, up)) in
    omega (arith, le, div-mul-le_self (end - 1) d, some)

-- a chunk from that of the first byte on ends behind it
pub ends_behind : (d k off : ℕ) → 1 ≤ d → off / d ≤ k → off < k * d + d
ends_behind d k off some low =
    let le : off / d * d ≤ k * d = mul-le-mul_right d low in
    let in_it : off < off / d * d + d = lt-div-mul-add (omega (arith, some)) in
    omega (arith, le, in_it)

-- the chunks up to that of the last byte end behind it
pub ends_at : (d k end : ℕ) → 1 ≤ d → (end - 1) / d + 1 ≤ k → end ≤ k * d
ends_at d k end some up =
    let le : ((end - 1) / d + 1) * d ≤ k * d = mul-le-mul_right d up in
    let in_it : end - 1 < (end - 1) / d * d + d = lt-div-mul-add (omega (arith, some)) in
    omega (arith, le, in_it)

-- the end of a range that is cut to the file
pub range_end : (off count len end : ℕ) → end ≡ min len (min (off + count) (2 ^ 64 - 1)) → len < 2 ^ 64 → end ≡ min len (off + count)
range_end off count len end is small = omega (arith, is, small)

-- what is read where the range has no bytes
pub read_none : (off count end : ℕ) (all : List ℕ) → end ≡ min (length all) (off + count) → end ≤ off → [] ≡ take count (drop off all)
read_none off count end all is none =
    let len : length (take count (drop off all)) ≡ 0 = omega (arith, length-take count (drop off all), length-drop off all, is, none) in
    ext_get_or 0 _ _ (sym len) (λ i less. absurd (omega (arith, less)))

-- what is read of a range that has bytes
pub read_all : (off count end : ℕ) (all : List ℕ) → end ≡ min (length all) (off + count) → off < end → take (end - off) (drop off all) ≡ take count (drop off all)
read_all off count end all is some =
    let same : min (end - off) (length (drop off all)) ≡ min count (length (drop off all)) = omega (arith, length-drop off all, is, some) in
    sym (take_min (end - off) (drop off all)) ∙ ap (λ n. take n (drop off all)) same ∙ take_min count (drop off all)

-- no more is looked up than the chunks of the range
pub asked_for : (d size off count len end first got now : ℕ) → d ≡ size → end ≡ min len (off + count) → off < end → now ≤ first + got → got ≤ (end - 1) / d + 1 - off / d
    → now ≤ first + chunks_over size off (min count (len - off))
asked_for d size off count len end first got now same is some issued within_limit =
    subst (λ k. now ≤ first + chunks_over k off (min count (len - off))) same
    (omega (arith, issued, within_limit, chunks_of d off end (min count (len - off)) some (omega (arith, is, some))))
