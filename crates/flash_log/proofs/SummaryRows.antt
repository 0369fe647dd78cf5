-- The bytes of a block summary, part by part.
use Rattle.std.proofs.Common.{◌≡◌, ℕ, zero, suc, ◌+◌, ◌-◌, ◌*◌, ◌/◌, ◌≤◌, List, [], ◌∷◌, ◌++◌, length, take, drop, replicate, Some, None, sym, ap, ap₂, ◌∙◌, arith, append_assoc, take_at, drop_at, take-add, drop-drop, mul_left_comm}
use Rattle.std.specs.Prelude.{flat_map, slice_get}
use Rattle.std.proofs.lemmas.List.{take-replicate, drop-replicate}
use Rattle.std.proofs.lemmas.Slice.{take-put_mid}
use borrow.Rule.Slice.PartMut.{put_mid}
use Rattle.page_tags.specs.Checks.{check_entry_bytes}
use Rattle.page_tags.specs.Summaries.{head_bytes, summary_bytes}
use Rattle.page_tags.specs.declared.check.CheckEntry.{CheckEntry}
use Rattle.page_tags.specs.declared.summary_head.SummaryHead.{SummaryHead}
use Rattle.flash_log.proofs.CheckpointRows.{length-put_mid}

length-head : (h : SummaryHead) → length (head_bytes h) ≡ 32
unfolding head_bytes
length-head h = omega arith

length-entry : (e : CheckEntry) → length (check_entry_bytes e) ≡ 32
unfolding check_entry_bytes
length-entry e = omega arith

-- one part less in front
one_less : (k : ℕ) (front rest : List ℕ) → length front ≡ 32 → take 32 (drop (32 * suc k) (front ++ rest)) ≡ take 32 (drop (32 * k) rest)
one_less k front rest size =
    let at : 32 * suc k ≡ 32 + 32 * k = omega arith in
    ap (λ n. take 32 (drop n (front ++ rest))) at ∙ ap (take 32) (sym (drop-drop (32 * k) 32 (front ++ rest))) ∙ ap (λ bytes. take 32 (drop (32 * k) bytes)) (drop_at front rest 32 size)

-- a part of a row of entries
entry_part : (es : List CheckEntry) (rest : List ℕ) (k : ℕ) (e : CheckEntry) → slice_get es k ≡ Some e → take 32 (drop (32 * k) (flat_map check_entry_bytes es ++ rest)) ≡ check_entry_bytes e
entry_part [] rest k e is = absurd cc
entry_part (x ∷ xs) rest zero e is =
    let same : x ≡ e = cc in
    ap (take 32) (append_assoc (check_entry_bytes x) (flat_map check_entry_bytes xs) rest) ∙ take_at (check_entry_bytes x) (flat_map check_entry_bytes xs ++ rest) 32 (length-entry x) ∙ ap check_entry_bytes same
entry_part (x ∷ xs) rest (suc k) e is =
    ap (λ bytes. take 32 (drop (32 * suc k) bytes)) (append_assoc (check_entry_bytes x) (flat_map check_entry_bytes xs) rest)
    ∙ one_less k (check_entry_bytes x) (flat_map check_entry_bytes xs ++ rest) (length-entry x) ∙ entry_part xs rest k e is

-- and one behind it
zero_part : (es : List CheckEntry) (k n : ℕ) → slice_get es k ≡ None → 32 * (k + 1) ≤ 32 * length es + n → take 32 (drop (32 * k) (flat_map check_entry_bytes es ++ replicate n 0)) ≡ replicate 32 0
zero_part [] k n none room = ap (take 32) (drop-replicate (32 * k) n 0) ∙ take-replicate 32 (n - 32 * k) 0 (omega (arith, room))
zero_part (x ∷ xs) zero n none room = absurd cc
zero_part (x ∷ xs) (suc k) n none room =
    ap (λ bytes. take 32 (drop (32 * suc k) bytes)) (append_assoc (check_entry_bytes x) (flat_map check_entry_bytes xs) (replicate n 0))
    ∙ one_less k (check_entry_bytes x) (flat_map check_entry_bytes xs ++ replicate n 0) (length-entry x) ∙ zero_part xs k n none (omega (arith, room))

-- ---- the parts of a summary

module _ (size : ℕ) (head : SummaryHead) (es : List CheckEntry) where
  abbrev zeros : List ℕ
  zeros = replicate (size - 32 * (1 + length es)) 0

  abbrev behind : List ℕ
  behind = flat_map check_entry_bytes es ++ zeros

  parted : summary_bytes size head es ≡ head_bytes head ++ behind
  parted = append_assoc (head_bytes head) (flat_map check_entry_bytes es) zeros

  behind_head : (k j : ℕ) → k ≡ suc j → take 32 (drop (32 * k) (summary_bytes size head es)) ≡ take 32 (drop (32 * j) behind)
  behind_head k j is = ap (λ n. take 32 (drop (32 * n) (summary_bytes size head es))) is ∙ ap (λ bytes. take 32 (drop (32 * suc j) bytes)) parted ∙ one_less j (head_bytes head) behind (length-head head)

  pub head_is : (k : ℕ) → k ≡ 0 → head_bytes head ≡ take 32 (drop (32 * k) (summary_bytes size head es))
  head_is k is = sym (ap (λ n. take 32 (drop (32 * n) (summary_bytes size head es))) is ∙ ap (take 32) parted ∙ take_at (head_bytes head) behind 32 (length-head head))

  pub entry_is : (k j : ℕ) (e : CheckEntry) → k ≡ suc j → slice_get es j ≡ Some e → check_entry_bytes e ≡ take 32 (drop (32 * k) (summary_bytes size head es))
  entry_is k j e is at = sym (behind_head k j is ∙ entry_part es zeros j e at)

  pub zeros_are : (k j : ℕ) → k ≡ suc j → slice_get es j ≡ None → 32 * (k + 1) ≤ size → replicate 32 0 ≡ take 32 (drop (32 * k) (summary_bytes size head es))
  zeros_are k j is none room = sym (behind_head k j is ∙ zero_part es j (size - 32 * (1 + length es)) none (omega (arith, is, room)))

-- ---- the parts of a page

-- The first k parts of a page of a summary are written.
pub record WritesRows (head : SummaryHead) (es : List CheckEntry) (first k : ℕ) (old new : List ℕ) : Type 0 where
  pub size : length new ≡ length old
  pub parts : (size : ℕ) → 32 * (first + k) ≤ size → take (32 * k) new ≡ take (32 * k) (drop (32 * first) (summary_bytes size head es))

-- one part more
pub writes_row :
    (head : SummaryHead) (es : List CheckEntry) (first k n : ℕ) (old page part : List ℕ) → n ≡ 32 → 32 * k + 32 ≤ length page → length part ≡ 32 → WritesRows head es first k old page
    → ((size : ℕ) → 32 * (first + k + 1) ≤ size → part ≡ take 32 (drop (32 * (first + k)) (summary_bytes size head es))) → WritesRows head es first (k + 1) old (put_mid (32 * k) n page part)
writes_row head es first k n old page part is room len was writes = record {
  size = length-put_mid (32 * k) n page part (omega (arith, room, is)) (omega (arith, len, is)) ∙ was.size;
  parts = λ size fits.
      let bytes : List ℕ = summary_bytes size head es in
      let front : take (32 * (k + 1)) (put_mid (32 * k) n page part) ≡ take (32 * k) page ++ part = take-put_mid (32 * k) n page part (32 * (k + 1)) (omega (arith, len)) (omega (arith, room)) in
      let at : 32 * (first + k) ≡ 32 * first + 32 * k = omega arith in
      let here : part ≡ take 32 (drop (32 * k) (drop (32 * first) bytes)) =
      writes size (omega (arith, fits)) ∙ ap (λ m. take 32 (drop m bytes)) at ∙ ap (take 32) (sym (drop-drop (32 * k) (32 * first) bytes)) in
      let next : 32 * k + 32 ≡ 32 * (k + 1) = omega arith in
      front ∙ ap₂ ◌++◌ (was.parts size (omega (arith, fits))) here ∙ sym (take-add (32 * k) 32 (drop (32 * first) bytes)) ∙ ap (λ m. take m (drop (32 * first) bytes)) next;
}

-- page i of d bytes begins with part i * (d / 32)
pub page_begins : (d i : ℕ) → 32 * (d / 32) ≡ d → 32 * (i * (d / 32)) ≡ i * d
page_begins d i same = mul_left_comm 32 i (d / 32) ∙ ap (λ n. i * n) same
