-- Parts of 32 bytes that are written one after another.
use Rattle.std.proofs.Common.{◌≡◌, ℕ, zero, suc, ◌+◌, ◌-◌, ◌*◌, ◌≤◌, List, ◌++◌, length, take, drop, sym, ap, ◌∙◌, arith, append_assoc, append-nil, length-append, length-take, length-drop}
use Rattle.std.specs.Prelude.{flat_map}
use Rattle.std.specs.List.{range_with_len}
use Rattle.std.proofs.lemmas.Slice.{take-put_mid}
use borrow.Rule.Slice.PartMut.{put_mid}
use Rattle.page_tags.specs.Checks.{check_slot}
use Rattle.chunk_index.specs.declared.form.CommittedKey.{CommittedKey}
use Rattle.chunk_index.specs.Committed.{IsListOf}
use Rattle.chunk_index.specs.Maps.{CommittedMap}
use Rattle.flash_log.specs.CheckpointListing.{check_entries}

-- a part that is written in place keeps the length
pub length-put_mid : (a k : ℕ) (xs ys : List ℕ) → a + k ≤ length xs → length ys ≡ k → length (put_mid a k xs ys) ≡ length xs
length-put_mid a k xs ys within same =
    omega (arith, length-append (take a xs) (ys ++ drop k (drop a xs)), length-append ys (drop k (drop a xs)), length-take a xs, length-drop k (drop a xs), length-drop a xs)

rows_more : (f : ℕ → List ℕ) (a n : ℕ) → flat_map f (range_with_len a (suc n)) ≡ flat_map f (range_with_len a n) ++ f (a + n)
rows_more f a zero = append-nil (f a) ∙ ap f (omega arith)
rows_more f a (suc n) =
    ap (λ xs. f a ++ xs) (rows_more f (a + 1) n)
    ∙ sym (append_assoc (f a) (flat_map f (range_with_len (a + 1) n)) (f (a + 1 + n)))
    ∙ ap (λ k. (f a ++ flat_map f (range_with_len (a + 1) n)) ++ f k) (omega arith)

-- The first k parts of a page of a checkpoint are written, and the keys of the entries before the next part are taken.
pub record WritesParts (m : CommittedMap) (count first k : ℕ) (left : List CommittedKey) (old new : List ℕ) : Type 0 where
  pub size : length new ≡ length old
  pub keys : (ks : List CommittedKey) → IsListOf m ks → left ≡ drop (first + k - 1) ks
  pub parts : (ks : List CommittedKey) → IsListOf m ks → count ≡ length ks → take (32 * k) new ≡ flat_map (check_slot (check_entries ks)) (range_with_len first k)

-- one part more
pub writes_more :
    (m : CommittedMap) (count first k n : ℕ) (left next : List CommittedKey) (old page part : List ℕ) → n ≡ 32 → 32 * k + 32 ≤ length page → length part ≡ 32 → WritesParts m count first k left old page
    → ((ks : List CommittedKey) → count ≡ length ks → left ≡ drop (first + k - 1) ks → part ≡ check_slot (check_entries ks) (first + k))
    → ((ks : List CommittedKey) → left ≡ drop (first + k - 1) ks → next ≡ drop (first + k) ks) → WritesParts m count first (k + 1) next old (put_mid (32 * k) n page part)
writes_more m count first k n left next old page part is room len was writes goes = record {
  size = length-put_mid (32 * k) n page part (omega (arith, room, is)) (omega (arith, len, is)) ∙ was.size;
  keys = λ ks list. let here_k : first + k ≡ first + (k + 1) - 1 = omega arith in goes ks (was.keys ks list) ∙ ap (λ n. drop n ks) here_k;
  parts = λ ks list counts.
      let f = check_slot (check_entries ks) in
      let here : part ≡ f (first + k) = writes ks counts (was.keys ks list) in
      let front : take (32 * (k + 1)) (put_mid (32 * k) n page part) ≡ take (32 * k) page ++ part =
      take-put_mid (32 * k) n page part (32 * (k + 1)) (omega (arith, is)) (omega (arith, len, is)) in
      let next_k : suc k ≡ k + 1 = omega arith in
      front ∙ ap (λ xs. xs ++ part) (was.parts ks list counts) ∙ ap (λ xs. flat_map f (range_with_len first k) ++ xs) here ∙ sym (rows_more f first k) ∙ ap (λ j. flat_map f (range_with_len first j)) next_k;
}
