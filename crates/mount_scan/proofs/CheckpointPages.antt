-- The pages of a checkpoint as parts.
use Rattle.std.specs.Prelude.{◌≡◌, ◌↔◌, ◌<◌, ◌≤◌, ℕ, zero, suc, ◌+◌, ◌-◌, ◌*◌, ◌/◌, ◌^◌, min, List, [], ◌++◌, length, take, drop, flat_map, Bool, Result, Ok, Err, IfOk}
use Rattle.std.specs.List.{range_with_len}
use Rattle.std.specs.Int.{div_ceil}
use Rattle.std.proofs.Common.{refl, sym, ◌∙◌, ap, ap₂, subst, arith, length-drop, take_all}
use Rattle.std.proofs.Math.Nat.{mul-le-mul}
use Rattle.std.proofs.Math.Seq.{take-append_seam, drop-append_seam}
use Rattle.std.proofs.lemmas.List.{take-append-drop}
use Rattle.std.specs.declared.alloc.AllocError.{AllocError}
use Rattle.volume_terms.specs.Rounding.{ceiling}
use Rattle.volume_terms.specs.laws.Rounding.{ceiling_is, parts_reach}
use Rattle.byteorder.specs.Endian.{little_number}
use Rattle.page_tags.specs.Checks.{check_head_bytes, check_slot, check_page}
use Rattle.page_tags.specs.laws.Check.{length-slot, number_read}
use Rattle.page_tags.specs.declared.check.CheckEntry.{CheckEntry}
use Rattle.mount_scan.specs.CheckpointParts.{AreEntries, ArePartsFrom, BeginsWith, Takes, Refuses, entry_part}
use Rattle.mount_scan.specs.CheckpointPages.{IsPageSize, entries_below, TakesFirst, RefusesFirst}

-- what holds where a call is done, under what follows from it
pub done_as : (result : Result Bool AllocError) (P Q : Bool → Type 0) → ((b : Bool) → P b → Q b) → IfOk result P → IfOk result Q
done_as (Ok b) P Q to is = to b is
done_as (Err fault) P Q to is = is

-- what was taken, in other words
pub takes_as :
    (n r s : ℕ) (F G : List CheckEntry → Type 0) (old new : List CheckEntry) → r ≡ s → ((fs : List CheckEntry) → AreEntries n fs → F fs ↔ G fs)
    → Takes n r F old new → Takes n s G old new
takes_as n r s F G old new same to takes = record {
  so_far = subst (λ k. AreEntries (min n k) new) same takes.so_far;
  exact = λ fs are. (
    λ begins. let is = (takes.exact fs are).0 begins in (is.0, (to fs are).0 is.1),
    λ both. (takes.exact fs are).1 (both.0, (to fs are).1 both.1),
  );
}

-- ---- how many entries a checkpoint may have

-- entries that take few pages are few
pub few_entries : (n d count : ℕ) → IsPageSize d → count ≤ 256 → count ≡ ceiling (32 * (1 + n)) d → n < 32768
few_entries n d count size within_limit is =
    let up : div_ceil (32 * (1 + n)) d ≡ ceiling (32 * (1 + n)) d = ceiling_is (32 * (1 + n)) d (omega (arith, size.least)) in
    let reach : 32 * (1 + n) ≤ count * d = parts_reach (32 * (1 + n)) d count (omega (arith, size.least)) (omega (arith, up, is)) in
    let most : count * d ≤ 256 * 4096 = mul-le-mul within_limit size.most in
    omega (arith, reach, most)

-- ---- a page as parts

-- the parts from the second on are entries
slots_on : (fs : List CheckEntry) (a b m : ℕ) → b ≡ a + 1 → flat_map (check_slot fs) (range_with_len b m) ≡ flat_map (entry_part fs) (range_with_len a m)
slots_on fs a b zero next = refl
slots_on fs a b (suc m) next =
    let at : b ≡ suc a = omega (arith, next) in
    let here : check_slot fs b ≡ entry_part fs a = ap (check_slot fs) at in
    ap₂ ◌++◌ here (slots_on fs (a + 1) (b + 1) m (omega (arith, next)))

some_parts : (d : ℕ) → IsPageSize d → 1 ≤ d / 32
some_parts d size = omega (arith, size.least, size.parts)

some_below : (d i : ℕ) → IsPageSize d → 1 ≤ i → 1 ≤ i * (d / 32)
some_below d i size later = let le : 1 * 1 ≤ i * (d / 32) = mul-le-mul later (some_parts d size) in omega (arith, le)

-- a later page has entries alone
later_page : (d i : ℕ) (fs : List CheckEntry) → IsPageSize d → 1 ≤ i → check_page d fs i ≡ flat_map (entry_part fs) (range_with_len (i * (d / 32) - 1) (d / 32))
later_page d i fs size later = slots_on fs (i * (d / 32) - 1) (i * (d / 32)) (d / 32) (omega (arith, some_below d i size later))

-- the first begins with the head
first_page : (d : ℕ) (fs : List CheckEntry) → IsPageSize d → check_page d fs 0 ≡ check_head_bytes (length fs) ++ flat_map (entry_part fs) (range_with_len 0 (d / 32 - 1))
first_page d fs size =
    let none : 0 * (d / 32) ≡ 0 = omega arith in
    let count : d / 32 ≡ suc (d / 32 - 1) = omega (arith, some_parts d size) in
    ap (λ a. flat_map (check_slot fs) (range_with_len a (d / 32))) none ∙ ap (λ m. flat_map (check_slot fs) (range_with_len 0 m)) count
    ∙ ap (λ rest. check_head_bytes (length fs) ++ rest) (slots_on fs 0 1 (d / 32 - 1) refl)

length_head : (fs : List CheckEntry) → length (check_head_bytes (length fs)) ≡ 32
length_head fs = length-slot fs 0

-- a head says one number
pub one_number : (n m : ℕ) → n < 2 ^ 64 → m < 2 ^ 64 → check_head_bytes n ≡ check_head_bytes m → n ≡ m
one_number n m within_limit less same = sym (number_read n within_limit) ∙ ap (λ (bytes : List ℕ). little_number 8 (drop 8 bytes)) same ∙ number_read m less

module _ (page : List ℕ) (size : IsPageSize (length page)) where
  abbrev d : ℕ
  d = length page

  -- what comes behind the head
  abbrev pub behind : List ℕ
  behind = take (length page - 32) (drop 32 page)

  behind_is : behind ≡ drop 32 page
  behind_is = take_all (length page - 32) (drop 32 page) (omega (arith, length-drop 32 page))

  parts_behind : length behind / 32 ≡ d / 32 - 1
  parts_behind = omega (arith, length-drop 32 page, ap (λ (xs : List ℕ). length xs) behind_is, size.parts, size.least)

  -- the entries of page 0 as bytes
  abbrev rest : List CheckEntry → List ℕ
  rest fs = flat_map (entry_part fs) (range_with_len 0 (d / 32 - 1))

  front : (fs : List CheckEntry) → page ≡ check_page d fs 0 → take 32 page ≡ check_head_bytes (length fs)
  front fs is =
      ap (take 32) (is ∙ first_page d fs size) ∙ ap (λ k. take k (check_head_bytes (length fs) ++ rest fs)) (sym (length_head fs)) ∙ take-append_seam (check_head_bytes (length fs)) (rest fs)

  back : (fs : List CheckEntry) → page ≡ check_page d fs 0 → ArePartsFrom 0 behind fs
  back fs is =
      let dropped : drop 32 page ≡ rest fs =
      ap (drop 32) (is ∙ first_page d fs size) ∙ ap (λ k. drop k (check_head_bytes (length fs) ++ rest fs)) (sym (length_head fs)) ∙ drop-append_seam (check_head_bytes (length fs)) (rest fs) in
      behind_is ∙ dropped ∙ ap (λ m. flat_map (entry_part fs) (range_with_len 0 m)) (sym parts_behind)

  join : (fs : List CheckEntry) → take 32 page ≡ check_head_bytes (length fs) → ArePartsFrom 0 behind fs → page ≡ check_page d fs 0
  join fs head parts =
      let dropped : drop 32 page ≡ rest fs = sym behind_is ∙ parts ∙ ap (λ m. flat_map (entry_part fs) (range_with_len 0 m)) parts_behind in
      sym (take-append-drop 32 page) ∙ ap₂ ◌++◌ head dropped ∙ sym (first_page d fs size)

  -- page 0 is its head and what comes behind it
  first_split : (fs : List CheckEntry) → page ≡ check_page d fs 0 ↔ ((take 32 page ≡ check_head_bytes (length fs)) × ArePartsFrom 0 behind fs)
  first_split fs = (λ is. (front fs is, back fs is), λ both. join fs both.0 both.1)

  -- page 0 is taken where its head and what comes behind it are
  pub takes_first :
      (n count : ℕ) (old new : List CheckEntry) → old ≡ [] → take 32 page ≡ check_head_bytes n → count ≡ ceiling (32 * (1 + n)) d
      → Takes n (0 + length behind / 32) (ArePartsFrom 0 behind) old new → TakesFirst n count page new
  takes_first n count old new empty head is takes = record {
    head = head;
    size = is;
    takes = subst (λ es. Takes n (entries_below d 1) (λ fs. page ≡ check_page d fs 0) es new) empty
        (takes_as n (0 + length behind / 32) (entries_below d 1) (ArePartsFrom 0 behind) (λ fs. page ≡ check_page d fs 0) old new (omega (arith, parts_behind)) (λ fs are. (
          λ parts. (first_split fs).1 (head ∙ ap check_head_bytes (sym are.count), parts),
          λ is. ((first_split fs).0 is).1,
        )) takes);
  }

  -- where what comes behind the head is refused, so is the page
  pub refuses_first :
      (n count : ℕ) (old : List CheckEntry) → old ≡ [] → n < 2 ^ 64 → count ≤ 256 → take 32 page ≡ check_head_bytes n
      → Refuses n (ArePartsFrom 0 behind) old → RefusesFirst count page
  refuses_first n count old empty within_limit most head not fs are is same =
      let both = (first_split fs).0 same in
      let less : length fs < 2 ^ 64 = omega (arith, few_entries (length fs) d count size most is) in
      let number : length fs ≡ n = sym (one_number n (length fs) within_limit less (sym head ∙ both.0)) in
      not fs (subst (λ k. AreEntries k fs) number are) (subst (λ es. BeginsWith es fs) (sym empty) (λ k e at. absurd cc)) both.1

  -- what has a page 0 that was taken has as many entries as its head says
  pub number_of_first : (n count : ℕ) (new : List CheckEntry) → count ≤ 256 → TakesFirst n count page new → (fs : List CheckEntry) → count ≡ ceiling (32 * (1 + length fs)) d → page ≡ check_page d fs 0 → length fs ≡ n
  number_of_first n count new most takes fs is same =
      let less : length fs < 2 ^ 64 = omega (arith, few_entries (length fs) d count size most is) in
      let within_limit : n < 2 ^ 64 = omega (arith, few_entries n d count size most takes.size) in
      sym (one_number n (length fs) within_limit less (sym takes.head ∙ ((first_split fs).0 same).0))

  -- and so is a page whose head is refused
  pub refuses_head :
      (count : ℕ) → ((n : ℕ) → count ≡ ceiling (32 * (1 + n)) d → take 32 page ≡ check_head_bytes n → ⊥) → RefusesFirst count page
  refuses_head count not fs are is same = not (length fs) is ((first_split fs).0 same).0

  module _ (i : ℕ) (later : 1 ≤ i) where
    -- a later page is its parts
    later_split : (fs : List CheckEntry) → ArePartsFrom (i * (d / 32) - 1) page fs ↔ (page ≡ check_page d fs i)
    later_split fs = (λ is. is ∙ sym (later_page d i fs size later), λ is. is ∙ later_page d i fs size later)

    next_below : i * (d / 32) - 1 + d / 32 ≡ (i + 1) * (d / 32) - 1
    next_below = let sum : (i + 1) * (d / 32) ≡ i * (d / 32) + d / 32 = grind arith in omega (arith, sum, some_below d i size later)

    pub takes_later : (n : ℕ) (old new : List CheckEntry) → Takes n (i * (d / 32) - 1 + d / 32) (ArePartsFrom (i * (d / 32) - 1) page) old new → Takes n (entries_below d (i + 1)) (λ fs. page ≡ check_page d fs i) old new
    takes_later n old new takes =
        takes_as n (i * (d / 32) - 1 + d / 32) (entries_below d (i + 1)) (ArePartsFrom (i * (d / 32) - 1) page) (λ fs. page ≡ check_page d fs i) old new next_below (λ fs are. later_split fs) takes

    pub refuses_later : (n : ℕ) (old : List CheckEntry) → Refuses n (ArePartsFrom (i * (d / 32) - 1) page) old → Refuses n (λ fs. page ≡ check_page d fs i) old
    refuses_later n old not fs are begins is = not fs are begins ((later_split fs).1 is)
