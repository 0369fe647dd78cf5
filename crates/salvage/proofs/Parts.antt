-- The bytes of a part of a file.
use Rattle.std.specs.Prelude.{◌≡◌, ◌<◌, ◌≤◌, ℕ, ◌+◌, ◌-◌, ◌*◌, ◌/◌, ◌%◌, ◌++◌, true, false, List, length, min, take, drop, replicate, get_or, slice_index, Some, None}
use Rattle.std.proofs.Common.{sym, ◌∙◌, ap, subst, inl, inr, arith}
use Rattle.std.proofs.Math.Nat.{div-add-mod'}
use Rattle.std.proofs.lemmas.Bool.{cases_lt}
use Rattle.std.proofs.lemmas.List.{get_or_append_left, get_or-take, get_or-drop, get_or-replicate, length-drop, length-replicate, length-take, length-take-le}
use Rattle.std.proofs.lemmas.Nat.{div-mul-add, mod-mul-add}
use Rattle.page_tags.specs.Headers.{Fields, is_present}
use Rattle.flash_tree.specs.Tree.{ByteIs}
use Rattle.pages.specs.Maps.{PageMap, has}
use Rattle.volume_terms.specs.Sizes.{Sizes}
use Rattle.salvage.specs.Reported.{IsLostPart, ReadsPartOf, rest_of_chunk}
use Rattle.salvage.specs.declared.reported.Part.TheVariants as parts

-- the places of a chunk from an offset on
at_offset : (offset i d : ℕ) → i < d - offset % d → ((offset + i) / d ≡ offset / d) × ((offset + i) % d ≡ offset % d + i)
at_offset offset i d lt =
    let split : offset / d * d + offset % d ≡ offset = div-add-mod' offset d in
    let within : offset % d + i < d = omega (arith, lt) in
    let is : offset + i ≡ offset / d * d + (offset % d + i) = omega (arith, split) in
    (ap (λ n. n / d) is ∙ div-mul-add (offset / d) d (offset % d + i) within, ap (λ n. n % d) is ∙ mod-mul-add (offset / d) d (offset % d + i) within)

-- what a list has at its front
front_at : (front rest buffer : List ℕ) (i : ℕ) → buffer ≡ front ++ rest → i < length front → slice_index buffer i ≡ slice_index front i
front_at front rest buffer i is lt = ap (λ (xs : List ℕ). get_or xs i 0) is ∙ get_or_append_left front rest 0 i lt

module _ (z : Sizes) (m : PageMap) (o : ℕ) (f : Fields) (offset : ℕ) where
  -- bytes of the page of a chunk that is present
  present_bytes : (page part old buffer : List ℕ) (bytes n : ℕ) → is_present f.bits (1 + offset / z.page_bytes) ≡ true → m o (1 + offset / z.page_bytes) ≡ Some page
      → part ≡ take bytes (drop (offset % z.page_bytes) page) → buffer ≡ take n part ++ drop n old → n ≤ length part → bytes ≤ z.page_bytes - offset % z.page_bytes
      → (i : ℕ) → i < n → ByteIs z (has m) o f (offset + i) (slice_index buffer i)
  present_bytes page part old buffer bytes n present there is_part is within_limit within i lt =
      let long : length part ≤ bytes = omega (arith, ap length is_part, length-take bytes (drop (offset % z.page_bytes) page)) in
      let at = at_offset offset i z.page_bytes (omega (arith, lt, within_limit, long, within)) in
      let chunk : 1 + offset / z.page_bytes ≡ 1 + (offset + i) / z.page_bytes = ap (λ k. 1 + k) (sym at.0) in
      let front : slice_index buffer i ≡ slice_index (take n part) i = front_at (take n part) (drop n old) buffer i is (omega (arith, length-take-le n part within_limit, lt)) in
      let byte : slice_index buffer i ≡ slice_index page (offset % z.page_bytes + i) =
      front ∙ get_or-take n part i 0 lt ∙ ap (λ (xs : List ℕ). get_or xs i 0) is_part ∙ get_or-take bytes (drop (offset % z.page_bytes) page) i 0 (omega (arith, lt, within_limit, long))
      ∙ get_or-drop (offset % z.page_bytes) page i 0 in
      inl (
        subst (λ c. is_present f.bits c ≡ true) chunk present,
        (page, subst (λ c. m o c ≡ Some page) chunk there, ap (slice_index page) at.1 ∙ sym byte),
      )

  -- zeros of one that is not
  absent_bytes : (old buffer : List ℕ) (n : ℕ) → is_present f.bits (1 + offset / z.page_bytes) ≡ false → buffer ≡ replicate n 0 ++ drop n old → n ≤ z.page_bytes - offset % z.page_bytes
      → (i : ℕ) → i < n → ByteIs z (has m) o f (offset + i) (slice_index buffer i)
  absent_bytes old buffer n absent is within i lt =
      let at = at_offset offset i z.page_bytes (omega (arith, lt, within)) in
      let chunk : 1 + offset / z.page_bytes ≡ 1 + (offset + i) / z.page_bytes = ap (λ k. 1 + k) (sym at.0) in
      inr (
        subst (λ c. is_present f.bits c ≡ false) chunk absent,
        front_at (replicate n 0) (drop n old) buffer i is (omega (arith, length-replicate {A = ℕ} n 0, lt)) ∙ get_or-replicate n i 0 0 lt,
      )

-- where the bytes of a file from an offset on lie
pub record IsPlace (z : Sizes) (f : Fields) (offset chunk begin bytes : ℕ) : Type 0 where
  pub chunk_is : chunk ≡ 1 + offset / z.page_bytes
  pub begin_is : begin ≡ offset % z.page_bytes
  pub bytes_are : bytes ≡ rest_of_chunk z f.length offset

pub place_is : (z : Sizes) (f : Fields) (offset d len rest bytes : ℕ) → d ≡ z.page_bytes → len ≡ f.length → rest ≡ len - offset → bytes ≡ min (d - offset % d) rest
    → IsPlace z f offset (1 + offset / d) (offset % d) bytes
place_is z f offset d len rest bytes size is_len is_rest are = record {
  chunk_is = ap (λ k. 1 + offset / k) size;
  begin_is = ap (λ k. offset % k) size;
  bytes_are = are ∙ ap (λ k. min (k - offset % k) rest) size ∙ ap (min (z.page_bytes - offset % z.page_bytes)) (is_rest ∙ ap (λ k. k - offset) is_len);
}

module _ (z : Sizes) (m : PageMap) (o : ℕ) (f : Fields) (offset chunk begin bytes : ℕ) (at : IsPlace z f offset chunk begin bytes) where
  within : bytes ≤ z.page_bytes - offset % z.page_bytes
  within = let are = at.bytes_are in omega (arith, are)

  pub reads_none : (buffer : List ℕ) → bytes ≡ 0 → ReadsPartOf z (has m) o f offset buffer (parts.Bytes 0)
  reads_none buffer none = (let are = at.bytes_are in let zero_is : 0 ≡ min (length buffer) (rest_of_chunk z f.length offset) = omega (arith, are, none) in zero_is, λ i lt. absurd (omega (arith, lt)))

  pub reads_zeros : (n : ℕ) (old new : List ℕ) → is_present f.bits chunk ≡ false → n ≡ min (length old) bytes → length new ≡ length old → new ≡ replicate n 0 ++ drop n old
      → ReadsPartOf z (has m) o f offset new (parts.Bytes n)
  reads_zeros n old new absent count size is =
      let are = at.bytes_are in
      let all : n ≡ min (length new) (rest_of_chunk z f.length offset) = count ∙ ap (λ k. min k bytes) (sym size) ∙ ap (min (length new)) are in
      (all, absent_bytes z m o f offset old new n (subst (λ c. is_present f.bits c ≡ false) at.chunk_is absent) is (omega (arith, count, within)))

  pub reads_page : (n : ℕ) (page part old new : List ℕ) → is_present f.bits chunk ≡ true → m o chunk ≡ Some page → length page ≡ z.page_bytes → part ≡ take (begin + bytes - begin) (drop begin page)
      → n ≡ min (length old) (length part) → length new ≡ length old → new ≡ take n part ++ drop n old → ReadsPartOf z (has m) o f offset new (parts.Bytes n)
  reads_page n page part old new present there long is_part count size is =
      let are = at.bytes_are in
      let sum : begin + bytes - begin ≡ bytes = omega arith in
      let part_is : part ≡ take bytes (drop (offset % z.page_bytes) page) = is_part ∙ ap (λ k. take k (drop begin page)) sum ∙ ap (λ k. take bytes (drop k page)) at.begin_is in
      let left : length (drop (offset % z.page_bytes) page) ≡ z.page_bytes - offset % z.page_bytes = length-drop (offset % z.page_bytes) page ∙ ap (λ k. k - offset % z.page_bytes) long in
      let fits : length part ≡ bytes = ap length part_is ∙ length-take-le bytes (drop (offset % z.page_bytes) page) (omega (arith, left, within)) in
      let all : n ≡ min (length new) (rest_of_chunk z f.length offset) = count ∙ ap (λ k. min k (length part)) (sym size) ∙ ap (min (length new)) (fits ∙ are) in (
        all,
        present_bytes z m o f offset page part old new bytes n (subst (λ c. is_present f.bits c ≡ true) at.chunk_is present) (subst (λ c. m o c ≡ Some page) at.chunk_is there) part_is is
            (omega (arith, count)) within,
      )

  pub loses_page : is_present f.bits chunk ≡ true → m o chunk ≡ None → (bytes ≡ 0 → ⊥) → IsLostPart z (has m) o f offset (record { chunk = chunk; bytes = bytes })
  loses_page present none some =
      let are = at.bytes_are in
      record {
        within = elim (cases_lt offset f.length) [ inl lt ↦ lt | inr le ↦ let nothing : bytes ≡ 0 = omega (arith, are, le) in absurd (some nothing) ];
        chunk = at.chunk_is;
        present = present;
        none = λ page is. let two : None ≡ Some page = sym none ∙ is in cc;
        bytes = are;
      }
