-- A write as a whole: its pages and the header.
use Rattle.std.specs.Prelude.{◌≡◌, ◌⊎◌, ◌<◌, ◌≤◌, ℕ, ◌+◌, ◌-◌, ◌*◌, ◌/◌, ◌^◌, true, max, List, [], ◌∷◌, ◌++◌, length, slice_get, Some}
use Rattle.std.proofs.Common.{refl, sym, ◌∙◌, ap, subst, inl, inr, arith}
use Rattle.std.proofs.Math.Nat.{div-mul-le_self, lt-div-mul-add, mul-le-mul_right}
use Rattle.std.proofs.lemmas.Bool.{cases_lt}
use Rattle.std.proofs.lemmas.Nat.{le-div}
use Rattle.page_tags.specs.HeaderFields.{file_fields}
use Rattle.page_tags.specs.Headers.{IsHeader, IsBytes, header_bytes, is_present}
use Rattle.posix_profile.specs.Changes.{written}
use Rattle.volume_terms.specs.Sizes.{Sizes}
use Rattle.volume_terms.specs.laws.List.{push_last}
use Rattle.volume_terms.specs.laws.Rounding.{ceiling_le}
use Rattle.pages.specs.Maps.{PageMap, without_cuts, after_change, IsCut}
use Rattle.pages.specs.laws.Maps.{page_here}
use Rattle.pages.specs.Changes.{IsOnlyOf}
use Rattle.pages.specs.State.{PagesState}
use Rattle.pages.specs.declared.change.Change.{Change}
use Rattle.pages.specs.declared.change.Cut.{Cut}
use Rattle.flash_tree.specs.declared.place.FreshPage.{FreshPage}
use Rattle.file_io.specs.Files.{FileIn, Becomes}
use Rattle.file_io.specs.Chunks.{AreOf, HoldChunks, IsAmong, IsWritten}
use Rattle.file_io.proofs.Becoming.{becomes}
use Rattle.file_io.proofs.Filling.{among_chunks}
use Rattle.file_io.proofs.PageLists.{none_of, of_push, hold_push}
use Rattle.file_io.proofs.WriteChunks.{write_chunks}
use Rattle.file_io.proofs.Written.{length-written}

-- a header with other bits, none of them past the end of the file
pub header_valid : (d len was : ℕ) (old : List ℕ) → IsHeader d (file_fields len was old) → (new_len moment : ℕ) (bits : List ℕ) → moment < 2 ^ 64 → new_len ≤ 8 * (d - 32) * d → length bits ≡ length old → IsBytes bits
    → ((k : ℕ) → is_present bits (1 + k) ≡ true → 1 + k ≤ (new_len + d - 1) / d) → IsHeader d (file_fields new_len moment bits)
header_valid d len was old is new_len moment bits when fits room bytes within = record {
  spare = omega arith;
  length_fits = fits;
  moment = when;
  no_moment = λ no'. absurd cc;
  room = room ∙ is.room;
  bytes = bytes;
  within = λ c some set.
      let place : 1 + (c - 1) ≡ c = omega (arith, some) in
      subst (λ k. k ≤ (new_len + d - 1) / d) place (within (c - 1) (ap (is_present bits) place ∙ set));
}

-- the bits after a write
pub write_valid : (d len was : ℕ) (old : List ℕ) → IsHeader d (file_fields len was old) → 1 ≤ d → (off n moment long : ℕ) (bits : List ℕ) → 1 ≤ n → off + n ≤ 8 * (d - 32) * d → moment < 2 ^ 64 → long ≡ max len (off + n)
    → length bits ≡ length old → IsBytes bits → ((k : ℕ) → (k < off / d) ⊎ ((off + n - 1) / d + 1 ≤ k) → is_present bits (1 + k) ≡ is_present old (1 + k)) → IsHeader d (file_fields long moment bits)
write_valid d len was old is least off n moment long bits some fits when long_is room bytes others =
    header_valid d len was old is long moment bits when (omega (arith, long_is, fits, is.length_fits)) room bytes within
  where
    before : (k : ℕ) → is_present old (1 + k) ≡ true → 1 + k ≤ (long + d - 1) / d
    before k set = omega (arith, is.within (1 + k) (omega arith) set, ceiling_le len long d (omega (arith, long_is)))

    last : (off + n - 1) / d + 1 ≤ (long + d - 1) / d
    last = le-div ((off + n - 1) / d + 1) (long + d - 1) d least (omega (arith, div-mul-le_self (off + n - 1) d, long_is, some, least))

    within : (k : ℕ) → is_present bits (1 + k) ≡ true → 1 + k ≤ (long + d - 1) / d
    within k set = elim (cases_lt k (off / d)) [
      | inl below ↦ before k (sym (others k (inl below)) ∙ set)
      | inr from ↦ elim (cases_lt k ((off + n - 1) / d + 1)) [
        | inl to ↦ omega (arith, to, last)
        | inr past ↦ before k (sym (others k (inr past)) ∙ set)
      ]
    ]

-- so many bytes lie over at most one chunk more than they fill
pub chunks_few : (d off n chunks : ℕ) → 1 ≤ d → 1 ≤ n → n ≤ chunks * d → (off + n - 1) / d ≤ off / d + chunks
chunks_few d off n chunks some any within_limit = elim (cases_lt (off / d + chunks) ((off + n - 1) / d)) [
  | inr not_more ↦ not_more
  | inl more ↦
      let le : (off / d + chunks + 1) * d ≤ (off + n - 1) / d * d = mul-le-mul_right d (omega (arith, more)) in
      let in_it : off < off / d * d + d = lt-div-mul-add (omega (arith, some)) in
      absurd (omega (arith, le, in_it, within_limit, any, div-mul-le_self (off + n - 1) d))
]

-- nothing is cut
pub uncut : (cuts : List Cut) → cuts ≡ [] → (m : PageMap) (o c : ℕ) → without_cuts cuts m o c ≡ m o c
uncut cuts none m o c = ap (λ (xs : List Cut). without_cuts xs m o c) none

-- the change is of the object alone
pub only_of : (change : Change) (o : ℕ) (IsOne : ℕ → Type 0) → AreOf o IsOne change.pages.items → ((p c i : ℕ) → IsCut change.cuts.items p c i → p ≡ o) → IsOnlyOf change o
only_of change o IsOne of cuts = record {
  pages = λ p c i is. sym is.object ∙ (of.each i is.page is.there).0;
  cuts = cuts;
}

-- no cut is of an object where there is none
pub no_cuts : (cuts : List Cut) → cuts ≡ [] → (o p c i : ℕ) → IsCut cuts p c i → p ≡ o
no_cuts cuts none o p c i is = let two : slice_get [] i ≡ Some is.cut = ap (λ (xs : List Cut). slice_get xs i) (sym none) ∙ is.there in absurd cc

-- the chunks of a change, and the header
abbrev pub OrHeader : (ℕ → Type 0) → ℕ → Type 0
OrHeader IsOne c = IsOne c ⊎ (c ≡ 0)

pub header_push : (o : ℕ) (IsOne : ℕ → Type 0) (pages : List FreshPage) (q : FreshPage) → AreOf o IsOne pages → (IsOne 0 → ⊥) → q.key.object ≡ o → q.key.chunk ≡ 0 → AreOf o (OrHeader IsOne) (pages ++ q ∷ [])
header_push o IsOne pages q of none object chunk =
    of_push o IsOne (OrHeader IsOne) pages q of object (λ is. none (subst IsOne chunk is)) (λ c is. inl is) (inr chunk) (λ c is. past c is)
  where
    past : (c : ℕ) → OrHeader IsOne c → IsOne c ⊎ (c ≡ q.key.chunk)
    past c (inl is) = inl is
    past c (inr is) = inr (is ∙ sym chunk)

-- without the header
pub but_header : (IsOne : ℕ → Type 0) (c : ℕ) → 1 ≤ c → OrHeader IsOne c → IsOne c
but_header IsOne c some (inl is) = is
but_header IsOne c some (inr is) = absurd (omega (arith, some, is))

module _ (p : PagesState) (z : Sizes) (o before : ℕ) (all : List ℕ) (f : FileIn p z o before all) (d : ℕ) (size : d ≡ z.page_bytes) (some : 1 ≤ d)
    (len : ℕ) (len_is : len ≡ length all) (was : List ℕ) (was_is : was ≡ f.reads.fields.bits) (off : ℕ) (bytes : List ℕ) (any : 1 ≤ length bytes) (moment : ℕ)
    (pages : List FreshPage) (of : AreOf o (IsWritten d len was (off / d) ((off + length bytes - 1) / d + 1)) pages) (hold : HoldChunks d (written all off bytes) pages) where
  -- a write that leaves the header as it was
  pub write_same : (change : Change) → change.pages.items ≡ pages → change.cuts.items ≡ [] → f.reads.fields.moment ≡ moment → off + length bytes ≤ len
      → ((k : ℕ) → off / d ≤ k → k < (off + length bytes - 1) / d + 1 → is_present was (1 + k) ≡ true)
      → Becomes z p.present (after_change change p.present) o f.reads.fields (off / d) ((off + length bytes - 1) / d + 1) moment (written all off bytes)
  write_same change items cuts when fits set =
      let IsOne : ℕ → Type 0 = IsWritten d len was (off / d) ((off + length bytes - 1) / d + 1) in
      let m : PageMap = without_cuts change.cuts.items p.present in
      let same = λ (c : ℕ). uncut change.cuts.items cuts p.present o c in
      let of' = subst (λ (xs : List FreshPage). AreOf o (IsWritten d len was (off / d) ((off + length bytes - 1) / d + 1)) xs) (sym items) of in
      let hold' = subst (λ (xs : List FreshPage). HoldChunks d (written all off bytes) xs) (sym items) hold in
      becomes p z o before moment all (written all off bytes) f d size some (after_change change p.present) f.reads.fields
      (none_of o IsOne change.pages.items of' m 0 (among_chunks d len was (off / d) ((off + length bytes - 1) / d + 1) 0 refl) ∙ same 0 ∙ f.reads.has.0)
      (subst (λ n. IsHeader n f.reads.fields) (sym size) f.reads.has.1) f.reads.kind when (f.reads.size ∙ sym len_is ∙ omega (arith, fits, len_is, length-written all off bytes))
      (write_chunks p z o before all f d size some len len_is was was_is off bytes any IsOne change.pages.items of' (λ c first is. is) (λ c is. is) hold' f.reads.fields.bits
      (λ k low high. ap (λ (xs : List ℕ). is_present xs (1 + k)) (sym was_is) ∙ set k low high) (λ k outside. ap (λ (xs : List ℕ). is_present xs (1 + k)) (sym was_is)) m same)
      (off / d) ((off + length bytes - 1) / d + 1) (λ k low high. ap (λ (xs : List ℕ). is_present xs (1 + k)) (sym was_is) ∙ set k low high) (λ k is. inl is)

  -- a write with a header
  pub write_new : (change : Change) (q : FreshPage) (long : ℕ) (bits : List ℕ) → change.pages.items ≡ pages ++ q ∷ [] → change.cuts.items ≡ [] → q.key.object ≡ o → q.key.chunk ≡ 0
      → q.bytes.items ≡ header_bytes (file_fields long moment bits) → IsHeader d (file_fields long moment bits) → long ≡ max len (off + length bytes)
      → ((k : ℕ) → off / d ≤ k → k < (off + length bytes - 1) / d + 1 → is_present bits (1 + k) ≡ true)
      → ((k : ℕ) → (k < off / d) ⊎ ((off + length bytes - 1) / d + 1 ≤ k) → is_present bits (1 + k) ≡ is_present was (1 + k))
      → Becomes z p.present (after_change change p.present) o f.reads.fields (off / d) ((off + length bytes - 1) / d + 1) moment (written all off bytes)
  write_new change q long bits items cuts object chunk header valid long_is marked others =
      let IsOne : ℕ → Type 0 = IsWritten d len was (off / d) ((off + length bytes - 1) / d + 1) in
      let m : PageMap = without_cuts change.cuts.items p.present in
      let same = λ (c : ℕ). uncut change.cuts.items cuts p.present o c in
      let pushed = header_push o IsOne pages q of (among_chunks d len was (off / d) ((off + length bytes - 1) / d + 1) 0 refl) object chunk in
      let of' = subst (λ (xs : List FreshPage). AreOf o (OrHeader IsOne) xs) (sym items) pushed in
      let hold' = subst (λ (xs : List FreshPage). HoldChunks d (written all off bytes) xs) (sym items) (hold_push d (written all off bytes) pages q hold (λ k is. absurd (omega (arith, is, chunk)))) in
      let there : slice_get change.pages.items (length pages) ≡ Some q = ap (λ (xs : List FreshPage). slice_get xs (length pages)) items ∙ push_last pages q in
      let at : after_change change p.present o 0 ≡ Some (header_bytes (file_fields long moment bits)) =
      ap (λ k. after_change change p.present k 0) (sym object) ∙ ap (λ k. after_change change p.present q.key.object k) (sym chunk) ∙ page_here change.pages.items m of'.apart (length pages) q there ∙ ap Some header in
      becomes p z o before moment all (written all off bytes) f d size some (after_change change p.present) (file_fields long moment bits) at valid refl refl
      (long_is ∙ omega (arith, len_is, length-written all off bytes))
      (write_chunks p z o before all f d size some len len_is was was_is off bytes any (OrHeader IsOne) change.pages.items of' (but_header IsOne) (λ c is. inl is) hold' bits marked others m same)
      (off / d) ((off + length bytes - 1) / d + 1) marked (λ k is. new_bit k bits is marked others)
    where
      new_bit : (k : ℕ) (bits : List ℕ) → is_present bits (1 + k) ≡ true → ((k : ℕ) → off / d ≤ k → k < (off + length bytes - 1) / d + 1 → is_present bits (1 + k) ≡ true)
          → ((k : ℕ) → (k < off / d) ⊎ ((off + length bytes - 1) / d + 1 ≤ k) → is_present bits (1 + k) ≡ is_present was (1 + k))
          → (is_present f.reads.fields.bits (1 + k) ≡ true) ⊎ IsAmong (off / d) ((off + length bytes - 1) / d + 1) (1 + k)
      new_bit k bits is marked others = elim (cases_lt k (off / d)) [
        | inl below ↦ inl (ap (λ (xs : List ℕ). is_present xs (1 + k)) (sym was_is) ∙ sym (others k (inl below)) ∙ is)
        | inr from ↦ elim (cases_lt k ((off + length bytes - 1) / d + 1)) [
          | inl to ↦ inr (record { from = omega (arith, from); to = omega (arith, to) })
          | inr past ↦ inl (ap (λ (xs : List ℕ). is_present xs (1 + k)) (sym was_is) ∙ sym (others k (inr past)) ∙ is)
        ]
      ]
