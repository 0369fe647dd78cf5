-- The page of a chunk before and after a write.
use Rattle.std.specs.Prelude.{◌≡◌, ◌<◌, ◌≤◌, ℕ, ◌+◌, ◌-◌, ◌*◌, ◌/◌, true, false, min, max, List, length, take, drop, replicate, get_or, Some}
use Rattle.std.proofs.Common.{sym, ◌∙◌, ap, subst, inl, inr, arith}
use Rattle.std.proofs.Math.Nat.{div-mul-le_self, mul-le-mul_right}
use Rattle.std.proofs.lemmas.Bool.{cases_lt}
use Rattle.std.proofs.lemmas.List.{get_or-take, get_or-drop, get_or_past, length-replicate, length-take-le, length-drop}
use Rattle.page_tags.specs.Headers.{Fields, IsHeader, MayBeSet, is_present}
use Rattle.page_tags.specs.declared.header.ObjectKind.TheVariants as kinds
use Rattle.posix_profile.specs.Changes.{written}
use Rattle.volume_terms.specs.Sizes.{Sizes}
use Rattle.volume_terms.specs.laws.List.{zero_at}
use Rattle.pages.specs.State.{PagesState}
use Rattle.file_io.specs.Files.{FileIn}
use Rattle.file_io.specs.Chunks.{HoldsChunk, overwritten}
use Rattle.file_io.proofs.FilePages.{byte_in, one_page, page_there}
use Rattle.file_io.proofs.Written.{length-overwritten, over_before, over_here, over_after, written_before, written_here, written_after}

-- a chunk whose bit is set begins before the end of the file
pub begins_within : (d : ℕ) (f : Fields) (len k : ℕ) → 1 ≤ d → IsHeader d f → f.kind ≡ kinds.File → f.length ≡ len → is_present f.bits (1 + k) ≡ true → k * d < len
begins_within d f len k some valid kind is set =
    let may : 1 + k ≤ (f.length + d - 1) / d = subst (λ q. MayBeSet d q f.length (1 + k)) kind (valid.within (1 + k) (omega arith) set) in
    let le : (1 + k) * d ≤ (f.length + d - 1) / d * d = mul-le-mul_right d may in
    omega (arith, le, div-mul-le_self (f.length + d - 1) d, some, is)

module _ (p : PagesState) (z : Sizes) (o moment : ℕ) (all : List ℕ) (f : FileIn p z o moment all) (d : ℕ) (size : d ≡ z.page_bytes) (some : 1 ≤ d) (k : ℕ) where
  -- one whose bit is not set has zeros
  pub absent_holds : is_present f.reads.fields.bits (1 + k) ≡ false → HoldsChunk d all k (replicate d 0)
  absent_holds unset = record {
    size = length-replicate {A = ℕ} d 0;
    each = λ j less. zero_at d j ∙ elim (cases_lt (k * d + j) (length all)) [
      | inr past ↦ sym (get_or_past all (k * d + j) 0 past)
      | inl within ↦ elim (byte_in p z o moment all f d size k j less within) [
        | inl is ↦ let two : true ≡ false = sym is.0 ∙ unset in absurd cc
        | inr is ↦ sym is.1
      ]
    ];
  }

  -- one whose bit is set has a page
  pub chunk_there : is_present f.reads.fields.bits (1 + k) ≡ true → (page : List ℕ) × (p.present o (1 + k) ≡ Some page)
  chunk_there set =
      let within : k * d < length all = begins_within d f.reads.fields (length all) k some (subst (λ n. IsHeader n f.reads.fields) (sym size) f.reads.has.1) f.reads.kind f.reads.size set in
      page_there p z o moment all f d size k 0 1 (omega arith) some (omega (arith, within)) (omega arith) set

  -- with zeros past the end of the file
  pub present_holds : is_present f.reads.fields.bits (1 + k) ≡ true → (page bytes : List ℕ) → p.present o (1 + k) ≡ Some page → length bytes ≡ d → (used : ℕ) → used ≡ length all - k * d
      → ((i : ℕ) → i < used → get_or bytes i 0 ≡ get_or page i 0) → ((i : ℕ) → used ≤ i → get_or bytes i 0 ≡ 0) → HoldsChunk d all k bytes
  present_holds set page bytes there len used is before after = record {
    size = len;
    each = λ j less. elim (cases_lt (k * d + j) (length all)) [
      | inr past ↦ after j (omega (arith, past, is)) ∙ sym (get_or_past all (k * d + j) 0 past)
      | inl within ↦ before j (omega (arith, within, is)) ∙ elim (byte_in p z o moment all f d size k j less within) [
        | inl x ↦ ap (λ (xs : List ℕ). get_or xs j 0) (one_page p.present o (1 + k) page x.1.0 there x.1.1) ∙ x.1.2
        | inr x ↦ let two : true ≡ false = sym set ∙ x.0 in absurd cc
      ]
    ];
  }

-- the part of the bytes that goes into a chunk
module _ (d k off : ℕ) (bytes all : List ℕ) (from to : ℕ) (from_is : from ≡ max off (k * d)) (to_is : to ≡ min (off + length bytes) (k * d + d))
    (begins : k * d < off + length bytes) (ends : off < k * d + d) (some : 1 ≤ length bytes) (part : List ℕ) (part_is : part ≡ take (to - from) (drop (from - off) bytes)) where
  pub part_length : length part ≡ to - from
  part_length = ap length part_is ∙ length-take-le (to - from) (drop (from - off) bytes) (omega (arith, from_is, to_is, begins, ends, some, length-drop (from - off) bytes))

  part_byte : (j : ℕ) → from ≤ k * d + j → k * d + j < to → get_or part (j - (from - k * d)) 0 ≡ get_or (written all off bytes) (k * d + j) 0
  part_byte j low high =
      let within : j - (from - k * d) < to - from = omega (arith, low, high, from_is) in
      let place : from - off + (j - (from - k * d)) ≡ k * d + j - off = omega (arith, low, from_is) in
      ap (λ (xs : List ℕ). get_or xs (j - (from - k * d)) 0) part_is ∙ get_or-take (to - from) (drop (from - off) bytes) (j - (from - k * d)) 0 within
      ∙ get_or-drop (from - off) bytes (j - (from - k * d)) 0 ∙ ap (λ n. get_or bytes n 0) place
      ∙ sym (written_here all off bytes (k * d + j) (omega (arith, low, from_is)) (omega (arith, high, to_is)))

  -- a chunk that is written whole
  pub whole_holds : to - from ≡ d → HoldsChunk d (written all off bytes) k part
  whole_holds whole = record {
    size = part_length ∙ whole;
    each = λ j less.
        let at : j - (from - k * d) ≡ j = omega (arith, whole, from_is, to_is, begins, ends) in
        ap (λ n. get_or part n 0) (sym at) ∙ part_byte j (omega (arith, whole, from_is, to_is, less)) (omega (arith, whole, from_is, to_is, less));
  }

  -- a chunk that is written in part
  pub over_holds : (page : List ℕ) → HoldsChunk d all k page → HoldsChunk d (written all off bytes) k (overwritten page (from - k * d) part)
  over_holds page was =
      let room : from - k * d + length part ≤ d = omega (arith, part_length, from_is, to_is, begins, ends) in
      let within : from - k * d ≤ length page = omega (arith, room, was.size) in
      record {
        size = length-overwritten page (from - k * d) part within ∙ omega (arith, room, was.size);
        each = λ j less. elim (cases_lt (k * d + j) from) [
          | inl lt ↦ over_before page (from - k * d) part within j (omega (arith, lt)) ∙ was.each j less
              ∙ sym (written_before all off bytes (k * d + j) (omega (arith, lt, from_is)))
          | inr ge ↦ elim (cases_lt (k * d + j) to) [
            | inl lt ↦ over_here page (from - k * d) part within j (omega (arith, ge)) (omega (arith, lt, ge, part_length)) ∙ part_byte j ge lt
            | inr past ↦ over_after page (from - k * d) part within j (omega (arith, past, ge, part_length, from_is)) ∙ was.each j less
                ∙ sym (written_after all off bytes (k * d + j) (omega (arith, past, to_is, less)))
          ]
        ];
      }
