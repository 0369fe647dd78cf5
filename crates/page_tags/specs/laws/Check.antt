-- What the bytes of a checkpoint say.
use Rattle.std.specs.Prelude.{◌≡◌, ◌<◌, ◌≤◌, ℕ, zero, suc, ◌+◌, ◌-◌, ◌*◌, ◌/◌, ◌%◌, ◌^◌, List, [], ◌∷◌, ◌++◌, length, drop, replicate, flat_map, slice_get, Option, Some, None, All}
use Rattle.std.specs.List.{range_with_len}
use Rattle.std.specs.Option.{option_map_or}
use Rattle.std.proofs.Common.{refl, sym, ◌∙◌, ap, subst, inl, inr, arith, take_all}
use Rattle.std.proofs.Math.Nat.{div-add-mod', mul-le-mul_right}
use Rattle.std.proofs.lemmas.Bool.{cases_eq, cases_lt}
use Rattle.std.proofs.lemmas.Option.{slice_get_within, slice_get_cases, same_Some}
use Rattle.byteorder.specs.Endian.{little_bytes, little_number}
use Rattle.byteorder.specs.Numbers.{little_number-reads_back}
use Rattle.page_tags.specs.Headers.{IsBytes}
use Rattle.page_tags.specs.laws.Byte.{joined, little_bytes-little_number, little_bytes_at}
use Rattle.volume_terms.specs.laws.Same.{same_lists}
use Rattle.page_tags.specs.Checks.{check_head_bytes, check_entry_bytes, check_entry_in, check_slot, check_page, IsCheckEntry}
use Rattle.page_tags.specs.declared.check.CheckEntry.{CheckEntry}

module _ (e : CheckEntry) (h : IsCheckEntry e) where
  abbrev s3 : List ℕ
  s3 = little_bytes 4 e.block ++ little_bytes 4 e.page

  abbrev s2 : List ℕ
  s2 = little_bytes 8 e.version ++ s3

  abbrev s1 : List ℕ
  s1 = little_bytes 8 e.chunk ++ s2

  object_at : little_number 8 (check_entry_bytes e) ≡ e.object
  unfolding check_entry_bytes
  object_at = little_number-reads_back 8 e.object s1 (omega (arith, h.object))

  chunk_at : little_number 8 (drop 8 (check_entry_bytes e)) ≡ e.chunk
  unfolding check_entry_bytes
  chunk_at = little_number-reads_back 8 e.chunk s2 (omega (arith, h.chunk))

  version_at : little_number 8 (drop 16 (check_entry_bytes e)) ≡ e.version
  unfolding check_entry_bytes
  version_at = little_number-reads_back 8 e.version s3 (omega (arith, h.version))

  block_at : little_number 4 (drop 24 (check_entry_bytes e)) ≡ e.block
  unfolding check_entry_bytes
  block_at = little_number-reads_back 4 e.block (little_bytes 4 e.page) (omega (arith, h.block))

  page_at : little_number 4 (drop 28 (check_entry_bytes e)) ≡ e.page
  unfolding check_entry_bytes
  page_at = little_number-reads_back 4 e.page [] (omega (arith, h.page))

  -- an entry is what its bytes say
  pub entry_read : check_entry_in (check_entry_bytes e) ≡ e
  entry_read = λ i. record { object = object_at i; chunk = chunk_at i; version = version_at i; block = block_at i; page = page_at i }

-- and any 32 bytes are an entry
pub entry_said : (bytes : List ℕ) → length bytes ≡ 32 → IsBytes bytes → check_entry_bytes (check_entry_in bytes) ≡ bytes
unfolding check_entry_bytes
entry_said bytes size each =
    let to_8 = little_bytes-little_number 8 bytes (omega arith) each in
    let to_16 = joined 8 8 bytes to_8 (little_bytes_at 8 8 bytes (omega arith) each) in
    let to_24 = joined 16 8 bytes to_16 (little_bytes_at 8 16 bytes (omega arith) each) in
    let to_28 = joined 24 4 bytes to_24 (little_bytes_at 4 24 bytes (omega arith) each) in
    joined 28 4 bytes to_28 (little_bytes_at 4 28 bytes (omega arith) each) ∙ take_all 32 bytes (omega arith)

-- a head says its number
pub number_read : (n : ℕ) → n < 2 ^ 64 → little_number 8 (drop 8 (check_head_bytes n)) ≡ n
unfolding check_head_bytes
number_read n within_limit = little_number-reads_back 8 n (replicate 16 0) (omega (arith, within_limit))

-- ---- parts of 32 bytes

length-head : (n : ℕ) → length (check_head_bytes n) ≡ 32
unfolding check_head_bytes
length-head n = omega arith

length-entry : (e : CheckEntry) → length (check_entry_bytes e) ≡ 32
unfolding check_entry_bytes
length-entry e = omega arith

pub length-slot : (es : List CheckEntry) (k : ℕ) → length (check_slot es k) ≡ 32
length-slot es zero = length-head (length es)
length-slot es (suc k) = go (slice_get es k) where
  go : (m : Option CheckEntry) → length (option_map_or check_entry_bytes m (replicate 32 0)) ≡ 32
  go None = refl
  go (Some e) = length-entry e

-- fronts of one length are one
fronts : (xs ys us vs : List ℕ) → length xs ≡ length ys → xs ++ us ≡ ys ++ vs → (xs ≡ ys) × (us ≡ vs)
fronts [] [] us vs len same = (refl, same)
fronts [] (y ∷ ys) us vs len same = absurd (omega arith)
fronts (x ∷ xs) [] us vs len same = absurd (omega arith)
fronts (x ∷ xs) (y ∷ ys) us vs len same =
    let head : x ≡ y = cc in
    let tail : xs ++ us ≡ ys ++ vs = cc in
    let rest = fronts xs ys us vs (omega arith) tail in
    (ap (λ v. v ∷ xs) head ∙ ap (λ v. y ∷ v) rest.0, rest.1)

-- rows of parts of one length are one only where the parts are
rows : (f g : ℕ → List ℕ) → ((k : ℕ) → length (f k) ≡ length (g k)) → (a n : ℕ) → flat_map f (range_with_len a n) ≡ flat_map g (range_with_len a n) → (k : ℕ) → k < n → f (a + k) ≡ g (a + k)
rows f g len a zero same k lt = absurd (omega arith)
rows f g len a (suc n) same k lt =
    let parts = fronts (f a) (g a) (flat_map f (range_with_len (a + 1) n)) (flat_map g (range_with_len (a + 1) n)) (len a) same in
    elim (cases_eq k 0) [
      | inl first ↦ let at : a + k ≡ a = omega (arith, first) in ap f at ∙ parts.0 ∙ ap g (sym at)
      | inr more ↦
          let rest = rows f g len (a + 1) n parts.1 (k - 1) (omega (arith, more, lt)) in
          let at : a + k ≡ a + 1 + (k - 1) = omega (arith, more) in
          ap f at ∙ rest ∙ ap g (sym at)
    ]

-- ---- pages

mod-lt : (k d : ℕ) → 1 ≤ d → k % d < d
mod-lt k d some = grind arith

div_below : (k count d : ℕ) → k < count * d → k / d < count
div_below k count d lt = elim (cases_lt (k / d) count) [
  | inl less ↦ less
  | inr more ↦
      let le : count * d ≤ k / d * d = mul-le-mul_right d (omega (arith, more)) in
      let split : k / d * d + k % d ≡ k = div-add-mod' k d in
      absurd (omega (arith, le, split, lt))
]

-- what holds of each entry holds of the one at a place
pub all_at : (P : CheckEntry → Type 0) (es : List CheckEntry) (k : ℕ) (e : CheckEntry) → All P es → slice_get es k ≡ Some e → P e
all_at P es k e all is = elim (slice_get_cases es k).1 [
  | inl (x, lt, there, at) ↦ let same : x ≡ e = same_Some x e (sym there ∙ is) in subst P (at ∙ same) (all k x lt)
  | inr (past, none) ↦ let two : None ≡ Some e = sym none ∙ is in absurd cc
]

module _ (d : ℕ) (some : 32 ≤ d) (es fs : List CheckEntry) (count : ℕ) (same : (i : ℕ) → i < count → check_page d es i ≡ check_page d fs i) where
  abbrev per : ℕ
  per = d / 32

  -- where the pages are the same, so are their parts
  same_slot : (k : ℕ) → k < count * per → check_slot es k ≡ check_slot fs k
  same_slot k lt =
      let one : 1 ≤ per = grind arith in
      let split : k / per * per + k % per ≡ k = div-add-mod' k per in
      let rest : k % per < per = mod-lt k per one in
      let page : k / per < count = div_below k count per lt in
      let row = rows (check_slot es) (check_slot fs) (λ j. length-slot es j ∙ sym (length-slot fs j)) (k / per * per) per (same (k / per) page) (k % per) rest in
      ap (check_slot es) (sym split) ∙ row ∙ ap (check_slot fs) split

  module _ (fits : 1 + length es ≤ count * per) (fits_too : 1 + length fs ≤ count * per) (within_limit : count * per < 2 ^ 64) (right : All IsCheckEntry es) (right_too : All IsCheckEntry fs) where
    -- and so the number of entries
    same_count : length es ≡ length fs
    same_count = sym (number_read (length es) (omega (arith, fits, within_limit))) ∙ ap (λ (bytes : List ℕ). little_number 8 (drop 8 bytes)) (same_slot 0 (omega (arith, fits))) ∙ number_read (length fs) (omega (arith, fits_too, within_limit))

    same_one : (k : ℕ) (e f : CheckEntry) → slice_get es k ≡ Some e → slice_get fs k ≡ Some f → e ≡ f
    same_one k e f is is' =
        let lt = slice_get_within es k e is in
        let slots : check_slot es (suc k) ≡ check_slot fs (suc k) = same_slot (suc k) (omega (arith, lt, fits)) in
        let bytes : check_entry_bytes e ≡ check_entry_bytes f = ap (λ (m : Option CheckEntry). option_map_or check_entry_bytes m (replicate 32 0)) (sym is) ∙ slots ∙ ap (λ (m : Option CheckEntry). option_map_or check_entry_bytes m (replicate 32 0)) is' in
        sym (entry_read e (all_at IsCheckEntry es k e right is)) ∙ ap check_entry_in bytes ∙ entry_read f (all_at IsCheckEntry fs k f right_too is')

    -- and the entries
    pub same_entries : es ≡ fs
    same_entries = same_lists es fs same_count same_one
