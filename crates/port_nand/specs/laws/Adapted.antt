-- What holds of a flash whose tags are unpacked.
use Rattle.std.specs.Prelude.{◌≡◌, ◌<◌, ℕ, zero, suc, Bool, true, false, Option, Some, None, List, [], ◌∷◌, ◌++◌, if◌then◌else◌}
use Rattle.std.proofs.Common.{refl, ap, subst, arith}
use Rattle.std.specs.Int.{byte_at, bytes_low_first}
use Rattle.byteorder.specs.Endian.{little_bytes}
use Rattle.nand_model.specs.Flash.{Flash, Page, Erased, Written, Uncorrectable, IsClean, IsWithin, IsSized, AreBytes}
use Rattle.page_tags.specs.Headers.{IsBytes}
use Rattle.page_tags.specs.Tags.{tag_bytes}
use Rattle.port_nand.specs.Packed.{unpacked, packed_tag_in}
use Rattle.port_nand.specs.Refused.{is_closed}
use Rattle.port_nand.specs.SmallSpare.{IsSmallSized}
use Rattle.port_nand.specs.Adapted.{unpacked_page, unpacked_flash}
use Rattle.port_nand.specs.declared.refusals.Refusals.{Refusals}

-- a block with a next page is open, and the page is the device's own
pub next_open : (closed : Bool) (next : Option ℕ) (p : ℕ) → (if closed then None else next) ≡ Some p → (closed ≡ false) × (next ≡ Some p)
next_open true next p is = absurd cc
next_open false next p is = (refl, is)

next_none : (closed : Bool) (next : Option ℕ) → next ≡ None → (if closed then None else next) ≡ None
next_none true next is = refl
next_none false next is = is

byte_is : (i x : ℕ) → byte_at i x < 256
byte_is zero x = omega arith
byte_is (suc i) x = omega arith

-- its numbers are bytes
low_bytes_are : (i n x : ℕ) → IsBytes (bytes_low_first i n x)
low_bytes_are i zero x k = omega arith
low_bytes_are i (suc n) x zero = byte_is i x
low_bytes_are i (suc n) x (suc k) = low_bytes_are (suc i) n x k

joined_are : (xs ys : List ℕ) → IsBytes xs → IsBytes ys → IsBytes (xs ++ ys)
joined_are [] ys left right i = right i
joined_are (x ∷ xs) ys left right zero = left 0
joined_are (x ∷ xs) ys left right (suc i) = joined_are xs ys (λ k. left (suc k)) right i

fields_are : (n x : ℕ) (rest : List ℕ) → IsBytes rest → IsBytes (little_bytes n x ++ rest)
fields_are n x rest each = joined_are (little_bytes n x) rest (low_bytes_are 0 n x) each

-- any bytes are unpacked to 48
module _ (packed : List ℕ) where
  abbrev s5 : List ℕ
  s5 = little_bytes 8 (packed_tag_in packed).seq

  abbrev s4 : List ℕ
  s4 = little_bytes 8 (packed_tag_in packed).group ++ s5

  abbrev s3 : List ℕ
  s3 = little_bytes 8 (packed_tag_in packed).version ++ s4

  abbrev s2 : List ℕ
  s2 = little_bytes 8 (packed_tag_in packed).chunk ++ s3

  abbrev s1 : List ℕ
  s1 = little_bytes 8 (packed_tag_in packed).object ++ s2

  abbrev s0 : List ℕ
  s0 = little_bytes 4 (packed_tag_in packed).count ++ s1

  pub unpacked_are : AreBytes 48 (unpacked packed)
  unfolding unpacked tag_bytes
  unpacked_are =
      let t = packed_tag_in packed in
      let from_40 : IsBytes s5 = low_bytes_are 0 8 t.seq in
      let from_32 = fields_are 8 t.group s5 from_40 in
      let from_24 = fields_are 8 t.version s4 from_32 in
      let from_16 = fields_are 8 t.chunk s3 from_24 in
      let from_8 = fields_are 8 t.object s2 from_16 in
      let from_4 = fields_are 4 t.count s1 from_8 in
      record { len = refl; each = fields_are 4 t.index s0 from_4 }

module _ (refusals : Refusals) where
  pub clean_unpacked : (flash : Flash) → IsClean flash → IsClean (unpacked_flash refusals flash)
  clean_unpacked flash clean b p q next le =
      ap unpacked_page (clean b p q (next_open (is_closed refusals.closed b) (flash.next b) p next).1 le)

  pub within_unpacked : (pages blocks : ℕ) (flash : Flash) → IsWithin pages blocks flash → IsWithin pages blocks (unpacked_flash refusals flash)
  within_unpacked pages blocks flash within = record {
    bad = within.bad;
    next = λ b le. next_none (is_closed refusals.closed b) (flash.next b) (within.next b le);
    block = λ b p le. ap unpacked_page (within.block b p le);
    page = λ b p le. ap unpacked_page (within.page b p le);
    next_page = λ b p is. within.next_page b p (next_open (is_closed refusals.closed b) (flash.next b) p is).1;
  }

  pub sized_unpacked : (size : ℕ) (flash : Flash) → IsSmallSized size flash → IsSized size (unpacked_flash refusals flash)
  sized_unpacked size flash sized b p bytes tag is = of_page (flash.page b p) (sized b p) is where
    of_page : (page : Page) → ((bytes tag : List ℕ) → page ≡ Written bytes tag → AreBytes size bytes × AreBytes 24 tag)
        → unpacked_page page ≡ Written bytes tag → AreBytes size bytes × AreBytes 48 tag
    of_page Erased each is = absurd cc
    of_page Uncorrectable each is = absurd cc
    of_page (Written said packed) each is =
        let same_bytes : said ≡ bytes = cc in
        let same_tag : unpacked packed ≡ tag = cc in
        (subst (AreBytes size) same_bytes (each said packed refl).0, subst (AreBytes 48) same_tag (unpacked_are packed))
