-- The header of an object, the page of its chunk 0.
use Rattle.std.specs.Prelude.{◌≡◌, ◌≢◌, ◌⊎◌, ◌<◌, ◌≤◌, ℕ, ◌+◌, ◌-◌, ◌/◌, ◌%◌, ◌^◌, Bool, true, List, [], ◌∷◌, ◌++◌, length, take, drop, replicate, slice_index, nat_eq}
use Rattle.std.specs.Int.{bit_at}
use Rattle.byteorder.specs.Endian.{little_bytes, little_number}
use Rattle.page_tags.specs.declared.header.Format.{Format}
use Rattle.page_tags.specs.declared.header.Format.TheVariants as formats
use Rattle.page_tags.specs.declared.header.ObjectKind.{ObjectKind}
use Rattle.page_tags.specs.declared.header.ObjectKind.TheVariants as kinds
use Rattle.page_tags.specs.declared.header.HeaderFault.{HeaderFault}
use Rattle.page_tags.specs.declared.header.HeaderFault.TheVariants as faults
use Rattle.volume_terms.specs.Sizes.{most_file_bytes}

-- What a header says; its presence bits as the bytes that hold them.
pub record Fields : Type 0 where
  pub format : Format
  pub kind : ObjectKind
  pub spare : ℕ
  pub length : ℕ
  pub moment : ℕ
  pub bits : List ℕ

-- the four bytes that a header begins with: `NLFS`
abbrev pub magic : List ℕ
magic = 78 ∷ 76 ∷ 70 ∷ 83 ∷ []

abbrev pub format_number : Format → ℕ
format_number formats.One = 1
format_number formats.Two = 2

abbrev pub kind_number : ObjectKind → ℕ
kind_number kinds.File = 1
kind_number kinds.Directory = 2

-- the page that says it: bytes 0..4, 4, 5, 6..8, 8..16, 16..24, 24..32 and 32 to the end
unfoldable pub header_bytes : Fields → List ℕ
header_bytes f =
    magic ++ (format_number f.format ∷ kind_number f.kind ∷ []) ++ little_bytes 2 f.spare ++ little_bytes 8 f.length
    ++ little_bytes 8 f.moment ++ replicate 8 0 ++ f.bits

-- Whether chunk c, from 1 up, is present: bit (c - 1) mod 8 of byte (c - 1) div 8, the least bit first.
unfoldable pub is_present : List ℕ → ℕ → Bool
is_present bits c = nat_eq (bit_at (slice_index bits ((c - 1) / 8)) ((c - 1) % 8)) 1

-- each of them is a byte
abbrev pub IsBytes : List ℕ → Type 0
IsBytes bytes = (i : ℕ) → slice_index bytes i < 256

-- the greatest length over pages of d bytes: the bytes of a file that presence bits can name, or entries of a directory
abbrev pub greatest_recorded : ℕ → ObjectKind → ℕ
greatest_recorded d kinds.File = most_file_bytes d
greatest_recorded d kinds.Directory = 2 ^ 32 - 1

-- A bit of chunk c may be set: in a file up to the chunk of its last byte, in a directory none.
abbrev pub MayBeSet : ℕ → ObjectKind → ℕ → ℕ → Type 0
MayBeSet d kinds.File len c = c ≤ (len + d - 1) / d
MayBeSet d kinds.Directory len c = ⊥

-- what a header may say in a page of d bytes
pub record IsHeader (d : ℕ) (f : Fields) : Type 0 where
  pub spare : f.spare < 2 ^ 16
  pub length_fits : f.length ≤ greatest_recorded d f.kind
  pub moment : f.moment < 2 ^ 64
  pub no_moment : f.format ≡ formats.One → f.moment ≡ 0
  pub room : length f.bits ≡ d - 32
  pub bytes : IsBytes f.bits
  pub within : (c : ℕ) → 1 ≤ c → is_present f.bits c ≡ true → MayBeSet d f.kind f.length c

-- the page is the encoding of these fields
pub record IsHeaderOf (page : List ℕ) (f : Fields) : Type 0 where
  pub valid : IsHeader (length page) f
  pub encodes : page ≡ header_bytes f

-- the numbers that are in a page
abbrev pub length_in : List ℕ → ℕ
length_in page = little_number 8 (drop 8 page)

abbrev pub moment_in : List ℕ → ℕ
moment_in page = little_number 8 (drop 16 page)

-- What is wrong with a page that should be a header. Several may be wrong at once.
abbrev pub HasFault : List ℕ → HeaderFault → Type 0
HasFault page faults.Magic = (take 4 page ≢ magic) ⊎ (slice_index page 4 ≡ 0)
HasFault page (faults.Newer format) = (slice_index page 4 ≡ format) × (2 < format)
HasFault page faults.Kind = (slice_index page 5 ≢ 1) × (slice_index page 5 ≢ 2)
HasFault page faults.Length = (kind : ObjectKind) × (slice_index page 5 ≡ kind_number kind) × (greatest_recorded (length page) kind < length_in page)
HasFault page faults.Pad =
    ((slice_index page 4 ≡ 1) × (moment_in page ≢ 0))
    ⊎ (take 8 (drop 24 page) ≢ replicate 8 0)
    ⊎ ((kind : ObjectKind) × (c : ℕ) × (slice_index page 5 ≡ kind_number kind) × (1 ≤ c) × (is_present (drop 32 page) c ≡ true) × (MayBeSet (length page) kind (length_in page) c → ⊥))

-- the order in which faults are reported
abbrev pub rank : HeaderFault → ℕ
rank faults.Magic = 0
rank (faults.Newer format) = 1
rank faults.Kind = 2
rank faults.Length = 3
rank faults.Pad = 4

-- the page has this fault, and none before it in the order
pub record IsFirstFault (page : List ℕ) (fault : HeaderFault) : Type 0 where
  pub here : HasFault page fault
  pub first : (other : HeaderFault) → rank other < rank fault → HasFault page other → ⊥
