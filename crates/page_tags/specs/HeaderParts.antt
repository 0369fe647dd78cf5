-- What the tests of a page that should be a header are about.
use Rattle.std.specs.Prelude.{◌≡◌, ◌<◌, ◌≤◌, ℕ, ◌+◌, ◌-◌, ◌/◌, true, false, List, [], ◌∷◌, ◌++◌, length, take, drop, replicate, slice_index}
use Rattle.byteorder.specs.Endian.{little_bytes, little_number}
use Rattle.page_tags.specs.declared.header.Format.{Format}
use Rattle.page_tags.specs.declared.header.Format.TheVariants as formats
use Rattle.page_tags.specs.declared.header.ObjectKind.{ObjectKind}
use Rattle.page_tags.specs.declared.header.ObjectKind.TheVariants as kinds
use Rattle.page_tags.specs.Headers.{Fields, MayBeSet, format_number, greatest_recorded, is_present, kind_number, length_in, magic, moment_in}

-- the bytes before the presence bits
abbrev pub head_bytes : Fields → List ℕ
head_bytes f =
    magic ++ (format_number f.format ∷ kind_number f.kind ∷ []) ++ little_bytes 2 f.spare ++ little_bytes 8 f.length ++ little_bytes 8 f.moment
    ++ replicate 8 0

-- what a page says that begins as one of this format and kind
abbrev pub fields_in : List ℕ → Format → ObjectKind → Fields
fields_in page format kind = record {
  format = format;
  kind = kind;
  spare = little_number 2 (drop 6 page);
  length = length_in page;
  moment = moment_in page;
  bits = drop 32 page;
}

-- the last chunk whose bit may be set, or 0
abbrev pub last_chunk : ℕ → ObjectKind → ℕ → ℕ
last_chunk d kinds.File n = (n + d - 1) / d
last_chunk d kinds.Directory n = 0

-- some chunk past the last one is present
abbrev pub HasPast : List ℕ → ℕ → Type 0
HasPast bits last = (c : ℕ) × (last < c) × (is_present bits c ≡ true)

-- no chunk past the last one is present
abbrev pub HasNonePast : List ℕ → ℕ → Type 0
HasNonePast bits last = (c : ℕ) → last < c → is_present bits c ≡ false

-- the page begins as a header of this format does
pub record HasFormat (page : List ℕ) (format : Format) : Type 0 where
  pub magic_first : take 4 page ≡ magic
  pub format_next : slice_index page 4 ≡ format_number format

-- the page begins as a header of this format and kind, and nothing is wrong in what it says
pub record IsSoundHeader (page : List ℕ) (format : Format) (kind : ObjectKind) : Type 0 where
  pub begins : HasFormat page format
  pub kind_next : slice_index page 5 ≡ kind_number kind
  pub length_fits : length_in page ≤ greatest_recorded (length page) kind
  pub no_moment : format ≡ formats.One → moment_in page ≡ 0
  pub zeros : take 8 (drop 24 page) ≡ replicate 8 0
  pub within : (c : ℕ) → 1 ≤ c → is_present (drop 32 page) c ≡ true → MayBeSet (length page) kind (length_in page) c
