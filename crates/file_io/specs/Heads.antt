-- What is reported of the header of a file.
use Rattle.std.specs.Prelude.{◌≡◌, ◌<◌, ◌+◌, ◌/◌, ℕ, true, List, Some, drop}
use Rattle.page_tags.specs.HeaderFields.{file_fields}
use Rattle.page_tags.specs.Headers.{Fields, is_present}
use Rattle.volume_terms.specs.Sizes.{Sizes}
use Rattle.pages.specs.State.{PagesState}
use Rattle.file_io.specs.Files.{FileIn, HasCommittedPages, HasFileHeader, HasLastPage}
use Rattle.file_io.specs.declared.file_head.FileHead.{FileHead}

-- the presence bits, which are in its page
abbrev pub bits_in : FileHead → List ℕ
bits_in head = drop 32 head.page.items

-- what it says, as the fields of a header
abbrev pub head_fields : FileHead → Fields
head_fields head = file_fields head.length head.moment (bits_in head)

-- what the header says of its file
pub record IsHeadOf (head : FileHead) (f : Fields) : Type 0 where
  pub length_is : head.length ≡ f.length
  pub moment : head.moment ≡ f.moment
  pub bits : bits_in head ≡ f.bits

-- the object has the header of a file, and this is what it says
abbrev pub SaysHead : PagesState → ℕ → FileHead → Type 0
SaysHead p o head = (h : HasFileHeader p o) × IsHeadOf head h.fields

-- this holds of the object, if it is a file in a sound store and this is its header, by its bytes
abbrev pub OfHead : PagesState → ℕ → FileHead → (List ℕ → Type 0) → Type 0
OfHead p o head A = (z : Sizes) (moment : ℕ) (bytes : List ℕ) (f : FileIn p z o moment bytes) → IsHeadOf head f.reads.fields → A bytes

-- chunk k of the bytes, if the header names it, has a page
abbrev pub HasChunkPage : PagesState → ℕ → FileHead → ℕ → Type 0
HasChunkPage p o head k = is_present (bits_in head) (1 + k) ≡ true → (page : List ℕ) × (p.present o (1 + k) ≡ Some page)

-- each chunk that the header names, and of which a write of n bytes from a place on keeps a part, has a page
abbrev pub HasPartPages : PagesState → ℕ → FileHead → ℕ → ℕ → Type 0
HasPartPages p o head off n = HasCommittedPages p o (head_fields head) off n

-- the last chunk, if it is before chunk k, its bytes do not fill it and the header names it, has a page
abbrev pub HasTailPage : PagesState → ℕ → FileHead → ℕ → Type 0
HasTailPage p o head k = head.length / p.page_bytes < k → HasLastPage p o (head_fields head)
