-- What the header of a directory says.
use Rattle.std.specs.Prelude.{◌≡◌, ℕ, ◌-◌, Some, replicate}
use Rattle.page_tags.specs.Headers.{Fields, IsHeader, header_bytes}
use Rattle.page_tags.specs.declared.header.Format.TheVariants as formats
use Rattle.page_tags.specs.declared.header.ObjectKind.TheVariants as kinds
use Rattle.pages.specs.State.{PagesState}
use Rattle.directories.specs.declared.head.DirectoryHead.{DirectoryHead}

-- what a header says of its directory
pub record IsHeadOf (head : DirectoryHead) (f : Fields) : Type 0 where
  pub spare : head.spare ≡ f.spare
  pub length_is : head.length ≡ f.length
  pub moment : head.moment ≡ f.moment

-- the page of chunk 0 of the object is the header of a directory
pub record IsHeaded (p : PagesState) (o : ℕ) : Type 0 where
  pub fields : Fields
  pub has : p.present o 0 ≡ Some (header_bytes fields)
  pub valid : IsHeader p.page_bytes fields
  pub kind : fields.kind ≡ kinds.Directory

-- and this is what it says
abbrev pub SaysHead : PagesState → ℕ → DirectoryHead → Type 0
SaysHead p o head = (h : IsHeaded p o) × IsHeadOf head h.fields

-- the header as it is written, in a page of d bytes: in format 2, without a presence bit
abbrev pub fields_in : ℕ → DirectoryHead → Fields
fields_in d head = record { format = formats.Two; kind = kinds.Directory; spare = head.spare; length = head.length; moment = head.moment; bits = replicate (d - 32) 0 }
