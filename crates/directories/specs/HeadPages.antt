-- The page of a directory's header.
use Rattle.std.specs.Prelude.{◌≡◌, ℕ, List, length}
use Rattle.page_tags.specs.Headers.{IsHeader, header_bytes}
use Rattle.flash_tree.specs.declared.place.FreshPage.{FreshPage}
use Rattle.directories.specs.Heads.{fields_in}
use Rattle.directories.specs.declared.head.DirectoryHead.{DirectoryHead}

-- the page, of d bytes, is this header
pub record IsHeadIn (page : List ℕ) (d : ℕ) (head : DirectoryHead) : Type 0 where
  pub valid : IsHeader d (fields_in d head)
  pub encodes : page ≡ header_bytes (fields_in d head)
  pub size : length page ≡ d

-- the page of the object's header
pub record IsHeadPage (page : FreshPage) (d object : ℕ) (head : DirectoryHead) : Type 0 where
  pub object_is : page.key.object ≡ object
  pub chunk_is : page.key.chunk ≡ 0
  pub head_is : IsHeadIn page.bytes.items d head
