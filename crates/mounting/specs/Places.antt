-- Where the pages of a mounted volume lie.
-- From: this project.
use Rattle.std.specs.Prelude.{◌≡◌, ℕ, Some}
use Rattle.nand_model.specs.Calls.{Device}
use Rattle.nand_model.specs.Flash.{Flash}
use Rattle.nand_model.specs.declared.nand.Nand.{Ghosts}
use Rattle.posix_profile.specs.State.{Objects}
use Rattle.flash_tree.specs.Mount.{Answers, IsTreeOf, sizes_of}
use Rattle.block_state.specs.Table.{Table}
use Rattle.chunk_index.specs.declared.index.Index.{Index}
use Rattle.chunk_index.specs.Free.{HasMarks}
use Rattle.chunk_index.specs.Maps.{CountsAgree, committed_pages}
use Rattle.page_store.specs.FlashParts.{index_in, table_in}
use Rattle.page_store.specs.declared.flash_pages.FlashPages.{FlashPages}
use Rattle.mounting.specs.Mounted.{KeepsPlaces}

-- The pages have this index; and where they can be written, their table of blocks has the marks of the flash, and for each block the number
-- of its committed pages.
pub record HasTables {N : Type 0} {nand : Ghosts N} (flash : Flash) (x : Index) (pages : FlashPages N nand) : Type 0 where
  pub index : index_in pages ≡ x
  pub marks : (t : Table) → table_in pages ≡ Some t → HasMarks flash t
  pub counts : (t : Table) → table_in pages ≡ Some t → CountsAgree t x

-- The device shows a tree. Exactly the keys that are looked up to see it are committed, each at its newest page, and the marks and counts
-- of the table are those of a scan.
pub record ArePlaced {N : Type 0} {nand : Ghosts N} (device : Device) (spare : ℕ) (pages : FlashPages N nand) : Type 0 where
  pub objects : Objects
  pub answers : Answers device.geometry device.flash (IsTreeOf spare objects)
  pub places : KeepsPlaces device.flash (sizes_of device.geometry spare) objects (committed_pages (index_in pages))
  pub tables : HasTables device.flash (index_in pages) pages
