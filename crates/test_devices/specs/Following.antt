-- How a flash that is put together knows its device.
use Rattle.std.specs.Prelude.{◌≡◌, ℕ, ◌+◌, Option, Some, List, length, slice_get, All}
use Rattle.nand_model.specs.Flash.{Written}
use Rattle.nand_model.specs.Calls.{Device}
use Rattle.page_tags.specs.declared.tag.Tag.{Tag}
use Rattle.page_tags.specs.Tags.{tag_bytes}

-- It has an entry for each block, which is the block's next page or none, and room for the data of one page.
pub record IsFollowed (device : Device) (nexts : List (Option ℕ)) (room : List ℕ) : Type 0 where
  pub blocks : length nexts ≡ device.geometry.blocks
  pub bytes : length room ≡ device.geometry.bytes
  pub next : (b p : ℕ) → slice_get nexts b ≡ Some (Some p) → device.flash.next b ≡ Some p

-- the page was written with this tag and data bytes that are all the same, and the block's next page is the one after it
pub record HasWritten (block page : ℕ) (tag : Tag) (fill : ℕ) (device : Device) : Type 0 where
  pub bytes : List ℕ
  pub filled : All (λ x. x ≡ fill) bytes
  pub stored : device.flash.page block page ≡ Written bytes (tag_bytes tag)
  pub next : device.flash.next block ≡ Some (page + 1)
