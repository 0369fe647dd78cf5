-- What holds of a device and its table while groups are written.
use Rattle.std.specs.Prelude.{◌≡◌, ◌≢◌, ◌<◌, ◌≤◌, ℕ, ◌+◌, true, false, Some, None, List, length}
use Rattle.nand_model.specs.Flash.{Flash, Erased}
use Rattle.nand_model.specs.Calls.{Device}
use Rattle.page_tags.specs.declared.tag.Tag.{Tag}
use Rattle.flash_tree.specs.Groups.{HasTag}
use Rattle.flash_tree.specs.Numbering.{AreBelow}
use Rattle.block_state.specs.Table.{Table}
use Rattle.transactions.specs.declared.place.GroupPlace.{GroupPlace}
use Rattle.volume_terms.specs.Sizes.{number_end}

-- The pages of block o before its next one were programmed in order since it was erased: none is erased, and each tag in the block has
-- the block's seq.
pub record IsWrittenInOrder (flash : Flash) (o next seq : ℕ) : Type 0 where
  pub written : (l : ℕ) → l < next → flash.page o l ≢ Erased
  pub own : (l : ℕ) (u : Tag) → HasTag flash o l u → u.seq ≡ seq

-- The open block can be written: it is good, its next page is the device's, so that all pages from there on are erased, its number was
-- the last that was handed out, and on an honest device those before are written in order.
pub record IsOpenOn (device : Device) (t : Table) (o : ℕ) : Type 0 where
  pub within : o < device.geometry.blocks
  pub good : device.flash.bad o ≡ false
  pub next : device.flash.next o ≡ Some (t.entry o).next
  pub pages : (t.entry o).next ≤ device.geometry.pages
  pub seq : (1 ≤ (t.entry o).seq) × (t.next_seq ≡ (t.entry o).seq + 1)
  pub in_order : device.honest ≡ true → IsWrittenInOrder device.flash o (t.entry o).next (t.entry o).seq

-- The block that may have a whole checkpoint is a good one of the device, and no block is open: nothing is programmed while
-- a checkpoint is whole.
pub record IsWaiting (device : Device) (t : Table) (c : ℕ) : Type 0 where
  pub within : c < device.geometry.blocks
  pub good : device.flash.bad c ≡ false
  pub closed : t.open_block ≡ None

-- What every group needs, and keeps: the table is of the device, its marks are the device's, the open block can be
-- written, no block is open while there may be a checkpoint, and the next numbers are above all that are on an honest device.
pub record IsReady (device : Device) (t : Table) : Type 0 where
  pub geometry : t.geometry ≡ device.geometry
  pub marks : (b : ℕ) → (t.entry b).bad ≡ device.flash.bad b
  pub open_block : (o : ℕ) → t.open_block ≡ Some o → IsOpenOn device t o
  pub waits : (c : ℕ) → t.checkpoint ≡ Some c → IsWaiting device t c
  pub numbers : (1 ≤ t.next_group) × (1 ≤ t.next_seq)
  pub below : device.honest ≡ true → AreBelow device.flash t.next_group t.next_seq

-- The place of the next group of so many pages: the next pages of the open block, with the next number.
pub record IsPlaceIn (t : Table) (count : ℕ) (place : GroupPlace) : Type 0 where
  pub block : t.open_block ≡ Some place.block
  pub first : place.first ≡ (t.entry place.block).next
  pub count_is : place.count ≡ count
  pub pages : place.first + count ≤ t.geometry.pages
  pub group : place.group ≡ t.next_group
  pub seq : place.seq ≡ (t.entry place.block).seq

-- a group can get a number, and the scratch page is as long as a page
pub record CanWrite (scratch : List ℕ) (device : Device) (t : Table) : Type 0 where
  pub number : t.next_group < number_end
  pub size : length scratch ≡ device.geometry.bytes
