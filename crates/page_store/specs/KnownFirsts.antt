-- What a table of blocks knows of the first page of each.
-- From: this project.
use Rattle.std.specs.Prelude.{◌≡◌, ◌≢◌, ◌<◌, ◌≤◌, ℕ, true, false, List, Option, Some, None, slice_get}
use Rattle.nand_model.specs.Flash.{Flash, Erased, IsWithin}
use Rattle.nand_model.specs.Calls.{Device}
use Rattle.page_tags.specs.declared.tag.Tag.{Tag}
use Rattle.flash_tree.specs.Groups.{HasTag}
use Rattle.flash_tree.specs.Numbering.{AreBelow}
use Rattle.flash_tree.specs.ErasedBlocks.{BeginsErased, OnlyFirstHasTags, GoesFirst}
use Rattle.block_state.specs.Table.{Table}
use Rattle.mount_scan.specs.declared.first_page.FirstPage.{FirstPage}
use Rattle.mount_scan.specs.declared.first_page.FirstPage.TheVariants as firsts
use Rattle.page_store.specs.Opened.{NotesOne}

-- the number that the first page of a block gives it: that of its tag, or 1 where it was written and has none
abbrev pub number_of_first : FirstPage → Option ℕ
number_of_first firsts.Bad = None
number_of_first firsts.Erased = None
number_of_first firsts.Untagged = Some 1
number_of_first (firsts.Tagged seq) = Some seq
number_of_first (firsts.Summary count number seq) = Some seq

-- The block gets the number of its first page, if there is one, where that was handed out; and else nothing changes.
pub record NotesFirst (b : ℕ) (first : FirstPage) (old new : Table) : Type 0 where
  pub some : (seq : ℕ) → number_of_first first ≡ Some seq → NotesOne b seq old new
  pub none : number_of_first first ≡ None → new ≡ old

-- block b is one of the first n, and its first page gives it this number, which was handed out
pub record IsNumbered (pages : List FirstPage) (n : ℕ) (t : Table) (b seq : ℕ) : Type 0 where
  pub within : b < n
  pub first : FirstPage
  pub there : slice_get pages b ≡ Some first
  pub number : number_of_first first ≡ Some seq
  pub below : seq < t.next_seq

-- Each of the first n blocks has the number of its first page where that was handed out, as one in which something was programmed; each
-- other block stays as it was.
pub record NotesFirsts (pages : List FirstPage) (n : ℕ) (old new : Table) : Type 0 where
  pub numbered : (b seq : ℕ) → IsNumbered pages n old b seq → ((new.entry b).seq ≡ seq) × ((new.entry b).next ≡ old.geometry.pages)
  pub others : (b : ℕ) → ((seq : ℕ) → IsNumbered pages n old b seq → ⊥) → new.entry b ≡ old.entry b

-- as far as the table knows nothing was programmed in any block, and none was allocated
abbrev pub AreUnwritten : Table → Type 0
AreUnwritten t = (b : ℕ) → ((t.entry b).next ≡ 0) × ((t.entry b).seq ≡ 0)

-- The table is one of an honest device, as far as it knows nothing was programmed in any block, and the numbers of all tags were handed
-- out, of which there is one at the least.
pub record IsUnwrittenOf (device : Device) (t : Table) : Type 0 where
  pub honest : device.honest ≡ true
  pub geometry : t.geometry ≡ device.geometry
  pub unwritten : AreUnwritten t
  pub handed : AreBelow device.flash t.next_group t.next_seq
  pub some : 1 < t.next_seq

-- Of each good block the table knows whether it begins erased: then it has nothing of it; and else it has its number, which is that of the
-- tag of its first page, where that has one.
pub record KnowsFirsts (flash : Flash) (t : Table) : Type 0 where
  pub erased : (b : ℕ) → b < t.geometry.blocks → BeginsErased flash b → ((t.entry b).next ≡ 0) × ((t.entry b).seq ≡ 0)
  pub written : (b : ℕ) → b < t.geometry.blocks → flash.bad b ≡ false → flash.page b 0 ≢ Erased → (1 ≤ (t.entry b).next) × (1 ≤ (t.entry b).seq)
  pub tagged : (b : ℕ) (u : Tag) → b < t.geometry.blocks → flash.bad b ≡ false → HasTag flash b 0 u → (t.entry b).seq ≡ u.seq
  pub aged : (b : ℕ) → 1 ≤ (t.entry b).next → 1 ≤ (t.entry b).seq

-- What a table of a device has besides, in which no block is open: its marks are the device's; of the blocks that begin erased the first
-- alone has tags, and none has a committed page; and the block that may have a checkpoint goes first.
pub record MayKnowErased (device : Device) (t : Table) : Type 0 where
  pub geometry : t.geometry ≡ device.geometry
  pub within : IsWithin device.geometry.pages device.geometry.blocks device.flash
  pub marks : (b : ℕ) → (t.entry b).bad ≡ device.flash.bad b
  pub closed : t.open_block ≡ None
  pub first : OnlyFirstHasTags device.flash
  pub committed : (b : ℕ) → BeginsErased device.flash b → (t.entry b).committed ≡ 0
  pub noted : (c : ℕ) → t.checkpoint ≡ Some c → GoesFirst device.flash c
