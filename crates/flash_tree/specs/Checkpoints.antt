-- Checkpoints on a flash, and which flashes are true.
-- From: the format: checkpoints, `FORMATS.md`.
use Rattle.std.specs.Prelude.{◌≡◌, ◌≢◌, ◌⊎◌, ℕ, ◌+◌, ◌*◌, true, false, List, length, Option, Some, All, Contains, AllPairs}
use Rattle.volume_terms.specs.Rounding.{ceiling}
use Rattle.nand_model.specs.Flash.{Flash, Written}
use Rattle.nand_model.specs.Changes.{Grows}
use Rattle.nand_model.specs.declared.geometry.Geometry.{Geometry}
use Rattle.page_tags.specs.declared.tag.Tag.{Tag}
use Rattle.page_tags.specs.Checks.{IsCheckEntry, IsEntryBefore, check_page}
use Rattle.page_tags.specs.declared.check.CheckEntry.{CheckEntry}
use Rattle.posix_profile.specs.State.{Objects}
use Rattle.flash_tree.specs.Groups.{HasTag, Group, SameGroups, AddsGroup, AllThere}
use Rattle.flash_tree.specs.Newest.{Spot, IsNewest, HasNewest, AreAbove}
use Rattle.flash_tree.specs.Numbering.{AreBelow}
use Rattle.flash_tree.specs.Tree.{Shows, InFootprint}
use Rattle.flash_tree.specs.Mount.{sizes_of, IsVolume}
use Rattle.flash_tree.specs.Slots.{check_object}

-- A checkpoint by its block, the number of its pages, the number of its group, the block's seq, and its entries.
pub record Checkpoint : Type 0 where
  pub block : ℕ
  pub size : ℕ
  pub number : ℕ
  pub seq : ℕ
  pub entries : List CheckEntry

-- its group, which begins with the block
abbrev pub check_group : Checkpoint → Group
check_group c = record { block = c.block; start = 0; size = c.size; number = c.number; seq = c.seq }

-- the tag of its page i
abbrev pub check_tag : Checkpoint → ℕ → Tag
check_tag c i = record { index = i; count = c.size; object = check_object; chunk = 1 + i; version = c.number; group = c.number; seq = c.seq }

-- The checkpoint is whole: its group counts, its pages are the head and the entries, and the keys of these rise.
pub record IsWhole (g : Geometry) (flash : Flash) (c : Checkpoint) : Type 0 where
  pub good : flash.bad c.block ≡ false
  pub size : c.size ≡ ceiling (32 * (1 + length c.entries)) g.bytes
  pub pages : AllThere (check_group c) (check_tag c) (check_page g.bytes c.entries) flash
  pub entries : All IsCheckEntry c.entries
  pub rise : AllPairs IsEntryBefore c.entries

-- the entry of a page
abbrev pub entry_of : Spot → CheckEntry
entry_of s = record { object = s.tag.object; chunk = s.tag.chunk; version = s.tag.version; block = s.block; page = s.page }

-- Each key that is looked up to see the flash's tree has an entry, and no other key has; and each entry says where the newest
-- page of its key lies, in its version.
pub record ListsTree (g : Geometry) (flash : Flash) (entries : List CheckEntry) : Type 0 where
  pub spare : ℕ
  pub objects : Objects
  pub volume : IsVolume g (HasNewest flash) spare
  pub shows : Shows (sizes_of g spare) (HasNewest flash) objects
  pub all : (o c : ℕ) → InFootprint (sizes_of g spare) (HasNewest flash) objects o c → (e : CheckEntry) × Contains entries e × (e.object ≡ o) × (e.chunk ≡ c)
  pub only : (e : CheckEntry) → Contains entries e
      → InFootprint (sizes_of g spare) (HasNewest flash) objects e.object e.chunk × ((s : Spot) × IsNewest flash e.object e.chunk s × (e ≡ entry_of s))

-- The checkpoint is right: it has the tree's pages, none of them in its own block; no valid tag of a good block has a number
-- above its own; and no other good block has its seq.
pub record IsRight (g : Geometry) (flash : Flash) (c : Checkpoint) : Type 0 where
  pub tree : ListsTree g flash c.entries
  pub apart : (e : CheckEntry) → Contains c.entries e → e.block ≢ c.block
  pub above : AreAbove flash (record { version = c.number; group = c.number; seq = c.seq })
  pub alone : (b p : ℕ) (t : Tag) → flash.bad b ≡ false → b ≢ c.block → HasTag flash b p t → t.seq ≢ c.seq

-- the flash is true: each whole checkpoint on it is right
abbrev pub IsTrueFlash : Geometry → Flash → Type 0
IsTrueFlash g flash = (c : Checkpoint) → IsWhole g flash c → IsRight g flash c

-- each whole checkpoint lies in this block; with none there is none
abbrev pub LiesOnlyIn : Geometry → Flash → Option ℕ → Type 0
LiesOnlyIn g flash at = (c : Checkpoint) → IsWhole g flash c → at ≡ Some c.block

-- The flash is true, and the block that may have a checkpoint is known.
pub record IsChecked (g : Geometry) (flash : Flash) (at : Option ℕ) : Type 0 where
  pub right : IsTrueFlash g flash
  pub only : LiesOnlyIn g flash at

-- nothing is written in the block, or it is bad
abbrev pub HasNothing : Flash → ℕ → Type 0
HasNothing flash b = ((l : ℕ) (bytes tag : List ℕ) → flash.page b l ≡ Written bytes tag → ⊥) ⊎ (flash.bad b ≡ true)

-- no block becomes bad, pages are only added, and with them no group that counts, or one whose first page is not of the object of
-- checkpoints
pub record AddsOrdinary (old new : Flash) : Type 0 where
  pub grows : Grows old new
  pub bads : new.bad ≡ old.bad
  pub groups : SameGroups old new ⊎ ((g : Group) × AddsGroup g old new × ((t : Tag) → HasTag new g.block g.start t → t.object ≢ check_object))

-- The group of a whole checkpoint is added, and nothing else: it lists the tree that the flash has shown, of which no page lies in its
-- block and no object has its number, and its numbers are above all that was there.
pub record AddsCheckpoint (g : Geometry) (old new : Flash) (c : Checkpoint) : Type 0 where
  pub grows : Grows old new
  pub bads : new.bad ≡ old.bad
  pub adds : AddsGroup (check_group c) old new
  pub elsewhere : (k l : ℕ) → k ≢ c.block → new.page k l ≡ old.page k l
  pub whole : IsWhole g new c
  pub tree : ListsTree g old c.entries
  pub apart : (e : CheckEntry) → Contains c.entries e → e.block ≢ c.block
  pub ordinary : (e : CheckEntry) → Contains c.entries e → e.object ≢ check_object
  pub below : AreBelow old c.number c.seq
  pub above : AreBelow new (1 + c.number) (1 + c.seq)
