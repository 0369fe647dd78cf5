-- The tables of a device that is mounted: the newest pages of a tree are committed, and nothing else.
-- From: this project.
use Rattle.std.specs.Prelude.{◌≡◌, ◌<◌, ◌≤◌, ◌^◌, ℕ, Bool, true, false, Option, Some, None}
use Rattle.nand_model.specs.Calls.{Device}
use Rattle.nand_model.specs.Changes.{OnlyReads}
use Rattle.flash_tree.specs.Newest.{Spot, IsNewest, Numbers}
use Rattle.flash_tree.specs.Checkpoints.{Checkpoint, IsWhole}
use Rattle.flash_tree.specs.Places.{numbers_of}
use Rattle.block_state.specs.Table.{Table}
use Rattle.block_state.specs.TableOf.{table}
use Rattle.chunk_index.specs.declared.index.Index.{Index}
use Rattle.chunk_index.specs.Maps.{committed_pages}
use Rattle.page_store.specs.KnownFirsts.{KnowsFirsts}
use Rattle.page_store.specs.Opened.{AreLeft, IsOpened, IsOpenedBy, committed_at}
use Rattle.page_store.specs.declared.opening.Opened.{Opened}

-- Of the keys that a test keeps an index has what the other had, and of no other key a page.
pub record KeepsOnly (keeps : ℕ → ℕ → Bool) (old new : Index) : Type 0 where
  pub same : (o c : ℕ) → keeps o c ≡ true → committed_pages new o c ≡ committed_pages old o c
  pub none : (o c : ℕ) → keeps o c ≡ false → committed_pages new o c ≡ None

-- The tables are those of a device that was opened, by a checkpoint in the block that is noted or, with none noted, by a scan. Of an
-- honest device the newest pages of some keys are committed, of chunks that a tree may look up, and nothing else.
pub record IsPruned (keeps : ℕ → ℕ → Bool) (device : Device) (t : Table) (x : Index) (n : Numbers) : Type 0 where
  pub tables : IsOpenedBy t.checkpoint device t x n
  pub all : device.honest ≡ true → (o c : ℕ) (s : Spot) → c < 2 ^ 32 → keeps o c ≡ true → IsNewest device.flash o c s → committed_pages x o c ≡ Some (committed_at s)
  pub others : (o c : ℕ) → keeps o c ≡ false → committed_pages x o c ≡ None

-- of an honest device the table knows the first page of each block, where numbers are left and one was handed out
abbrev pub KnowsScanned : Device → Table → Numbers → Type 0
KnowsScanned device t n = device.honest ≡ true → AreLeft n → 1 ≤ n.seq → KnowsFirsts device.flash t

-- of an honest device a whole checkpoint lies in this block, if there is one
abbrev pub HoldsWhole : Device → Option ℕ → Type 0
HoldsWhole device at = device.honest ≡ true → (b : ℕ) → at ≡ Some b → (c : Checkpoint) × IsWhole device.geometry device.flash c × (c.block ≡ b)

-- of an honest device it knows them where numbers are left
abbrev pub KnowsFirstsOf : Device → Table → Numbers → Type 0
KnowsFirstsOf device t n = device.honest ≡ true → AreLeft n → KnowsFirsts device.flash t

-- What the table of a device knows of its blocks: the first page of each, and in which a whole checkpoint lies, if one is noted.
pub record KnowsBlocks (device : Device) (t : Table) (n : Numbers) : Type 0 where
  pub firsts : KnowsFirstsOf device t n
  pub whole : HoldsWhole device t.checkpoint

-- the tables of a scan are those of the device
abbrev pub IsOpenedIn : Device → Opened → Type 0
IsOpenedIn device opened = IsOpened device (table opened.blocks) opened.index (numbers_of opened.numbers)

-- they know the first page of each block, if it is an honest one
abbrev pub KnowsScannedIn : Device → Opened → Type 0
KnowsScannedIn device opened = KnowsScanned device (table opened.blocks) (numbers_of opened.numbers)

-- tables of a device that was opened are so still, also where it was read since
abbrev pub StaysOpened : Table → Index → Table → Index → Type 0
StaysOpened t x t' x' = (noted : Option ℕ) (a b : Device) (n : Numbers) → OnlyReads a b → IsOpenedBy noted a t x n → IsOpenedBy noted b t' x' n
