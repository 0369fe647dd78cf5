-- How many pages a mount reads.
-- From: this project.
use Rattle.std.specs.Prelude.{◌≡◌, ◌⊎◌, ◌≤◌, ℕ, ◌+◌, true}
use Rattle.nand_model.specs.Calls.{Device}
use Rattle.posix_profile.specs.State.{Objects}
use Rattle.flash_tree.specs.Checkpoints.{Checkpoint, IsWhole}
use Rattle.flash_tree.specs.Mount.{sizes_of}
use Rattle.flash_tree.specs.Sound.{IsSoundFlash}
use Rattle.chunk_index.specs.declared.index.Index.{Index}
use Rattle.mount_scan.specs.FewReads.{AreCosts, AreSizes, sum_below}
use Rattle.mount_scan.specs.Scanned.{good_pages}
use Rattle.page_store.specs.Checked.{HasTrueFlash}
use Rattle.page_store.specs.Shown.{committed_data}
use Rattle.pages.specs.Maps.{has}
use Rattle.tree_walk.specs.Looked.{looked_pages}
use Rattle.tree_walk.specs.Trees.{tree_pages}
use Rattle.tree_walk.specs.declared.fault.RootFault.{RootFault}
use Rattle.tree_walk.specs.declared.fault.RootFault.TheVariants as roots
use Rattle.tree_walk.specs.declared.tree.Tree.{Tree}
use Rattle.mounting.specs.TreeAnswers.{WhyNoTree}

-- at most the pages of the tree's headers and slots were read
abbrev pub ReadsThrough : Device → Device → (spare : ℕ) → Tree → Type 0
ReadsThrough old new spare tree = new.reads ≤ old.reads + tree_pages (sizes_of old.geometry spare) tree

-- what is said of a device with a sound flash
abbrev pub OfSoundFlash : Device → Type 0 → Type 0
OfSoundFlash device A = (spare : ℕ) (tree : Objects) → IsSoundFlash device.geometry device.flash spare tree → A

-- of a sound flash: at most the pages that are looked up to see its tree were read
abbrev pub ReadsTree : Device → Device → Type 0
ReadsTree old new = (spare : ℕ) (tree : Objects) → IsSoundFlash old.geometry old.flash spare tree → new.reads ≤ old.reads + looked_pages (sizes_of old.geometry spare) tree

-- of an honest device with a true and sound flash and a whole checkpoint: at most a page of each block, those of the checkpoint, and
-- those that are looked up to see the tree were read
abbrev pub ReadsByCheckpoint : Device → Device → Type 0
ReadsByCheckpoint old new =
    HasTrueFlash old → (c : Checkpoint) → IsWhole old.geometry old.flash c → (spare : ℕ) (tree : Objects) → IsSoundFlash old.geometry old.flash spare tree
    → new.reads ≤ old.reads + old.geometry.blocks + c.size + looked_pages (sizes_of old.geometry spare) tree

-- all pages of the good blocks of a device
abbrev pub all_pages : Device → ℕ
all_pages device = good_pages device.flash device.geometry.pages device.geometry.blocks

-- at most all pages of the good blocks were read, and those of the tree's headers and slots
abbrev pub ReadsScanned : Device → Device → (spare : ℕ) → Tree → Type 0
ReadsScanned old new spare tree = new.reads ≤ old.reads + all_pages old + tree_pages (sizes_of old.geometry spare) tree

-- of a sound flash: at most all pages of the good blocks were read, and those that are looked up to see its tree
abbrev pub ReadsAll : Device → Device → Type 0
ReadsAll old new = (spare : ℕ) (tree : Objects) → IsSoundFlash old.geometry old.flash spare tree → new.reads ≤ old.reads + all_pages old + looked_pages (sizes_of old.geometry spare) tree

-- of an honest device with a sound flash: at most a page of each block and the pages of one, all pages of the good blocks, and those that
-- are looked up to see the tree were read
abbrev pub ReadsAllTags : Device → Device → Type 0
ReadsAllTags old new = old.honest ≡ true → (spare : ℕ) (tree : Objects) → IsSoundFlash old.geometry old.flash spare tree
    → new.reads ≤ old.reads + old.geometry.blocks + old.geometry.pages + all_pages old + looked_pages (sizes_of old.geometry spare) tree

-- no checkpoint is whole
abbrev pub LacksCheckpoint : Device → Type 0
LacksCheckpoint device = (c : Checkpoint) → IsWhole device.geometry device.flash c → ⊥

-- how many pages a scan by summaries reads at most, where summaries are of these sizes and blocks without one cost so much: those of the
-- summaries, all of a block that begins erased, and of the others that have no summary as many as each costs
abbrev pub needed_pages : Device → (sizes costs : ℕ → ℕ) → ℕ
needed_pages device sizes costs = sum_below sizes device.geometry.blocks + (device.geometry.pages + sum_below costs device.geometry.blocks)

-- a block that begins with a summary has no more pages of it than is said here, and of one that has none no more are read
abbrev pub ArePriced : Device → (sizes costs : ℕ → ℕ) → Type 0
ArePriced device sizes costs = AreSizes device.flash sizes × AreCosts device.geometry device.flash costs

-- at most the pages that a scan by summaries needs were read, and those of the tree's headers and slots
abbrev pub ReadsNeeded : Device → Device → (spare : ℕ) → Tree → Type 0
ReadsNeeded old new spare tree = (sizes costs : ℕ → ℕ) → ArePriced old sizes costs
    → new.reads ≤ old.reads + needed_pages old sizes costs + tree_pages (sizes_of old.geometry spare) tree

-- of a sound flash: at most the pages that a scan by summaries needs were read, and those that are looked up to see its tree
abbrev pub ReadsBySummaries : Device → Device → Type 0
ReadsBySummaries old new = (spare : ℕ) (tree : Objects) → IsSoundFlash old.geometry old.flash spare tree → (sizes costs : ℕ → ℕ) → ArePriced old sizes costs
    → new.reads ≤ old.reads + needed_pages old sizes costs + looked_pages (sizes_of old.geometry spare) tree

-- of an honest device with a true and sound flash without a whole checkpoint: at most a page of each block and the pages of one, those
-- that a scan by summaries needs, and those that are looked up to see the tree were read
abbrev pub ReadsWithoutCheckpoint : Device → Device → Type 0
ReadsWithoutCheckpoint old new =
    HasTrueFlash old → LacksCheckpoint old → (spare : ℕ) (tree : Objects) → IsSoundFlash old.geometry old.flash spare tree → (sizes costs : ℕ → ℕ) → ArePriced old sizes costs
    → new.reads ≤ old.reads + old.geometry.blocks + old.geometry.pages + needed_pages old sizes costs + looked_pages (sizes_of old.geometry spare) tree

-- How many pages a mount reads at most, by a checkpoint or without one.
pub record ReadsAtMost (old new : Device) : Type 0 where
  pub by_checkpoint : ReadsByCheckpoint old new
  pub without_checkpoint : ReadsWithoutCheckpoint old new

-- why no tree of the pages that an index keeps was gone through: what is reported of them, and where the device failed it is gone
abbrev pub WhyNotThrough : Index → Device → Device → RootFault → Type 0
WhyNotThrough x old new fault = WhyNoTree old.geometry (has (committed_data x old.flash)) fault × (fault ≡ roots.Device → new.gone ≡ true)

-- no scan follows: memory was refused, or the device is gone
abbrev pub EndsMount : Device → RootFault → Type 0
EndsMount device fault = (fault ≡ roots.NoMemory) ⊎ (device.gone ≡ true)
