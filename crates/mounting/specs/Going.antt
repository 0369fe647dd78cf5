-- A tree with which a volume goes on.
-- From: this project.
use Rattle.std.specs.Prelude.{◌≡◌, ◌≤◌, ◌<◌, ◌⊎◌, ℕ, true, false, Option, Some, None}
use Rattle.nand_model.specs.Calls.{Device}
use Rattle.flash_tree.specs.Checkpoints.{IsTrueFlash, LiesOnlyIn}
use Rattle.flash_tree.specs.Mount.{Answers, IsDamaged, IsTreeOf, IsWrong, sizes_of}
use Rattle.flash_tree.specs.Places.{numbers_of}
use Rattle.block_state.specs.Table.{Table}
use Rattle.block_state.specs.TableOf.{table}
use Rattle.posix_profile.specs.State.{Objects}
use Rattle.posix_profile.specs.Charge.{charge}
use Rattle.volume_terms.specs.Sizes.{Sizes, capacity}
use Rattle.volume_terms.specs.VolumeSizes.{sizes_of as volume_sizes}
use Rattle.mounting.specs.Marked.{AreFitting}
use Rattle.mounting.specs.Mounted.{IsTreeShown, HasRoomOn}
use Rattle.mounting.specs.Named.{IsNamedTree}
use Rattle.mounting.specs.Tables.{HoldsWhole, KnowsBlocks}
use Rattle.mounting.specs.declared.tree_on.Going.{Going}
use Rattle.mounting.specs.declared.tree_on.TreeOn.{TreeOn}

-- what the objects cost fits into the volume
abbrev pub HasRoomFor : Sizes → Objects → Type 0
HasRoomFor z objects = charge z objects ≤ capacity z

-- what a mount of the device answers are these objects, whose pages are committed, and there is room for them
abbrev pub GoesOnBy : {N : Type 0} → Device → TreeOn N → Sizes → Type 0
GoesOnBy device on z = (objects : Objects)
    × Answers device.geometry device.flash (IsTreeOf on.spare objects)
    × IsTreeShown device on.index on.spare on.tree objects
    × (charge z objects ≤ capacity z)

-- a mount of the device answers that something is amiss
abbrev pub IsAmiss : Device → Type 0
IsAmiss device = Answers device.geometry device.flash (IsWrong IsDamaged)

-- The tree was read, has room, and fits into the volume of these sizes; of an honest device it is what a mount answers, and the table
-- knows the first page of each block, and in which a whole checkpoint lies.
pub record IsGoing {N : Type 0} (device : Device) (going : Going N) : Type 0 where
  pub named : IsNamedTree device going.named.value
  pub sizes : volume_sizes going.sizes ≡ sizes_of device.geometry going.named.value.on.spare
  pub fitting : AreFitting (table going.named.value.on.blocks)
  pub room : HasRoomOn device (table going.named.value.on.blocks) going.named.value.on.spare
  pub blocks : KnowsBlocks device (table going.named.value.on.blocks) (numbers_of going.named.value.on.numbers)
  pub tree : device.honest ≡ true → GoesOnBy device going.named.value.on (volume_sizes going.sizes)

-- the block is a good one of the device
abbrev pub IsGoodOn : Device → ℕ → Type 0
IsGoodOn device b = (b < device.geometry.blocks) × (device.flash.bad b ≡ false)

-- The block may be noted: it is a good one with a whole checkpoint, if there is one, and where each whole checkpoint is right, each lies in it.
pub record MayBeNoted (device : Device) (at : Option ℕ) : Type 0 where
  pub good : (b : ℕ) → at ≡ Some b → IsGoodOn device b
  pub whole : HoldsWhole device at
  pub only : device.honest ≡ true → IsTrueFlash device.geometry device.flash → LiesOnlyIn device.geometry device.flash at

-- The block is noted where it is free, and else nothing changes.
pub record NotesFree (at : Option ℕ) (old new : Table) : Type 0 where
  pub is : (new ≡ old) ⊎ ((b : ℕ) × (at ≡ Some b) × ((old.entry b).committed ≡ 0) × (new ≡ record old { checkpoint = at }))
  pub free : (b : ℕ) → at ≡ Some b → (old.entry b).bad ≡ false → (old.entry b).committed ≡ 0 → new ≡ record old { checkpoint = at }
  pub none : at ≡ None → new ≡ old
