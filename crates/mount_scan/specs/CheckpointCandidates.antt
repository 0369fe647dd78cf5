-- The page 0 of blocks, and which of them a checkpoint may begin with.
use Rattle.std.specs.Prelude.{◌≡◌, ◌<◌, ◌≤◌, ℕ, true, false, Option, Some, None}
use Rattle.nand_model.specs.Flash.{Flash}
use Rattle.nand_model.specs.Calls.{Device}
use Rattle.page_tags.specs.declared.tag.Tag.{Tag}
use Rattle.page_tags.specs.Tags.{IsTag}
use Rattle.flash_tree.specs.Groups.{HasTag}
use Rattle.flash_tree.specs.Slots.{check_object}
use Rattle.flash_tree.specs.Checkpoints.{Checkpoint}
use Rattle.mount_scan.specs.declared.found_checkpoint.FoundCheckpoint.{FoundCheckpoint}
use Rattle.mount_scan.specs.declared.checkpoint_candidate.Candidate.{Candidate}

-- the tag of a checkpoint's first page
abbrev pub BeginsCheckpoint : Tag → Type 0
BeginsCheckpoint t = (t.object ≡ check_object) × (t.chunk ≡ 1) × (t.index ≡ 0)

-- what was read as the tag of page 0 of a block: with none the block is bad, or the page has no valid tag
abbrev pub FirstIs : Flash → ℕ → Option Tag → Type 0
FirstIs flash b None = (t : Tag) → flash.bad b ≡ false → HasTag flash b 0 t → ⊥
FirstIs flash b (Some t) = (flash.bad b ≡ false) × HasTag flash b 0 t

-- a seq is above that of a candidate, if there is one
abbrev pub IsAbove : ℕ → Option Candidate → Type 0
IsAbove seq None = Unit {0}
IsAbove seq (Some c) = c.tag.seq < seq

-- the tag is valid, and the block is good
abbrev pub IsGoodTag : Device → ℕ → Tag → Type 0
IsGoodTag device b t = IsTag t × (device.flash.bad b ≡ false)

-- The block is good, and its page 0 has this tag, which a checkpoint's first page may have.
pub record MayBegin (flash : Flash) (b : ℕ) (t : Tag) : Type 0 where
  pub good : flash.bad b ≡ false
  pub has : HasTag flash b 0 t
  pub begins : BeginsCheckpoint t

-- of the blocks that may begin a checkpoint this one comes no later: its seq is not less, nor the same in a higher block
abbrev pub ComesFirst : (block seq : ℕ) → ℕ → Tag → Type 0
ComesFirst block seq k t = (t.seq ≤ seq) × (t.seq ≡ seq → block ≤ k)

-- Of the blocks below b that may begin a checkpoint it has the greatest seq, and of those with this seq it is the lowest.
pub record IsBestBelow (flash : Flash) (b : ℕ) (c : Candidate) : Type 0 where
  pub within : c.block < b
  pub may : MayBegin flash c.block c.tag
  pub first : (k : ℕ) (t : Tag) → k < b → MayBegin flash k t → ComesFirst c.block c.tag.seq k t

-- the best of the blocks below b that may begin a checkpoint; none, where no block may
abbrev pub IsGreatestBelow : Flash → ℕ → Option Candidate → Type 0
IsGreatestBelow flash b None = (k : ℕ) (t : Tag) → k < b → MayBegin flash k t → ⊥
IsGreatestBelow flash b (Some c) = IsBestBelow flash b c

-- the checkpoint is that of the candidate
abbrev pub IsOf : Option Candidate → FoundCheckpoint → Type 0
IsOf None f = ⊥
IsOf (Some c) f = (f.block ≡ c.block) × (f.seq ≡ c.tag.seq)

-- of an honest device: of the good blocks whose page 0 may be a checkpoint's first the checkpoint's has the greatest seq, and of those with
-- this seq it is the lowest
abbrev pub LiesFirst : Device → Checkpoint → Type 0
LiesFirst device c = device.honest ≡ true → (k : ℕ) (t : Tag) → k < device.geometry.blocks → MayBegin device.flash k t → ComesFirst c.block c.seq k t

-- A candidate of any device: a good block of it, with a valid tag.
pub record IsCandidate (device : Device) (c : Candidate) : Type 0 where
  pub block : c.block < device.geometry.blocks
  pub good : device.flash.bad c.block ≡ false
  pub tag : IsTag c.tag
