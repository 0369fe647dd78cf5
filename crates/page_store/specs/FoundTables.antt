-- The tables of a device by the summaries of its blocks.
-- From: this project.
use Rattle.std.specs.Prelude.{◌≡◌, ◌≤◌, ℕ, true, Some}
use Rattle.nand_model.specs.Calls.{Device}
use Rattle.posix_profile.specs.State.{Objects}
use Rattle.flash_tree.specs.Mount.{sizes_of, IsVolume}
use Rattle.flash_tree.specs.Newest.{Spot, IsNewest, HasNewest, AreAbove, AreGreatest}
use Rattle.flash_tree.specs.Places.{numbers_of}
use Rattle.flash_tree.specs.Tree.{Shows, InFootprint}
use Rattle.block_state.specs.TableOf.{table}
use Rattle.chunk_index.specs.Maps.{committed_pages}
use Rattle.page_store.specs.Checked.{HasTrueFlash}
use Rattle.page_store.specs.KnownFirsts.{KnowsFirsts}
use Rattle.page_store.specs.Opened.{AreLeft, committed_at}
use Rattle.page_store.specs.declared.opening.Opened.{Opened}
use Rattle.page_store.specs.declared.opening.OpenFault.{OpenFault}
use Rattle.page_store.specs.declared.opening.OpenFault.TheVariants as faults

-- The device shows a tree: of each key that is looked up to see it the newest page is committed, and the numbers are the greatest. Other keys
-- may be committed at any place.
pub record FindsItsTree (device : Device) (opened : Opened) : Type 0 where
  pub spare : ℕ
  pub objects : Objects
  pub volume : IsVolume device.geometry (HasNewest device.flash) spare
  pub shows : Shows (sizes_of device.geometry spare) (HasNewest device.flash) objects
  pub all : (o c : ℕ) (s : Spot) → InFootprint (sizes_of device.geometry spare) (HasNewest device.flash) objects o c → IsNewest device.flash o c s
      → committed_pages opened.index o c ≡ Some (committed_at s)
  pub numbers : AreGreatest device.flash (numbers_of opened.numbers)

-- Of an honest device the numbers are of tags that it has; and where no tag has greater ones, the table knows the first pages of blocks,
-- as far as numbers are left and one was handed out.
pub record KnowsItsFirsts (device : Device) (opened : Opened) : Type 0 where
  pub greatest : AreAbove device.flash (numbers_of opened.numbers) → AreGreatest device.flash (numbers_of opened.numbers)
  pub firsts : AreAbove device.flash (numbers_of opened.numbers) → AreLeft (numbers_of opened.numbers) → 1 ≤ (numbers_of opened.numbers).seq
      → KnowsFirsts device.flash (table opened.blocks)

-- Why nothing was found by summaries: memory was refused; the flash is not true, or the device not honest; it is gone.
abbrev pub WhyNotFound : Device → OpenFault → Type 0
WhyNotFound device faults.NoMemory = Unit {0}
WhyNotFound device faults.Lost = HasTrueFlash device → ⊥
WhyNotFound device faults.Gone = device.gone ≡ true
