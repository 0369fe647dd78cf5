-- The refresh of a block.
-- From: this project.
use Rattle.std.specs.Prelude.{◌≡◌, ◌≢◌, ◌⊎◌, ◌<◌, ◌≤◌, ◌+◌, ℕ, true, false, Result, OnOk, IfErr}
use Rattle.volume_terms.specs.Sizes.{number_end}
use Rattle.nand_model.specs.Counts.{Costs, ReadsFew, unfinished}
use Rattle.nand_model.specs.Flash.{Flash}
use Rattle.flash_tree.specs.Newest.{Spot, IsNewest}
use Rattle.pages.specs.Maps.{PageMap}
use Rattle.pages.specs.State.{PagesState, KeepsPower}
use Rattle.pages.specs.Stores.{GoesOn, HasFailed, HasPage, CommittedAs, SamePages, bad_on}
use Rattle.volume_terms.specs.declared.fault.StoreFault.{StoreFault}
use Rattle.volume_terms.specs.declared.fault.StoreFault.TheVariants as faults

-- no page of the map is still the newest of its key where it lay in this block
abbrev pub LeavesBlock : ℕ → Flash → Flash → PageMap → Type 0
LeavesBlock block old new m = (o c : ℕ) (s : Spot) → HasPage m o c → IsNewest old o c s → s.block ≡ block → IsNewest new o c s → ⊥

-- no committed page lies in the block
abbrev pub KeepsNone : ℕ → PagesState → Type 0
KeepsNone block p = (o c : ℕ) (s : Spot) → HasPage p.committed o c → IsNewest p.device.flash o c s → s.block ≢ block

-- What the move of a block's committed pages costs: the device counts at most as many changes as a block has pages and an erase, and for each
-- failure as many and two more.
abbrev pub CostsAMove : PagesState → PagesState → Type 0
CostsAMove old new = Costs (old.device.geometry.pages + 1) (old.device.geometry.pages + 2) 0 old.device new.device

-- Each fault of a refresh has its cause: the device is gone, or not honest; a number of 2^62 would be needed, or more blocks are bad than
-- there are to spare. It takes no memory.
abbrev pub RefreshFailsBy : PagesState → StoreFault → Type 0
RefreshFailsBy new faults.NoMemory = ⊥
RefreshFailsBy new faults.Device = HasFailed new.device
RefreshFailsBy new faults.Worn = (number_end ≤ new.next.group) ⊎ (number_end ≤ new.next.seq) ⊎ (new.spare < bad_on new.device)

-- A refresh of a block of sound pages is done: they are sound, the same pages are present, and no committed page lies where it lay in the block.
pub record IsRefreshed (block : ℕ) (old new : PagesState) : Type 0 where
  pub sound : new.sound ≡ true
  pub present : SamePages new.present old.present
  pub leaves : LeavesBlock block old.device.flash new.device.flash old.committed

-- How a refresh of a block of sound pages ends. Done or not, what was committed is committed, and its device has it. A fault has its cause. Where the
-- block keeps none the device is not called.
pub record RefreshEnds (block : ℕ) (old new : PagesState) (result : Result (Unit {0}) StoreFault) : Type 0 where
  pub committed : CommittedAs new old.committed
  pub done : OnOk result (IsRefreshed block old new)
  pub cause : IfErr result (RefreshFailsBy new)
  pub idle : KeepsNone block old → new.device ≡ old.device

-- What a refresh of a block leaves of any pages: they go on, nothing is committed, what waits for a commit waits still, and the page that
-- was found last is lent still. After Ok the device has its power still, and after a fault they are not sound. It costs a move.
pub record Refreshes (block : ℕ) (old new : PagesState) (result : Result (Unit {0}) StoreFault) : Type 0 where
  pub goes_on : GoesOn old new
  pub commits : new.commits ≡ old.commits
  pub in_buffer : new.in_buffer ≡ old.in_buffer
  pub lent : new.lent ≡ old.lent
  pub power : OnOk result (KeepsPower old new)
  pub stops : IfErr result (λ fault. new.sound ≡ false)
  pub costs : CostsAMove old new
  pub reads : ReadsFew (unfinished result) old.device new.device
  pub ends : old.sound ≡ true → RefreshEnds block old new result
