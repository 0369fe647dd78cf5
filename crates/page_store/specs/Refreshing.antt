-- The refresh of a block of a store.
-- From: this project.
use Rattle.std.specs.Prelude.{◌≡◌, ◌⊎◌, ◌+◌, ℕ, true, false, Result, Ok, Err}
use Rattle.transactions.specs.Checking.{LogState}
use Rattle.flash_log.specs.Bills.{Pays, bill_of}
use Rattle.flash_log.specs.Moving.{WhyNotMoved}
use Rattle.flash_log.specs.RoomFaults.{room_fault}
use Rattle.flash_log.specs.declared.fault.MoveFault.{MoveFault}
use Rattle.flash_log.specs.declared.fault.MoveFault.TheVariants as moves
use Rattle.pages.specs.Refreshing.{LeavesBlock}
use Rattle.pages.specs.Stores.{SamePages}
use Rattle.volume_terms.specs.declared.fault.StoreFault.{StoreFault}
use Rattle.volume_terms.specs.declared.fault.StoreFault.TheVariants as faults
use Rattle.page_store.specs.Carrying.{CarriesFound}
use Rattle.page_store.specs.Changing.{StaysWhole, StoreLasts, fault_of}
use Rattle.page_store.specs.StoreState.{StoreState, committed_in, current_in}

-- what a fault of a move is to those above
abbrev pub moved_fault : MoveFault → StoreFault
moved_fault fault = fault_of (room_fault fault)

-- What a refresh keeps of a store, wherever it ends: what is buffered and what is cached, and the counts.
pub record RefreshKeeps (old new : StoreState) : Type 0 where
  pub lasts : StoreLasts old new
  pub buffer : new.buffer ≡ old.buffer
  pub cache : new.cache ≡ old.cache
  pub counts : new.counts ≡ old.counts

-- what it costs: an erase and the pages of a block at most, and for each failure as many and a mark
abbrev pub PaysRefresh : LogState → LogState → Result (Unit {0}) StoreFault → Type 0
PaysRefresh old new result = Pays (bill_of old (old.device.geometry.pages + 1) 0 0) old new result

-- of a store that was whole, an honest device carries what was committed, and a mount by summaries finds it, if it would have before
abbrev pub CarriesStill : StoreState → StoreState → Type 0
CarriesStill old new = old.broken ≡ false → old.log.device.honest ≡ true → CarriesFound old.log old.index new.log.device old.spare (committed_in old)

-- Why a block was not refreshed: the device is gone or not honest, or a call failed before; or there is nothing left to write with. It
-- takes no memory.
abbrev pub IsRefreshFault : StoreState → StoreState → StoreFault → Type 0
IsRefreshFault old new faults.NoMemory = ⊥
IsRefreshFault old new faults.Device = (new.log.device.gone ≡ true) ⊎ (new.log.device.honest ≡ false) ⊎ (old.broken ≡ true)
IsRefreshFault old new faults.Worn = WhyNotMoved old.spare new.log.device new.log.table moves.Worn

-- What is committed and what is current are the same, and on an honest device no committed page lies where it lay in the block.
pub record IsRefreshed (block : ℕ) (old new : StoreState) : Type 0 where
  pub whole : StaysWhole old new
  pub committed_map : SamePages (committed_in new) (committed_in old)
  pub current : SamePages (current_in new) (current_in old)
  pub leaves : old.log.device.honest ≡ true → LeavesBlock block old.log.device.flash new.log.device.flash (committed_in old)

-- how a refresh ends; after a fault nothing is known of the store's pages any more
abbrev pub RefreshEnds : ℕ → StoreState → StoreState → Result (Unit {0}) StoreFault → Type 0
RefreshEnds block old new (Ok done) = IsRefreshed block old new
RefreshEnds block old new (Err fault) = (new.broken ≡ true) × IsRefreshFault old new fault
