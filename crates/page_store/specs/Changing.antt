-- What changes and commits of a store leave.
use Rattle.std.specs.Prelude.{◌≡◌, ◌⊎◌, ◌≤◌, ◌+◌, ℕ, Bool, true, false, List, [], length, Result, Ok, Err}
use Rattle.nand_model.specs.Calls.{Device, Lasts}
use Rattle.flash_log.specs.RoomMaking.{LeavesRoom}
use Rattle.flash_log.specs.declared.room_fault.RoomFault.{RoomFault}
use Rattle.flash_log.specs.declared.room_fault.RoomFault.TheVariants as causes
use Rattle.block_state.specs.Table.{Table}
use Rattle.flash_log.specs.Moving.{WhyNotMoved}
use Rattle.flash_log.specs.Steps.{StaysReady}
use Rattle.flash_log.specs.declared.fault.MoveFault.TheVariants as moves
use Rattle.chunk_index.specs.Maps.{SameCommitted, SamePresent}
use Rattle.page_store.specs.Committing.{IsUnhindered, KeepsOpen}
use Rattle.flash_tree.specs.declared.place.FreshPage.{FreshPage}
use Rattle.page_store.specs.BufferOf.{contents, most_pages}
use Rattle.page_store.specs.Buffering.{AreBuffered, with_new}
use Rattle.page_store.specs.Cached.{held_count, capacity_of}
use Rattle.pages.specs.Maps.{after_change}
use Rattle.pages.specs.Stores.{SamePages}
use Rattle.pages.specs.declared.change.Change.{Change}
use Rattle.transactions.specs.Handing.{HandsOut}
use Rattle.volume_terms.specs.declared.fault.StoreFault.{StoreFault}
use Rattle.volume_terms.specs.declared.fault.StoreFault.TheVariants as faults
use Rattle.page_store.specs.Carrying.{CarriesFound}
use Rattle.page_store.specs.Caching.{HaveUncutPlaces, KeepsKeys, TakesPages}
use Rattle.page_store.specs.Counts.{CountsUpTo, HasBegun, IsRefused, NoneFalls}
use Rattle.page_store.specs.StoreState.{StoreState, committed_in, current_in, waiting}

-- what a fault of a commit is to those above: there are no more blocks or numbers, or the device failed
abbrev pub fault_of : RoomFault → StoreFault
fault_of causes.Full = faults.Worn
fault_of causes.Worn = faults.Worn
fault_of causes.Lost = faults.Device
fault_of causes.Gone = faults.Device

-- There is nothing left to write with: no number is left, more blocks are bad than there are to spare, or more is committed than
-- leaves room for so many pages.
abbrev pub HasNothingLeft : (spare count : ℕ) → Device → Table → Table → Type 0
HasNothingLeft spare count device old new = WhyNotMoved spare device new moves.Worn ⊎ (LeavesRoom old spare count → ⊥)

-- Why a store did not commit: its device is gone or not honest, or a commit failed before; or there is nothing left to write
-- with. It takes no memory.
abbrev pub IsCommitFault : StoreState → StoreState → StoreFault → Type 0
IsCommitFault old new faults.NoMemory = ⊥
IsCommitFault old new faults.Device = (new.log.device.gone ≡ true) ⊎ (new.log.device.honest ≡ false) ⊎ (old.broken ≡ true)
IsCommitFault old new faults.Worn = HasNothingLeft old.spare (waiting old) new.log.device old.log.table new.log.table

-- What every call of a store keeps: what its device keeps, the numbers that are handed out, the reserve, and the flash with which its log
-- began; and no count falls.
pub record StoreLasts (old new : StoreState) : Type 0 where
  pub device : Lasts old.log.device new.log.device
  pub numbers : HandsOut old.log.device new.log.device old.log.table new.log.table
  pub spare : new.spare ≡ old.spare
  pub first : new.first ≡ old.first
  pub counts : NoneFalls old.counts new.counts

-- What a commit keeps of a store besides, wherever it ends: it is the only one, and is of what is buffered; each key has
-- the room that it had; and nothing goes out of the cache.
pub record CommitKeeps (old new : StoreState) : Type 0 where
  pub lasts : StoreLasts old new
  pub counts : CountsUpTo (waiting old) old.counts new.counts
  pub keys : StaysReady old.index new.index
  pub cache : KeepsKeys old.cache new.cache

-- Of a store that was whole, an honest device carries what was committed or all that was current, wherever a call ends; and a mount by
-- summaries finds what it carries, if it would have found what was committed.
abbrev pub StaysCarried : StoreState → StoreState → Type 0
StaysCarried old new = old.broken ≡ false → old.log.device.honest ≡ true
    → CarriesFound old.log old.index new.log.device old.spare (committed_in old) ⊎ CarriesFound old.log old.index new.log.device old.spare (current_in old)

-- the store was whole and is, and the device has lost no power
pub record StaysWhole (old new : StoreState) : Type 0 where
  pub was : old.broken ≡ false
  pub is : new.broken ≡ false
  pub power : new.log.device.gone ≡ old.log.device.gone

-- What was current is committed, and nothing is buffered. The pages that were written are in the cache, where it had a page or a place of
-- their keys; and the open block is closed only where it lacks the pages, or a program failed.
pub record IsCommitted (old new : StoreState) : Type 0 where
  pub whole : StaysWhole old new
  pub committed_map : SamePages (committed_in new) (current_in old)
  pub current : SamePages (current_in new) (current_in old)
  pub empty : contents new.buffer ≡ []
  pub cached : TakesPages (contents old.buffer) old.cache new.cache
  pub keeps_open : KeepsOpen (waiting old) old.log new.log

-- A commit failed, now or before, for its reason: nothing is known of the store's pages any more.
pub record IsBroken (old new : StoreState) (fault : StoreFault) : Type 0 where
  pub is : new.broken ≡ true
  pub begins : old.broken ≡ false → HasBegun old.counts new.counts
  pub cause : IsCommitFault old new fault

-- how a commit of a store ends
abbrev pub WriteOutEnds : StoreState → StoreState → Result (Unit {0}) StoreFault → Type 0
WriteOutEnds old new (Ok done) = IsCommitted old new
WriteOutEnds old new (Err fault) = IsBroken old new fault

-- nothing is buffered, or nothing hinders the writing of what is
abbrev pub HasNoHindrance : StoreState → StoreState → Type 0
HasNoHindrance old new = (contents old.buffer ≡ []) ⊎ IsUnhindered (waiting old) old.log new.log

-- the log, the reserve, the flash with which it began and whether a commit failed are as they were, and no commit was begun
pub record SameLog (old new : StoreState) : Type 0 where
  pub log : new.log ≡ old.log
  pub spare : new.spare ≡ old.spare
  pub first : new.first ≡ old.first
  pub broken : new.broken ≡ old.broken
  pub commits : new.counts.commits.total ≡ old.counts.commits.total

-- What the making of room in the tables of memory keeps: all but that room.
pub record Prepares (old new : StoreState) : Type 0 where
  pub log : SameLog old new
  pub buffer : new.buffer ≡ old.buffer
  pub committed_map : SameCommitted old.index new.index
  pub current : SamePresent old.index new.index
  pub counts : NoneFalls old.counts new.counts

-- the log and the index are as they were, and no commit was begun
pub record SamePlaces (old new : StoreState) : Type 0 where
  pub log : new.log ≡ old.log
  pub index : new.index ≡ old.index
  pub commits : new.counts.commits.total ≡ old.counts.commits.total

-- all but the pages is as it was
pub record SameBeside (old new : StoreState) : Type 0 where
  pub log : new.log ≡ old.log
  pub spare : new.spare ≡ old.spare
  pub first : new.first ≡ old.first
  pub broken : new.broken ≡ old.broken
  pub counts : new.counts ≡ old.counts

-- what is committed is what was, or a commit made it all that was current
abbrev pub CommitsEither : StoreState → StoreState → Type 0
CommitsEither old new = SamePages (committed_in new) (committed_in old) ⊎ SamePages (committed_in new) (current_in old)

-- the table stays, or the open block does where it has as many pages left as were buffered and no program fails
abbrev pub StaysOrKeepsOpen : StoreState → StoreState → Type 0
StaysOrKeepsOpen old new = (new.log.table ≡ old.log.table) ⊎ KeepsOpen (waiting old) old.log new.log

-- the buffer has room for these pages besides its own
abbrev pub FitsBuffer : List FreshPage → StoreState → Type 0
FitsBuffer pages s = with_new s.index (contents s.buffer) pages ≤ most_pages s.buffer

-- no commit is begun: there is no call of the device, the table stays, and so does what is committed
pub record CommitsNone (old new : StoreState) : Type 0 where
  pub device : new.log.device ≡ old.log.device
  pub table : new.log.table ≡ old.log.table
  pub committed_map : SamePages (committed_in new) (committed_in old)
  pub commits : new.counts.commits.total ≡ old.counts.commits.total

-- The buffer has room for these pages besides; where nothing was committed for it the cache is as it was.
pub record HasRoomFor (pages : List FreshPage) (old new : StoreState) (is_committed : Bool) : Type 0 where
  pub whole : StaysWhole old new
  pub committed_map : CommitsEither old new
  pub current : SamePages (current_in new) (current_in old)
  pub room : FitsBuffer pages new
  pub fewer : waiting new ≤ waiting old
  pub cache : is_committed ≡ false → new.cache ≡ old.cache
  pub keeps_open : StaysOrKeepsOpen old new

-- how the making of room for these pages ends
abbrev pub RoomEnds : List FreshPage → StoreState → StoreState → Result Bool StoreFault → Type 0
RoomEnds pages old new (Ok is_committed) = HasRoomFor pages old new is_committed
RoomEnds pages old new (Err fault) = IsBroken old new fault

-- The change is made: its pages are buffered; and where the cache has room for all of them, it has a place for each that is not cut, into
-- which the page comes once it is written.
pub record IsChanged (change : Change) (old new : StoreState) : Type 0 where
  pub whole : StaysWhole old new
  pub committed_map : CommitsEither old new
  pub current : old.log.device.honest ≡ true → SamePages (current_in new) (after_change change (current_in old))
  pub in_buffer : AreBuffered change.pages.items new.index
  pub within_limit : waiting new ≤ waiting old + length change.pages.items
  pub places : held_count old.cache + length change.pages.items ≤ capacity_of old.cache → HaveUncutPlaces change.pages.items change.cuts.items new.cache
  pub keeps_open : StaysOrKeepsOpen old new

-- memory was refused, and nothing else changed than the room of tables
pub record IsUnchanged (old new : StoreState) : Type 0 where
  pub refused : IsRefused old.counts new.counts
  pub device : new.log.device ≡ old.log.device
  pub table : new.log.table ≡ old.log.table
  pub broken : new.broken ≡ old.broken
  pub committed_map : SamePages (committed_in new) (committed_in old)
  pub current : SamePages (current_in new) (current_in old)

-- how a change ends
abbrev pub ChangeEnds : Change → StoreState → StoreState → Result (Unit {0}) StoreFault → Type 0
ChangeEnds change old new (Ok done) = IsChanged change old new
ChangeEnds change old new (Err faults.NoMemory) = IsUnchanged old new
ChangeEnds change old new (Err faults.Device) = IsBroken old new faults.Device
ChangeEnds change old new (Err faults.Worn) = IsBroken old new faults.Worn
