-- What a store of pages that is changed leaves.
use Rattle.std.specs.Prelude.{◌≡◌, ◌⊎◌, ◌<◌, ◌≤◌, ℕ, ◌+◌, ◌-◌, ◌*◌, true, false, List, [], ◌∷◌, length, slice_get, Some, Result, IsOk}
use Rattle.nand_model.specs.Flash.{Flash}
use Rattle.nand_model.specs.Calls.{Device, Lasts}
use Rattle.nand_model.specs.Changes.{OnlyReads}
use Rattle.nand_model.specs.Counts.{Costs, ReadsFew}
use Rattle.flash_tree.specs.Newest.{HasNewest, AreAbove}
use Rattle.flash_tree.specs.Numbering.{AreBelow}
use Rattle.flash_tree.specs.ErasedBlocks.{OnlyFirstHasTags, GoesFirst}
use Rattle.flash_tree.specs.Mount.{bad_blocks}
use Rattle.flash_tree.specs.FreeBlocks.{LeavesFree}
use Rattle.flash_tree.specs.MountableFlash.{BeganMountable}
use Rattle.flash_tree.specs.Summarizing.{IsFindable}
use Rattle.flash_tree.specs.Truth.{KeepsTrue}
use Rattle.flash_tree.specs.declared.place.FreshPage.{FreshPage}
use Rattle.flash_tree.specs.declared.place.Key.{Key}
use Rattle.volume_terms.specs.Sizes.{number_limit, number_end}
use Rattle.volume_terms.specs.declared.fault.StoreFault.{StoreFault}
use Rattle.volume_terms.specs.declared.fault.StoreFault.TheVariants as faults
use Rattle.pages.specs.Maps.{PageMap, after_change, without_cuts}
use Rattle.pages.specs.State.{PagesState, NextNumbers, KeepsPower}
use Rattle.pages.specs.Changes.{AreApart, AreSized, AreOfTrees}
use Rattle.pages.specs.declared.change.Change.{Change}
use Rattle.pages.specs.declared.change.Cut.{Cut}

-- each key has the same page in both
abbrev pub SamePages : PageMap → PageMap → Type 0
SamePages m n = (o c : ℕ) → m o c ≡ n o c

-- the key has a page
abbrev pub HasPage : PageMap → ℕ → ℕ → Type 0
HasPage m o c = (xs : List ℕ) × (m o c ≡ Some xs)

-- each page of the map is the newest of its key on the flash
abbrev pub Carries : Flash → PageMap → Type 0
Carries flash m = (o c : ℕ) (xs : List ℕ) → m o c ≡ Some xs → HasNewest flash o c xs

-- no valid tag of a good block has a number of 2^62 or more
abbrev pub HasNumbersLeft : Flash → Type 0
HasNumbersLeft flash = AreAbove flash (record { version = number_limit; group = number_limit; seq = number_limit })

-- the device has the pages of the map, and, as long as numbers are left, blocks enough that hold none of them
pub record IsCarried (device : Device) (spare : ℕ) (m : PageMap) : Type 0 where
  pub newest : Carries device.flash m
  pub free : HasNumbersLeft device.flash → LeavesFree device.geometry device.flash spare (HasPage m)

-- No number is taken back, and no more are handed out than the device had changes: block numbers on every path, and
-- group numbers where an honest device still has power. Where the next numbers were above all that was on an honest device
-- they are so still; and what is there now is below the first ones and one more for each change, also where power was lost.
pub record HandsOutNumbers (old new : Device) (n n' : NextNumbers) : Type 0 where
  pub groups_rise : n.group ≤ n'.group
  pub seqs_rise : n.seq ≤ n'.seq
  pub seqs : n'.seq + old.changes ≤ n.seq + new.changes
  pub groups : old.honest ≡ true → new.gone ≡ false → n'.group + old.changes ≤ n.group + new.changes
  pub below : old.honest ≡ true → AreBelow old.flash n.group n.seq → AreBelow new.flash n'.group n'.seq
  pub written : old.honest ≡ true → AreBelow old.flash n.group n.seq
      → (more : ℕ) → new.changes ≡ old.changes + more → AreBelow new.flash (n.group + more) (n.seq + more)

-- how many blocks of a device are bad
abbrev pub bad_on : Device → ℕ
bad_on device = bad_blocks device.geometry device.flash

-- a mount that goes by summaries finds each key of the map on the device
abbrev pub FindsAll : Device → PageMap → Type 0
FindsAll device m = (o c : ℕ) → HasPage m o c → IsFindable device.geometry device.flash o c

-- the device is honest, and a mount could go by the summaries of the flash with which the store began
abbrev pub BeganMountably : PagesState → Type 0
BeganMountably p = (p.device.honest ≡ true) × BeganMountable p.device.geometry p.first

-- then a mount by summaries finds each key of the map
abbrev pub FindsSince : PagesState → PageMap → Type 0
FindsSince p m = BeganMountably p → ∥ FindsAll p.device m ∥₁

-- Of the blocks that begin erased the first alone has tags, and the one that may have a checkpoint goes first.
pub record IsOrdered (p : PagesState) : Type 0 where
  pub first : OnlyFirstHasTags p.device.flash
  pub noted : (c : ℕ) → p.checkpoint ≡ Some c → GoesFirst p.device.flash c

-- if it was so, it is so still
abbrev pub StaysOrdered : PagesState → PagesState → Type 0
StaysOrdered old new = BeganMountably old → IsOrdered old → ∥ IsOrdered new ∥₁

-- What lets the next mount go by summaries, where one could before: the flash with which the store began is remembered, and the blocks that
-- begin erased stay ordered; and what can only be read is only read.
pub record StaysMountable (old new : PagesState) : Type 0 where
  pub first : new.first ≡ old.first
  pub ordered : StaysOrdered old new
  pub reads : old.worn ≡ true → OnlyReads old.device new.device

-- What every call of a store keeps, whatever its device does: the sizes, whether it can only be read, and what calls of the
-- device keep. Each block that goes bad answers a failure that the device had. No number of 2^62 is written. Checkpoints
-- stay right, and a next mount may go by summaries.
pub record GoesOn (old new : PagesState) : Type 0 where
  pub page_bytes : new.page_bytes ≡ old.page_bytes
  pub most : new.most ≡ old.most
  pub spare : new.spare ≡ old.spare
  pub worn : new.worn ≡ old.worn
  pub refused : old.refused ≤ new.refused
  pub commits : old.commits ≤ new.commits
  pub failed : old.failed ≡ true → new.failed ≡ true
  pub device : Lasts old.device new.device
  pub numbers : HandsOutNumbers old.device new.device old.next new.next
  pub marks : bad_on new.device + old.device.failures ≤ bad_on old.device + new.device.failures
  pub limits : old.device.honest ≡ true → HasNumbersLeft old.device.flash → HasNumbersLeft new.device.flash
  pub truth : KeepsTrue old.device new.device old.checkpoint new.checkpoint
  pub mountable : StaysMountable old new

-- Where the store is sound still, these are the pages of its last commit; an honest device has them, in either case, and a mount by
-- summaries finds them, where one could go by the flash with which the store began.
pub record CommittedAs (new : PagesState) (m : PageMap) : Type 0 where
  pub carried : new.device.honest ≡ true → IsCarried new.device new.spare m
  pub committed : new.sound ≡ true → SamePages new.committed m
  pub found : FindsSince new m

-- The pages that were committed are so still, or those are that were present: all of the ones, or all of the others.
abbrev pub KeepsEither : PagesState → PagesState → Type 0
KeepsEither old new = CommittedAs new old.committed ⊎ CommittedAs new old.present

-- What one commit costs: the device counts at most as many changes as pages were buffered, a block's pages and one more, and
-- three times a block's pages and three more for each failure.
abbrev pub CostsACommit : PagesState → PagesState → Type 0
CostsACommit old new = Costs (old.in_buffer + old.device.geometry.pages + 1) (3 * old.device.geometry.pages + 3) 0 old.device new.device

-- no commit is begun, and no call of the device is made
pub record CommitsNothing (old new : PagesState) : Type 0 where
  pub device : new.device ≡ old.device
  pub commits : new.commits ≡ old.commits

-- a look-up of each of the pages makes no call of the device
abbrev pub AreNear : List FreshPage → PagesState → Type 0
AreNear pages p = (i : ℕ) (page : FreshPage) → slice_get pages i ≡ Some page → p.near page.key.object page.key.chunk ≡ true

-- nothing changed, but for what is lent
pub record StaysSame (old new : PagesState) : Type 0 where
  pub present : SamePages new.present old.present
  pub committed : SamePages new.committed old.committed
  pub sound : new.sound ≡ old.sound
  pub device : new.device ≡ old.device
  pub next : new.next ≡ old.next
  pub checkpoint : new.checkpoint ≡ old.checkpoint
  pub first : new.first ≡ old.first

-- More is committed than leaves room for a change: with so many pages in each of all blocks that are not to spare but one, there
-- are more.
pub record IsCrowded (p : PagesState) : Type 0 where
  pub keys : List Key
  pub once : (i j : ℕ) (k : Key) → slice_get keys i ≡ Some k → slice_get keys j ≡ Some k → i ≡ j
  pub each : (i : ℕ) (k : Key) → slice_get keys i ≡ Some k → HasPage p.committed k.object k.chunk
  pub many : (p.device.geometry.blocks - p.spare - 1) * (p.device.geometry.pages - p.most) < length keys

-- the store began to commit pages that were buffered
abbrev pub Begins : PagesState → PagesState → Type 0
Begins old new = old.commits < new.commits

-- nothing is left to write with: a number of 2^62 would be needed, more blocks are bad than there are to spare, there are too
-- few blocks, or more is committed than leaves room
abbrev pub HasNothingLeft : PagesState → PagesState → Type 0
HasNothingLeft old new = (number_end ≤ new.next.group) ⊎ (number_end ≤ new.next.seq) ⊎ (new.spare < bad_on new.device)
    ⊎ (new.device.geometry.blocks < new.spare + 2) ⊎ IsCrowded old

-- nothing is left to write with, of a store that can only be read, or that began a commit
abbrev pub IsWornOut : PagesState → PagesState → Type 0
IsWornOut old new = ((new.worn ≡ true) ⊎ Begins old new) × HasNothingLeft old new

-- the device is gone, or it is not honest
abbrev pub HasFailed : Device → Type 0
HasFailed device = (device.gone ≡ true) ⊎ (device.honest ≡ false)

-- each fault of a change has its cause
abbrev pub ChangeFailsBy : PagesState → PagesState → StoreFault → Type 0
ChangeFailsBy old new faults.NoMemory = old.refused < new.refused
ChangeFailsBy old new faults.Device = HasFailed new.device
ChangeFailsBy old new faults.Worn = IsWornOut old new

-- each fault of a commit, and of a cut, which take no memory
abbrev pub CommitFailsBy : PagesState → PagesState → StoreFault → Type 0
CommitFailsBy old new faults.NoMemory = ⊥
CommitFailsBy old new faults.Device = HasFailed new.device
CommitFailsBy old new faults.Worn = IsWornOut old new

-- A change can be made of a store: no two of its pages have one key, each has the size of a page, there are no more of them than the
-- store takes, and each is of an object of a tree.
pub record CanApply (p : PagesState) (pages : List FreshPage) : Type 0 where
  pub apart : AreApart pages
  pub size : AreSized pages p.page_bytes
  pub within_limit : length pages ≤ p.most
  pub trees : AreOfTrees pages

-- a sound store with a done change: it is sound, and its current pages are the changed ones
pub record MakesCurrent (change : Change) (old new : PagesState) : Type 0 where
  pub sound : new.sound ≡ true
  pub present : SamePages new.present (after_change change old.present)

-- what a done change takes: power is as it was, no more pages are buffered than before with these, and none of these is read again
pub record BuffersPages (pages : List FreshPage) (old new : PagesState) : Type 0 where
  pub power : KeepsPower old new
  pub in_buffer : new.in_buffer ≤ old.in_buffer + length pages
  pub near : AreNear pages new

-- a change costs what a commit does, and few reads
pub record PaysChange (unfinished : ℕ) (old new : PagesState) : Type 0 where
  pub costs : CostsACommit old new
  pub reads : ReadsFew unfinished old.device new.device

-- the current pages are those before, but for what is cut
abbrev pub CutsCurrent : Cut → PagesState → PagesState → Type 0
CutsCurrent cut old new = SamePages new.present (without_cuts (cut ∷ []) old.present)

-- the buffer has room for so many pages more
abbrev pub HasBufferFor : ℕ → PagesState → Type 0
HasBufferFor count p = p.in_buffer + count ≤ p.most

-- a sound store with a done commit: it is sound, its current pages stay, and they are committed
pub record MakesDurable (old new : PagesState) : Type 0 where
  pub sound : new.sound ≡ true
  pub present : SamePages new.present old.present
  pub committed : CommittedAs new old.present

-- a done commit leaves nothing buffered, and power as it was
pub record EmptiesBuffer (old new : PagesState) : Type 0 where
  pub power : KeepsPower old new
  pub empty : new.in_buffer ≡ 0

-- a commit with nothing buffered begins none, and is done where the store is sound
pub record IsIdle {T E : Type 0} (old new : PagesState) (result : Result T E) : Type 0 where
  pub commits : CommitsNothing old new
  pub done : old.sound ≡ true → IsOk result
