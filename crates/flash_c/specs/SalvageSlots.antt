-- What the functions do to a slot of a salvage, and to the device behind it.
use Rattle.std.specs.Prelude.{◌≡◌, ◌≢◌, ◌⊎◌, ◌≤ℤ◌, ℕ, true, false, Result, Ok, Err, ℤ, pos}
use Rattle.mounting.specs.NewestMaps.{IsNewestMap}
use Rattle.nand_model.specs.Calls.{Device}
use Rattle.nand_model.specs.Changes.{OnlyReads}
use Rattle.nand_model.specs.declared.nand.Nand.{Ghosts}
use Rattle.pages.specs.State.{PagesState}
use Rattle.port_nand.specs.declared.sizes.OpenFault.{OpenFault}
use Rattle.posix_profile.specs.declared.reply.Errno.TheVariants as errors
use Rattle.salvage.specs.Opened.{AnswersTree, GoesBy, WhyNotOpened}
use Rattle.salvage.specs.StateOf.{device_in, lost_in, state}
use Rattle.salvage.specs.declared.fault.SalvageFault.{SalvageFault}
use Rattle.salvage.specs.declared.salvage.Salvage.{Salvage}
use Rattle.flash_c.specs.Numbers.{error_number, open_number, salvage_number}
use Rattle.flash_c.specs.Salvaging.{IsLostList, IsObjectList, IsObjectRead, IsObjectStat, IsOrphanList, LostList, ObjectList, ObjectRead, ObjectStat, OrphanList}
use Rattle.flash_c.specs.declared.salvage_slot.SalvageSlot.{SalvageSlot}

-- A device was opened: it was only read. Of an honest one the salvage goes by the newest pages where a mount answers a tree, and only of a flash that
-- shows a volume; else by the pages that survive, with exactly the places of those that are lost.
pub record IsOpened {N : Type 0} {nand : Ghosts N} (device : Device) (s : Salvage N nand) : Type 0 where
  pub reads : OnlyReads device (nand.state (device_in s))
  pub tree : AnswersTree device → IsNewestMap device.flash (state s).present
  pub pages : device.honest ≡ true → GoesBy device.geometry device.flash (state s).present (lost_in s)

-- the device was not opened: it was only read, and the number is that of the fault, which has its reason
pub record NotOpened (old new : Device) (number : ℤ) : Type 0 where
  pub fault : SalvageFault
  pub number_is : number ≡ salvage_number fault
  pub reads : OnlyReads old new
  pub why : WhyNotOpened new fault

-- The salvage of a device that a port gave, which has power: 0 and what is left on it, or a number below 0 for its reason. Where none was given the
-- number is that of the fault.
abbrev pub OpensGiven : {N : Type 0} {nand : Ghosts N} → Result N OpenFault → ℤ → Salvage N nand → Type 0
OpensGiven {N} {nand} (Ok device) number s = ((nand.state device).gone ≡ false)
    × (((number ≡ pos 0) × IsOpened (nand.state device) s) ⊎ ((after : N) × NotOpened (nand.state device) (nand.state after) number))
OpensGiven (Err fault) number s = number ≡ open_number fault

-- the salvage of some device of this type that a port gives, or the number for which none is given
abbrev pub OpensAt : {N : Type 0} {nand : Ghosts N} → ℤ → Salvage N nand → Type 0
OpensAt {N} number s = (given : Result N OpenFault) × OpensGiven given number s

-- An open in a slot: 0 fills it; any other number is below 0, and leaves it. A full slot returns EBUSY.
pub record OpensSlot (old : SalvageSlot) (number : ℤ) (new : SalvageSlot) : Type 0 where
  pub opened : number ≡ pos 0 → new.full ≡ true
  pub left : number ≢ pos 0 → new ≡ old
  pub at_most_0 : number ≤ℤ pos 0
  pub busy : old.full ≡ true → number ≡ error_number errors.EBUSY

-- A question to the salvage in a slot: of a full slot it is called, and the slot stays full. An empty slot returns EINVAL, and all stays.
pub record IssuesIn (Issues : PagesState → PagesState → Type 0) (Stays : Type 0) (old : SalvageSlot) (number : ℤ) (new : SalvageSlot) : Type 0 where
  pub full : new.full ≡ old.full
  pub issued : old.full ≡ true → Issues (state old.session.salvage) (state new.session.salvage)
  pub empty : old.full ≡ false → (number ≡ error_number errors.EINVAL) × Stays × (new ≡ old)

-- a stat in a slot
abbrev pub StatsIn : SalvageSlot → ObjectStat → SalvageSlot → Type 0
StatsIn old s new = IssuesIn (IsObjectStat s) (s.after ≡ s.before) old s.number new

-- a list in a slot
abbrev pub ListsIn : SalvageSlot → ObjectList → SalvageSlot → Type 0
ListsIn old l new = IssuesIn (IsObjectList l) (l.after ≡ l.before) old l.number new

-- a read in a slot
abbrev pub ReadsIn : SalvageSlot → ObjectRead → SalvageSlot → Type 0
ReadsIn old r new = IssuesIn (IsObjectRead r) (r.after ≡ r.before) old r.number new

-- a question for the objects that no directory names, in a slot
abbrev pub OrphansIn : SalvageSlot → OrphanList → SalvageSlot → Type 0
OrphansIn old o new = IssuesIn (IsOrphanList o) (o.after ≡ o.before) old o.number new

-- A question for the pages that are lost, in a slot: it changes nothing of the salvage in a full one. An empty one returns EINVAL, and all stays.
pub record LostIn (old : SalvageSlot) (l : LostList) (new : SalvageSlot) : Type 0 where
  pub full : new.full ≡ old.full
  pub issued : old.full ≡ true → IsLostList (lost_in old.session.salvage) l × (new.session ≡ old.session)
  pub empty : old.full ≡ false → (l.number ≡ error_number errors.EINVAL) × (l.after ≡ l.before) × (new ≡ old)
