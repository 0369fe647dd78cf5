-- Why a call that reads what pages hold fails.
use Rattle.std.specs.Prelude.{◌≡◌, ◌<◌, true, List, ℕ, Some, Result, OnOk, IfErr}
use Rattle.flash_tree.specs.declared.place.Key.{Key}
use Rattle.pages.specs.State.{PagesState, OnlyFinds, KeepsPower}
use Rattle.volume_terms.specs.declared.fault.StoreFault.{StoreFault}
use Rattle.volume_terms.specs.declared.fault.StoreFault.TheVariants as store_faults
use Rattle.pages.specs.declared.fault.PageFault.{PageFault}
use Rattle.pages.specs.declared.fault.PageFault.TheVariants as faults

-- a store's fault, as one of pages
abbrev pub of_store : StoreFault → PageFault
of_store store_faults.NoMemory = faults.NoMemory
of_store store_faults.Device = faults.Device
of_store store_faults.Worn = faults.Worn

-- each fault only where its cause is given: want of memory, damage, want of room; the device has failed, and nothing is worn
abbrev pub Says : Type 0 → Type 0 → Type 0 → PagesState → PageFault → Type 0
Says memory damage full new faults.NoMemory = memory
Says memory damage full new faults.Device = new.failed ≡ true
Says memory damage full new faults.Worn = ⊥
Says memory damage full new faults.Damaged = damage
Says memory damage full new faults.Full = full

-- a call that takes no memory, where what it reads is there: only a growth that is refused in it is a want of memory
abbrev pub MayLack : PagesState → PagesState → PageFault → Type 0
MayLack old new = Says (old.refused < new.refused) ⊥ ⊥ new

-- the same of a call that reads the page of a key, where the pages that it sees are those of a sound store and have one of the key
abbrev pub MayLackPage : {T : Type 0} → (seen : PagesState) → Key → PagesState → PagesState → Result T PageFault → Type 0
MayLackPage seen key old new result = seen.sound ≡ true → (xs : List ℕ) → seen.present key.object key.chunk ≡ Some xs → IfErr result (MayLack old new)

-- and where nothing is known of what it reads
abbrev pub SaysWhy : PagesState → PagesState → PageFault → Type 0
SaysWhy old new = Says (old.refused < new.refused) (Unit {0}) ⊥ new

-- a call that takes memory, where what it reads is there
abbrev pub MayLackMemory : PagesState → PageFault → Type 0
MayLackMemory new = Says (Unit {0}) ⊥ ⊥ new

-- and where nothing is known of what it reads
abbrev pub SaysWhyMaking : PagesState → PageFault → Type 0
SaysWhyMaking new = Says (Unit {0}) (Unit {0}) ⊥ new

-- and where the object may be as large as it can be
abbrev pub SaysWhyChanging : PagesState → PageFault → Type 0
SaysWhyChanging new = Says (Unit {0}) (Unit {0}) (Unit {0}) new

-- a call that looks up pages: it finds only what is there, a done one leaves power as it was, and a failed one says why
pub record LooksUp {T : Type 0} (reasons : PagesState → PageFault → Type 0) (old new : PagesState) (result : Result T PageFault) : Type 0 where
  pub lookups : OnlyFinds old new
  pub power : OnOk result (KeepsPower old new)
  pub why : IfErr result (reasons new)
