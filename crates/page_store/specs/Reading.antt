-- The reading of a page that is committed.
use Rattle.std.specs.Prelude.{◌≡◌, ◌≤◌, ◌⊎◌, ◌+◌, ℕ, List, true, false, Some, None, Result, OnOk}
use Rattle.nand_model.specs.Calls.{Device}
use Rattle.nand_model.specs.Changes.{OnlyReads}
use Rattle.flash_tree.specs.declared.place.Key.{Key}
use Rattle.chunk_index.specs.declared.form.CommittedPage.{CommittedPage}
use Rattle.page_store.specs.Shown.{data_at}
use Rattle.page_store.specs.Cached.{cached}
use Rattle.page_store.specs.declared.cache.PageCache.{PageCache}
use Rattle.volume_terms.specs.declared.fault.StoreFault.{StoreFault}
use Rattle.volume_terms.specs.declared.fault.StoreFault.TheVariants as faults
use Rattle.page_store.specs.Counts.{IsRefused, NoneFalls}
use Rattle.page_store.specs.StoreState.{StoreState}

-- Memory was refused, the device is gone, or, where it is honest, the page is not written.
abbrev pub IsLoadFault : Device → Device → CommittedPage → StoreFault → Type 0
IsLoadFault old new at faults.NoMemory = Unit {0}
IsLoadFault old new at faults.Device = (new.gone ≡ true) ⊎ (old.honest ≡ true → data_at old.flash at ≡ None)
IsLoadFault old new at faults.Worn = ⊥

-- it is this key
abbrev pub IsKey : Key → ℕ → ℕ → Type 0
IsKey key o c = (o ≡ key.object) × (c ≡ key.chunk)

-- Each page in the cache was there before, or is the one that is committed there, of this key.
abbrev pub Caches : Device → Key → CommittedPage → PageCache → PageCache → Type 0
Caches device key at old new = (o c : ℕ) (xs : List ℕ) → cached new o c ≡ Some xs
    → (cached old o c ≡ Some xs) ⊎ (IsKey key o c × (device.honest ≡ true → data_at device.flash at ≡ Some xs))

-- What a look-up of one page leaves of a store: its device is read once at most, and but for the cache all is as it was.
pub record Looks (old new : StoreState) : Type 0 where
  pub reads : OnlyReads old.log.device new.log.device
  pub issued : new.log.device.reads ≤ old.log.device.reads + 1
  pub table : new.log.table ≡ old.log.table
  pub index : new.index ≡ old.index
  pub buffer : new.buffer ≡ old.buffer
  pub spare : new.spare ≡ old.spare
  pub first : new.first ≡ old.first
  pub broken : new.broken ≡ old.broken
  pub counts : NoneFalls old.counts new.counts
  pub commits : new.counts.commits.total ≡ old.counts.commits.total

-- where the store is sound, what is lent is the page that is committed there
abbrev pub Lends : {T E : Type 0} → StoreState → CommittedPage → (lent : List ℕ) → Result T E → Type 0
Lends old at lent result = old.broken ≡ false → old.log.device.honest ≡ true → OnOk result (data_at old.log.device.flash at ≡ Some lent)

-- Why a page that is committed was not found: memory was refused; or the device has no power or is not honest, or the store is broken.
abbrev pub IsFindFault : StoreState → StoreState → StoreFault → Type 0
IsFindFault old new faults.NoMemory = IsRefused old.counts new.counts
IsFindFault old new faults.Device = (new.log.device.gone ≡ true) ⊎ (new.log.device.honest ≡ false) ⊎ (new.broken ≡ true)
IsFindFault old new faults.Worn = ⊥
