-- The reading of a page that is committed.
use Rattle.std.specs.Prelude.{◌≡◌, ◌⊎◌, true, None}
use Rattle.nand_model.specs.Calls.{Device}
use Rattle.chunk_index.specs.declared.form.CommittedPage.{CommittedPage}
use Rattle.page_store.specs.Shown.{data_at}
use Rattle.volume_terms.specs.declared.fault.StoreFault.{StoreFault}
use Rattle.volume_terms.specs.declared.fault.StoreFault.TheVariants as faults

-- The device is gone; or, where it is honest, the page is not written.
abbrev pub IsReadFault : Device → Device → CommittedPage → StoreFault → Type 0
IsReadFault old new at faults.NoMemory = ⊥
IsReadFault old new at faults.Device = (new.gone ≡ true) ⊎ (old.honest ≡ true → data_at old.flash at ≡ None)
IsReadFault old new at faults.Worn = ⊥
