-- Why objects were not read or changed.
use Rattle.pages.specs.State.{PagesState}
use Rattle.pages.specs.Stores.{HasFailed}
use Rattle.pages.specs.declared.fault.PageFault.{PageFault}
use Rattle.pages.specs.declared.fault.PageFault.TheVariants as page_faults
use Rattle.volume_terms.specs.declared.fault.StoreFault.{StoreFault}
use Rattle.volume_terms.specs.declared.fault.StoreFault.TheVariants as faults

-- a fault of pages, as one of the store: pages that are not as they should be are a device that did not give them back
abbrev pub fault_of : PageFault → StoreFault
fault_of page_faults.NoMemory = faults.NoMemory
fault_of page_faults.Device = faults.Device
fault_of page_faults.Worn = faults.Worn
fault_of page_faults.Damaged = faults.Device
fault_of page_faults.Full = faults.Device

-- what is read was refused memory, or the device is gone or not honest
abbrev pub ReadFailsBy : PagesState → StoreFault → Type 0
ReadFailsBy new faults.NoMemory = Unit {0}
ReadFailsBy new faults.Device = HasFailed new.device
ReadFailsBy new faults.Worn = ⊥
