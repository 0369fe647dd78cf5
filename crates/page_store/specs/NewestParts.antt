-- The parts of the newest pages of a device.
use Rattle.std.specs.Prelude.{ℕ, List}
use Rattle.nand_model.specs.declared.nand.Nand.{Ghosts}
use Rattle.chunk_index.specs.declared.index.Index.{Index}
use Rattle.page_store.specs.declared.newest_pages.NewestPages.{NewestPages}

-- the device that the pages are read from
abbrev pub device_of : {N : Type 0} {nand : Ghosts N} → NewestPages N nand → N
device_of pages = pages.device

-- the index that says where each page lies
abbrev pub index_of : {N : Type 0} {nand : Ghosts N} → NewestPages N nand → Index
index_of pages = pages.index

-- the bytes of the page that was read last
abbrev pub page_of : {N : Type 0} {nand : Ghosts N} → NewestPages N nand → List ℕ
page_of pages = pages.page.items
