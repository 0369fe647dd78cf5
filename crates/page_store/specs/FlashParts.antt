-- The parts of the pages of a mounted volume.
use Rattle.std.specs.Prelude.{Option, Some, None}
use Rattle.nand_model.specs.declared.nand.Nand.{Ghosts}
use Rattle.block_state.specs.Table.{Table}
use Rattle.block_state.specs.TableOf.{table}
use Rattle.chunk_index.specs.declared.index.Index.{Index}
use Rattle.page_store.specs.NewestParts.{device_of, index_of}
use Rattle.page_store.specs.declared.flash_pages.FlashPages.{FlashPages}
use Rattle.page_store.specs.declared.flash_pages.FlashPages.TheVariants as kinds

-- the device that the pages lie on
abbrev pub device_in : {N : Type 0} {nand : Ghosts N} → FlashPages N nand → N
device_in (kinds.Store store) = store.value.log.device
device_in (kinds.ReadOnly pages) = device_of pages.value.pages

-- the index of the pages that are committed
abbrev pub index_in : {N : Type 0} {nand : Ghosts N} → FlashPages N nand → Index
index_in (kinds.Store store) = store.value.log.index
index_in (kinds.ReadOnly pages) = index_of pages.value.pages

-- the table of blocks; pages that are only read need none
abbrev pub table_in : {N : Type 0} {nand : Ghosts N} → FlashPages N nand → Option Table
table_in (kinds.Store store) = Some (table store.value.log.blocks)
table_in (kinds.ReadOnly pages) = None
