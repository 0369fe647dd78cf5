-- Whether a checkpoint of the pages of a volume is due, and how long it is.
-- From: this project.
use Rattle.std.specs.Prelude.{ℕ}
use Rattle.nand_model.specs.declared.nand.Nand.{Ghosts}
use Rattle.block_state.specs.TableOf.{table}
use Rattle.flash_log.specs.CheckpointDue.{IsDue, check_pages}
use Rattle.page_store.specs.declared.flash_pages.FlashPages.{FlashPages}
use Rattle.page_store.specs.declared.flash_pages.FlashPages.TheVariants as kinds

-- of a store by its blocks; of pages that are only read none is
abbrev pub IsDueOf : {N : Type 0} {nand : Ghosts N} → FlashPages N nand → Type 0
IsDueOf (kinds.Store store) = IsDue store.value.log.spare (table store.value.log.blocks)
IsDueOf (kinds.ReadOnly pages) = ⊥

-- how many pages the checkpoint of the committed pages takes: of a store a head and an entry for each; of pages that are only read none is written
abbrev pub check_pages_of : {N : Type 0} {nand : Ghosts N} → FlashPages N nand → ℕ
check_pages_of (kinds.Store store) = check_pages (table store.value.log.blocks)
check_pages_of (kinds.ReadOnly pages) = 0
