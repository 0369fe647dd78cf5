-- What contracts say of the pages that a salvage reads.
-- From: this project.
use Rattle.nand_model.specs.declared.nand.Nand.{Ghosts}
use Rattle.pages.specs.State.{PagesState}
use Rattle.page_store.specs.Newest.{seen_pages}
use Rattle.page_store.specs.NewestParts.{device_of, index_of, page_of}
use Rattle.page_store.specs.declared.newest_pages.NewestPages.{NewestPages}

-- the newest pages of a device, which are only read: known of an honest device
abbrev pub seen_by : {N : Type 0} {nand : Ghosts N} → NewestPages N nand → PagesState
seen_by {N} {nand} pages = seen_pages (nand.state (device_of pages)) (index_of pages) (page_of pages)
