-- What each kind of store of pages on a flash is as a store of pages.
-- From: this project.
use Rattle.nand_model.specs.declared.nand.Nand.{Ghosts}
use Rattle.flash_tree.specs.Places.{numbers_of}
use Rattle.pages.specs.State.{PagesState}
use Rattle.page_store.specs.Newest.{seen_pages}
use Rattle.page_store.specs.ReadOnly.{only_read}
use Rattle.page_store.specs.StateOf.{lent_by, state_of}
use Rattle.page_store.specs.StoreState.{seen_of}
use Rattle.page_store.specs.declared.flash_pages.FlashPages.{FlashPages}
use Rattle.page_store.specs.declared.flash_pages.FlashPages.TheVariants as kinds
use Rattle.page_store.specs.declared.newest_pages.NewestPages.{NewestPages}
use Rattle.page_store.specs.declared.read_only.ReadOnlyPages.{ReadOnlyPages}
use Rattle.page_store.specs.declared.store.Store.{Store}

-- the pages of a store
abbrev pub store_pages : {N : Type 0} {nand : Ghosts N} → Store N nand → PagesState
store_pages store = seen_of (state_of store) (lent_by store)

-- the newest pages of a device
abbrev pub newest_pages : {N : Type 0} {nand : Ghosts N} → NewestPages N nand → PagesState
newest_pages {N} {nand} pages = seen_pages (nand.state pages.device) pages.index pages.page.items

-- the newest pages of a device, where they are only read
abbrev pub read_only_pages : {N : Type 0} {nand : Ghosts N} → ReadOnlyPages N nand → PagesState
read_only_pages pages =
    only_read (record (newest_pages pages.pages) { checkpoint = pages.checkpoint }) (numbers_of pages.greatest) pages.spare pages.most pages.refused_change

-- the pages of a mounted volume
abbrev pub mounted_pages : {N : Type 0} {nand : Ghosts N} → FlashPages N nand → PagesState
mounted_pages (kinds.Store store) = store_pages store.value
mounted_pages (kinds.ReadOnly pages) = read_only_pages pages.value
