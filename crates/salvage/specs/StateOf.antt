-- What contracts say of a salvage at one moment.
-- From: this project.
use Rattle.std.specs.Prelude.{List}
use Rattle.nand_model.specs.declared.nand.Nand.{Ghosts}
use Rattle.chunk_index.specs.declared.index.Index.{Index}
use Rattle.pages.specs.State.{PagesState}
use Rattle.page_store.specs.NewestParts.{device_of, index_of}
use Rattle.surviving_pages.specs.declared.survivors.LostPlace.{LostPlace}
use Rattle.salvage.specs.SeenBy.{seen_by}
use Rattle.salvage.specs.declared.salvage.Salvage.{Salvage}

-- the pages that a salvage goes by, which are only read: known of an honest device
abbrev pub state : {N : Type 0} {nand : Ghosts N} → Salvage N nand → PagesState
state s = seen_by s.pages

-- the device that is read
abbrev pub device_in : {N : Type 0} {nand : Ghosts N} → Salvage N nand → N
device_in s = device_of s.pages

-- the index of the pages that the salvage goes by
abbrev pub index_in : {N : Type 0} {nand : Ghosts N} → Salvage N nand → Index
index_in s = index_of s.pages

-- the places of the pages that were found lost
abbrev pub lost_in : {N : Type 0} {nand : Ghosts N} → Salvage N nand → List LostPlace
lost_in s = s.lost.items
