-- Committed pages of which it is not sure that they can be read.
-- From: this project.
use Rattle.std.specs.Prelude.{ℕ, List, replicate}
use Rattle.std.specs.Option.{option_map}
use Rattle.nand_model.specs.Calls.{Device}
use Rattle.nand_model.specs.Flash.{Flash, Page, Erased, Written, Uncorrectable}
use Rattle.chunk_index.specs.declared.form.CommittedPage.{CommittedPage}
use Rattle.chunk_index.specs.declared.index.Index.{Index}
use Rattle.chunk_index.specs.Maps.{committed_pages}
use Rattle.pages.specs.Maps.{PageMap, known_pages}
use Rattle.pages.specs.State.{PagesState}
use Rattle.page_store.specs.Newest.{seen_pages}

-- the data of a page that is written; of any other page so many zeros
abbrev pub data_or_zeros : ℕ → Page → List ℕ
data_or_zeros bytes Erased = replicate bytes 0
data_or_zeros bytes (Written xs tag) = xs
data_or_zeros bytes Uncorrectable = replicate bytes 0

-- what is read of a place
abbrev pub read_at : ℕ → Flash → CommittedPage → List ℕ
read_at bytes flash at = data_or_zeros bytes (flash.page at.block at.page)

-- the same on a device
abbrev pub read_on : Device → CommittedPage → List ℕ
read_on device at = read_at device.geometry.bytes device.flash at

-- what is read of the page of each key that is committed
abbrev pub candidate_data : ℕ → Index → Flash → PageMap
candidate_data bytes x flash o c = option_map (read_at bytes flash) (committed_pages x o c)

-- what is read of them on a device
abbrev pub candidate_pages : Index → Device → PageMap
candidate_pages x device = candidate_data device.geometry.bytes x device.flash

-- Committed pages that are read where they can be: known where the device is honest.
abbrev pub candidates : Device → Index → List ℕ → PagesState
candidates device x page =
    record (seen_pages device x page) { present = known_pages device.honest (candidate_pages x device); committed = known_pages device.honest (candidate_pages x device) }
