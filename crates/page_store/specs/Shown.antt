-- The data that keys have: of the committed pages, and of the present ones.
use Rattle.std.specs.Prelude.{◌≡◌, ℕ, List, Option, Some, None, IsSome, slice_get}
use Rattle.std.specs.Option.{option_map, option_and_then}
use Rattle.nand_model.specs.Flash.{Flash, Page, Erased, Written, Uncorrectable}
use Rattle.flash_tree.specs.declared.place.FreshPage.{FreshPage}
use Rattle.pages.specs.Maps.{PageMap}
use Rattle.chunk_index.specs.declared.form.CommittedPage.{CommittedPage}
use Rattle.chunk_index.specs.declared.form.Present.{Present}
use Rattle.chunk_index.specs.declared.form.Present.TheVariants as presents
use Rattle.chunk_index.specs.declared.index.Index.{Index}
use Rattle.chunk_index.specs.Maps.{CommittedMap, committed_pages, present}

-- the data of a page that is written; no other page has any
abbrev pub data_of : Page → Option (List ℕ)
data_of Erased = None
data_of (Written bytes tag) = Some bytes
data_of Uncorrectable = None

-- the data of the page that is committed there
abbrev pub data_at : Flash → CommittedPage → Option (List ℕ)
data_at flash k = data_of (flash.page k.block k.page)

-- each committed page has data
abbrev pub HaveData : Flash → CommittedMap → Type 0
HaveData flash m = (o c : ℕ) (k : CommittedPage) → m o c ≡ Some k → IsSome (data_at flash k)

-- the data of page i of the buffer
abbrev pub data_in : List FreshPage → ℕ → Option (List ℕ)
data_in pages i = option_map (λ (p : FreshPage). p.bytes.items) (slice_get pages i)

-- the data of what is present: a page of the buffer, or the committed page
abbrev pub data_by : Flash → List FreshPage → Present → Option (List ℕ)
data_by flash pages presents.Absent = None
data_by flash pages (presents.OnFlash k) = data_at flash k
data_by flash pages (presents.InBuffer i) = data_in pages i

-- the data of each key's committed page
abbrev pub committed_data : Index → Flash → PageMap
committed_data x flash o c = option_and_then (data_at flash) (committed_pages x o c)

-- the data of each key's present page
abbrev pub present_data : Index → List FreshPage → Flash → PageMap
present_data x pages flash o c = data_by flash pages (present x o c)
