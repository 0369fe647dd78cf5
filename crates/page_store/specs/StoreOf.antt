-- What a store is, as the layers above see it.
use Rattle.std.specs.Prelude.{ℕ, Bool, true, List, Option, is_some}
use Rattle.nand_model.specs.Calls.{Device}
use Rattle.chunk_index.specs.declared.form.Present.{Present}
use Rattle.chunk_index.specs.declared.form.Present.TheVariants as presents
use Rattle.chunk_index.specs.declared.index.Index.{Index}
use Rattle.pages.specs.Maps.{PageMap, known_pages}
use Rattle.block_state.specs.Table.{Table}
use Rattle.pages.specs.State.{NextNumbers}
use Rattle.page_store.specs.BufferOf.{contents}
use Rattle.page_store.specs.Shown.{committed_data, present_data}
use Rattle.page_store.specs.declared.buffer.Buffer.{Buffer}

-- the pages of the last commit, where they are known
abbrev pub committed_data_map : Device → Index → PageMap
committed_data_map device x = known_pages device.honest (committed_data x device.flash)

-- the pages that are present, where they are known
abbrev pub present_map : Device → Index → Buffer → PageMap
present_map device x buffer = known_pages device.honest (present_data x (contents buffer) device.flash)

-- the numbers that the next group and the next block get
abbrev pub next_numbers : Table → NextNumbers
next_numbers t = record { group = t.next_group; seq = t.next_seq }

-- a page of the buffer, or one that the cache has
abbrev pub is_near : Present → Option (List ℕ) → Bool
is_near presents.Absent held = is_some held
is_near (presents.OnFlash at) held = is_some held
is_near (presents.InBuffer i) held = true
