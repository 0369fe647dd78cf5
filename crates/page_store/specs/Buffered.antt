-- A log with the pages that are to be written to it.
-- From: this project.
use Rattle.std.specs.Prelude.{List}
use Rattle.nand_model.specs.Calls.{Device}
use Rattle.nand_model.specs.declared.nand.Nand.{Ghosts}
use Rattle.block_state.specs.TableOf.{table}
use Rattle.block_state.specs.declared.blocks.Blocks.{Blocks}
use Rattle.flash_tree.specs.declared.place.FreshPage.{FreshPage}
use Rattle.chunk_index.specs.declared.index.Index.{Index}
use Rattle.page_store.specs.declared.buffer.Buffer.{Buffer}
use Rattle.page_store.specs.BufferOf.{contents, last_written}
use Rattle.page_store.specs.Shown.{committed_data, present_data}
use Rattle.pages.specs.Maps.{PageMap}
use Rattle.transactions.specs.Checking.{LogState, log_of}
use Rattle.flash_log.specs.LogOf.{log_state}
use Rattle.flash_log.specs.declared.log.Log.{Log}

-- A log, the index of its pages, the pages in the buffer, and those that the buffer had when it was written last.
pub record BufferedLog : Type 0 where
  pub log : LogState
  pub index : Index
  pub pages : List FreshPage
  pub last : List FreshPage

-- a log with the pages of a buffer
abbrev pub held : {N : Type 0} {nand : Ghosts N} → Log N nand → Buffer → BufferedLog
held log b = record { log = log_state log; index = log.index; pages = contents b; last = last_written b }

-- a device, of which this is known, and the table of its blocks
abbrev pub log_in : {N : Type 0} → (N → Device) → N → Blocks → LogState
log_in state device blocks = log_of (state device) (table blocks)

-- a log of these parts, with the pages of a buffer
abbrev pub in_parts : {N : Type 0} → (N → Device) → N → Blocks → Index → Buffer → BufferedLog
in_parts state device blocks x b = record { log = log_in state device blocks; index = x; pages = contents b; last = last_written b }

-- the data of the committed pages
abbrev pub committed_map : BufferedLog → PageMap
committed_map s = committed_data s.index s.log.device.flash

-- the data of the current pages: those in the buffer, and of each other key the committed one
abbrev pub current : BufferedLog → PageMap
current s = present_data s.index s.pages s.log.device.flash
