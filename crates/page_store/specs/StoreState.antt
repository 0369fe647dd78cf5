-- What contracts say of a store at one moment.
-- From: this project.
use Rattle.std.specs.Prelude.{ℕ, Bool, false, not, ◌&&◌, ◌||◌, List, length, Option}
use Rattle.chunk_index.specs.declared.index.Index.{Index}
use Rattle.chunk_index.specs.Maps.{present}
use Rattle.flash_log.specs.Snapshots.{Snapshot, remembered_flash}
use Rattle.page_store.specs.BufferOf.{contents, most_pages}
use Rattle.page_store.specs.declared.buffer.Buffer.{Buffer}
use Rattle.page_store.specs.declared.cache.PageCache.{PageCache}
use Rattle.page_store.specs.Cached.{cached}
use Rattle.pages.specs.Maps.{PageMap}
use Rattle.pages.specs.State.{PagesState}
use Rattle.transactions.specs.Checking.{LogState}
use Rattle.page_store.specs.StoreOf.{is_near, committed_data_map, next_numbers, present_map}
use Rattle.page_store.specs.declared.counts.StoreCounts.{StoreCounts}

-- A store's log, the index of its pages, the buffer and the cache; how many blocks may be bad, the flash with which its log began, where
-- that is remembered, whether a commit failed, and its counts.
pub record StoreState : Type 0 where
  pub log : LogState
  pub index : Index
  pub buffer : Buffer
  pub cache : PageCache
  pub spare : ℕ
  pub first : Option Snapshot
  pub broken : Bool
  pub counts : StoreCounts

-- the pages of the last commit, where they are known
abbrev pub committed_in : StoreState → PageMap
committed_in s = committed_data_map s.log.device s.index

-- the pages that are current, where they are known
abbrev pub current_in : StoreState → PageMap
current_in s = present_map s.log.device s.index s.buffer

-- how many pages wait in the buffer
abbrev pub waiting : StoreState → ℕ
waiting s = length (contents s.buffer)

-- A store with the page that it lends, as a store of pages: it is sound where its device is honest and no change or commit failed, and it
-- has failed where its device has no power or is not honest, or a change or commit failed.
abbrev pub seen_of : StoreState → (lent : List ℕ) → PagesState
seen_of s lent = record {
  page_bytes = s.log.device.geometry.bytes;
  most = most_pages s.buffer;
  present = current_in s;
  committed = committed_in s;
  lent = lent;
  near = λ o c. is_near (present s.index o c) (cached s.cache o c);
  in_buffer = waiting s;
  sound = s.log.device.honest && not s.broken;
  failed = s.log.device.gone || (not s.log.device.honest || s.broken);
  refused = s.counts.refused.total;
  commits = s.counts.commits.total;
  issued = s.log.device.reads;
  device = s.log.device;
  next = next_numbers s.log.table;
  spare = s.spare;
  worn = false;
  checkpoint = s.log.table.checkpoint;
  first = remembered_flash s.first;
}
