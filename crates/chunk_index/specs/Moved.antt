-- What becomes of an entry whose page was copied to another place.
use Rattle.std.specs.Prelude.{◌<◌, Option}
use Rattle.std.specs.Option.{option_map}
use Rattle.block_state.specs.Table.{Table}
use Rattle.chunk_index.specs.declared.form.PagePlace.{PagePlace}
use Rattle.chunk_index.specs.declared.entry.KeyEntry.{KeyEntry}
use Rattle.chunk_index.specs.Entries.{with_committed, committed_of, one_at}
use Rattle.chunk_index.specs.Counts.{Recounts, HasRoom}
use Rattle.chunk_index.specs.Maps.{moved_page}

-- an entry with its committed page, if there is one, at another place, in its version
abbrev pub moved : PagePlace → KeyEntry → KeyEntry
moved place e = with_committed (option_map (moved_page place) e.committed) e

-- the same of a key that may have no entry
abbrev pub moved_of : PagePlace → Option KeyEntry → Option KeyEntry
moved_of place v = option_map (moved place) v

-- The place lies on the device, and a page can be in the count there in place of the entry's.
pub record MayMove (place : PagePlace) (e : KeyEntry) (t : Table) : Type 0 where
  pub block : place.block < t.geometry.blocks
  pub page : place.page < t.geometry.pages
  pub room : HasRoom t (one_at e.committed) 1

-- the page of a key's entry is in the count at the place in place of where it was
abbrev pub RecountsMoved : PagePlace → Option KeyEntry → Table → Table → Type 0
RecountsMoved place v t u = Recounts (one_at (committed_of v)) (one_at (committed_of (moved_of place v))) t u
