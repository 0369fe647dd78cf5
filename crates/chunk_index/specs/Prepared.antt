-- What becomes of the entry of a key that is prepared.
use Rattle.std.specs.Prelude.{ℕ, List, Option, Some, None}
use Rattle.chunk_index.specs.declared.entry.KeyEntry.{KeyEntry}
use Rattle.chunk_index.specs.declared.entry.State.{State}
use Rattle.chunk_index.specs.declared.entry.State.TheVariants as states
use Rattle.chunk_index.specs.Lists.{find_by}
use Rattle.chunk_index.specs.Entries.{chunk, with_state, committed_at, Alters}
use Rattle.chunk_index.specs.Shelves.{ObjectMap, look, AltersKey}

-- the state of an entry that was to go and stays; each other state stays
abbrev pub kept_state : State → State
kept_state states.Same = states.Same
kept_state (states.Buffered i) = states.Buffered i
kept_state states.Dropped = states.Vacant
kept_state states.Vacant = states.Vacant

-- the entry in that state
abbrev pub kept : KeyEntry → KeyEntry
kept e = with_state (kept_state e.state) e

-- the entry of a prepared chunk: the one that it had, in that state, or else one that holds nothing
abbrev pub prepared : ℕ → Option KeyEntry → KeyEntry
prepared c None = committed_at c None
prepared c (Some e) = kept e

-- a chunk has this entry, and no other chunk's entry changes
abbrev pub PreparesChunk : ℕ → List KeyEntry → List KeyEntry → Type 0
PreparesChunk c old new = Alters c (Some (prepared c (find_by chunk old c))) old new

-- a key has this entry, and no other key's entry changes
abbrev pub PreparesKey : ℕ → ℕ → ObjectMap → ObjectMap → Type 0
PreparesKey o c old new = AltersKey o c (Some (prepared c (look old o c))) old new
