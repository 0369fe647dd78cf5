-- What is known of the blocks of a device.
use Rattle.std.specs.Prelude.{◌≡◌, ◌≢◌, ◌⊎◌, ◌<◌, ◌≤◌, ℕ, ◌-◌, Bool, true, false, not, ◌&&◌, nat_eq, Option, Some, None, List, length, get_or, if◌then◌else◌}
use Rattle.std.specs.Option.{option_map_or}
use Rattle.nand_model.specs.declared.geometry.Geometry.{Geometry}
use Rattle.block_state.specs.declared.blocks.BlockEntry.{BlockEntry}

-- The blocks of a device of these sizes: the entry of each, the one that is being written or none, the one that may have
-- a whole checkpoint or none, and the numbers that are handed out next.
pub record Table : Type 0 where
  pub geometry : Geometry
  pub entry : ℕ → BlockEntry
  pub open_block : Option ℕ
  pub checkpoint : Option ℕ
  pub next_seq : ℕ
  pub next_group : ℕ

-- a good block that was never written
abbrev pub blank : BlockEntry
blank = record { bad = false; committed = 0; seq = 0; next = 0 }

abbrev pub entry_at : List BlockEntry → ℕ → BlockEntry
entry_at entries b = get_or entries b blank

-- the block is the one that is being written
abbrev pub is_open : Option ℕ → ℕ → Bool
is_open opened b = option_map_or (λ o. nat_eq o b) opened false

-- the block is marked bad
abbrev pub is_bad : Table → ℕ → Bool
is_bad t b = (t.entry b).bad

-- a free block: good, not open, and without a committed page
abbrev pub is_free : Table → ℕ → Bool
is_free t b = not (t.entry b).bad && (nat_eq (t.entry b).committed 0 && not (is_open t.open_block b))

-- the pages that can still be written in the open block; with none open there are none
abbrev pub room : Table → ℕ
room t = option_map_or (λ o. t.geometry.pages - (t.entry o).next) t.open_block 0

-- Among the first n blocks a good one with the least committed count of those that hold a committed page; of those with as many
-- none was taken longer ago.
pub record IsFewest (t : Table) (n b : ℕ) : Type 0 where
  pub within : b < n
  pub good : (t.entry b).bad ≡ false
  pub some : 1 ≤ (t.entry b).committed
  pub least : (k : ℕ) → k < n → (t.entry k).bad ≡ false → 1 ≤ (t.entry k).committed → (t.entry b).committed ≤ (t.entry k).committed
  pub oldest : (k : ℕ) → k < n → (t.entry k).bad ≡ false → (t.entry k).committed ≡ (t.entry b).committed → (t.entry b).seq ≤ (t.entry k).seq

-- no good one of the first n blocks holds a committed page
abbrev pub NoneCommitted : Table → ℕ → Type 0
NoneCommitted t n = (b : ℕ) → b < n → (t.entry b).bad ≡ false → (t.entry b).committed ≡ 0

-- the block has fewer committed pages than another, or as many and was taken longer ago
abbrev pub IsFewer : Table → ℕ → ℕ → Type 0
IsFewer t b k = ((t.entry b).committed < (t.entry k).committed) ⊎ (((t.entry b).committed ≡ (t.entry k).committed) × ((t.entry b).seq < (t.entry k).seq))

-- a good block with a committed page, that goes before another where there is one
abbrev pub HoldsFewer : Table → ℕ → Option ℕ → Type 0
HoldsFewer t b None = ((t.entry b).bad ≡ false) × (1 ≤ (t.entry b).committed)
HoldsFewer t b (Some k) = ((t.entry b).bad ≡ false) × (1 ≤ (t.entry b).committed) × IsFewer t b k

-- when a block is allocated: one in which nothing was programmed since it was erased goes before all others, and of these the one that was
-- allocated longest ago
abbrev pub turn_of : BlockEntry → ℕ
turn_of e = if nat_eq e.next 0 then 0 else e.seq

-- Among the first n blocks the free one whose turn it is: no turn of one that is free comes before, and of those that come at once it is
-- the first.
pub record IsNextFree (t : Table) (n b : ℕ) : Type 0 where
  pub within : b < n
  pub free : is_free t b ≡ true
  pub oldest : (k : ℕ) → k < n → is_free t k ≡ true → turn_of (t.entry b) ≤ turn_of (t.entry k)
  pub lowest : (k : ℕ) → k < n → is_free t k ≡ true → turn_of (t.entry k) ≡ turn_of (t.entry b) → b ≤ k

-- Among the first n blocks the one to be allocated next: the block of the checkpoint where that is free, so that no group
-- is written while a checkpoint is whole, and else the one whose turn it is.
pub record IsNextTaken (t : Table) (n b : ℕ) : Type 0 where
  pub within : b < n
  pub free : is_free t b ≡ true
  pub first : (c : ℕ) → t.checkpoint ≡ Some c → is_free t c ≡ true → b ≡ c
  pub turn : ((c : ℕ) → t.checkpoint ≡ Some c → is_free t c ≡ false) → IsNextFree t n b

-- a good block of the device in which no page is committed
pub record IsEmptyBlock (b : ℕ) (t : Table) : Type 0 where
  pub within : b < t.geometry.blocks
  pub good : (t.entry b).bad ≡ false
  pub uncommitted : (t.entry b).committed ≡ 0

-- none of the first n blocks is free
abbrev pub NoneFree : Table → ℕ → Type 0
NoneFree t n = (b : ℕ) → b < n → is_free t b ≡ false

-- a free block, whose turn comes before that of another where there is one
abbrev pub GoesBefore : Table → ℕ → Option ℕ → Type 0
GoesBefore t b None = is_free t b ≡ true
GoesBefore t b (Some k) = (is_free t b ≡ true) × (turn_of (t.entry b) < turn_of (t.entry k))

-- The open block is good and on the device, and its next page is at most the number of its pages.
pub record MayOpen (geometry : Geometry) (entries : List BlockEntry) (o : ℕ) : Type 0 where
  pub within : o < geometry.blocks
  pub good : (entry_at entries o).bad ≡ false
  pub next : (entry_at entries o).next ≤ geometry.pages

-- There is an entry for each block, the open block is one of them, and the next seq is above that of each block.
pub record IsWhole (geometry : Geometry) (entries : List BlockEntry) (opened : Option ℕ) (next_seq : ℕ) : Type 0 where
  pub count : length entries ≡ geometry.blocks
  pub open_block : (o : ℕ) → opened ≡ Some o → MayOpen geometry entries o
  pub seqs : (b : ℕ) → (entry_at entries b).seq < next_seq

-- the block of the checkpoint, if there is one, is on the device
abbrev pub IsOnDevice : Geometry → Option ℕ → Type 0
IsOnDevice geometry checkpoint = (c : ℕ) → checkpoint ≡ Some c → c < geometry.blocks

-- which block may have a whole checkpoint once this one has none
abbrev pub other_than : ℕ → Option ℕ → Option ℕ
other_than b None = None
other_than b (Some c) = if nat_eq c b then None else Some c

-- the entry of one block is this, and those of all others stay, with the sizes and the group number
pub record Sets (b : ℕ) (entry : BlockEntry) (old new : Table) : Type 0 where
  pub here : new.entry b ≡ entry
  pub others : (k : ℕ) → k ≢ b → new.entry k ≡ old.entry k
  pub geometry : new.geometry ≡ old.geometry
  pub next_group : new.next_group ≡ old.next_group

-- the block is marked bad, and the rest of its entry and those of all others stay, with the sizes and the group number
abbrev pub MarksEntry : ℕ → Table → Table → Type 0
MarksEntry b old new = Sets b (record (old.entry b) { bad = true }) old new

-- the entry of one block is this, and all else of the table stays
pub record SetsEntry (b : ℕ) (entry : BlockEntry) (old new : Table) : Type 0 where
  pub sets : Sets b entry old new
  pub open_block : new.open_block ≡ old.open_block
  pub checkpoint : new.checkpoint ≡ old.checkpoint
  pub next_seq : new.next_seq ≡ old.next_seq

-- the block is bad and has no checkpoint, and all else of the table stays
pub record SetsBad (b : ℕ) (old new : Table) : Type 0 where
  pub sets : Sets b (record (old.entry b) { bad = true }) old new
  pub open_block : new.open_block ≡ old.open_block
  pub checkpoint : new.checkpoint ≡ other_than b old.checkpoint
  pub next_seq : new.next_seq ≡ old.next_seq
