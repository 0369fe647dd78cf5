-- The committed counts of blocks, while committed places change.
use Rattle.std.specs.Prelude.{◌≡◌, ◌≤◌, ℕ, ◌+◌, List}
use Rattle.block_state.specs.Table.{Table}
use Rattle.chunk_index.specs.declared.entry.KeyEntry.{KeyEntry}
use Rattle.chunk_index.specs.Entries.{counted_at, weigh}
use Rattle.chunk_index.specs.Shelves.{ObjectMap, total}

-- Of each block so many keys were in the count and so many are now; all else of the blocks stays.
pub record Recounts (before after : ℕ → ℕ) (old new : Table) : Type 0 where
  pub committed : (b : ℕ) → (new.entry b).committed + before b ≡ (old.entry b).committed + after b
  pub outside : (b : ℕ) → old.geometry.blocks ≤ b → (new.entry b).committed ≡ (old.entry b).committed
  pub bad : (b : ℕ) → (new.entry b).bad ≡ (old.entry b).bad
  pub seq : (b : ℕ) → (new.entry b).seq ≡ (old.entry b).seq
  pub next : (b : ℕ) → (new.entry b).next ≡ (old.entry b).next
  pub geometry : new.geometry ≡ old.geometry
  pub open_block : new.open_block ≡ old.open_block
  pub checkpoint : new.checkpoint ≡ old.checkpoint
  pub next_seq : new.next_seq ≡ old.next_seq
  pub next_group : new.next_group ≡ old.next_group

-- the keys that are committed by the second list of entries are in the count in place of those by the first
abbrev pub RecountsEntries : List KeyEntry → List KeyEntry → Table → Table → Type 0
RecountsEntries before after old new = Recounts (λ b. weigh (counted_at b) before) (λ b. weigh (counted_at b) after) old new

-- the same by the entries of all objects
abbrev pub RecountsObjects : ObjectMap → ObjectMap → Table → Table → Type 0
RecountsObjects before after old new = Recounts (λ b. total (counted_at b) before) (λ b. total (counted_at b) after) old new

-- The blocks count so many keys each, of n in all, and have room for each of these to be in the count in any block.
pub record HasRoom (t : Table) (totaled : ℕ → ℕ) (n : ℕ) : Type 0 where
  pub sufficient : (b : ℕ) → totaled b ≤ (t.entry b).committed
  pub room : (b : ℕ) → (t.entry b).committed + n ≤ 4294967295 + totaled b
  pub within : (b : ℕ) → t.geometry.blocks ≤ b → totaled b ≡ 0

-- the blocks count at least so many keys each, and none past the last block is in the count
pub record HasCounted (t : Table) (totaled : ℕ → ℕ) : Type 0 where
  pub sufficient : (b : ℕ) → totaled b ≤ (t.entry b).committed
  pub within : (b : ℕ) → t.geometry.blocks ≤ b → totaled b ≡ 0

-- The committed count of each block is the number of entries that are committed in it, and none is committed past the last block.
pub record Tallies (t : Table) (m : ObjectMap) : Type 0 where
  pub counts : (b : ℕ) → (t.entry b).committed ≡ total (counted_at b) m
  pub within : (b : ℕ) → t.geometry.blocks ≤ b → total (counted_at b) m ≡ 0
