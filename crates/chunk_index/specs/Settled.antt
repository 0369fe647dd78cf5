-- The settling of some keys.
use Rattle.std.specs.Prelude.{◌≡◌, ◌⊎◌, ◌<◌, ◌≤◌, ◌+◌, ℕ, List, length, get_or, nat_lt, if◌then◌else◌, Option, Some, filter_map}
use Rattle.flash_tree.specs.declared.place.Key.{Key}
use Rattle.block_state.specs.Table.{Table}
use Rattle.chunk_index.specs.declared.form.WrittenGroup.{WrittenGroup}
use Rattle.chunk_index.specs.declared.form.Present.TheVariants as presents
use Rattle.chunk_index.specs.declared.entry.KeyEntry.{KeyEntry}
use Rattle.chunk_index.specs.Entries.{chunk, settled, settled_by, present_of, committed_of, weigh, one_at, counted_at, HasPage}
use Rattle.chunk_index.specs.Lists.{find_by}
use Rattle.chunk_index.specs.Shelves.{ObjectMap, look}
use Rattle.chunk_index.specs.Counts.{Recounts, RecountsEntries, RecountsObjects, HasRoom, Tallies}

-- The group's block and each page of the buffer lie on the device, and the blocks count what is committed.
pub record MaySettle (g : WrittenGroup) (m : ObjectMap) (t : Table) : Type 0 where
  pub block : g.block < t.geometry.blocks
  pub fits : (o c i : ℕ) → present_of (look m o c) ≡ presents.InBuffer i → g.first + i < t.geometry.pages
  pub tallies : Tallies t m

-- The group's block and the entry's page of the buffer lie on the device, and another page can be in the count in place of the entry's.
pub record MaySettleEntry (g : WrittenGroup) (e : KeyEntry) (t : Table) : Type 0 where
  pub block : g.block < t.geometry.blocks
  pub page : HasPage g e.state
  pub room : HasRoom t (one_at e.committed) 1

-- The group's block and each page of the buffer that some entries name lie on the device, and for each entry another page can be in
-- the count in place of its own.
pub record MaySettleEntries (g : WrittenGroup) (es : List KeyEntry) (t : Table) : Type 0 where
  pub block : g.block < t.geometry.blocks
  pub pages : (i : ℕ) (d : KeyEntry) → i < length es → HasPage g (get_or es i d).state
  pub room : HasRoom t (λ b. weigh (counted_at b) es) (length es)

-- what an entry becomes where its chunk is the number or behind it; each other one stays
abbrev pub settled_from : ℕ → WrittenGroup → KeyEntry → Option KeyEntry
settled_from n g e = if nat_lt (chunk e) n then Some e else settled_by g e e.state

-- what is left of the entries of an object that are settled from a chunk on
abbrev pub settled_entries : ℕ → WrittenGroup → List KeyEntry → List KeyEntry
settled_entries n g es = filter_map (settled_from n g) es

-- the page that is committed once a key's entry was settled is in the count in place of the one that was
abbrev pub RecountsSettled : WrittenGroup → Option KeyEntry → Table → Table → Type 0
RecountsSettled g v t u = Recounts (one_at (committed_of v)) (one_at (committed_of (settled g v))) t u

-- Each key that is meant is settled, each other one is settled or stays as it was, and the blocks count what is committed then.
pub record SettlesWhere (g : WrittenGroup) (Meant : ℕ → ℕ → Type 0) (old new : ObjectMap) (t u : Table) : Type 0 where
  pub each : (o c : ℕ) → (look new o c ≡ settled g (look old o c)) ⊎ ((look new o c ≡ look old o c) × (Meant o c → ⊥))
  pub tallies : Tallies u new
  pub counts : RecountsObjects old new t u

-- Each chunk that is meant is settled, each other one is settled or stays as it was, no entry is added, and the counts follow.
pub record SettlesChunks (g : WrittenGroup) (Meant : ℕ → Type 0) (old new : List KeyEntry) (t u : Table) : Type 0 where
  pub each : (c : ℕ) → (find_by chunk new c ≡ settled g (find_by chunk old c)) ⊎ ((find_by chunk new c ≡ find_by chunk old c) × (Meant c → ⊥))
  pub fewer : length new ≤ length old
  pub counts : RecountsEntries old new t u

-- the key is the one
abbrev pub IsKey : Key → ℕ → ℕ → Type 0
IsKey k o c = (k.object ≡ o) × (k.chunk ≡ c)

-- the key is one of a list, from a place up to another
abbrev pub IsListedIn : List Key → ℕ → ℕ → ℕ → ℕ → Type 0
IsListedIn keys from end o c = (i : ℕ) × (from ≤ i) × (i < end) × ((d : Key) → IsKey (get_or keys i d) o c)

-- the chunk is that of one of the keys of a list, from a place up to another
abbrev pub IsChunkIn : List Key → ℕ → ℕ → ℕ → Type 0
IsChunkIn keys from end c = (i : ℕ) × (from ≤ i) × (i < end) × ((d : Key) → (get_or keys i d).chunk ≡ c)

-- the keys of a list from a place up to another are of the object
abbrev pub AreOfObject : List Key → ℕ → ℕ → ℕ → Type 0
AreOfObject keys from end o = (i : ℕ) (d : Key) → from ≤ i → i < end → (get_or keys i d).object ≡ o

-- the key is of the same object, and of the same chunk or one after it
abbrev pub IsFrom : Key → ℕ → ℕ → Type 0
IsFrom k o c = (k.object ≡ o) × (k.chunk ≤ c)

-- every key is meant
abbrev pub IsAny : ℕ → ℕ → Type 0
IsAny o c = Unit {0}
