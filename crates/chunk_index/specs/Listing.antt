-- The list of the keys that are committed in a block, in rising order, and what a list of them has in any order.
use Rattle.std.specs.Prelude.{◌≡◌, ℕ, List, [], ◌∷◌, ◌++◌, if◌then◌else◌, ◌==◌, Some, slice_get}
use Rattle.std.specs.Option.{option_map_or}
use Rattle.chunk_index.specs.declared.form.CommittedKey.{CommittedKey}
use Rattle.chunk_index.specs.declared.form.CommittedPage.{CommittedPage}
use Rattle.chunk_index.specs.declared.entry.KeyEntry.{KeyEntry}
use Rattle.chunk_index.specs.declared.object.ObjectEntries.{ObjectEntries}
use Rattle.chunk_index.specs.declared.index.Index.{Index}
use Rattle.chunk_index.specs.Maps.{committed_pages}

-- the key of an entry of object o with its page, if it is committed in the block
abbrev pub key_in : ℕ → ℕ → KeyEntry → List CommittedKey
key_in b o e = option_map_or (λ p. if p.block == b then record { key = record { object = o; chunk = e.chunk }; at = p } ∷ [] else []) e.committed []

-- those of an object
abbrev pub keys_of : ℕ → ℕ → List KeyEntry → List CommittedKey
keys_of b o [] = []
keys_of b o (e ∷ es) = key_in b o e ++ keys_of b o es

-- those of all objects
abbrev pub keys_in : ℕ → List (ℕ × ObjectEntries) → List CommittedKey
keys_in b [] = []
keys_in b (x ∷ xs) = keys_of b x.0 x.1.entries.items ++ keys_in b xs

-- the committed keys of the block
abbrev pub block_keys : Index → ℕ → List CommittedKey
block_keys x b = keys_in b x.shelf.objects.entries

-- the key is committed at its page, which lies in the block
abbrev pub IsCommittedKey : Index → ℕ → CommittedKey → Type 0
IsCommittedKey x b k = (committed_pages x k.key.object k.key.chunk ≡ Some k.at) × (k.at.block ≡ b)

-- each key of the list is committed at its page, which lies in the block
abbrev pub AreCommittedKeys : Index → ℕ → List CommittedKey → Type 0
AreCommittedKeys x b ks = (i : ℕ) (k : CommittedKey) → slice_get ks i ≡ Some k → IsCommittedKey x b k

-- the list has each key that is committed at a page of the block
abbrev pub HasAllKeys : Index → ℕ → List CommittedKey → Type 0
HasAllKeys x b ks = (k : CommittedKey) → IsCommittedKey x b k → (i : ℕ) × (slice_get ks i ≡ Some k)

-- the list has the key of chunk c of object o, with this page
abbrev pub ListsPage : List CommittedKey → ℕ → ℕ → CommittedPage → Type 0
ListsPage ks o c p = (i : ℕ) × (slice_get ks i ≡ Some (record { key = record { object = o; chunk = c }; at = p }))

-- two places of the list with one key are one place, so that no key comes twice
abbrev pub HasKeysOnce : List CommittedKey → Type 0
HasKeysOnce ks = (i j : ℕ) (k l : CommittedKey) → slice_get ks i ≡ Some k → slice_get ks j ≡ Some l → k.key ≡ l.key → i ≡ j
