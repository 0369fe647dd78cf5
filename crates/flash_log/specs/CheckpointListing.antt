-- The entries of a checkpoint: a key each with its committed page, in rising order.
use Rattle.std.specs.Prelude.{ℕ, zero, suc, ◌^◌, List, [], ◌∷◌, ◌++◌, map, flat_map}
use Rattle.std.specs.List.{range_with_len}
use Rattle.std.specs.Option.{option_map_or}
use Rattle.page_tags.specs.Checks.{check_slot}
use Rattle.page_tags.specs.declared.check.CheckEntry.{CheckEntry}
use Rattle.chunk_index.specs.declared.form.CommittedPage.{CommittedPage}
use Rattle.chunk_index.specs.declared.form.CommittedKey.{CommittedKey}
use Rattle.chunk_index.specs.declared.index.Index.{Index}
use Rattle.chunk_index.specs.Committed.{IsListOf}
use Rattle.chunk_index.specs.Maps.{CommittedMap, committed_pages}

-- the key of chunk c of object o with its page, if it is committed
abbrev pub key_at : CommittedMap → ℕ → ℕ → List CommittedKey
key_at m o c = option_map_or (λ (p : CommittedPage). record { key = record { object = o; chunk = c }; at = p } ∷ []) (m o c) []

-- the committed keys of the first n chunks of an object
abbrev pub chunk_keys : CommittedMap → ℕ → ℕ → List CommittedKey
chunk_keys m o zero = []
chunk_keys m o (suc n) = chunk_keys m o n ++ key_at m o n

-- the committed keys of the first n chunks of the first k objects
abbrev pub object_keys : CommittedMap → ℕ → ℕ → List CommittedKey
object_keys m n zero = []
object_keys m n (suc k) = object_keys m n k ++ chunk_keys m k n

-- numbers of objects and of chunks are below this one
unfoldable pub key_end : ℕ
key_end = 2 ^ 64

-- all committed keys with their pages, by the object, then by the chunk
unfoldable pub committed_keys : CommittedMap → List CommittedKey
committed_keys m = object_keys m key_end key_end

-- the entry of a key that is committed
abbrev pub check_entry : CommittedKey → CheckEntry
check_entry k = record { object = k.key.object; chunk = k.key.chunk; version = k.at.version; block = k.at.block; page = k.at.page }

abbrev pub check_entries : List CommittedKey → List CheckEntry
check_entries ks = map check_entry ks

-- the list has each committed key of the index with its page, and no other, in rising order
abbrev pub HasKeys : Index → List CommittedKey → Type 0
HasKeys x ks = IsListOf (committed_pages x) ks

-- n parts of 32 bytes of a checkpoint with these entries, from one on
abbrev pub parts_from : List CheckEntry → (first n : ℕ) → List ℕ
parts_from entries first n = flat_map (check_slot entries) (range_with_len first n)
