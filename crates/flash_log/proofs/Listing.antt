-- The list of copies is that of the committed keys.
use Rattle.std.proofs.Common.{◌≡◌, ℕ, Some, slice_get}
use Rattle.chunk_index.specs.declared.form.CommittedKey.{CommittedKey}
use Rattle.chunk_index.specs.declared.form.CommittedPage.{CommittedPage}
use Rattle.chunk_index.specs.declared.index.Index.{Index}
use Rattle.chunk_index.specs.Listing.{block_keys}
use Rattle.chunk_index.specs.Maps.{committed_pages}
use Rattle.flash_log.specs.Lists.{ListsCommitted}

-- a list of keys that is whole gives the list of what is copied
pub lists_committed : (x : Index) (b : ℕ)
    → ((i : ℕ) (k : CommittedKey) → slice_get (block_keys x b) i ≡ Some k → committed_pages x k.key.object k.key.chunk ≡ Some k.at)
    → ((i : ℕ) (k : CommittedKey) → slice_get (block_keys x b) i ≡ Some k → k.at.block ≡ b)
    → ((o c : ℕ) (p : CommittedPage) → committed_pages x o c ≡ Some p → p.block ≡ b
    → (i : ℕ) × (slice_get (block_keys x b) i ≡ Some (record { key = record { object = o; chunk = c }; at = p })))
    → ((i j : ℕ) (k l : CommittedKey) → slice_get (block_keys x b) i ≡ Some k → slice_get (block_keys x b) j ≡ Some l → k.key ≡ l.key → i ≡ j)
    → ListsCommitted b (committed_pages x) (block_keys x b)
lists_committed x b committed here all once = record { committed = committed; here = here; all = all; once = once }
