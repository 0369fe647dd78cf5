-- The pages of a checkpoint of the committed keys.
use Rattle.std.specs.Prelude.{◌≡◌, ◌≤◌, ℕ, ◌+◌, ◌*◌, List, length}
use Rattle.volume_terms.specs.Rounding.{ceiling}
use Rattle.nand_model.specs.declared.geometry.Geometry.{Geometry}
use Rattle.page_tags.specs.declared.check.CheckEntry.{CheckEntry}
use Rattle.flash_tree.specs.Slots.{check_object}
use Rattle.chunk_index.specs.declared.index.Index.{Index}
use Rattle.chunk_index.specs.Committed.{IsListOf}
use Rattle.chunk_index.specs.Maps.{committed_pages}
use Rattle.transactions.specs.declared.source.PageName.{PageName}
use Rattle.flash_log.specs.CheckpointListing.{committed_keys, check_entries}
use Rattle.flash_log.specs.declared.checkpoint_source.Checks.{Checks}

-- the entries of all committed keys
abbrev pub index_entries : Index → List CheckEntry
index_entries x = check_entries (committed_keys (committed_pages x))

-- what page i of a checkpoint is called in the group of this number
abbrev pub check_name : ℕ → ℕ → PageName
check_name number i = record { key = record { object = check_object; chunk = 1 + i }; version = number }

-- The list of the committed keys is whole, and has so many; and the pages are as many as their entries take behind a head, no more than a
-- block of such a device has.
pub record CanList (checks : Checks) (g : Geometry) (group : ℕ) : Type 0 where
  pub geometry : checks.geometry ≡ g
  pub lists : IsListOf (committed_pages checks.index.now) (committed_keys (committed_pages checks.index.now))
  pub entries : checks.entries ≡ length (committed_keys (committed_pages checks.index.now))
  pub pages : checks.pages ≡ ceiling (32 * (1 + checks.entries)) g.bytes
  pub within_limit : checks.pages ≤ g.pages
  pub number : 1 ≤ group
