-- What is committed from memory.
use Rattle.std.specs.Prelude.{◌≡◌, ◌<◌, ◌≤◌, ℕ, ◌^◌, List, [], length, Some, slice_get}
use Rattle.std.specs.Option.{option_map_or}
use Rattle.nand_model.specs.declared.geometry.Geometry.{Geometry}
use Rattle.flash_tree.specs.declared.place.Key.{Key}
use Rattle.transactions.specs.declared.source.PageName.{PageName}
use Rattle.flash_tree.specs.declared.place.FreshPage.{FreshPage}

-- what lies behind the last page is of this key
abbrev pub no_key : Key
no_key = record { object = 0; chunk = 0 }

-- page i is of its key, and its version is the number of the group
abbrev pub fresh_name : List FreshPage → ℕ → ℕ → PageName
fresh_name pages number i = record { key = option_map_or (λ p. p.key) (slice_get pages i) no_key; version = number }

-- the data of page i
abbrev pub fresh_bytes : List FreshPage → ℕ → List ℕ
fresh_bytes pages i = option_map_or (λ p. p.bytes.items) (slice_get pages i) []

-- There is at least one page, each has the size of the device's pages, and no page is of object 0.
pub record CanCommit (pages : List FreshPage) (geometry : Geometry) (number : ℕ) : Type 0 where
  pub some : 1 ≤ length pages
  pub within_limit : length pages < 2 ^ 32
  pub numbered : 1 ≤ number
  pub each : (i : ℕ) (p : FreshPage) → slice_get pages i ≡ Some p → (1 ≤ p.key.object) × (length p.bytes.items ≡ geometry.bytes)
