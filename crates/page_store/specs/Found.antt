-- The page that was found last.
use Rattle.std.specs.Prelude.{◌≡◌, ◌<◌, List, ℕ, length, Option, Some, None}
use Rattle.flash_tree.specs.declared.place.FreshPage.{FreshPage}
use Rattle.page_store.specs.Shown.{data_in}
use Rattle.page_store.specs.Cached.{cached}
use Rattle.page_store.specs.declared.cache.PageCache.{PageCache}
use Rattle.page_store.specs.declared.store.Found.{Found}
use Rattle.page_store.specs.declared.store.Found.TheVariants as places

-- where it is a page of the buffer, that is there
abbrev pub IsFound : List FreshPage → Found → Type 0
IsFound pages found = (i : ℕ) → found ≡ places.Buffered i → i < length pages

-- these bytes, or else the others
abbrev pub bytes_or : Option (List ℕ) → List ℕ → List ℕ
bytes_or None scratch = scratch
bytes_or (Some bytes) scratch = bytes

-- its bytes
abbrev pub found_bytes : List FreshPage → PageCache → List ℕ → Found → List ℕ
found_bytes pages cache scratch places.Nowhere = scratch
found_bytes pages cache scratch (places.Buffered i) = bytes_or (data_in pages i) scratch
found_bytes pages cache scratch (places.Cached key) = bytes_or (cached cache key.object key.chunk) scratch
