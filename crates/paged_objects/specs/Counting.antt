-- The number of keys.
use Rattle.std.specs.Prelude.{◌≡◌, ℕ, List, Some, slice_get}
use Rattle.flash_tree.specs.declared.place.Key.{Key}
use Rattle.pages.specs.Maps.{PageMap}
use Rattle.pages.specs.Stores.{HasPage}

-- no key is there twice in the list
abbrev pub IsOnce : List Key → Type 0
IsOnce keys = (i j : ℕ) (k : Key) → slice_get keys i ≡ Some k → slice_get keys j ≡ Some k → i ≡ j

-- each key of the list has a page
abbrev pub HavePages : PageMap → List Key → Type 0
HavePages m keys = (i : ℕ) (k : Key) → slice_get keys i ≡ Some k → HasPage m k.object k.chunk
