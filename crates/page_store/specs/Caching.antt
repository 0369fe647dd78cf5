-- What the cache has of present pages.
use Rattle.std.specs.Prelude.{◌≡◌, ◌⊎◌, ◌<◌, ◌≤◌, ℕ, List, Some, None, IsSome, slice_get}
use Rattle.flash_tree.specs.declared.place.FreshPage.{FreshPage}
use Rattle.pages.specs.Maps.{PageMap, IsPageOf, IsCut}
use Rattle.pages.specs.declared.change.Cut.{Cut}
use Rattle.page_store.specs.Cached.{held, cached, held_count, capacity_of}
use Rattle.page_store.specs.Changes.{IsOther}
use Rattle.page_store.specs.declared.cache.PageCache.{PageCache}

-- each page in the cache is its key's in the map
abbrev pub Shows : PageCache → PageMap → Type 0
Shows cache m = (o c : ℕ) (xs : List ℕ) → cached cache o c ≡ Some xs → m o c ≡ Some xs

-- each page in the cache was there before
abbrev pub HasNoMore : PageCache → PageCache → Type 0
HasNoMore old new = (o c : ℕ) (xs : List ℕ) → cached new o c ≡ Some xs → cached old o c ≡ Some xs

-- there is no page in the cache of a key that a cut takes
abbrev pub LacksCuts : List Cut → PageCache → Type 0
LacksCuts cuts cache = (o c i : ℕ) → IsCut cuts o c i → cached cache o c ≡ None

-- and none of a key that one of the pages is of
abbrev pub LacksPages : List FreshPage → PageCache → Type 0
LacksPages pages cache = (o c i : ℕ) → IsPageOf pages o c i → cached cache o c ≡ None

-- each of the pages is its key's in the map
abbrev pub AreIn : List FreshPage → PageMap → Type 0
AreIn pages m = (i : ℕ) (p : FreshPage) → slice_get pages i ≡ Some p → m p.key.object p.key.chunk ≡ Some p.bytes.items

-- the key of each of the pages has a page in the cache, where the cache had one of it or a place for one
abbrev pub TakesPages : List FreshPage → PageCache → PageCache → Type 0
TakesPages pages old new = (i : ℕ) (p : FreshPage) → slice_get pages i ≡ Some p → IsSome (held old p.key.object p.key.chunk) → IsSome (cached new p.key.object p.key.chunk)

-- of each key that no cut takes the cache has what it had
abbrev pub KeepsUncut : List Cut → PageCache → PageCache → Type 0
KeepsUncut cuts old new = (o c : ℕ) → ((i : ℕ) → IsCut cuts o c i → ⊥) → held new o c ≡ held old o c

-- of each key that none of the pages is of the cache has what it had
abbrev pub KeepsUnwritten : List FreshPage → PageCache → PageCache → Type 0
KeepsUnwritten pages old new = (o c : ℕ) → ((i : ℕ) → IsPageOf pages o c i → ⊥) → held new o c ≡ held old o c

-- of each key of which the cache had a page or a place it has one
abbrev pub KeepsKeys : PageCache → PageCache → Type 0
KeepsKeys old new = (o c : ℕ) → IsSome (held old o c) → IsSome (held new o c)

-- the key of each of the pages has a page in the cache, or a place for one
abbrev pub HavePlaces : List FreshPage → PageCache → Type 0
HavePlaces pages cache = (i : ℕ) (p : FreshPage) → slice_get pages i ≡ Some p → IsSome (held cache p.key.object p.key.chunk)

-- of each key that no cut takes the cache has something still
abbrev pub KeepsUncutKeys : List Cut → PageCache → PageCache → Type 0
KeepsUncutKeys cuts old new = (o c : ℕ) → ((i : ℕ) → IsCut cuts o c i → ⊥) → IsSome (held old o c) → IsSome (held new o c)

-- the key of each of the pages that no cut takes has a page in the cache, or a place for one
abbrev pub HaveUncutPlaces : List FreshPage → List Cut → PageCache → Type 0
HaveUncutPlaces pages cuts cache = (i : ℕ) (p : FreshPage) → slice_get pages i ≡ Some p → ((j : ℕ) → IsCut cuts p.key.object p.key.chunk j → ⊥)
    → IsSome (held cache p.key.object p.key.chunk)

-- Where the cache has something of the key already, or of fewer keys than it may, it has of each other key what it had; and it
-- has something of no fewer keys than before.
pub record KeepsRest (o c : ℕ) (old new : PageCache) : Type 0 where
  pub room : IsSome (held old o c) ⊎ (held_count old < capacity_of old) → (p q : ℕ) → IsOther o c p q → held new p q ≡ held old p q
  pub no_fewer : held_count old ≤ held_count new
