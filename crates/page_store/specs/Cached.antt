-- What a cache of pages represents.
use Rattle.std.specs.Prelude.{ℕ, List, length, Option, option_map, option_and_then}
use Rattle.std.specs.Map.{lookup}
use Rattle.page_store.specs.Slots.{Held, held_in, page_in, is_key}
use Rattle.page_store.specs.declared.cache.PageCache.{PageCache}

-- what the cache has of a key, by object and chunk, if it has anything
abbrev pub held : PageCache → ℕ → ℕ → Option Held
held cache o c = option_map held_in (lookup (is_key o c) cache.slots.entries)

-- the bytes of the page that the cache has of a key
abbrev pub cached : PageCache → ℕ → ℕ → Option (List ℕ)
cached cache o c = option_and_then page_in (held cache o c)

-- of how many keys the cache has a page or a place
abbrev pub held_count : PageCache → ℕ
held_count cache = length cache.slots.entries

-- of how many keys at most
abbrev pub capacity_of : PageCache → ℕ
capacity_of cache = cache.slots.cap

-- the bytes of a page
abbrev pub page_bytes_of : PageCache → ℕ
page_bytes_of cache = cache.page_bytes
