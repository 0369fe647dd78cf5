-- A store whose cache handed out a spare frame.
use Rattle.std.proofs.Common.{◌≡◌, ℕ, List, Option, refl, sym, ap, ◌∙◌, option_map, option_and_then}
use Rattle.std.specs.Map.{lookup}
use Rattle.lru.specs.LruCache.{LruCache}
use Rattle.flash_tree.specs.declared.place.FreshPage.{FreshPage}
use Rattle.chunk_index.specs.Maps.{present}
use Rattle.pages.specs.State.{PagesState}
use Rattle.page_store.specs.Changes.{KeepsSlots}
use Rattle.page_store.specs.Found.{bytes_or, found_bytes}
use Rattle.page_store.specs.Shown.{data_in}
use Rattle.page_store.specs.Slots.{held_in, is_key, page_in}
use Rattle.page_store.specs.StoreOf.{is_near}
use Rattle.page_store.specs.StoreState.{StoreState, seen_of}
use Rattle.page_store.specs.declared.cache.PageCache.{PageCache}
use Rattle.page_store.specs.declared.slot.Slot.{Slot}
use Rattle.page_store.specs.declared.store.Found.{Found}
use Rattle.page_store.specs.declared.store.Found.TheVariants as places

-- the page that slots have of a key
abbrev slots_cached : LruCache (ℕ × ℕ) Slot → ℕ → ℕ → Option (List ℕ)
slots_cached s o c = option_and_then page_in (option_map held_in (lookup (is_key o c) s.entries))

-- the page that was found last, by the slots
abbrev slots_found : List FreshPage → LruCache (ℕ × ℕ) Slot → List ℕ → Found → List ℕ
slots_found pages s scratch places.Nowhere = scratch
slots_found pages s scratch (places.Buffered i) = bytes_or (data_in pages i) scratch
slots_found pages s scratch (places.Cached key) = bytes_or (slots_cached s key.object key.chunk) scratch

found_is : (pages : List FreshPage) (cache : PageCache) (scratch : List ℕ) (found : Found) → found_bytes pages cache scratch found ≡ slots_found pages cache.slots scratch found
found_is pages cache scratch places.Nowhere = refl
found_is pages cache scratch (places.Buffered i) = refl
found_is pages cache scratch (places.Cached key) = refl

-- what is seen of a store, by the slots
abbrev slots_seen : StoreState → LruCache (ℕ × ℕ) Slot → List ℕ → PagesState
slots_seen st s lent = record (seen_of st lent) { near = λ o c. is_near (present st.index o c) (slots_cached s o c) }

-- the same is seen, and the same page is lent
pub seen_same : (st : StoreState) (new : PageCache) (pages : List FreshPage) (scratch : List ℕ) (found : Found) → KeepsSlots st.cache new
    → seen_of (record st { cache = new }) (found_bytes pages new scratch found) ≡ seen_of st (found_bytes pages st.cache scratch found)
seen_same st new pages scratch found keeps =
    ap (seen_of (record st { cache = new })) (found_is pages new scratch found)
    ∙ ap (λ (s : LruCache (ℕ × ℕ) Slot). slots_seen st s (slots_found pages s scratch found)) keeps.slots
    ∙ ap (seen_of st) (sym (found_is pages st.cache scratch found))
