-- What the calls of a cache change.
use Rattle.std.specs.Prelude.{◌≡◌, ◌⊎◌, ◌<◌, ◌≤◌, ◌+◌, ℕ, Option, Some, None, IsSome}
use Rattle.page_store.specs.Slots.{Held}
use Rattle.page_store.specs.Cached.{held, held_count, capacity_of, page_bytes_of}
use Rattle.page_store.specs.declared.cache.PageCache.{PageCache}

-- the size of a page and the capacity stay
pub record KeepsSizes (old new : PageCache) : Type 0 where
  pub page_bytes : page_bytes_of new ≡ page_bytes_of old
  pub capacity : capacity_of new ≡ capacity_of old

-- the cache has what it had of each key, in the same order of use
pub record KeepsSlots (old new : PageCache) : Type 0 where
  pub page_bytes : page_bytes_of new ≡ page_bytes_of old
  pub slots : new.slots ≡ old.slots

-- the cache has of each key what it had, and nothing of others
pub record HasTheSame (old new : PageCache) : Type 0 where
  pub sizes : KeepsSizes old new
  pub count : held_count new ≡ held_count old
  pub each : (o c : ℕ) → held new o c ≡ held old o c

-- another key
abbrev pub IsOther : ℕ → ℕ → ℕ → ℕ → Type 0
IsOther o c p q = p ≡ o → q ≡ c → ⊥

-- The cache has this of the key, or nothing. Of each other key it has what it had.
pub record Changes (o c : ℕ) (now : Option Held) (old new : PageCache) : Type 0 where
  pub sizes : KeepsSizes old new
  pub here : held new o c ≡ now
  pub others : (p q : ℕ) → IsOther o c p q → held new p q ≡ held old p q

-- The cache has this of the key. Of each other key it has what it had, or nothing, but nothing goes where it had something of
-- the key already, or of fewer keys than it may; and it has something of no fewer keys than before, and of one more at most.
pub record Puts (o c : ℕ) (now : Held) (old new : PageCache) : Type 0 where
  pub sizes : KeepsSizes old new
  pub here : held new o c ≡ Some now
  pub others : (p q : ℕ) → IsOther o c p q → (held new p q ≡ held old p q) ⊎ (held new p q ≡ None)
  pub room : IsSome (held old o c) ⊎ (held_count old < capacity_of old) → (p q : ℕ) → IsOther o c p q → held new p q ≡ held old p q
  pub no_fewer : held_count old ≤ held_count new
  pub one_more : held_count new ≤ held_count old + 1

-- The cache has nothing of the chunks of object o from c on. Of each other key it has what it had.
pub record DropsFrom (o c : ℕ) (old new : PageCache) : Type 0 where
  pub sizes : KeepsSizes old new
  pub gone : (q : ℕ) → c ≤ q → held new o q ≡ None
  pub others : (p q : ℕ) → (p ≡ o → c ≤ q → ⊥) → held new p q ≡ held old p q
