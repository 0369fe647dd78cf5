-- The entries of all objects.
use Rattle.std.specs.Prelude.{◌≡◌, ◌≢◌, ◌⊎◌, ◌<◌, ◌+◌, ℕ, List, length, get_or, Option, Some, None, IsSome}
use Rattle.flash_tree.specs.declared.place.Key.{Key}
use Rattle.std.specs.Option.{option_and_then}
use Rattle.std.specs.List.{sum_by}
use Rattle.std.specs.Ordering.{nat_cmp}
use Rattle.std.specs.BTreeMap.{BTreeMap, get, values}
use Rattle.chunk_index.specs.Lists.{find_by}
use Rattle.chunk_index.specs.Entries.{chunk, weight, weigh}
use Rattle.chunk_index.specs.declared.entry.KeyEntry.{KeyEntry}
use Rattle.chunk_index.specs.declared.object.ObjectEntries.{ObjectEntries}

-- the objects by their numbers
abbrev pub ObjectMap : Type 0
ObjectMap = BTreeMap ℕ ObjectEntries

-- the entry of a chunk among the entries of an object
abbrev pub entry_of : ℕ → ObjectEntries → Option KeyEntry
entry_of c x = find_by chunk x.entries.items c

-- the entry of chunk c of object o
abbrev pub look : ObjectMap → ℕ → ℕ → Option KeyEntry
look m o c = option_and_then (entry_of c) (get nat_cmp m o)

-- what all entries of all objects add
abbrev pub total : (KeyEntry → ℕ) → ObjectMap → ℕ
total f m = sum_by (λ (x : ObjectEntries). weigh f x.entries.items) (values m)

-- the key of chunk c of object o is another than that of chunk l of object k
abbrev pub Differs : ℕ → ℕ → ℕ → ℕ → Type 0
Differs o c k l = (k ≢ o) ⊎ (l ≢ c)

-- A key has this entry, or none, and no other key's entry changes; sums over the entries follow.
pub record AltersKey (o c : ℕ) (to : Option KeyEntry) (old new : ObjectMap) : Type 0 where
  pub here : look new o c ≡ to
  pub others : (k l : ℕ) → Differs o c k l → look new k l ≡ look old k l
  pub weighs : (f : KeyEntry → ℕ) → total f new + weight f (look old o c) ≡ total f old + weight f to

-- each key has the entry that it had
pub record SameEntries (old new : ObjectMap) : Type 0 where
  pub looks : (o c : ℕ) → look new o c ≡ look old o c
  pub weighs : (f : KeyEntry → ℕ) → total f new ≡ total f old

-- the key is in the list
abbrev pub IsListed : List Key → ℕ → ℕ → Type 0
IsListed keys o c = (i : ℕ) × (i < length keys) × ((d : Key) → ((get_or keys i d).object ≡ o) × ((get_or keys i d).chunk ≡ c))

-- the number lies after another, where there is one
abbrev pub IsAfterNumber : ℕ → Option ℕ → Type 0
IsAfterNumber n None = Unit {0}
IsAfterNumber n (Some m) = m < n

-- the first object after a number, or none where there is none after it
abbrev pub IsNextObject : ObjectMap → Option ℕ → Option ℕ → Type 0
IsNextObject m after None = (k : ℕ) → IsAfterNumber k after → get nat_cmp m k ≡ None
IsNextObject m after (Some o) = IsSome (get nat_cmp m o) × IsAfterNumber o after × ((k : ℕ) → IsAfterNumber k after → k < o → get nat_cmp m k ≡ None)
