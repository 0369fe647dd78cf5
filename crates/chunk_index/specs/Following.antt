-- The committed key that comes next.
use Rattle.std.specs.Prelude.{◌≡◌, ◌<◌, ◌≤◌, ℕ, List, [], ◌∷◌, ◌++◌, length, get_or, Option, Some, None}
use Rattle.std.specs.Borrow.{Bor}
use Rattle.std.specs.List.{cons_option}
use Rattle.std.specs.Option.{option_map}
use Rattle.chunk_index.specs.declared.form.CommittedPage.{CommittedPage}
use Rattle.chunk_index.specs.declared.form.CommittedKey.{CommittedKey}
use Rattle.chunk_index.specs.declared.entry.KeyEntry.{KeyEntry}
use Rattle.chunk_index.specs.declared.object.ObjectEntries.{ObjectEntries}
use Rattle.chunk_index.specs.declared.committed_keys.CommittedKeys.{CommittedKeys}
use Rattle.chunk_index.specs.Lists.{find_by}
use Rattle.chunk_index.specs.Entries.{chunk, committed_of}
use Rattle.chunk_index.specs.Shelves.{IsAfterNumber}
use Rattle.flash_tree.specs.Places.{ComesBefore}
use Rattle.chunk_index.specs.Maps.{CommittedMap}

-- the elements from place i on are those whose numbers lie after another
pub record IsStartFor {X : Type 0} (f : X → ℕ) (xs : List X) (after : Option ℕ) (i : ℕ) : Type 0 where
  pub within : i ≤ length xs
  pub lesser : (j : ℕ) (d : X) → j < i → IsAfterNumber (f (get_or xs j d)) after → ⊥
  pub greater : (j : ℕ) (d : X) → i ≤ j → j < length xs → IsAfterNumber (f (get_or xs j d)) after

-- the first chunk after another with its page, in a map of an object's committed chunks; with none, none is committed after it
abbrev pub IsNextChunk : (ℕ → Option CommittedPage) → Option ℕ → Option (ℕ × CommittedPage) → Type 0
IsNextChunk m after None = (c : ℕ) → IsAfterNumber c after → m c ≡ None
IsNextChunk m after (Some x) = (m x.0 ≡ Some x.1) × IsAfterNumber x.0 after × ((c : ℕ) → IsAfterNumber c after → c < x.0 → m c ≡ None)

-- the committed page of a chunk of an object
abbrev pub committed_chunk : List KeyEntry → ℕ → Option CommittedPage
committed_chunk es c = committed_of (find_by chunk es c)

-- the first committed key of the objects after another; with none, no key of these is committed
abbrev pub IsNextBeyond : CommittedMap → Option ℕ → Option CommittedKey → Type 0
IsNextBeyond m object None = (o c : ℕ) → IsAfterNumber o object → m o c ≡ None
IsNextBeyond m object (Some k) = (m k.key.object k.key.chunk ≡ Some k.at) × IsAfterNumber k.key.object object
    × ((o c : ℕ) → IsAfterNumber o object → ComesBefore o c k.key.object k.key.chunk → m o c ≡ None)

-- the key of an entry of object o with its page, if it is committed
abbrev pub committed_key : ℕ → KeyEntry → Option CommittedKey
committed_key o e = option_map (λ (p : CommittedPage). record { key = record { object = o; chunk = e.chunk }; at = p }) e.committed

-- those of some entries of an object
abbrev pub object_keys : ℕ → List KeyEntry → List CommittedKey
object_keys o [] = []
object_keys o (e ∷ es) = cons_option (committed_key o e) (object_keys o es)

-- those of some objects, one after another
abbrev pub all_keys : List (ℕ × ObjectEntries) → List CommittedKey
all_keys [] = []
all_keys (x ∷ xs) = object_keys x.0 x.1.entries.items ++ all_keys xs

-- the committed keys that are still to come
abbrev pub keys_left : CommittedKeys → List CommittedKey
keys_left left = object_keys left.object left.entries.now ++ all_keys left.objects

-- the first key of some entries of an object with the entries after its own; with none, none of them is committed
abbrev pub SplitsFirst : ℕ → List KeyEntry → Option (CommittedKey × Bor (List KeyEntry)) → Type 0
SplitsFirst o es None = object_keys o es ≡ []
SplitsFirst o es (Some x) = object_keys o es ≡ x.0 ∷ object_keys o x.1.now

-- the first key of a list is taken from it, if it has one
abbrev pub TakesFirstKey : List CommittedKey → Option CommittedKey → List CommittedKey → Type 0
TakesFirstKey old None new = (old ≡ []) × (new ≡ [])
TakesFirstKey old (Some k) new = old ≡ k ∷ new
