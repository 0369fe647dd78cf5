-- What is left of entries, where only some keys stay.
use Rattle.std.specs.Prelude.{◌≡◌, ◌≢◌, ℕ, List, Bool, true, false, Option, Some, None, filter_map}
use Rattle.std.specs.Option.{option_and_then}
use Rattle.chunk_index.specs.declared.entry.KeyEntry.{KeyEntry}
use Rattle.chunk_index.specs.declared.entry.State.TheVariants as states
use Rattle.chunk_index.specs.Entries.{is_same}
use Rattle.chunk_index.specs.Shelves.{ObjectMap, look}

-- what is left of an entry whose key is forgotten: nothing, or, where its present page is not the committed one, one that holds nothing
abbrev pub forgotten : Bool → KeyEntry → Option KeyEntry
forgotten true e = None
forgotten false e = Some (record { chunk = e.chunk; committed = None; state = states.Dropped })

-- what is left of an entry whose key stays, or is forgotten
abbrev pub retained : Bool → KeyEntry → Option KeyEntry
retained true e = Some e
retained false e = forgotten (is_same e) e

-- the same of a key that may have no entry
abbrev pub retained_reported : Bool → Option KeyEntry → Option KeyEntry
retained_reported stays v = option_and_then (retained stays) v

-- what is left of the entries of an object, of which some chunks stay
abbrev pub retained_of : (ℕ → Bool) → List KeyEntry → List KeyEntry
retained_of keeps es = filter_map (λ (e : KeyEntry). retained (keeps e.chunk) e) es

-- Of one object the entries are left whose chunks stay, no other object's entries change.
pub record RetainsObject (o : ℕ) (keeps : ℕ → Bool) (old new : ObjectMap) : Type 0 where
  pub here : (c : ℕ) → look new o c ≡ retained_reported (keeps c) (look old o c)
  pub others : (k l : ℕ) → k ≢ o → look new k l ≡ look old k l
