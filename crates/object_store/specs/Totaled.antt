-- What facts in totals represent.
use Rattle.std.specs.Prelude.{◌≡◌, ◌≢◌, ◌<◌, ◌-◌, ◌+◌, ◌^◌, min, max, ℕ, Option, Some, None, IsSome, is_some, List, length}
use Rattle.std.specs.FinMap as map
use Rattle.std.specs.Ordering.{nat_cmp}
use Rattle.std.specs.BTreeMap.{get}
use Rattle.volume_terms.specs.Sizes.{Sizes, IsSizes}
use Rattle.volume_terms.specs.VolumeSizes as volume
use Rattle.posix_profile.specs.State.{Name, Object, Objects, IsDirectory, IsFile}
use Rattle.posix_profile.specs.Names.{Names}
use Rattle.posix_profile.specs.Charge.{charge}
use Rattle.posix_profile.specs.Changes.{with_name, without_name, with_bytes}
use Rattle.posix_profile.specs.WellFormed.{IsNamed}
use Rattle.object_store.specs.Changes.{NamesNothing}
use Rattle.object_store.specs.Facts.{entry_of, bytes_of}
use Rattle.object_store.specs.TableFacts.{facts_cost, IsStated, AreFactsOf}
use Rattle.object_store.specs.Taken.{facts_in}
use Rattle.object_store.specs.declared.table_facts.ObjectFacts.{ObjectFacts}
use Rattle.object_store.specs.declared.counted_facts.CountedFacts.{CountedFacts}

-- the facts of the object with this number, if there is one
abbrev pub reported_at : CountedFacts → ℕ → Option ObjectFacts
reported_at totaled o = facts_in totaled.facts o

-- the numbers of the volume
abbrev pub sizes_in : CountedFacts → Sizes
sizes_in totaled = volume.sizes_of totaled.sizes

-- the units that are in the count
abbrev pub charge_in : CountedFacts → ℕ
charge_in totaled = totaled.charge

-- there is room for an object with this number
abbrev pub HasRoomIn : CountedFacts → ℕ → Type 0
HasRoomIn totaled o = IsSome (get nat_cmp totaled.facts o)

-- The facts are those of these objects, and the units what all of them cost.
pub record Counts (totaled : CountedFacts) (objects : Objects) : Type 0 where
  pub each : (o : ℕ) → IsStated objects o (map.get objects o) (reported_at totaled o)
  pub charge : charge_in totaled ≡ charge (sizes_in totaled) objects

-- they are of the same volume, and at the same numbers
pub record KeepsNumbers (old new : CountedFacts) : Type 0 where
  pub sizes : sizes_in new ≡ sizes_in old
  pub taken : (k : ℕ) → is_some (reported_at new k) ≡ is_some (reported_at old k)

-- they are the same
pub record CountsTheSame (old new : CountedFacts) : Type 0 where
  pub sizes : sizes_in new ≡ sizes_in old
  pub each : (k : ℕ) → reported_at new k ≡ reported_at old k
  pub charge : charge_in new ≡ charge_in old

-- the units of the facts that are there, as far as numbers of 64 bits go
abbrev pub units_of : Sizes → Option ObjectFacts → ℕ
units_of z None = 0
units_of z (Some f) = min (facts_cost z f) (2 ^ 64 - 1)

-- The facts are at the number now, and cost what they cost in place of what was there.
pub record Puts (old new : CountedFacts) (o : ℕ) (f : ObjectFacts) : Type 0 where
  pub sizes : sizes_in new ≡ sizes_in old
  pub here : reported_at new o ≡ Some f
  pub others : (k : ℕ) → k ≢ o → reported_at new k ≡ reported_at old k
  pub charge : charge_in new ≡ min (charge_in old - units_of (sizes_in old) (reported_at old o) + min (facts_cost (sizes_in old) f) (2 ^ 64 - 1)) (2 ^ 64 - 1)

-- There are no facts at the number now.
pub record Drops (old new : CountedFacts) (o : ℕ) : Type 0 where
  pub sizes : sizes_in new ≡ sizes_in old
  pub here : reported_at new o ≡ None
  pub others : (k : ℕ) → k ≢ o → reported_at new k ≡ reported_at old k
  pub charge : charge_in new ≡ charge_in old - units_of (sizes_in old) (reported_at old o)

-- The facts at the number, if there are any, are changed so.
pub record Edits (old new : CountedFacts) (o : ℕ) (change : ObjectFacts → ObjectFacts) : Type 0 where
  pub keeps : KeepsNumbers old new
  pub puts : (f : ObjectFacts) → reported_at old o ≡ Some f → Puts old new o (change f)

-- what the objects cost is a number of 64 bits, and so are their entries and links
pub record IsCountable (z : Sizes) (objects : Objects) : Type 0 where
  pub sizes : IsSizes z
  pub within_limit : charge z objects < 2 ^ 48

-- An object that is not there comes, to which no name leads, and which names nothing.
pub record FreshObject (z : Sizes) (objects : Objects) (o : ℕ) (x : Object) (f : ObjectFacts) : Type 0 where
  pub free : map.get objects o ≡ None
  pub unnamed : IsNamed objects o → ⊥
  pub blank : NamesNothing (map.insert objects o x) o
  pub facts : AreFactsOf (map.insert objects o x) o x f
  pub countable : IsCountable z (map.insert objects o x)

-- An object may go that names nothing, and is no directory with a name.
pub record CanGo (z : Sizes) (objects : Objects) (o : ℕ) : Type 0 where
  pub blank : NamesNothing objects o
  pub unnamed : IsDirectory objects o → IsNamed objects o → ⊥
  pub countable : IsCountable z objects

-- A directory may name an object that is there, by a name that it has not: a directory only where it has no name.
pub record GetsName (z : Sizes) (objects : Objects) (moment directory : ℕ) (name : Name) (o : ℕ) : Type 0 where
  pub directory_is : IsDirectory objects directory
  pub absent : entry_of objects directory name ≡ None
  pub there : (x : Object) × (map.get objects o ≡ Some x)
  pub unnamed : IsDirectory objects o → IsNamed objects o → ⊥
  pub before : IsCountable z objects
  pub after : IsCountable z (with_name objects moment directory name o)

-- A directory may lose the name of another object that is there, and of a directory it is the only one.
pub record LosesName (z : Sizes) (objects : Objects) (directory : ℕ) (name : Name) (o : ℕ) : Type 0 where
  pub names : Names objects directory name o
  pub there : (x : Object) × (map.get objects o ≡ Some x)
  pub apart : directory ≢ o
  pub only : IsDirectory objects o → (d : ℕ) (n : Name) → Names objects d n o → (d ≡ directory) × (n ≡ name)
  pub countable : IsCountable z objects

-- what is true of a file of whatever objects the facts are of, and of whatever bytes it is to have
abbrev pub OfCountedFile : CountedFacts → ℕ → (Objects → List ℕ → Type 0) → Type 0
OfCountedFile totaled file A = (objects : Objects) (bytes : List ℕ) → Counts totaled objects → IsFile objects file → A objects bytes

-- where the old objects and the new ones are countable, the facts are of the new ones
abbrev pub CountsCountable : CountedFacts → CountedFacts → Objects → Objects → Type 0
CountsCountable old new before after = IsCountable (sizes_in old) before → IsCountable (sizes_in old) after → Counts new after

-- where a file gets bytes of this length, the facts are of the objects with them
abbrev pub CountsResized : CountedFacts → CountedFacts → ℕ → ℕ → ℕ → Type 0
CountsResized old new moment file size = OfCountedFile old file (λ objects bytes. length bytes ≡ size → CountsCountable old new objects (with_bytes objects moment file bytes))

-- where a file gets bytes of this length, or of its own where it is longer, the facts are of the objects with them
abbrev pub CountsLengthened : CountedFacts → CountedFacts → ℕ → ℕ → ℕ → Type 0
CountsLengthened old new moment file size = OfCountedFile old file (λ objects bytes. length bytes ≡ max (length (bytes_of (map.get objects file))) size → CountsCountable old new objects (with_bytes objects moment file bytes))

-- where a new object of these facts comes at the number, the facts are of the objects with it
abbrev pub CountsAdded : CountedFacts → CountedFacts → ℕ → ObjectFacts → Type 0
CountsAdded old new number facts = (objects : Objects) (x : Object) → Counts old objects → FreshObject (sizes_in old) objects number x facts → Counts new (map.insert objects number x)

-- where the object may go, the facts are of the objects without it
abbrev pub CountsRemoved : CountedFacts → CountedFacts → ℕ → Type 0
CountsRemoved old new number = (objects : Objects) → Counts old objects → CanGo (sizes_in old) objects number → Counts new (map.remove objects number)

-- where a directory may get a name of the object, the facts are of the objects with it
abbrev pub CountsNamed : CountedFacts → CountedFacts → ℕ → ℕ → ℕ → Type 0
CountsNamed old new moment d number = (objects : Objects) (name : Name) → Counts old objects → GetsName (sizes_in old) objects moment d name number → Counts new (with_name objects moment d name number)

-- where a directory may lose a name of the object, the facts are of the objects without it
abbrev pub CountsUnnamed : CountedFacts → CountedFacts → ℕ → ℕ → ℕ → Type 0
CountsUnnamed old new moment d number = (objects : Objects) (name : Name) → Counts old objects → LosesName (sizes_in old) objects d name number → Counts new (without_name objects moment d name)
