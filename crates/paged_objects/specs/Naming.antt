-- The names of objects in an index.
use Rattle.std.specs.Prelude.{◌≤◌, ℕ, Option}
use Rattle.std.specs.FinMap as map
use Rattle.name_index.specs.Covering.{HasHashes}
use Rattle.name_index.specs.declared.index.NameIndex.{NameIndex}
use Rattle.volume_terms.specs.Sizes.{Sizes}
use Rattle.posix_profile.specs.State.{Objects, IsDirectory, entries_of}
use Rattle.pages.specs.Maps.{PageMap}
use Rattle.pages.specs.State.{PagesState}
use Rattle.pages.specs.declared.change.Change.{Change}
use Rattle.directories.specs.Hashing.{KeepsFirst, WritesPast, kept_count}
use Rattle.directories.specs.declared.naming.KeptSlots.{KeptSlots}
use Rattle.paged_objects.specs.Holding.{HoldsIn}

-- of each directory of these objects the index has the hashes of all names, with their slots in these pages
abbrev pub HasNames : NameIndex → Sizes → PageMap → Objects → Type 0
HasNames names z m objects = (d : ℕ) (dir : IsDirectory objects d) → HasHashes names z m d (map.len dir.1)

-- a sound store with pages of this size holds these objects, and the index has the hashes of all their names
pub record HoldsNamed (names : NameIndex) (p : PagesState) (z : Sizes) (objects : Objects) : Type 0 where
  pub holds : HoldsIn p z objects
  pub hashes : HasNames names z p.present objects

-- each slot that a directory has more than before lies on a page of the change
abbrev pub WritesNames : Sizes → Change → Objects → Objects → Type 0
WritesNames z change old new = (d : ℕ) → WritesPast z change d (map.len (entries_of (map.get old d))) (map.len (entries_of (map.get new d)))

-- of each directory the kept slots are some of those that it had, and each name in one of them after the change was in that slot before
abbrev pub KeepsNames : Sizes → PageMap → Change → Objects → Option KeptSlots → Type 0
KeepsNames z m change old kept = (d : ℕ) → (kept_count kept d ≤ map.len (entries_of (map.get old d))) × KeepsFirst z m change d (kept_count kept d)
