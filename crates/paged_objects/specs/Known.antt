-- What a store of objects in pages is, and what it represents.
use Rattle.name_index.specs.declared.index.NameIndex.{NameIndex}
use Rattle.volume_terms.specs.Sizes.{Sizes}
use Rattle.posix_profile.specs.State.{Objects}
use Rattle.object_store.specs.Reported.{table_sizes, Reports, ReportsTheSame}
use Rattle.object_store.specs.declared.table.ObjectTable.{ObjectTable}
use Rattle.pages.specs.State.{PagesState}
use Rattle.directories.specs.Hashing.{HoldsMore}
use Rattle.paged_objects.specs.Naming.{HasNames}
use Rattle.paged_objects.specs.Representing.{PagesRepresent}
use Rattle.paged_objects.specs.Ending.{StaysAs, HasPages}

-- the pages of a store, and what is in memory of their objects: the table, and the index of their names
pub record ObjectsState : Type 0 where
  pub pages : PagesState
  pub table : ObjectTable
  pub names : NameIndex

-- a state by its parts
abbrev pub state_with : PagesState → ObjectTable → NameIndex → ObjectsState
state_with pages table names = record { pages = pages; table = table; names = names }

-- the numbers of its volume
abbrev pub sizes_in : ObjectsState → Sizes
sizes_in s = table_sizes s.table

-- The pages hold these objects, the table reports them, and the index has the hashes of all their names.
pub record Represents (s : ObjectsState) (objects : Objects) : Type 0 where
  pub represents : PagesRepresent (sizes_in s) s.pages objects
  pub reports : Reports s.table objects
  pub named : HasNames s.names (sizes_in s) s.pages.present objects

-- The pages are the same, the table reports the same, and the index has what it had.
pub record StaysIn (a b : ObjectsState) : Type 0 where
  pub pages : StaysAs a.pages b.pages
  pub table : ReportsTheSame a.table b.table
  pub names : HoldsMore a.names b.names

-- a store of pages holds objects that its volume can have, and the index has the hashes of all their names
pub record HasNamed (names : NameIndex) (z : Sizes) (p : PagesState) (objects : Objects) : Type 0 where
  pub pages : HasPages z p objects
  pub named : HasNames names z p.present objects

-- the same with the table that reports the objects
pub record HasObjects (s : ObjectsState) (objects : Objects) : Type 0 where
  pub pages : HasPages (sizes_in s) s.pages objects
  pub reports : Reports s.table objects
  pub named : HasNames s.names (sizes_in s) s.pages.present objects
